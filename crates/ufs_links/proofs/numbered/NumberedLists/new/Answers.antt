use Rattle.std.proofs.Common.{[], ap, List, ℕ}
use Rattle.ufs_links.specs.Nodes.{nodes_in}
use Rattle.ufs_links.specs.NodeLists.{list_numbers}
use Rattle.ufs_links.specs.Numbered.{list_by, table_of, bucket_of}
use Rattle.ufs_links.specs.declared.numbered.NumberedLists.TheInside.{Inside}
use Rattle.ufs_links.proofs.NumberLemmas.{same_numbered}
use Rattle.ufs_links.proofs.TableLemmas.{empty_list_by}
use Rattle.ufs_links.proofs.numbered.NumberedLists.new.Goals as goal

pub returns-clause-lists : goal.returns-clause-lists
returns-clause-lists c =
    let l : Inside = record { slots = c.new.result; buckets = c.new-2.result; numbers = c.new-3.result; own = c.new-4.result } in
    same_numbered (list_by (table_of l)) (λ k. []) list_numbers
    (λ k. empty_list_by (table_of l) k (ap (λ (ls : List (List ℕ)). nodes_in ls (bucket_of c.new-2.result.lists k)) c.new-2.ensures.lists))
