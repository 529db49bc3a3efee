use Rattle.std.proofs.Common.{◌≡◌, ◌∙◌, ◌<◌, ◌∷◌, length, ap, sym, subst, set}
use Rattle.ufs_links.specs.Nodes.{nodes_in}
use Rattle.ufs_links.specs.NodeLists.{NodeLists}
use Rattle.ufs_links.specs.Numbered.{number_at, bucket_of}
use Rattle.ufs_links.proofs.NumberedLemmas.{read_is, sorted_more, sorted_past}
use Rattle.ufs_links.proofs.numbered.sort_slot.Goals as goal

pub returns-in-Some-clause-sorted : goal.returns-in-Some-clause-sorted
returns-in-Some-clause-sorted c =
    let number = number_at c.args.numbers.now.items in
    let ls = c.args.buckets.now.lists in
    let slot = c.args.slot in
    let read = read_is c.args.numbers.now slot c.index.result.now c.requires.numbered c.index.ensures in
    let at : c.bucket_of-bucket.result ≡ bucket_of ls (number slot) = c.bucket_of-bucket.ensures.bucket ∙ ap (bucket_of ls) read in
    sorted_more slot c.in-Some._node number (nodes_in c.args.slots.now.lists) ls c.add_front.new.self.lists (sym c.front.ensures.front ∙ c.in-Some.is) c.requires.sorted
    (subst (λ b. b < length ls) at c.bucket_of-bucket.ensures.there)
    (ap (λ (w : NodeLists). w.lists) c.add_front.ensures ∙ ap (λ b. set ls b (slot ∷ nodes_in ls b)) at)

pub returns-in_default-clause-sorted : goal.returns-in_default-clause-sorted
returns-in_default-clause-sorted c =
    sorted_past c.args.slot (number_at c.args.numbers.now.items) (nodes_in c.args.slots.now.lists) c.args.buckets.now.lists (sym c.front.ensures.front ∙ c.in_default.is) c.requires.sorted
