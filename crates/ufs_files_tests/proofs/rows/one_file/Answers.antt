use Rattle.std.proofs.Common.{◌≡◌, ℕ, List, Some, ap, sym, subst, ◌∙◌}
use Rattle.std.specs.Ordering.{nat_cmp}
use Rattle.std.specs.FinMap as map
use Rattle.std.specs.FinMap.{get-empty}
use Rattle.ufs_bitmap.specs.Taking.{IsApart}
use Rattle.ufs_files.specs.Files.{Files}
use Rattle.ufs_files.proofs.MapLemmas.{put_here, is_here, blocks_there}
use Rattle.ufs_files_tests.proofs.rows.one_file.Goals as goal

pub insert-requires : goal.insert-requires
insert-requires c = ap (λ (m : Files). map.get m c.in_ok-hand.hand.file) c.new-files.ensures ∙ get-empty nat_cmp c.in_ok-hand.hand.file

pub returns-clause-here : goal.returns-clause-here
returns-clause-here c =
    is_here _ 7 _ (ap (λ (m : Files). map.get m 7) c.in_ok-insert.ensures.ok ∙ ap (λ (k : ℕ). map.get (map.insert c.new-files.result k c.in_ok-hand.hand) 7) c.in_ok-hand.ensures.number ∙ put_here _ 7 _)

pub returns-clause-apart : goal.returns-clause-apart
returns-clause-apart c =
    subst (IsApart c.written.new.pool)
    (sym (blocks_there _ 7 _ (ap (λ (m : Files). map.get m 7) c.in_ok-insert.ensures.ok ∙ ap (λ (k : ℕ). map.get (map.insert c.new-files.result k c.in_ok-hand.hand) 7) c.in_ok-hand.ensures.number ∙ put_here _ 7 _)))
    c.in_ok-hand.ensures.apart
