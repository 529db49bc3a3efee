use Rattle.std.proofs.Common.{◌≡◌, ◌+◌, List, length, ap, sym, ◌∙◌, subst, arith}
use Rattle.ufs_extent.specs.Runs.{blocks_of}
use Rattle.ufs_extent.specs.declared.Run.{Run}
use Rattle.ufs_bitmap.specs.Taking.{IsApart}
use Rattle.ufs_bitmap.proofs.TakingLemmas.{takes_apart, takes_blocks}
use Rattle.ufs_file.specs.Hand.{FileState}
use Rattle.ufs_file_tests.proofs.unread.Partly.start.Goals as goal

pub unread-requires-clause-blocks : goal.unread-requires-clause-blocks
unread-requires-clause-blocks c =
    let count : length (blocks_of c.in_ok-runs.runs.items) + 0 ≡ 3 = takes_blocks _ _ _ _ _ c.in_ok-runs.ensures.taken in
    let same : c.in_ok-extents.extents ≡ c.in_ok-runs.runs.items = c.in_ok-extents.ensures ∙ c.deref.ensures.value in
    let blocks : length (blocks_of c.in_ok-runs.runs.items) ≡ 3 = omega (arith, count) in
    ap (λ (rs : List Run). length (blocks_of rs)) same ∙ blocks ∙ sym c.requires.blocks

pub invariant_of-result : goal.invariant_of-result
invariant_of-result c =
    let same : c.in_ok-extents.extents ≡ c.in_ok-runs.runs.items = c.in_ok-extents.ensures ∙ c.deref.ensures.value in
    let kept : c.in_ok-file.file.extents ≡ c.in_ok-runs.runs.items = ap (λ (f : FileState). f.extents) c.in_ok-file.ensures ∙ same in
    record {
      number = ap (λ (f : FileState). f.file) c.in_ok-file.ensures;
      apart = subst (λ (rs : List Run). IsApart c.take_runs.new.pool (blocks_of rs)) (sym kept) (takes_apart _ _ _ _ _ c.in_ok-runs.ensures.taken);
    }
