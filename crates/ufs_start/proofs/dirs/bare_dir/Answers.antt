use Rattle.std.proofs.Common.{◌≡◌, ℕ, ◌+◌, ◌*◌, List, [], ◌∷◌, ◌++◌, replicate, ap, sym, ◌∙◌, arith}
use Rattle.std.proofs.lemmas.List.{replicate-append-replicate}
use Rattle.ufs_dirs.specs.Directory.{Directory, has_block}
use Rattle.ufs_extent.specs.Runs as runs
use Rattle.ufs_layout.specs.DentryForm.{free_slot}
use Rattle.ufs_start.proofs.DirLemmas.{absent_before, below_at, take_next}
use Rattle.ufs_start.proofs.dirs.bare_dir.Goals as goal

pub add_block-requires-clause-below : goal.add_block-requires-clause-below
add_block-requires-clause-below c = below_at (runs.blocks_of c.args.extents.now) c.loop-place.place c.in-Some.block c.requires.below (sym c.in-Some.ensures)

pub add_block-requires-clause-absent : goal.add_block-requires-clause-absent
add_block-requires-clause-absent c =
    ap (λ (l : List ℕ). has_block l c.in-Some.block) c.loop-place.invariant.blocks
    ∙ absent_before (runs.blocks_of c.args.extents.now) c.loop-place.place c.in-Some.block c.requires.once (sym c.in-Some.ensures)

pub loop-place-preserved : goal.loop-place-preserved
loop-place-preserved c =
    let k = c.loop-place.place in
    let size : 64 * k + 64 ≡ 64 * (k + 1) = omega arith in
    record {
      blocks =
          ap (λ (d : Directory). d.blocks) c.in_ok-add_block.ensures.ok ∙ ap (λ l. l ++ c.in-Some.block ∷ []) c.loop-place.invariant.blocks
          ∙ sym (take_next (runs.blocks_of c.args.extents.now) k c.in-Some.block (sym c.in-Some.ensures));
      slots =
          ap (λ (d : Directory). d.slots) c.in_ok-add_block.ensures.ok ∙ ap (λ l. l ++ replicate 64 free_slot) c.loop-place.invariant.slots
          ∙ replicate-append-replicate (64 * k) 64 free_slot ∙ ap (λ n. replicate n free_slot) size;
    }
