use Rattle.std.proofs.Common.{◌≡◌, ◌<◌, ◌≤◌, ◌+◌, ◌*◌, ℕ, ◌++◌, length, take, drop, length-drop, ap, sym, ◌∙◌, subst, arith, append_assoc}
use Rattle.std.specs.Prelude.{flat_map}
use Rattle.std.specs.List.{range_with_len}
use Rattle.ufs_base.specs.Images.{Image}
use Rattle.ufs_disk.specs.Moments.{reads}
use Rattle.ufs_metadata.specs.Folded.{IsFolded}
use Rattle.ufs_image.specs.Images.{block_at}
use Rattle.ufs_image.specs.Nodes.{read_block}
use Rattle.ufs_image.proofs.Written.{rows}
use Rattle.ufs_metadata.specs.Told.{slots_in}
use Rattle.std.proofs.lemmas.Grind.{common_steps}
use Rattle.ufs_metadata.proofs.Pieces.{sectors_long}
use Rattle.ufs_metadata.proofs.Rows.{few_slots, flat_more}
use Rattle.ufs_metadata.proofs.Quiet.{read_more}
use Rattle.ufs_metadata.proofs.dirs.read_extent.Goals as goal

pub returns-in_err-read_block-clause-read_only : goal.returns-in_err-read_block-clause-read_only
returns-in_err-read_block-clause-read_only g c visible =
    read_more g.D.Disk.keeps (g.D.Disk.moments c.args.disk.now) (g.D.Disk.moments c.loop-place.disk) (g.D.Disk.moments c.read_block.new.disk) (c.loop-place.invariant.read_only visible) (c.read_block.ensures.read_only visible)

pub returns-in_err-push_slots-clause-read_only : goal.returns-in_err-push_slots-clause-read_only
returns-in_err-push_slots-clause-read_only g c visible =
    read_more g.D.Disk.keeps (g.D.Disk.moments c.args.disk.now) (g.D.Disk.moments c.loop-place.disk) (g.D.Disk.moments c.read_block.new.disk) (c.loop-place.invariant.read_only visible) (c.read_block.ensures.read_only visible)

pub loop-place-preserved : goal.loop-place-preserved
loop-place-preserved g c =
    let i = c.loop-place.invariant in
    let block = c.args.extent.now.start + c.loop-place.place in
    let old = c.args.slots.now.items in
    record {
      slots = λ visible image is.
          let here = subst (λ (d : Image). IsFolded c.args.overlay.now d image) (sym (i.read_only visible).content) is in
          let before = flat_map (read_block image) (range_with_len c.args.extent.now.start c.loop-place.place) in
          let sized : length c.read_block.new.buf ≡ 4096 = grind (arith, common_steps) in
          let long : (s : ℕ) → 8 * block ≤ s → s < 8 * block + 8 → length (image s) ≡ 512 = sectors_long image (8 * block) c.read_block.new.buf sized (c.in_ok-read_block.ensures.sectors visible image here) in
          c.in_ok-push_slots.ensures
          ∙ (λ k. i.slots visible image is k ++ slots_in 64 (c.in_ok-read_block.ensures.bytes visible image here k))
          ∙ ap (λ l. (old ++ before) ++ l) (sym (rows image (8 * block) 8 long))
          ∙ append_assoc old before (read_block image block)
          ∙ ap (λ l. old ++ l) (sym (flat_more (read_block image) c.args.extent.now.start c.loop-place.place));
      few =
          let more = few_slots c.loop-place.slots.items c.push_slots.new.slots.items c.read_block.new.buf c.in_ok-push_slots.ensures in
          omega (arith, more, i.few);
      read_only = λ visible. read_more g.D.Disk.keeps (g.D.Disk.moments c.args.disk.now) (g.D.Disk.moments c.loop-place.disk) (g.D.Disk.moments c.read_block.new.disk) (i.read_only visible) (c.read_block.ensures.read_only visible);
      size = c.read_block.ensures.size ∙ i.size;
      faults = c.in_ok-read_block.ensures.passed ∙ i.faults;
    }
