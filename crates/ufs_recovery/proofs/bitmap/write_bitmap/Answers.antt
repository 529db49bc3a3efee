use Rattle.std.proofs.Common.{◌≡◌, ◌+◌, ◌-◌, ◌*◌, ◌<◌, length, ap, sym, refl, ◌∙◌, subst, arith}
use Rattle.std.proofs.lemmas.Result.{on_ok_weaker}
use Rattle.ufs_base.specs.Images.{Image}
use Rattle.ufs_disk.specs.Moments.{reads}
use Rattle.ufs_disk.proofs.Runs.{started, goes_on_quietly}
use Rattle.ufs_layout.specs.Areas.{bitmap_blocks}
use Rattle.ufs_recovery.specs.Marks.{HasAnyBitmap, IsMarkedBelow}
use Rattle.ufs_recovery.proofs.Bits.{none_marked, any_first, marked_on, agrees_on, any_on}
use Rattle.ufs_recovery.proofs.bitmap.write_bitmap.Goals as goal

pub loop-place-init : goal.loop-place-init
loop-place-init g c = record {
  marked = λ visible. none_marked c.args.taken.now (reads (g.D.Disk.moments c.args.disk.now));
  others = λ visible s out. refl;
  crash = λ visible. started _ _ _ (any_first c.args.geometry.now (g.D.Disk.moments c.args.disk.now).state);
  size = refl;
  faults = refl;
}

pub returns-in_err-put_bits-clause-crash : goal.returns-in_err-put_bits-clause-crash
returns-in_err-put_bits-clause-crash g c visible =
    let block = c.first_of_inodes.result - c.bitmap_blocks-count.result + c.loop-place.place in
    let inodes = c.first_of_inodes.ensures in
    let count = c.bitmap_blocks-count.ensures in
    let less = c.loop-place-test.true in
    let at : block ≡ 1 + c.loop-place.place = omega (arith, inodes, count) in
    any_on c.args.geometry.now c.args.taken.now c.loop-place.place block at (omega (arith, less, count)) c.fill_bits.new.bytes (omega arith) c.fill_bits.ensures _ _ _ _ (c.loop-place.invariant.crash visible) (c.put_bits.ensures.crash visible)

pub loop-place-preserved : goal.loop-place-preserved
loop-place-preserved g c =
    let i = c.loop-place.invariant in
    let block = c.first_of_inodes.result - c.bitmap_blocks-count.result + c.loop-place.place in
    let inodes = c.first_of_inodes.ensures in
    let count = c.bitmap_blocks-count.ensures in
    let less = c.loop-place-test.true in
    let at : block ≡ 1 + c.loop-place.place = omega (arith, inodes, count) in
    let within : c.loop-place.place < bitmap_blocks c.args.geometry.now = omega (arith, less, count) in
    let sized : length c.fill_bits.new.bytes ≡ 4096 = omega arith in
    record {
      marked = λ visible. marked_on c.args.geometry.now c.args.taken.now c.loop-place.place block at within c.fill_bits.new.bytes sized c.fill_bits.ensures _ _ (c.in_ok-put_bits.ensures.written visible) (i.marked visible);
      others = λ visible. agrees_on c.args.geometry.now c.args.taken.now c.loop-place.place block at within c.fill_bits.new.bytes sized c.fill_bits.ensures _ _ _ (c.in_ok-put_bits.ensures.written visible) (i.others visible);
      crash = λ visible. any_on c.args.geometry.now c.args.taken.now c.loop-place.place block at within c.fill_bits.new.bytes sized c.fill_bits.ensures _ _ _ _ (i.crash visible) (c.put_bits.ensures.crash visible);
      size = c.put_bits.ensures.size ∙ i.size;
      faults = c.in_ok-put_bits.ensures.cause.passed ∙ i.faults;
    }

pub returns-clause-marked : goal.returns-clause-marked
returns-clause-marked g c visible = on_ok_weaker c.barrier.result (λ settled.
    let count = c.bitmap_blocks-count.ensures in
    let all : c.loop-place.place ≡ bitmap_blocks c.args.geometry.now = omega (arith, count) in
    subst (λ n. IsMarkedBelow c.args.taken.now (32768 * n) (reads (g.D.Disk.moments c.barrier.new.self))) all
    (subst (λ (d : Image). IsMarkedBelow c.args.taken.now (32768 * c.loop-place.place) d) (sym (c.barrier.ensures.content visible)) (c.loop-place.invariant.marked visible))) (c.barrier.ensures.ok visible)

pub returns-clause-others : goal.returns-clause-others
returns-clause-others g c visible = on_ok_weaker c.barrier.result (λ settled s out.
    ap (λ (d : Image). d s) (c.barrier.ensures.content visible) ∙ c.loop-place.invariant.others visible s out) (c.barrier.ensures.ok visible)

pub returns-clause-crash : goal.returns-clause-crash
returns-clause-crash g c visible = goes_on_quietly _ (HasAnyBitmap c.args.geometry.now (g.D.Disk.moments c.args.disk.now).state) _ _ _ (c.loop-place.invariant.crash visible) (c.barrier.ensures.crash visible)
