use Rattle.std.proofs.Common.{◌≡◌, ◌<◌, ◌+◌, ◌*◌, ℕ, Option, Some, None, length, ap, sym, refl, ◌∙◌, subst, arith}
use Rattle.std.specs.List.{slice_get}
use Rattle.std.proofs.lemmas.Result.{on_ok_weaker}
use Rattle.std.proofs.lemmas.Option.{get_or_from_slice_get}
use Rattle.ufs_base.specs.Images.{Image}
use Rattle.ufs_disk.specs.Moments.{LeavesOnly, reads}
use Rattle.ufs_disk.specs.Disk.{put}
use Rattle.ufs_disk.proofs.Runs.{started, goes_on_quietly}
use Rattle.ufs_recovery.specs.Cleared.{AreClearedBelow, IsMixedCleared, IsPartlyCleared, HasSectorPut, sector_at}
use Rattle.ufs_recovery.proofs.OneMore.{none_mixed, none_cleared, cleared_past, one_mixed, one_cleared, one_crash, begins_cleared, get_there}
use Rattle.ufs_recovery.proofs.clearing.clear.Goals as goal

pub loop-place-init : goal.loop-place-init
loop-place-init g c = record {
  mixed = λ visible. none_mixed c.args.geometry.now c.args.kind c.args.numbers.now (reads (g.D.Disk.moments c.args.disk.now));
  done = λ visible. none_cleared c.args.geometry.now c.args.kind c.args.numbers.now (reads (g.D.Disk.moments c.args.disk.now));
  crash = λ visible. started _ _ _ (begins_cleared c.args.geometry.now c.args.kind c.args.numbers.now _);
  size = refl;
  faults = refl;
}

pub loop-place-preserved-in_default : goal.loop-place-preserved-in_default
loop-place-preserved-in_default g c =
    let i = c.loop-place.invariant in
    record {
      mixed = i.mixed;
      done = λ visible. cleared_past c.args.geometry.now c.args.kind c.args.numbers.now c.loop-place.place (reads (g.D.Disk.moments c.loop-place.disk))
          (λ number chosen. c.in_default.not-Some number (get_or_from_slice_get c.args.numbers.now c.loop-place.place (Some number) None chosen)) (i.done visible);
      crash = i.crash;
      size = i.size;
      faults = i.faults;
    }

pub returns-in_err-put_sector-clause-crash : goal.returns-in_err-put_sector-clause-crash
returns-in_err-put_sector-clause-crash g c visible =
    let at : 8 * c.first_of_inodes.result + c.loop-place.place ≡ sector_at c.args.geometry.now c.loop-place.place = ap (λ n. 8 * n + c.loop-place.place) c.first_of_inodes.ensures in
    let less : c.loop-place.place < length c.args.numbers.now = let under = c.loop-place-test.true in let long = c.requires.counted in omega (arith, under, long) in
    let chosen : slice_get c.args.numbers.now c.loop-place.place ≡ Some (Some c.in-Some.number) = get_there c.args.numbers.now c.loop-place.place None less ∙ ap (λ (o : Option ℕ). Some o) c.in-Some.is in
    one_crash c.args.geometry.now c.args.kind c.args.numbers.now c.loop-place.place c.in-Some.number c.cleared_sector.result chosen c.cleared_sector.ensures _ _ _ _ (c.loop-place.invariant.crash visible)
    (subst (λ s. LeavesOnly g.D.Disk.keeps (HasSectorPut s c.cleared_sector.result (g.D.Disk.moments c.loop-place.disk).state) (g.D.Disk.moments c.loop-place.disk) (g.D.Disk.moments c.put_sector.new.disk)) at (c.put_sector.ensures.crash visible))

pub loop-place-preserved : goal.loop-place-preserved
loop-place-preserved g c =
    let i = c.loop-place.invariant in
    let at : 8 * c.first_of_inodes.result + c.loop-place.place ≡ sector_at c.args.geometry.now c.loop-place.place = ap (λ n. 8 * n + c.loop-place.place) c.first_of_inodes.ensures in
    let less : c.loop-place.place < length c.args.numbers.now = let under = c.loop-place-test.true in let long = c.requires.counted in omega (arith, under, long) in
    let chosen : slice_get c.args.numbers.now c.loop-place.place ≡ Some (Some c.in-Some.number) = get_there c.args.numbers.now c.loop-place.place None less ∙ ap (λ (o : Option ℕ). Some o) c.in-Some.is in
    let image : Image = reads (g.D.Disk.moments c.loop-place.disk) in
    record {
      mixed = λ visible. one_mixed c.args.geometry.now c.args.kind c.args.numbers.now c.loop-place.place c.in-Some.number c.cleared_sector.result chosen c.cleared_sector.ensures _ image _ (i.mixed visible)
          (c.in_ok-put_sector.ensures.written visible ∙ ap (λ s. put s c.cleared_sector.result image) at);
      done = λ visible. one_cleared c.args.geometry.now c.args.kind c.args.numbers.now c.loop-place.place c.in-Some.number c.cleared_sector.result chosen c.cleared_sector.ensures image _
          (c.in_ok-put_sector.ensures.written visible ∙ ap (λ s. put s c.cleared_sector.result image) at) (i.done visible);
      crash = λ visible. one_crash c.args.geometry.now c.args.kind c.args.numbers.now c.loop-place.place c.in-Some.number c.cleared_sector.result chosen c.cleared_sector.ensures _ _ _ _ (i.crash visible)
          (subst (λ s. LeavesOnly g.D.Disk.keeps (HasSectorPut s c.cleared_sector.result (g.D.Disk.moments c.loop-place.disk).state) (g.D.Disk.moments c.loop-place.disk) (g.D.Disk.moments c.put_sector.new.disk)) at (c.put_sector.ensures.crash visible));
      size = c.put_sector.ensures.size ∙ i.size;
      faults = c.in_ok-put_sector.ensures.cause.passed ∙ i.faults;
    }

pub returns-clause-mixed : goal.returns-clause-mixed
returns-clause-mixed g c visible = on_ok_weaker c.barrier.result (λ settled.
    subst (λ (d : Image). IsMixedCleared c.args.geometry.now c.args.kind c.args.numbers.now (reads (g.D.Disk.moments c.args.disk.now)) d) (sym (c.barrier.ensures.content visible)) (c.loop-place.invariant.mixed visible)) (c.barrier.ensures.ok visible)

pub returns-clause-all : goal.returns-clause-all
returns-clause-all g c visible = on_ok_weaker c.barrier.result (λ settled.
    let all : c.loop-place.place ≡ c.args.geometry.now.inodes = omega arith in
    subst (λ n. AreClearedBelow c.args.geometry.now c.args.kind c.args.numbers.now n (reads (g.D.Disk.moments c.barrier.new.self))) all
    (subst (λ (d : Image). AreClearedBelow c.args.geometry.now c.args.kind c.args.numbers.now c.loop-place.place d) (sym (c.barrier.ensures.content visible)) (c.loop-place.invariant.done visible))) (c.barrier.ensures.ok visible)

pub returns-clause-crash : goal.returns-clause-crash
returns-clause-crash g c visible = goes_on_quietly _ (IsPartlyCleared c.args.geometry.now c.args.kind c.args.numbers.now (g.D.Disk.moments c.args.disk.now).state) _ _ _ (c.loop-place.invariant.crash visible) (c.barrier.ensures.crash visible)
