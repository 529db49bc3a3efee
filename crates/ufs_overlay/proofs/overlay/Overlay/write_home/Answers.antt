use Rattle.std.proofs.Common.{◌≡◌, refl, sym, ap, ◌∙◌, arith}
use Rattle.std.specs.Prelude.{if◌then◌else◌}
use Rattle.std.proofs.lemmas.Bool.{le-ltb}
use Rattle.ufs_disk.specs.Moments.{reads}
use Rattle.ufs_image.specs.Fold.{folded}
use Rattle.ufs_disk.proofs.Runs.{weaker}
use Rattle.ufs_overlay.specs.Over.{IsHomeWritten, FoldsAlike}
use Rattle.ufs_overlay.proofs.Writing.{folds_alike, AreBelow, begun, turn, read_skip, read_turn, read_all}
use Rattle.ufs_overlay.proofs.overlay.Overlay.write_home.Goals as goal

pub loop-sector-init : goal.loop-sector-init
loop-sector-init g c = record {
  read = λ visible added has k. sym (ap (λ b. if b then folded c.args.self.now.geometry added (reads (g.D.Disk.moments c.args.disk.now)) k else reads (g.D.Disk.moments c.args.disk.now) k) (le-ltb k 0 (omega arith)));
  crash = λ visible added has settled. begun g.D.Disk.keeps c.args.self.now.geometry added has.rising (g.D.Disk.moments c.args.disk.now);
  size = refl;
  faults = refl;
}

pub returns-in_err-write_sector-clause-crash : goal.returns-in_err-write_sector-clause-crash
returns-in_err-write_sector-clause-crash g c visible added has settled =
    let first = reads (g.D.Disk.moments c.args.disk.now) in
    let below : AreBelow c.args.self.now.geometry added c.in-Some.sector first (reads (g.D.Disk.moments c.loop-sector.disk)) = read_skip c.args.self.now.geometry added has.rising c.loop-sector.at c.in-Some.sector first (reads (g.D.Disk.moments c.loop-sector.disk))
    c.in-Some.ensures.within.0 (λ k from under. sym (has.each k) ∙ c.in-Some.ensures.least k from under) (c.loop-sector.invariant.read visible added has) in
    let same : reads (g.D.Disk.moments c.loop-sector.disk) c.in-Some.sector ≡ first c.in-Some.sector = below c.in-Some.sector ∙ ap (λ b. if b then folded c.args.self.now.geometry added first c.in-Some.sector else first c.in-Some.sector) (le-ltb c.in-Some.sector c.in-Some.sector (omega arith)) in
    turn g.D.Disk.keeps c.args.self.now.geometry added has.rising (g.D.Disk.moments c.args.disk.now) c.in-Some.sector (g.D.Disk.moments c.loop-sector.disk) (g.D.Disk.moments c.write_sector.new.disk) settled same
    (c.loop-sector.invariant.crash visible added has settled) (c.write_sector.ensures.crash visible added has)

pub loop-sector-preserved : goal.loop-sector-preserved
loop-sector-preserved g c = record {
  read = λ visible added has k. read_turn c.args.self.now.geometry added has.rising c.in-Some.sector (reads (g.D.Disk.moments c.args.disk.now)) (reads (g.D.Disk.moments c.loop-sector.disk)) (reads (g.D.Disk.moments c.write_sector.new.disk))
      (read_skip c.args.self.now.geometry added has.rising c.loop-sector.at c.in-Some.sector (reads (g.D.Disk.moments c.args.disk.now)) (reads (g.D.Disk.moments c.loop-sector.disk))
      c.in-Some.ensures.within.0 (λ k from under. sym (has.each k) ∙ c.in-Some.ensures.least k from under) (c.loop-sector.invariant.read visible added has))
      (c.in_ok-write_sector.ensures.ok visible added has) k;
  crash = λ visible added has settled.
      (let first = reads (g.D.Disk.moments c.args.disk.now) in
      let below : AreBelow c.args.self.now.geometry added c.in-Some.sector first (reads (g.D.Disk.moments c.loop-sector.disk)) = read_skip c.args.self.now.geometry added has.rising c.loop-sector.at c.in-Some.sector first (reads (g.D.Disk.moments c.loop-sector.disk))
      c.in-Some.ensures.within.0 (λ k from under. sym (has.each k) ∙ c.in-Some.ensures.least k from under) (c.loop-sector.invariant.read visible added has) in
      let same : reads (g.D.Disk.moments c.loop-sector.disk) c.in-Some.sector ≡ first c.in-Some.sector = below c.in-Some.sector ∙ ap (λ b. if b then folded c.args.self.now.geometry added first c.in-Some.sector else first c.in-Some.sector) (le-ltb c.in-Some.sector c.in-Some.sector (omega arith)) in
      turn g.D.Disk.keeps c.args.self.now.geometry added has.rising (g.D.Disk.moments c.args.disk.now) c.in-Some.sector (g.D.Disk.moments c.loop-sector.disk) (g.D.Disk.moments c.write_sector.new.disk) settled same
      (c.loop-sector.invariant.crash visible added has settled) (c.write_sector.ensures.crash visible added has));
  size = c.write_sector.ensures.size ∙ c.loop-sector.invariant.size;
  faults = c.in_ok-write_sector.ensures.cause.passed ∙ c.loop-sector.invariant.faults;
}

pub returns-clause-ok : goal.returns-clause-ok
returns-clause-ok g c visible added has k =
    read_all c.args.self.now.geometry added has.rising c.loop-sector.at (reads (g.D.Disk.moments c.args.disk.now)) (reads (g.D.Disk.moments c.loop-sector.disk)) (c.loop-sector.invariant.read visible added has) k
    (λ from. sym (has.each k) ∙ c.in_default.ensures.none k from)

pub returns-clause-folds : goal.returns-clause-folds
returns-clause-folds g c visible added has fits settled =
    weaker g.D.Disk.keeps (IsHomeWritten c.args.self.now.geometry added (g.D.Disk.moments c.args.disk.now).state) (FoldsAlike c.args.self.now.geometry added (g.D.Disk.moments c.args.disk.now).state)
    (folds_alike c.args.self.now.geometry added (g.D.Disk.size c.args.disk.now) (g.D.Disk.moments c.args.disk.now).state c.home_law.ensures c.requires (g.met.D.Disk.whole visible c.args.disk.now) fits)
    _ _ (c.loop-sector.invariant.crash visible added has settled)

pub returns-in_err-write_sector-clause-folds : goal.returns-in_err-write_sector-clause-folds
returns-in_err-write_sector-clause-folds g c visible added has fits settled =
    weaker g.D.Disk.keeps (IsHomeWritten c.args.self.now.geometry added (g.D.Disk.moments c.args.disk.now).state) (FoldsAlike c.args.self.now.geometry added (g.D.Disk.moments c.args.disk.now).state)
    (folds_alike c.args.self.now.geometry added (g.D.Disk.size c.args.disk.now) (g.D.Disk.moments c.args.disk.now).state c.home_law.ensures c.requires (g.met.D.Disk.whole visible c.args.disk.now) fits)
    _ _ (returns-in_err-write_sector-clause-crash g c visible added has settled)
