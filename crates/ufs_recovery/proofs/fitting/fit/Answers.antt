use Rattle.std.proofs.Common.{◌≡◌, ◌+◌, sym, refl, ◌∙◌, subst, arith}
use Rattle.ufs_disk.specs.Moments.{reads}
use Rattle.ufs_disk.proofs.Runs.{started}
use Rattle.ufs_recovery.specs.Fitted.{IsFittedBelow}
use Rattle.ufs_recovery.specs.Home.{KeepsTree}
use Rattle.ufs_recovery.proofs.Fits.{all_fitted, none_fitted}
use Rattle.ufs_recovery.proofs.SuperblockPut.{kept_on, still_opens}
use Rattle.ufs_recovery.proofs.fitting.fit.Goals as goal

pub loop-place-init : goal.loop-place-init
loop-place-init g c = record {
  settled = λ visible settled. settled;
  fitted = λ visible superblock may. none_fitted (g.D.Disk.size c.args.disk.now) superblock c.args.geometry.now c.args.forms.now (reads (g.D.Disk.moments c.args.disk.now)) may;
  tree = λ visible settled superblock may. started _ _ _ (still_opens (g.D.Disk.size c.args.disk.now) (g.D.Disk.moments c.args.disk.now).state settled);
  size = refl;
  faults = refl;
}

pub returns-in_err-fit_at-clause-tree : goal.returns-in_err-fit_at-clause-tree
returns-in_err-fit_at-clause-tree g c visible settled superblock may =
    let i = c.loop-place.invariant in
    let size = g.D.Disk.size c.args.disk.now in
    let first = reads (g.D.Disk.moments c.args.disk.now) in
    let below = subst (λ n. IsFittedBelow n superblock c.args.geometry.now c.args.forms.now c.loop-place.place first (reads (g.D.Disk.moments c.loop-place.disk))) (sym i.size) (i.fitted visible superblock may) in
    kept_on _ size _ _ _ (i.tree visible settled superblock may)
    (subst (λ n. KeepsTree g.D.Disk.keeps n (g.D.Disk.moments c.loop-place.disk) (g.D.Disk.moments c.fit_at.new.disk)) i.size (c.fit_at.ensures.tree visible (i.settled visible settled) superblock first below))

pub loop-place-preserved : goal.loop-place-preserved
loop-place-preserved g c =
    let i = c.loop-place.invariant in
    let size = g.D.Disk.size c.args.disk.now in
    let first = reads (g.D.Disk.moments c.args.disk.now) in
    record {
      settled = λ visible settled. c.in_ok-fit_at.ensures.settled visible (i.settled visible settled);
      fitted = λ visible superblock may.
          subst (λ n. IsFittedBelow n superblock c.args.geometry.now c.args.forms.now (c.loop-place.place + 1) first (reads (g.D.Disk.moments c.fit_at.new.disk))) i.size
          (c.in_ok-fit_at.ensures.one_more visible superblock first
          (subst (λ n. IsFittedBelow n superblock c.args.geometry.now c.args.forms.now c.loop-place.place first (reads (g.D.Disk.moments c.loop-place.disk))) (sym i.size) (i.fitted visible superblock may)));
      tree = λ visible settled superblock may.
          let below = subst (λ n. IsFittedBelow n superblock c.args.geometry.now c.args.forms.now c.loop-place.place first (reads (g.D.Disk.moments c.loop-place.disk))) (sym i.size) (i.fitted visible superblock may) in
          kept_on _ size _ _ _ (i.tree visible settled superblock may)
          (subst (λ n. KeepsTree g.D.Disk.keeps n (g.D.Disk.moments c.loop-place.disk) (g.D.Disk.moments c.fit_at.new.disk)) i.size (c.fit_at.ensures.tree visible (i.settled visible settled) superblock first below));
      size = c.fit_at.ensures.size ∙ i.size;
      faults = c.in_ok-fit_at.ensures.passed ∙ i.faults;
    }

pub returns-clause-fitted : goal.returns-clause-fitted
returns-clause-fitted g c visible superblock may =
    let end : c.loop-place.place ≡ c.args.geometry.now.inodes = omega arith in
    all_fitted (g.D.Disk.size c.args.disk.now) superblock c.args.geometry.now c.args.forms.now c.loop-place.place end _ _ (c.loop-place.invariant.fitted visible superblock may)
