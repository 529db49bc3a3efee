use Rattle.std.proofs.Common.{ℕ, sym, subst, ◌≡◌, Bool, true, false, refl, arith}
use Rattle.std.proofs.lemmas.Result.{MatchResult-weaker}
use Rattle.ufs_disk.specs.Moments.{reads}
use Rattle.ufs_recovery.specs.Home.{KeepsTree}
use Rattle.ufs_recovery.specs.Recovered.{IsProperDisk, IsCleanDisk}
use Rattle.ufs_recovery.proofs.SuperblockPut.{kept_on}
use Rattle.ufs_brink.specs.Begins.{TellsNoSession}
use Rattle.ufs_brink.specs.Numbers.{IsMendedBy}
use Rattle.ufs_image.specs.Volume.{superblock_of}
use Rattle.ufs_brink.proofs.Numbers.{mended_more, mended_none, mended_once, mended_same, mended_then}
use Rattle.ufs_brink.proofs.Read.{same_session, same_tree}
use Rattle.ufs_brink.proofs.starting.recovered_start.Goals as goal

pub returns-in-Ok-clause-tree : goal.returns-in-Ok-clause-tree
returns-in-Ok-clause-tree g c visible proper =
    let keeps = g.D.Disk.keeps in
    let mid = g.D.Disk.moments c.recover.new.disk in
    let new = g.D.Disk.moments c.mended_start.new.disk in
    kept_on keeps (g.D.Disk.size c.args.disk.now) (g.D.Disk.moments c.args.disk.now) mid new (c.recover.ensures.tree visible proper)
    (subst (λ (n : ℕ). IsProperDisk n mid.state → KeepsTree keeps n mid new) c.recover.ensures.size (c.mended_start.ensures.tree visible) (c.in-Ok.ensures.clean visible proper).proper)

pub returns-in-Ok-clause-refused : goal.returns-in-Ok-clause-refused
returns-in-Ok-clause-refused g c visible proper =
    let size = g.D.Disk.size c.args.disk.now in
    let sized = c.recover.ensures.size in
    let old = g.D.Disk.moments c.args.disk.now in
    let mid = g.D.Disk.moments c.recover.new.disk in
    let kept = c.recover.ensures.tree visible proper in
    MatchResult-weaker c.mended_start.result (c.mended_start.ensures.refused visible (subst (λ (n : ℕ). IsProperDisk n mid.state) (sym sized) (c.in-Ok.ensures.clean visible proper).proper)) (λ s none. none)
    (λ fault tells. same_session size (reads old) (reads mid) (same_tree g.D.Disk.keeps size old mid kept) fault (subst (λ (n : ℕ). TellsNoSession n (reads mid) fault) sized tells))

pub returns-in-Ok-clause-numbers : goal.returns-in-Ok-clause-numbers
returns-in-Ok-clause-numbers g c visible proper =
    let mid = g.D.Disk.moments c.recover.new.disk in
    MatchResult-weaker c.mended_start.result (c.mended_start.ensures.numbers visible (subst (λ (n : ℕ). IsCleanDisk n mid.state) (sym c.recover.ensures.size) (c.in-Ok.ensures.clean visible proper)))
    (λ s is. mended_then 1 1 (reads (g.D.Disk.moments c.args.disk.now)) (reads mid) (reads (g.D.Disk.moments c.mended_start.new.disk)) (by (superblock_of (reads (g.D.Disk.moments c.args.disk.now))).clean refl) is) (λ f none. none)
  where
    by : (b : Bool) → (superblock_of (reads (g.D.Disk.moments c.args.disk.now))).clean ≡ b → IsMendedBy 1 (reads (g.D.Disk.moments c.args.disk.now)) (reads (g.D.Disk.moments c.recover.new.disk))
    by true is =
        let old = reads (g.D.Disk.moments c.args.disk.now) in
        mended_more 0 1 old (reads (g.D.Disk.moments c.recover.new.disk)) (omega arith) (mended_same 0 old old (reads (g.D.Disk.moments c.recover.new.disk)) (c.recover.ensures.quiet visible is).content (mended_none old))
    by false is = mended_once (reads (g.D.Disk.moments c.args.disk.now)) (reads (g.D.Disk.moments c.recover.new.disk)) (c.in-Ok.ensures.recovered visible proper is) (c.in-Ok.ensures.clean visible proper).empty
