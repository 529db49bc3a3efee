use Rattle.std.proofs.Common.{ℕ, ap, sym, ◌∙◌, subst, arith}
use Rattle.std.proofs.lemmas.Result.{MatchResult-weaker}
use Rattle.ufs_disk.specs.Moments.{reads}
use Rattle.ufs_image.specs.Opens.{opens}
use Rattle.ufs_recovery.specs.Home.{KeepsTree}
use Rattle.ufs_recovery.specs.Recovered.{IsCleanDisk, IsProperDisk}
use Rattle.ufs_recovery.proofs.SuperblockPut.{kept_on}
use Rattle.ufs_start.specs.Begun.{IsBegun}
use Rattle.ufs_brink.specs.Begins.{TellsNoSession}
use Rattle.ufs_brink.specs.Numbers.{IsMendedBy}
use Rattle.ufs_base.specs.Images.{Image}
use Rattle.ufs_brink.proofs.Numbers.{mended_more, mended_none, mended_same}
use Rattle.ufs_brink.proofs.Read.{clean_still, no_session, proper_still, same_session, tree_still}
use Rattle.ufs_brink.proofs.starting.mended_start.Goals as goal

-- ---- it is taken as it is

pub returns-in-Ok-clause-begun : goal.returns-in-Ok-clause-begun
returns-in-Ok-clause-begun g c = let b = c.in-Ok.ensures.begun in (b.0, b.1, λ visible. b.2 visible ∙ sym (c.start_of.ensures.read_only visible).content)

pub returns-in-Ok-clause-tree : goal.returns-in-Ok-clause-tree
returns-in-Ok-clause-tree g c visible =
    tree_still g.D.Disk.keeps (g.D.Disk.moments c.args.disk.now) (g.D.Disk.moments c.start_of.new.disk) (c.start_of.ensures.read_only visible) (g.D.Disk.size c.args.disk.now)

pub returns-in-Ok-clause-clean : goal.returns-in-Ok-clause-clean
returns-in-Ok-clause-clean g c visible =
    clean_still g.D.Disk.keeps (g.D.Disk.moments c.args.disk.now) (g.D.Disk.moments c.start_of.new.disk) (c.start_of.ensures.read_only visible) (g.D.Disk.size c.args.disk.now)

-- ---- what no path names is freed

pub returns-then-is_mended-clause-begun : goal.returns-then-is_mended-clause-begun
returns-then-is_mended-clause-begun g c =
    MatchResult-weaker c.freed_start.result c.freed_start.ensures.begun (λ s b. (b.0, subst (λ (n : ℕ). IsBegun n b.0 s) c.start_of.ensures.size b.1, b.2)) (λ f none. none)

pub returns-then-is_mended-clause-tree : goal.returns-then-is_mended-clause-tree
returns-then-is_mended-clause-tree g c visible proper =
    let keeps = g.D.Disk.keeps in
    let size = g.D.Disk.size c.args.disk.now in
    let old = g.D.Disk.moments c.args.disk.now in
    let mid = g.D.Disk.moments c.start_of.new.disk in
    let new = g.D.Disk.moments c.freed_start.new.disk in
    let read = c.start_of.ensures.read_only visible in
    kept_on keeps size old mid new (tree_still keeps old mid read size proper)
    (subst (λ (n : ℕ). IsProperDisk n mid.state → KeepsTree keeps n mid new) c.start_of.ensures.size (c.freed_start.ensures.tree visible) (proper_still keeps old mid read size proper))

pub returns-then-is_mended-clause-clean : goal.returns-then-is_mended-clause-clean
returns-then-is_mended-clause-clean g c visible clean =
    let size = g.D.Disk.size c.args.disk.now in
    let sized = c.start_of.ensures.size in
    let mid = g.D.Disk.moments c.start_of.new.disk in
    let new = g.D.Disk.moments c.freed_start.new.disk in
    let proper = proper_still g.D.Disk.keeps (g.D.Disk.moments c.args.disk.now) mid (c.start_of.ensures.read_only visible) size clean.proper in
    MatchResult-weaker c.freed_start.result (c.freed_start.ensures.clean visible (subst (λ (n : ℕ). IsProperDisk n mid.state) (sym sized) proper)) (λ s is. subst (λ (n : ℕ). IsCleanDisk n new.state) sized is) (λ f none. none)

pub returns-then-is_mended-clause-refused : goal.returns-then-is_mended-clause-refused
returns-then-is_mended-clause-refused g c visible proper =
    let size = g.D.Disk.size c.args.disk.now in
    let sized = c.start_of.ensures.size in
    let old = g.D.Disk.moments c.args.disk.now in
    let mid = g.D.Disk.moments c.start_of.new.disk in
    let read = c.start_of.ensures.read_only visible in
    MatchResult-weaker c.freed_start.result (c.freed_start.ensures.refused visible (subst (λ (n : ℕ). IsProperDisk n mid.state) (sym sized) (proper_still g.D.Disk.keeps old mid read size proper))) (λ s none. none)
    (λ fault tells. same_session size (reads old) (reads mid) (ap (opens size) read.content) fault (subst (λ (n : ℕ). TellsNoSession n (reads mid) fault) sized tells))

-- ---- it is refused

pub returns-else-is_mended-clause-tree : goal.returns-else-is_mended-clause-tree
returns-else-is_mended-clause-tree g c visible =
    tree_still g.D.Disk.keeps (g.D.Disk.moments c.args.disk.now) (g.D.Disk.moments c.start_of.new.disk) (c.start_of.ensures.read_only visible) (g.D.Disk.size c.args.disk.now)

pub returns-else-is_mended-clause-refused : goal.returns-else-is_mended-clause-refused
returns-else-is_mended-clause-refused g c visible proper =
    no_session (g.D.Disk.size c.args.disk.now) (reads (g.D.Disk.moments c.args.disk.now)) c.in-Err.fault (sym c.is_mended.ensures ∙ c.if-is_mended.false) (c.in-Err.ensures.refused visible)

-- ---- its numbers

pub returns-in-Ok-clause-numbers : goal.returns-in-Ok-clause-numbers
returns-in-Ok-clause-numbers g c visible clean =
    let old = reads (g.D.Disk.moments c.args.disk.now) in
    let new = reads (g.D.Disk.moments c.start_of.new.disk) in
    mended_more 0 1 old new (omega arith) (mended_same 0 old old new (c.start_of.ensures.read_only visible).content (mended_none old))

pub returns-then-is_mended-clause-numbers : goal.returns-then-is_mended-clause-numbers
returns-then-is_mended-clause-numbers g c visible clean =
    let size = g.D.Disk.size c.args.disk.now in
    let mid = g.D.Disk.moments c.start_of.new.disk in
    let new = g.D.Disk.moments c.freed_start.new.disk in
    let read = c.start_of.ensures.read_only visible in
    let proper = proper_still g.D.Disk.keeps (g.D.Disk.moments c.args.disk.now) mid read size clean.proper in
    MatchResult-weaker c.freed_start.result (c.freed_start.ensures.numbers visible (subst (λ (n : ℕ). IsProperDisk n mid.state) (sym c.start_of.ensures.size) proper))
    (λ s is. subst (λ (d : Image). IsMendedBy 1 d (reads new)) read.content is) (λ f none. none)
