use Rattle.std.proofs.Common.{◌≡◌, ◌≤◌, ℕ, Bool, [], length, ap, refl, sym, ◌∙◌, subst}
use Rattle.std.specs.Prelude.{IsTrue}
use Rattle.ufs_base.specs.Images.{Image}
use Rattle.ufs_rounds.specs.OfBeginHands.{beginning_of}
use Rattle.ufs_rounds.specs.OfBeginHands.{sees}
use Rattle.ufs_brink.specs.Begins.{BeginsWith}
use Rattle.ufs_brink.proofs.Numbers.{begins_from}
use Rattle.ufs_brink.proofs.Read.{begins_alike, outside_session, proper_begins, recovery_explained, same_tree}
use Rattle.ufs_disk.specs.Moments.{Moments, reads}
use Rattle.ufs_disk.proofs.Runs.{started}
use Rattle.ufs_image.specs.Opens.{opens}
use Rattle.ufs_joint.specs.Ends.{CanBegin}
use Rattle.ufs_model.specs.Laws.{KeepsTrees}
use Rattle.ufs_model.specs.PosixTree.{PosixTree}
use Rattle.ufs_promise_laws.specs.OnDisk.{IsExplainedBetween}
use Rattle.ufs_recovery.specs.Home.{KeepsTree, OpensAlike}
use Rattle.ufs_recovery.specs.Recovered.{IsCleanDisk, IsProperDisk}
use Rattle.ufs_start.specs.Begun.{IsBegun}
use Rattle.ufs_start.specs.Refused.{HasStartCause}
use Rattle.ufs_told.proofs.ThroughoutLemmas.{between_joined}
use Rattle.ufs_engine.proofs.beginning.begin.Given.{Over}
use Rattle.ufs_engine.proofs.beginning.begin.Goals.{In-Ok-mount}
use Rattle.ufs_engine.proofs.beginning.begin.Goals as goal

-- ---- no memory for the transcripts

pub returns-in-Err-clause-err_moments : goal.returns-in-Err-clause-err_moments
returns-in-Err-clause-err_moments g c visible proper start with_it =
    let size = g.D.Disk.size c.args.disk in
    let now = g.D.Disk.moments c.args.disk in
    recovery_explained g.D.Disk.keeps size now now
    (started g.D.Disk.keeps (OpensAlike size (reads now)) now (λ image left. subst (OpensAlike size (reads now)) (sym (proper.settled image left)) (record { tree = refl; proper = λ is. is })))
    c.a_request_keeps_the_tree.ensures start proper with_it

pub returns-in-Err-clause-opened : goal.returns-in-Err-clause-opened
returns-in-Err-clause-opened g c visible proper = proper_begins (g.D.Disk.size c.args.disk) (g.D.Disk.moments c.args.disk).state proper

-- ---- the image wasn't recovered

pub returns-in-Err-recovered_start-clause-opened : goal.returns-in-Err-recovered_start-clause-opened
returns-in-Err-recovered_start-clause-opened g c visible proper = proper_begins (g.D.Disk.size c.args.disk) (g.D.Disk.moments c.args.disk).state proper

pub returns-in-Err-recovered_start-clause-err_moments : goal.returns-in-Err-recovered_start-clause-err_moments
returns-in-Err-recovered_start-clause-err_moments g c visible proper start with_it =
    recovery_explained g.D.Disk.keeps (g.D.Disk.size c.args.disk) (g.D.Disk.moments c.args.disk) (g.D.Disk.moments c.recovered_start.new.disk) (c.recovered_start.ensures.tree visible proper) c.a_request_keeps_the_tree.ensures start proper with_it

-- ---- the recovered disk

pub mount-requires-clause-begun : goal.mount-requires-clause-begun
mount-requires-clause-begun g c =
    let b = c.in-Ok-recovered_start.ensures.begun in
    (b.0, subst (λ (n : ℕ). IsBegun n b.0 c.in-Ok-recovered_start.start) (sym c.recovered_start.ensures.size) b.1, b.2)

module _ (trees : KeepsTrees) (keeps : Bool) (size n : ℕ) (old new : Moments) (same : n ≡ size) (kept : KeepsTree keeps size old new) where
  -- it begins with the tree with which the disk began
  begins : (start : PosixTree) → BeginsWith size (reads old) start → BeginsWith n (reads new) start
  begins start = begins_alike size n (reads old) (reads new) start (ap (λ (m : ℕ). opens m (reads new)) same ∙ same_tree keeps size old new kept)

  -- and so it is at each moment until another
  until : IsProperDisk size old.state → (start : PosixTree) → BeginsWith size (reads old) start → (later : Moments) → IsExplainedBetween keeps n start [] new later → IsExplainedBetween keeps size start [] old later
  until proper start with_it later behind = between_joined keeps size start [] old new later (recovery_explained keeps size old new kept trees start proper with_it)
      (subst (λ (m : ℕ). IsExplainedBetween keeps m start [] new later) same behind)

module _ (g : Over) (c : In-Ok-mount g) where
  abbrev size : ℕ
  size = g.D.Disk.size c.args.disk

  abbrev old : Moments
  old = g.D.Disk.moments c.args.disk

  abbrev new : Moments
  new = g.D.Disk.moments c.recovered_start.new.disk

  -- what was read is its image
  begun : IsTrue g.D.Disk.visible → IsBegun (g.D.Disk.size c.recovered_start.new.disk) (reads new) c.in-Ok-recovered_start.start
  begun visible =
      let b = c.in-Ok-recovered_start.ensures.begun in
      let n = g.D.Disk.size c.recovered_start.new.disk in
      subst (λ (i : Image). IsBegun n i c.in-Ok-recovered_start.start) (b.2 visible) (subst (λ (n : ℕ). IsBegun n b.0 c.in-Ok-recovered_start.start) (sym c.recovered_start.ensures.size) b.1)

  module _ (visible : IsTrue g.D.Disk.visible) (proper : IsProperDisk size old.state) where
    clean : IsCleanDisk (g.D.Disk.size c.recovered_start.new.disk) new.state
    clean = subst (λ (n : ℕ). IsCleanDisk n new.state) (sym c.recovered_start.ensures.size) (c.in-Ok-recovered_start.ensures.clean visible proper)

    with_start : (start : PosixTree) → BeginsWith size (reads old) start → BeginsWith (g.D.Disk.size c.recovered_start.new.disk) (reads new) start
    with_start = begins c.a_request_keeps_the_tree.ensures g.D.Disk.keeps size (g.D.Disk.size c.recovered_start.new.disk) old new c.recovered_start.ensures.size (c.recovered_start.ensures.tree visible proper)

-- ---- it was mounted

pub returns-in-Ok-mount-clause-mounted : goal.returns-in-Ok-mount-clause-mounted
returns-in-Ok-mount-clause-mounted g c =
    let m = c.in-Ok-mount.ensures in
    let start = c.in-Ok-recovered_start.start in
    let low : start.names.next ≤ 1073741824 = c.in-Ok-recovered_start.ensures.begun.1.few in
    let disk = c.recovered_start.new.disk in (
      beginning_of start (length c.as_slice.result.now) 0 (sees g.D.Disk.visible (g.D.Disk.size disk) (g.D.Disk.moments disk).state),
      record {
        start = m.start;
        ready = m.ready;
        can = subst CanBegin m.start m.session;
        clients_are = ap length c.as_slice.ensures.value;
        workers_are = refl;
        few = low;
        names_are = m.names;
        files_are = m.files;
      },
    )

pub returns-in-Ok-mount-clause-size : goal.returns-in-Ok-mount-clause-size
returns-in-Ok-mount-clause-size g c = c.in-Ok-mount.ensures.size ∙ c.recovered_start.ensures.size

pub returns-in-Ok-mount-clause-passed : goal.returns-in-Ok-mount-clause-passed
returns-in-Ok-mount-clause-passed g c = c.in-Ok-mount.ensures.passed ∙ c.in-Ok-recovered_start.ensures.passed

pub returns-in-Ok-mount-clause-opened : goal.returns-in-Ok-mount-clause-opened
returns-in-Ok-mount-clause-opened g c visible proper = proper_begins (g.D.Disk.size c.args.disk) (g.D.Disk.moments c.args.disk).state proper

pub returns-in-Ok-mount-clause-visible : goal.returns-in-Ok-mount-clause-visible
returns-in-Ok-mount-clause-visible g c visible proper = c.in-Ok-mount.ensures.visible visible (clean g c visible proper)

pub returns-in-Ok-mount-clause-tree : goal.returns-in-Ok-mount-clause-tree
returns-in-Ok-mount-clause-tree g c visible proper start with_it = c.in-Ok-mount.ensures.tree (reads (new g c)) start (begun g c visible) (with_start g c visible proper start with_it)

pub returns-in-Ok-mount-clause-moments : goal.returns-in-Ok-mount-clause-moments
returns-in-Ok-mount-clause-moments g c visible proper start with_it =
    until c.a_request_keeps_the_tree.ensures g.D.Disk.keeps (size g c) (g.D.Disk.size c.recovered_start.new.disk) (old g c) (new g c) c.recovered_start.ensures.size (c.recovered_start.ensures.tree visible proper) proper start with_it _
    (c.in-Ok-mount.ensures.moments visible (clean g c visible proper) start (with_start g c visible proper start with_it))

pub returns-in-Ok-mount-clause-numbers : goal.returns-in-Ok-mount-clause-numbers
returns-in-Ok-mount-clause-numbers g c visible proper =
    begins_from (reads (old g c)) (reads (new g c)) _ (c.in-Ok-recovered_start.ensures.numbers visible proper) (c.in-Ok-mount.ensures.numbers (reads (new g c)) (begun g c visible))

-- ---- it wasn't

pub returns-in-Err-mount-clause-err_size : goal.returns-in-Err-mount-clause-err_size
returns-in-Err-mount-clause-err_size g c = c.in-Err-mount.ensures.err_size ∙ c.recovered_start.ensures.size

pub returns-in-Err-mount-clause-cause : goal.returns-in-Err-mount-clause-cause
returns-in-Err-mount-clause-cause g c = subst (λ (n : ℕ). HasStartCause n (g.D.Disk.faults c.in-Err-mount.unbegun.disk) c.in-Err-mount.unbegun.fault) c.in-Ok-recovered_start.ensures.passed c.in-Err-mount.ensures.cause

pub returns-in-Err-mount-clause-opened : goal.returns-in-Err-mount-clause-opened
returns-in-Err-mount-clause-opened g c visible proper = proper_begins (g.D.Disk.size c.args.disk) (g.D.Disk.moments c.args.disk).state proper

pub returns-in-Err-mount-clause-err_moments : goal.returns-in-Err-mount-clause-err_moments
returns-in-Err-mount-clause-err_moments g c visible proper start with_it =
    let size = g.D.Disk.size c.args.disk in
    let n = g.D.Disk.size c.recovered_start.new.disk in
    let old = g.D.Disk.moments c.args.disk in
    let new = g.D.Disk.moments c.recovered_start.new.disk in
    let same = c.recovered_start.ensures.size in
    let kept = c.recovered_start.ensures.tree visible proper in
    let clean = subst (λ (m : ℕ). IsCleanDisk m new.state) (sym same) (c.in-Ok-recovered_start.ensures.clean visible proper) in
    let trees = c.a_request_keeps_the_tree.ensures in
    until trees g.D.Disk.keeps size n old new same kept proper start with_it (g.D.Disk.moments c.in-Err-mount.unbegun.disk)
    (c.in-Err-mount.ensures.err_moments visible clean start (begins trees g.D.Disk.keeps size n old new same kept start with_it))

pub returns-in-Err-mount-clause-refused : goal.returns-in-Err-mount-clause-refused
returns-in-Err-mount-clause-refused g c visible proper = outside_session (g.D.Disk.size c.args.disk) (reads (g.D.Disk.moments c.args.disk)) c.in-Err-mount.unbegun.fault c.in-Err-mount.ensures.outside
