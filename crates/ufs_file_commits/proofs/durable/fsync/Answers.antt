use Rattle.std.proofs.Common.{◌≡◌, ◌∙◌, List, inr, ap, subst, sym}
use Rattle.std.specs.Prelude.{IsTrue, ◌≢◌}
use Rattle.ufs_disk.specs.Moments.{LeavesOnly, Moments}
use Rattle.ufs_ilog.specs.Deltas.{FileLog, IsDelta}
use Rattle.ufs_layout.specs.declared.records.LogRecord.{LogRecord}
use Rattle.ufs_ledger.specs.Ledger.{IsLeftBy, Ledger}
use Rattle.ufs_store.specs.Ledgers.{HasLedger, IsLeftByAny, MayCommitNext, stages}
use Rattle.ufs_store.specs.Numbers.{HasRaised}
use Rattle.ufs_store.specs.Refusals.{answer_of}
use Rattle.ufs_store.specs.State.{StoreState}
use Rattle.ufs_store.proofs.Raised.{raises_none, raises_then}
use Rattle.ufs_file_commits.specs.State.{CommitState, IsNoted, state_of}
use Rattle.ufs_file_commits.specs.Writes.{MayWriteAll, at_moments, with_writes, writes_of}
use Rattle.ufs_file_commits.proofs.Lacks.{lack_stays}
use Rattle.ufs_file_commits.proofs.Stages.{commit_whole, crash_early, crash_whole, device_whole, empty_whole, may_between, memory_whole}
use Rattle.ufs_file_commits.proofs.Stamping.{synced_delta, synced_writes}
use Rattle.ufs_file_commits.proofs.Standing.{noted_committed}
use Rattle.ufs_file_commits.proofs.durable.fsync.Given.{Over}
use Rattle.ufs_file_commits.proofs.durable.fsync.Goals as goal
use Rattle.ufs_file_commits.proofs.durable.fsync.Goals.{After-commit_file}

pub returns-in-Err-clause-crash : goal.returns-in-Err-clause-crash
returns-in-Err-clause-crash g c visible records delta some l has may next =
    crash_early g.D.Door.keeps (g.D.Door.store c.args.door.now) records (with_writes (writes_of c.args.hand.now) l) (g.D.Door.store c.write_dirty.new.door).moments (c.write_dirty.ensures.crash visible l has may)

pub returns-in-Ok-clause-noted : goal.returns-in-Ok-clause-noted
returns-in-Ok-clause-noted g c =
    let inside : CommitState = record { log = c.commits.inside.log; dropped = c.commits.inside.dropped } in
    let was = subst (λ (x : CommitState). IsNoted (state_of c.args.hand.now x)) (sym c.commits.view_is) c.requires.noted in
    let file = sym c.clean.ensures in
    let log = sym c.in-Ok.ensures.emptied in
    let none = sym (c.replace-dropped.ensures.after ∙ c.new.ensures) in
    subst IsNoted (λ i. record { file = file i; log = log i; dropped = none i }) (noted_committed (state_of c.args.hand.now inside) was)

-- ---- the blocks were written, and the commit was tried

module _ (g : Over) (c : After-commit_file g) where
  abbrev first : StoreState
  first = g.D.Door.store c.args.door.now

  abbrev mid : StoreState
  mid = g.D.Door.store c.write_dirty.new.door

  abbrev last : StoreState
  last = g.D.Door.store c.commit_file.new.self

  abbrev log : FileLog
  log = c.args.commits.now.log

  abbrev inside : FileLog
  inside = c.commits.inside.log

  abbrev behind : Ledger → Ledger
  behind l = with_writes (writes_of c.args.hand.now) l

  log_is : log ≡ inside
  log_is = sym (ap (λ (v : CommitState). v.log) c.commits.view_is)

  held : IsTrue g.D.Door.visible → (l : Ledger) → HasLedger first l → MayWriteAll l (writes_of c.args.hand.now) → HasLedger mid (behind l)
  held visible l has may = c.in_default.ensures.ok visible l has may

  change : (records : List LogRecord) → IsDelta log.inode log.committed log.noted records → IsDelta inside.inode inside.committed inside.noted records
  change records delta = subst (λ (x : FileLog). IsDelta x.inode x.committed x.noted records) log_is delta

  changed : log.noted ≢ log.committed → inside.noted ≢ inside.committed
  changed some = subst (λ (x : FileLog). x.noted ≢ x.committed) log_is some

  goes : (records : List LogRecord) (l : Ledger) → MayCommitNext first records l → MayCommitNext mid records (behind l)
  goes records l next = may_between first mid c.in_default.ensures.passed records (writes_of c.args.hand.now) l next

  crash : IsTrue g.D.Door.visible → (records : List LogRecord) → IsDelta log.inode log.committed log.noted records → log.noted ≢ log.committed
      → (l : Ledger) → HasLedger first l → MayWriteAll l (writes_of c.args.hand.now) → MayCommitNext first records l
      → (between : Moments) × LeavesOnly g.D.Door.keeps (IsLeftByAny first.sectors (stages (at_moments between first) records (behind l))) first.moments last.moments
  crash visible records delta some l has may next =
      crash_whole first mid c.in_default.ensures.passed g.D.Door.keeps records (behind l) last.moments (c.write_dirty.ensures.crash visible l has may)
      (c.commit_file.ensures.crash visible records (change records delta) (changed some) (behind l) (held visible l has may) (goes records l next))

  empty_crash : IsTrue g.D.Door.visible → log.noted ≡ log.committed → (l : Ledger) → HasLedger first l → MayWriteAll l (writes_of c.args.hand.now)
      → LeavesOnly g.D.Door.keeps (IsLeftBy first.sectors (behind l)) first.moments last.moments
  empty_crash visible same l has may =
      let still = subst (λ (x : FileLog). x.noted ≡ x.committed) log_is same in
      empty_whole first mid c.in_default.ensures.passed g.D.Door.keeps (behind l) last.moments (c.write_dirty.ensures.crash visible l has may) (c.commit_file.ensures.empty_crash visible still (behind l) (held visible l has may))

pub returns-in-Ok-clause-crash : goal.returns-in-Ok-clause-crash
returns-in-Ok-clause-crash g c = crash g (goal.at.returns-in-Ok-clause-crash g c).After-commit_file

pub returns-in-Ok-clause-empty_crash : goal.returns-in-Ok-clause-empty_crash
returns-in-Ok-clause-empty_crash g c = empty_crash g (goal.at.returns-in-Ok-clause-empty_crash g c).After-commit_file

pub returns-in-Err-commit_file-clause-crash : goal.returns-in-Err-commit_file-clause-crash
returns-in-Err-commit_file-clause-crash g c = crash g (goal.at.returns-in-Err-commit_file-clause-crash g c).After-commit_file

pub returns-in-Err-commit_file-clause-empty_crash : goal.returns-in-Err-commit_file-clause-empty_crash
returns-in-Err-commit_file-clause-empty_crash g c = empty_crash g (goal.at.returns-in-Err-commit_file-clause-empty_crash g c).After-commit_file

pub returns-in-Ok-clause-ok : goal.returns-in-Ok-clause-ok
returns-in-Ok-clause-ok g c visible records delta some l has may next =
    let at = (goal.at.returns-in-Ok-clause-ok g c).After-commit_file in
    commit_whole (first g at) (mid g at) c.in_default.ensures.passed (last g at) records (behind g at l) (held g at visible l has may)
    (c.in-Ok.ensures.ok visible records (change g at records delta) (changed g at some) (behind g at l) (held g at visible l has may) (goes g at records l next))

pub returns-in-Ok-clause-stopped : goal.returns-in-Ok-clause-stopped
returns-in-Ok-clause-stopped g c fault = (
  (λ e. let no = e in absurd cc),
  (λ is.
      let refused = (c.commit_file.ensures.stopped fault).1 (ap (λ (s : StoreState). s.stop) c.in_default.ensures.passed ∙ is) in
      let answered = ap answer_of c.in-Ok.is in
      let no = sym refused ∙ answered in
      absurd cc),
)

pub returns-in-Err-commit_file-clause-stopped : goal.returns-in-Err-commit_file-clause-stopped
returns-in-Err-commit_file-clause-stopped g c fault =
    let stays = ap (λ (s : StoreState). s.stop) c.in_default.ensures.passed in
    let answered = ap answer_of c.in-Err-commit_file.is in (
      (λ e. sym stays ∙ (c.commit_file.ensures.stopped fault).0 (answered ∙ e)),
      (λ is. sym answered ∙ (c.commit_file.ensures.stopped fault).1 (stays ∙ is)),
    )

pub returns-in-Err-commit_file-clause-device : goal.returns-in-Err-commit_file-clause-device
returns-in-Err-commit_file-clause-device g c visible records delta some fault e l has may next =
    let at = (goal.at.returns-in-Err-commit_file-clause-device g c).After-commit_file in
    inr (device_whole (first g at) (mid g at) c.in_default.ensures.passed (last g at) records (behind g at l)
    (c.commit_file.ensures.device visible records (change g at records delta) (changed g at some) fault (ap answer_of c.in-Err-commit_file.is ∙ e) (behind g at l) (held g at visible l has may) (goes g at records l next)))

pub returns-in-Err-commit_file-clause-lack : goal.returns-in-Err-commit_file-clause-lack
returns-in-Err-commit_file-clause-lack g c w e =
    let at = (goal.at.returns-in-Err-commit_file-clause-lack g c).After-commit_file in
    let same = c.in_default.ensures.passed in
    lack_stays (mid g at) (first g at) w (ap (λ (s : StoreState). s.journal.number) same) (ap (λ (s : StoreState). s.superblock.epoch) same)
    (c.commit_file.ensures.lack w (ap answer_of c.in-Err-commit_file.is ∙ e))

pub returns-in-Err-commit_file-clause-memory : goal.returns-in-Err-commit_file-clause-memory
returns-in-Err-commit_file-clause-memory g c visible w e l has may =
    let at = (goal.at.returns-in-Err-commit_file-clause-memory g c).After-commit_file in
    memory_whole (first g at) (mid g at) c.in_default.ensures.passed (last g at) (behind g at l)
    (c.commit_file.ensures.memory visible w (ap answer_of c.in-Err-commit_file.is ∙ e) (behind g at l) (held g at visible l has may))

-- ---- what the calls want

pub write_dirty-requires-clause-stamped : goal.write_dirty-requires-clause-stamped
write_dirty-requires-clause-stamped g c stamped going =
    synced_writes g.D.Door.allows (g.D.Door.store c.args.door.now) (state_of c.args.hand.now c.args.commits.now) (c.requires.stamped stamped going)

pub commit_file-requires-clause-stamped : goal.commit_file-requires-clause-stamped
commit_file-requires-clause-stamped g c stamped going some =
    let s = g.D.Door.store c.args.door.now in
    let mid = g.D.Door.store c.write_dirty.new.door in
    let passed = c.in_default.ensures.passed in
    let leaves = c.requires.stamped stamped (sym (ap (λ (t : StoreState). t.stop) passed) ∙ going) in
    let log : c.args.commits.now.log ≡ c.commits.inside.log = sym (ap (λ (v : CommitState). v.log) c.commits.view_is) in
    synced_delta g.D.Door.allows s mid passed (state_of c.args.hand.now c.args.commits.now) c.commits.inside.log log some leaves (c.in_default.ensures.ok (g.met.D.Door.sees stamped) leaves.ledger leaves.knows leaves.may)

-- ---- its numbers

pub returns-in-Err-clause-raised : goal.returns-in-Err-clause-raised
returns-in-Err-clause-raised g c =
    raises_none 1 1 (g.D.Door.store c.args.door.now) (g.D.Door.store c.write_dirty.new.door) (ap (λ (s : StoreState). s.superblock) c.write_dirty.ensures.rest) (ap (λ (s : StoreState). s.journal) c.write_dirty.ensures.rest)

module _ (g : Over) (c : After-commit_file g) where
  raised_behind : HasRaised 1 1 (g.D.Door.store c.args.door.now) (g.D.Door.store c.commit_file.new.self)
  raised_behind =
      raises_then 0 0 1 1 (g.D.Door.store c.args.door.now) (g.D.Door.store c.write_dirty.new.door) (g.D.Door.store c.commit_file.new.self)
      (raises_none 0 0 (g.D.Door.store c.args.door.now) (g.D.Door.store c.write_dirty.new.door) (ap (λ (s : StoreState). s.superblock) c.write_dirty.ensures.rest) (ap (λ (s : StoreState). s.journal) c.write_dirty.ensures.rest))
      c.commit_file.ensures.raised

pub returns-in-Ok-clause-raised : goal.returns-in-Ok-clause-raised
returns-in-Ok-clause-raised g c = raised_behind g (goal.at.returns-in-Ok-clause-raised g c).After-commit_file

pub returns-in-Err-commit_file-clause-raised : goal.returns-in-Err-commit_file-clause-raised
returns-in-Err-commit_file-clause-raised g c = raised_behind g (goal.at.returns-in-Err-commit_file-clause-raised g c).After-commit_file
