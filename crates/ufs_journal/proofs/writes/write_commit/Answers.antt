use Rattle.std.proofs.Common.{◌≡◌, ◌+◌, length, ap, ◌∙◌, arith, rules, subst, sym}
use Rattle.std.proofs.lemmas.Result.{on_ok_weaker}
use Rattle.ufs_base.specs.Images.{Image}
use Rattle.ufs_disk.specs.Disk.{put}
use Rattle.ufs_disk.specs.Moments.{reads}
use Rattle.ufs_layout.specs.JournalSector.{JournalSector, HasCommit, journal_bytes}
use Rattle.ufs_journal.specs.Found.{journal_sector}
use Rattle.ufs_journal.specs.Written.{IsOldOrPut}
use Rattle.ufs_journal.proofs.AppendRun.{sector_reads, off_journal}
use Rattle.ufs_disk.proofs.Runs.{weaker}
use Rattle.ufs_disk.specs.Disk.{IsImage}
use Rattle.ufs_journal.proofs.CommitRun.{committed, waited_again}
use Rattle.ufs_journal.proofs.writes.write_commit.Goals as goal

pub returns-in_err-barrier-clause-crash : goal.returns-in_err-barrier-clause-crash
returns-in_err-barrier-clause-crash g c visible =
    let j : JournalSector = record { epoch = c.args.epoch; txn = c.args.txn; index = c.args.count; content = HasCommit c.args.number } in
    weaker g.D.Disk.keeps (IsImage (g.D.Disk.moments c.args.disk.now).state) (IsOldOrPut (journal_sector c.args.geometry.now c.args.place) j (g.D.Disk.moments c.args.disk.now).state)
    (λ image left. Rattle.std.proofs.Common.inl left) (g.D.Disk.moments c.args.disk.now) (g.D.Disk.moments c.barrier.new.self) (c.barrier.ensures.crash visible)

pub returns-in_err-write-clause-crash : goal.returns-in_err-write-clause-crash
returns-in_err-write-clause-crash g c visible =
    let at : c.journal_start.result + c.args.place ≡ journal_sector c.args.geometry.now c.args.place = omega (arith, c.journal_start.ensures) in
    let j : JournalSector = record { epoch = c.args.epoch; txn = c.args.txn; index = c.args.count; content = HasCommit c.args.number } in
    committed g.D.Disk.keeps (c.journal_start.result + c.args.place) (journal_sector c.args.geometry.now c.args.place) at j c.commit_sector-bytes.result (search rules) c.commit_sector-bytes.ensures.spelling
    (g.D.Disk.moments c.args.disk.now) (g.D.Disk.moments c.barrier.new.self) (c.barrier.ensures.crash visible) (c.in_ok-barrier.ensures.ok visible) (c.barrier.ensures.content visible) (g.D.Disk.moments c.write.new.self) (c.write.ensures.crash visible)

pub returns-clause-written : goal.returns-clause-written
returns-clause-written g c visible =
    let at : c.journal_start.result + c.args.place ≡ journal_sector c.args.geometry.now c.args.place = omega (arith, c.journal_start.ensures) in
    let j : JournalSector = record { epoch = c.args.epoch; txn = c.args.txn; index = c.args.count; content = HasCommit c.args.number } in
    on_ok_weaker c.barrier-2.result (λ settled. c.barrier-2.ensures.content visible
    ∙ sector_reads (c.journal_start.result + c.args.place) (journal_sector c.args.geometry.now c.args.place) at j c.commit_sector-bytes.result (search rules) c.commit_sector-bytes.ensures.spelling
    (reads (g.D.Disk.moments c.barrier.new.self)) (reads (g.D.Disk.moments c.write.new.self)) (c.in_ok-write.ensures.ok visible)
    ∙ ap (λ (d : Image). put (journal_sector c.args.geometry.now c.args.place) (journal_bytes j) d) (c.barrier.ensures.content visible)) (c.barrier-2.ensures.ok visible)

pub returns-clause-crash : goal.returns-clause-crash
returns-clause-crash g c visible =
    let at : c.journal_start.result + c.args.place ≡ journal_sector c.args.geometry.now c.args.place = omega (arith, c.journal_start.ensures) in
    let j : JournalSector = record { epoch = c.args.epoch; txn = c.args.txn; index = c.args.count; content = HasCommit c.args.number } in
    waited_again g.D.Disk.keeps (c.journal_start.result + c.args.place) (journal_sector c.args.geometry.now c.args.place) at j c.commit_sector-bytes.result (search rules) c.commit_sector-bytes.ensures.spelling
    (g.D.Disk.moments c.args.disk.now) (g.D.Disk.moments c.barrier.new.self) (c.barrier.ensures.crash visible) (c.in_ok-barrier.ensures.ok visible) (c.barrier.ensures.content visible) (g.D.Disk.moments c.write.new.self) (c.write.ensures.crash visible)
    (g.D.Disk.moments c.barrier-2.new.self) (c.barrier-2.ensures.crash visible)

pub returns-in_err-barrier-clause-elsewhere : goal.returns-in_err-barrier-clause-elsewhere
returns-in_err-barrier-clause-elsewhere g c visible k off = ap (λ (d : Image). d k) (c.barrier.ensures.content visible)

pub returns-in_err-write-clause-elsewhere : goal.returns-in_err-write-clause-elsewhere
returns-in_err-write-clause-elsewhere g c visible k off =
    let at : c.journal_start.result + c.args.place ≡ journal_sector c.args.geometry.now c.args.place = omega (arith, c.journal_start.ensures) in
    off_journal c.args.geometry.now _ c.args.place 1 c.commit_sector-bytes.result _ _ at (omega (arith, c.requires.place)) (search rules) (c.write.ensures.content visible) k off
    ∙ ap (λ (d : Image). d k) (c.barrier.ensures.content visible)

pub returns-clause-elsewhere : goal.returns-clause-elsewhere
returns-clause-elsewhere g c visible k off =
    let at : c.journal_start.result + c.args.place ≡ journal_sector c.args.geometry.now c.args.place = omega (arith, c.journal_start.ensures) in
    ap (λ (d : Image). d k) (c.barrier-2.ensures.content visible)
    ∙ off_journal c.args.geometry.now _ c.args.place 1 c.commit_sector-bytes.result _ _ at (omega (arith, c.requires.place)) (search rules) (c.write.ensures.content visible) k off
    ∙ ap (λ (d : Image). d k) (c.barrier.ensures.content visible)
