use Rattle.std.proofs.Common.{◌*◌, sym, subst}
use Rattle.std.proofs.lemmas.Result.{on_ok_weaker}
use Rattle.ufs_disk.specs.Disk.{IsPartlyWritten}
use Rattle.ufs_disk.specs.Moments.{reads}
use Rattle.ufs_image.specs.Images.{block_at}
use Rattle.ufs_disk.proofs.Runs.{weaker}
use Rattle.ufs_disk.proofs.Noted.{on_err}
use Rattle.ufs_ledger.specs.Ledger.{IsLeftBy, IsLedgerOf}
use Rattle.ufs_ledger.specs.Changes.{written, tried}
use Rattle.ufs_ledger.proofs.Wholes.{images_of}
use Rattle.ufs_ledger.proofs.Frames.{ready_from, unused_from, written_journal}
use Rattle.ufs_ledger.proofs.States.{writing, wrote, tried_to}
use Rattle.ufs_ledger.proofs.calls.write_data.Goals as goal

pub returns-clause-crash : goal.returns-clause-crash
returns-clause-crash g c visible l is none used may =
    let old = g.D.Disk.moments c.args.disk.now in
    let size = g.D.Disk.size c.args.disk.now in
    weaker g.D.Disk.keeps (IsPartlyWritten (8 * c.args.block) c.args.bytes.now old.state) (IsLeftBy size (written c.args.block c.args.bytes.now l))
    (λ image part. writing size old.state l c.args.block c.args.bytes.now (images_of size old.state (g.met.D.Disk.whole visible c.args.disk.now)) none used is may image part)
    old (g.D.Disk.moments c.write.new.self) (c.write.ensures.crash visible)

pub returns-clause-ok : goal.returns-clause-ok
returns-clause-ok g c visible =
    let old = g.D.Disk.moments c.args.disk.now in
    let size = g.D.Disk.size c.args.disk.now in
    on_ok_weaker c.write.result
    (λ reads l is none used may. subst (λ n. IsLedgerOf n (g.D.Disk.moments c.write.new.self).state (written c.args.block c.args.bytes.now l)) (sym c.write.ensures.size)
    (wrote size old.state l c.args.block c.args.bytes.now (images_of size old.state (g.met.D.Disk.whole visible c.args.disk.now)) none used is may (g.D.Disk.moments c.write.new.self).state (c.write.ensures.crash visible).after reads))
    (c.write.ensures.ok visible)

pub returns-clause-err : goal.returns-clause-err
returns-clause-err g c visible =
    let old = g.D.Disk.moments c.args.disk.now in
    let size = g.D.Disk.size c.args.disk.now in
    on_err c.write.result _
    (λ l is none used may. subst (λ n. IsLedgerOf n (g.D.Disk.moments c.write.new.self).state (tried c.args.block c.args.bytes.now (block_at (reads (g.D.Disk.moments c.write.new.self)) c.args.block) l)) (sym c.write.ensures.size)
    (tried_to size old.state l c.args.block c.args.bytes.now (images_of size old.state (g.met.D.Disk.whole visible c.args.disk.now)) none used is may (g.D.Disk.moments c.write.new.self).state (c.write.ensures.crash visible).after (c.write.ensures.content visible)))

pub returns-clause-ready : goal.returns-clause-ready
returns-clause-ready g c visible geometry epoch used number from is =
    ready_from geometry epoch used number (g.D.Disk.moments c.args.disk.now).state (g.D.Disk.moments c.write.new.self).state
    (λ image left. written_journal geometry c.args.block from c.args.bytes.now c.requires.sized (g.D.Disk.moments c.args.disk.now).state image ((c.write.ensures.crash visible).after image left)) is

pub returns-clause-unused : goal.returns-clause-unused
returns-clause-unused g c visible geometry epoch txn from is =
    unused_from geometry epoch txn (g.D.Disk.moments c.args.disk.now).state (g.D.Disk.moments c.write.new.self).state
    (λ image left. written_journal geometry c.args.block from c.args.bytes.now c.requires.sized (g.D.Disk.moments c.args.disk.now).state image ((c.write.ensures.crash visible).after image left)) is
