use Rattle.std.proofs.Common.{◌≡◌, ◌∙◌, ◌*◌, ap, sym, subst, length, arith}
use Rattle.std.specs.Prelude.{◌/◌}
use Rattle.std.proofs.lemmas.Result.{on_ok_weaker}
use Rattle.ufs_disk.specs.Disk.{IsImage, bytes_from}
use Rattle.ufs_disk.specs.Moments.{reads}
use Rattle.ufs_disk.proofs.Runs.{weaker}
use Rattle.ufs_ledger.specs.Ledger.{IsLeftBy, IsLedgerOf}
use Rattle.ufs_ledger.proofs.Mixing.{read_bytes}
use Rattle.ufs_ledger.proofs.States.{barrier_quiet}
use Rattle.ufs_ledger.proofs.Committing.{ready_less, unused_less}
use Rattle.ufs_ledger.proofs.calls.read_data.Goals as goal

pub returns-clause-bytes : goal.returns-clause-bytes
returns-clause-bytes g c visible = on_ok_weaker c.read.result
    (λ bytes l is data' free.
    let eight : length c.args.buf.now / 512 ≡ 8 = omega (arith, c.requires.sized) in
    bytes ∙ ap (bytes_from (reads (g.D.Disk.moments c.args.disk.now)) (8 * c.args.block)) eight ∙ read_bytes (reads (g.D.Disk.moments c.args.disk.now)) 8 (8 * c.args.block) ∙ is.reads c.args.block data' free) (c.read.ensures.bytes visible)

pub returns-clause-crash : goal.returns-clause-crash
returns-clause-crash g c visible l is =
    weaker g.D.Disk.keeps (IsImage (g.D.Disk.moments c.args.disk.now).state) (IsLeftBy (g.D.Disk.size c.args.disk.now) l) (λ image left. is.images image left) (g.D.Disk.moments c.args.disk.now) (g.D.Disk.moments c.read.new.self) (c.read.ensures.crash visible)

pub returns-clause-ledger : goal.returns-clause-ledger
returns-clause-ledger g c visible l is = subst (λ n. IsLedgerOf n (g.D.Disk.moments c.read.new.self).state l) (sym c.read.ensures.size)
    (barrier_quiet (g.D.Disk.size c.args.disk.now) (g.D.Disk.moments c.args.disk.now).state (g.D.Disk.moments c.read.new.self).state l is (c.read.ensures.crash visible).after (c.read.ensures.content visible))

pub returns-clause-ready : goal.returns-clause-ready
returns-clause-ready g c visible geometry epoch used number is = ready_less geometry epoch used number (g.D.Disk.moments c.args.disk.now).state (g.D.Disk.moments c.read.new.self).state (c.read.ensures.crash visible).after is

pub returns-clause-unused : goal.returns-clause-unused
returns-clause-unused g c visible geometry epoch txn is = unused_less geometry epoch txn (g.D.Disk.moments c.args.disk.now).state (g.D.Disk.moments c.read.new.self).state (c.read.ensures.crash visible).after is
