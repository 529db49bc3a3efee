use Rattle.ufs_store.specs.Tables.{state_of}
use Rattle.ufs_store.proofs.Kept.{still_has}
use Rattle.ufs_store.proofs.store.StoreDoor.read_block.Goals as goal

pub returns-in-Ok-clause-ledger : goal.returns-in-Ok-clause-ledger
returns-in-Ok-clause-ledger g c visible l has =
    let j = c.args.self.now.tables.journal in
    let s = state_of (g.D.Disk.size c.args.self.now.disk) (g.D.Disk.moments c.args.self.now.disk) (g.D.Disk.faults c.args.self.now.disk) c.args.self.now.tables in
    still_has s (g.D.Disk.size c.read_data.new.disk) (g.D.Disk.moments c.read_data.new.disk) (g.D.Disk.faults c.read_data.new.disk) l has (c.read_data.ensures.ledger visible l has.by.is)
    (c.read_data.ensures.ready visible j.geometry j.epoch j.used j.number has.by.ready) (λ txn low. c.read_data.ensures.unused visible j.geometry j.epoch txn (has.unused txn low))

pub returns-in-Err-clause-ledger : goal.returns-in-Err-clause-ledger
returns-in-Err-clause-ledger g c visible l has =
    let j = c.args.self.now.tables.journal in
    let s = state_of (g.D.Disk.size c.args.self.now.disk) (g.D.Disk.moments c.args.self.now.disk) (g.D.Disk.faults c.args.self.now.disk) c.args.self.now.tables in
    still_has s (g.D.Disk.size c.read_data.new.disk) (g.D.Disk.moments c.read_data.new.disk) (g.D.Disk.faults c.read_data.new.disk) l has (c.read_data.ensures.ledger visible l has.by.is)
    (c.read_data.ensures.ready visible j.geometry j.epoch j.used j.number has.by.ready) (λ txn low. c.read_data.ensures.unused visible j.geometry j.epoch txn (has.unused txn low))
