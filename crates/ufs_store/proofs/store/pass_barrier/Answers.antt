use Rattle.std.proofs.Common.{refl, subst}
use Rattle.ufs_ledger.specs.Ledger.{Ledger}
use Rattle.ufs_store.specs.Ledgers.{HasLedger}
use Rattle.ufs_store.specs.Tables.{state_of}
use Rattle.ufs_store.proofs.store.pass_barrier.Goals as goal

pub returns-then-not-tables-clause-ok : goal.returns-then-not-tables-clause-ok
returns-then-not-tables-clause-ok g c visible l has =
    let s = state_of (g.D.Disk.size c.args.disk.now) (g.D.Disk.moments c.args.disk.now) (g.D.Disk.faults c.args.disk.now) c.args.tables.now in
    subst (λ (m : Ledger). HasLedger s m) (λ i. record l { blocks = λ block. record { older = has.settled c.if-not-tables.true block i; seen = (l.blocks block).seen } }) has

pub returns-in-Ok-clause-crash : goal.returns-in-Ok-clause-crash
returns-in-Ok-clause-crash g c visible l has = c.settle.ensures.crash visible l has.by.is

pub returns-in-Ok-clause-ok : goal.returns-in-Ok-clause-ok
returns-in-Ok-clause-ok g c visible l has =
    let j = c.args.tables.now.journal in
    record {
      going = has.going;
      by = record {
        is = c.in-Ok.ensures.ok visible l has.by.is has.by.none;
        none = has.by.none;
        in_use = has.by.in_use;
        geometry = has.by.geometry;
        epoch = has.by.epoch;
        later = has.by.later;
        ready = c.settle.ensures.ready visible j.geometry j.epoch j.used j.number has.by.ready;
      };
      superblock_is = has.superblock_is;
      added = has.added;
      numbered = has.numbered;
      unused = λ txn low. c.settle.ensures.unused visible j.geometry j.epoch txn (has.unused txn low);
      settled = λ _ block. refl;
      older = has.older;
      fits = has.fits;
    }

pub returns-in-Err-clause-crash : goal.returns-in-Err-clause-crash
returns-in-Err-clause-crash g c visible l has = c.settle.ensures.crash visible l has.by.is

pub returns-in-Err-clause-err : goal.returns-in-Err-clause-err
returns-in-Err-clause-err g c visible l has = c.settle.ensures.ledger visible l has.by.is
