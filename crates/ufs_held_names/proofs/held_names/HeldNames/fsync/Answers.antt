use Rattle.std.proofs.Common.{subst}
use Rattle.ufs_joint.specs.Cells.{NamesCell}
use Rattle.ufs_held_names.specs.HeldNames.{first_names}
use Rattle.ufs_held_names.specs.Synced.{HasSynced}
use Rattle.ufs_held_names.proofs.held_names.HeldNames.fsync.Goals as goal

pub returns : goal.returns
returns g c =
    let r = c.fsync_lent.result in
    let now = first_names c.fsync_lent.new.noted c.fsync_lent.new.right.names in
    let t : HasSynced g.N.Naming.start.is_visible c.args.ask c.args.by c.args.self.now now (g.T.Turns.tells c.args.door.now) (g.T.Turns.tells c.fsync_lent.new.door) c.args.file r.file r.entry r.desc c.args.guest r.guest =
    subst (λ (q : NamesCell). HasSynced g.N.Naming.start.is_visible c.args.ask c.args.by q now (g.T.Turns.tells c.args.door.now) (g.T.Turns.tells c.fsync_lent.new.door) c.args.file r.file r.entry r.desc c.args.guest r.guest) c.self.view_is c.fsync_lent.ensures.synced in
    record {
      entry = t.entry;
      replied = t.replied;
      desc = t.desc;
      guest = t.guest;
      names = t.names;
      committed = t.committed;
      known = t.known;
      born = t.born;
      rest = t.rest;
      short = t.short;
      faults = t.faults;
      stop = t.stop;
      freed = t.freed;
      unfreed = t.unfreed;
      telling = t.telling;
      halts = t.halts;
      halted = t.halted;
      later = t.later;
      seen = t.seen;
    }
