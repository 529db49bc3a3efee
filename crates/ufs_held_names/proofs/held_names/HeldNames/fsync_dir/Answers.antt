use Rattle.std.proofs.Common.{subst}
use Rattle.ufs_joint.specs.Cells.{NamesCell}
use Rattle.ufs_held_names.specs.Dirs.{HasSyncedDir}
use Rattle.ufs_held_names.specs.HeldNames.{first_names}
use Rattle.ufs_held_names.proofs.held_names.HeldNames.fsync_dir.Goals as goal

pub returns : goal.returns
returns g c =
    let r = c.fsync_dir_lent.result in
    let now = first_names c.fsync_dir_lent.new.noted c.fsync_dir_lent.new.right.names in
    let t : HasSyncedDir g.N.Naming.start.is_visible c.args.ask c.args.by c.args.self.now now (g.T.Turns.tells c.args.door.now) (g.T.Turns.tells c.fsync_dir_lent.new.door) r.entry c.args.guest r.guest =
    subst (λ (q : NamesCell). HasSyncedDir g.N.Naming.start.is_visible c.args.ask c.args.by q now (g.T.Turns.tells c.args.door.now) (g.T.Turns.tells c.fsync_dir_lent.new.door) r.entry c.args.guest r.guest) c.self.view_is c.fsync_dir_lent.ensures.synced in
    record {
      entry = t.entry;
      replied = t.replied;
      guest = t.guest;
      names = t.names;
      kept = t.kept;
      faults = t.faults;
      stop = t.stop;
      free = t.free;
      telling = t.telling;
      halts = t.halts;
      halted = t.halted;
      later = t.later;
      seen = t.seen;
    }
