use Rattle.std.proofs.Common.{sym, subst}
use Rattle.ufs_joint.specs.Cells.{NamesCell}
use Rattle.ufs_noted.specs.Noted.{Noted}
use Rattle.ufs_held_names.specs.HeldNames.{first_names}
use Rattle.ufs_held_names.specs.SyncAll.{AreAllLive, HasSyncedAll}
use Rattle.ufs_held_names.proofs.After.{seen_noted}
use Rattle.ufs_held_names.proofs.held_names.HeldNames.sync.Goals as goal

pub sync_lent-requires-clause-all : goal.sync_lent-requires-clause-all
sync_lent-requires-clause-all g c =
    subst (λ (q : Noted). AreAllLive q.names c.args.files.now) (sym (seen_noted c.self.inside.noted c.self.inside.right c.self.invariant.0 c.args.self.now c.self.view_is)) c.requires.all

pub returns : goal.returns
returns g c =
    let r = c.sync_lent.result in
    let t : HasSyncedAll g.N.Naming.start.is_visible c.args.ask c.args.by c.args.self.now (first_names c.sync_lent.new.noted c.sync_lent.new.right.names) c.args.files.now c.sync_lent.new.files (g.T.Turns.tells c.args.door.now) (g.T.Turns.tells c.sync_lent.new.door) r.entry c.args.guest r.guest =
    subst (λ (q : NamesCell). HasSyncedAll g.N.Naming.start.is_visible c.args.ask c.args.by q (first_names c.sync_lent.new.noted c.sync_lent.new.right.names) c.args.files.now c.sync_lent.new.files (g.T.Turns.tells c.args.door.now) (g.T.Turns.tells c.sync_lent.new.door) r.entry c.args.guest r.guest)
    c.self.view_is c.sync_lent.ensures.synced in
    record { entry = t.entry; replied = t.replied; guest = t.guest; names = t.names; files = t.files; freed = t.freed; short = t.short; faults = t.faults; stop = t.stop; telling = t.telling; halts = t.halts; halted = t.halted; later = t.later; seen = t.seen }
