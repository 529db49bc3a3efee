use Rattle.std.proofs.Common.{refl, is_some, ap, sym, subst}
use Rattle.ufs_at_primary.specs.Dirs.{IsDirDone}
use Rattle.ufs_at_primary.proofs.dirs.sync_dir.Goals as goal

pub refuse_unopened-requires : goal.refuse_unopened-requires
refuse_unopened-requires g c = (let f = c.requires in record { guest = (f.0, f.1, f.2, f.3, f.5 c.in-None.is); server = tt })

pub fsync_dir-requires : goal.fsync_dir-requires
fsync_dir-requires g c = (let f = c.requires in record { guest = (f.0, f.1, f.2, f.3, f.4 (ap is_some c.in-Some.is)); server = tt })

pub returns-in-None-clause-done : goal.returns-in-None-clause-done
returns-in-None-clause-done g c =
    let tells = g.T.Turns.tells c.args.door.now in
    subst (IsDirDone g.N.Naming.start.is_visible tells tells c.args.names.now c.args.names.now c.refuse_unopened.result.entry.reply) (sym c.in-None.is) (record { refused = c.refuse_unopened.ensures.replied; names = refl; store = refl })

pub returns-in-Some-clause-done : goal.returns-in-Some-clause-done
returns-in-Some-clause-done g c =
    let e = c.fsync_dir.ensures in
    subst (IsDirDone g.N.Naming.start.is_visible (g.T.Turns.tells c.args.door.now) (g.T.Turns.tells c.fsync_dir.new.door) c.args.names.now c.fsync_dir.new.self c.fsync_dir.result.entry.reply) (sym c.in-Some.is)
    (record { replied = e.replied; names = e.names; kept = e.kept; free = e.free; telling = e.telling; halts = e.halts; halted = e.halted })
