use Rattle.std.proofs.Common.{subst}
use Rattle.ufs_joint.specs.Cells.{NamesCell}
use Rattle.ufs_held_names.specs.HeldNames.{AreCommitted, first_names}
use Rattle.ufs_held_names.specs.SyncAll.{StopsShort}
use Rattle.ufs_held_names.proofs.Committed.{on_err, on_ok}
use Rattle.ufs_held_names.proofs.held_names.HeldNames.commit_all.Goals as goal

pub returns-clause-names : goal.returns-clause-names
returns-clause-names g c =
    on_ok c.commit_all.result (λ a. subst (λ (q : NamesCell). AreCommitted g.N.Naming.start.is_visible q (first_names c.commit_all.new.noted c.commit_all.new.right.names)) c.self.view_is a) c.commit_all.ensures.names

pub returns-clause-short : goal.returns-clause-short
returns-clause-short g c =
    on_err c.commit_all.result
    (λ a. subst (λ (q : NamesCell). StopsShort g.N.Naming.start.is_visible q (first_names c.commit_all.new.noted c.commit_all.new.right.names) c.args.files.now c.commit_all.new.files (g.T.Turns.tells c.args.door.now) (g.T.Turns.tells c.commit_all.new.door)) c.self.view_is a)
    c.commit_all.ensures.short
