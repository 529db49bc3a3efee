use Rattle.std.proofs.Common.{inl, inr}
use Rattle.ufs_file_commits.specs.State.{state_of}
use Rattle.ufs_turns.specs.HeldStore.{sync_turn}
use Rattle.ufs_turns.proofs.held_store.end_turn.Goals as goal

pub mark-requires-clause-may : goal.mark-requires-clause-may
mark-requires-clause-may g c =
    inr (inr (inl (record { turn = sync_turn g.D.Door.keeps c.args.done c.args.told (state_of c.args.file.now c.args.commits.now) (g.D.Door.store c.args.store.now) c.args.hand.now; may = c.requires.may; is = c.requires.leaves })))
