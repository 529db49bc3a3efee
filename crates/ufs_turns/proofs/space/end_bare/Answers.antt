use Rattle.std.proofs.Common.{inl, inr}
use Rattle.ufs_turns.specs.HeldStore.{bare_turn}
use Rattle.ufs_turns.proofs.space.end_bare.Goals as goal

pub mark-requires-clause-may : goal.mark-requires-clause-may
mark-requires-clause-may g c =
    inr (inr (inl (record { turn = bare_turn g.D.Door.keeps c.args.told (g.D.Door.store c.args.store.now) c.args.hand.now; may = c.requires.may; is = c.requires.leaves })))
