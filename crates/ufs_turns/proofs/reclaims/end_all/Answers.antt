use Rattle.std.proofs.Common.{inl, inr}
use Rattle.ufs_turns.specs.AllLent.{reclaiming_turn}
use Rattle.ufs_turns.proofs.reclaims.end_all.Goals as goal

pub mark-requires-clause-may : goal.mark-requires-clause-may
mark-requires-clause-may g c =
    inr (inr (inl (record { turn = reclaiming_turn g.D.Door.keeps c.args.done c.args.told (g.D.Door.store c.args.store.now) c.args.hand.now; may = c.requires.may; is = c.requires.leaves })))
