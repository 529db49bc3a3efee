use Rattle.std.proofs.Common.{◌∙◌, inl, inr}
use Rattle.ufs_turns.specs.HeldStore.{begun_in}
use Rattle.ufs_turns.proofs.held_store.begin_turn.Goals as goal

pub mark-requires-clause-may : goal.mark-requires-clause-may
mark-requires-clause-may g c =
    let v = c.args.hand.now in
    let s = c.requires.store in
    inr (inl (record { store = s.0; has = s.1; is = c.requires.leaves ∙ (λ i n. begun_in (s.1 i) v n) }))
