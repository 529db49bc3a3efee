use Rattle.std.proofs.Common.{ℕ, sym, subst, arith, ◌∙◌}
use Rattle.std.specs.Prelude.{IsSome}
use Rattle.std.specs.FinMap as fin
use Rattle.ufs_at_primary.proofs.Trials.{none_is}
use Rattle.ufs_at_primary.proofs.touching.free_number.Goals as goal

pub lend-requires : goal.lend-requires
lend-requires g c = sym c.has.ensures ∙ c.if-has.true

pub unreachable-requires : goal.unreachable-requires
unreachable-requires g c =
    let number = c.in_ok-held.ensures.number ∙ c.next_number-next.ensures in
    let live = c.tell_born.ensures.live in
    let low = c.requires.below c.args.names.now.value.next (subst (λ (n : ℕ). IsSome (fin.get c.args.names.now.value.held n)) number live) in
    absurd (omega (arith, low))

pub returns-clause-free : goal.returns-clause-free
returns-clause-free g c = none_is _ (sym c.has.ensures ∙ c.if-has.false)
