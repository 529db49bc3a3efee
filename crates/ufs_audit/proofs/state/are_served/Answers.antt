use Rattle.std.proofs.Common.{◌≡◌, ◌<◌, ◌+◌, ◌∙◌, ℕ, List, Some, refl, sym, subst, length, arith, inl, inr, true, false}
use Rattle.std.specs.Prelude.{slice_get}
use Rattle.std.proofs.lemmas.Bool.{cases_eq}
use Rattle.ufs_model.specs.History.{requests_of}
use Rattle.ufs_audit.proofs.state.are_served.Goals as goal

pub loop-i-preserved : goal.loop-i-preserved
loop-i-preserved c = λ client less. elim (cases_eq c.loop-i.i client) [
  | inl same ↦ subst (λ (k : ℕ). slice_get c.args.counts.now k ≡ Some (length (requests_of c.args.clients.now k))) same (c.if-not-is_served.ensures.0 refl)
  | inr apart ↦ c.loop-i.invariant client (omega (arith, less, apart))
]

pub returns-then-not-is_served-clause-no : goal.returns-then-not-is_served-clause-no
returns-then-not-is_served-clause-no c = λ _ all. let test = c.loop-i-test.true in let yes = c.if-not-is_served.ensures.1 (all c.loop-i.i (omega (arith, test))) in cc

pub returns-clause-yes : goal.returns-clause-yes
returns-clause-yes c = λ _ client less. let past = c.loop-i-test.false in c.loop-i.invariant client (omega (arith, past, less))
