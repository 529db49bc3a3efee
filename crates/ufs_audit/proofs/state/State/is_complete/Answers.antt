use Rattle.std.proofs.Common.{sym, subst, ◌≡◌, ◌<◌, ℕ, List, Some, length, true, false, []}
use Rattle.std.specs.Prelude.{slice_get}
use Rattle.ufs_model.specs.History.{requests_of}
use Rattle.ufs_audit.proofs.StepLemmas.{complete_told}
use Rattle.ufs_audit.proofs.state.State.is_complete.Goals as goal

pub returns : goal.returns
returns c = λ start history stands.
    complete_told start c.args.clients.now [] history [] c.args.self.now.tree c.args.self.now.counts.items c.args.self.now.faults.keys stands c.are_served.result
    (subst (λ (l : List ℕ). c.are_served.result ≡ true → (client : ℕ) → client < length c.args.clients.now → slice_get l client ≡ Some (length (requests_of c.args.clients.now client))) c.as_slice.ensures.value c.are_served.ensures.yes)
    (subst (λ (l : List ℕ). c.are_served.result ≡ false → ((client : ℕ) → client < length c.args.clients.now → slice_get l client ≡ Some (length (requests_of c.args.clients.now client))) → ⊥) c.as_slice.ensures.value c.are_served.ensures.no)
