use Rattle.std.proofs.Common.{◌≡◌, ◌≤◌, ◌<◌, ◌+◌, ◌*◌, ℕ, Some, subst, ◌∙◌}
use Rattle.std.specs.Prelude.{IsSome}
use Rattle.std.specs.FinMap as fin
use Rattle.ufs_model.specs.Asks.{file_in}
use Rattle.ufs_noted.specs.Noted.{Noted}
use Rattle.ufs_held_names.specs.Asked.{IsNeeded}
use Rattle.ufs_held_names.specs.HeldNames.{first_names}
use Rattle.ufs_held_names.proofs.After.{seen_noted}
use Rattle.ufs_held_names.proofs.Births.{births_same}
use Rattle.ufs_held_names.proofs.held_names.HeldNames.see.Goals as goal

pub invariant_of-self : goal.invariant_of-self
invariant_of-self g c =
    let x = c.self.inside.noted in (
      c.see_asked.ensures.held,
      c.see_asked.ensures.calm,
      births_same (first_names x c.self.inside.right.names) (first_names x c.see_asked.new.right.names) c.self.inside.reached c.see_asked.ensures.same c.self.invariant.2,
    )

pub returns-clause-same : goal.returns-clause-same
returns-clause-same g c = c.see_asked.ensures.same ∙ c.self.view_is

pub returns-clause-needed : goal.returns-clause-needed
returns-clause-needed g c =
    subst (λ (n : Noted). (file : ℕ) → IsNeeded n.names c.args.ask.now (Some file) → IsSome (fin.get n.names.held file)) (seen_noted c.self.inside.noted c.self.inside.right c.self.invariant.0 c.args.self.now c.self.view_is) c.see_asked.ensures.needed

pub returns-clause-opened : goal.returns-clause-opened
returns-clause-opened g c =
    subst (λ (n : Noted). (file : ℕ) → file_in c.args.ask.now.desc ≡ Some file → IsSome (fin.get n.names.held file)) (seen_noted c.self.inside.noted c.self.inside.right c.self.invariant.0 c.args.self.now c.self.view_is) c.see_asked.ensures.opened

pub returns-clause-below : goal.returns-clause-below
returns-clause-below g c =
    subst (λ (n : Noted). (file : ℕ) → IsSome (fin.get n.names.held file) → file < n.names.next) (seen_noted c.self.inside.noted c.self.inside.right c.self.invariant.0 c.args.self.now c.self.view_is) c.see_asked.ensures.below

pub returns-clause-few : goal.returns-clause-few
returns-clause-few g c =
    subst (λ (n : Noted). n.names.next ≤ g.N.Naming.start.tree.next + 16 * 65536) (seen_noted c.self.inside.noted c.self.inside.right c.self.invariant.0 c.args.self.now c.self.view_is) c.see_asked.ensures.few
