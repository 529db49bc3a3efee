use Rattle.std.proofs.Common.{◌||◌, subst, ◌∙◌}
use Rattle.std.specs.Prelude.{IsSome}
use Rattle.std.specs.FinMap as fin
use Rattle.std.specs.FinSet as set
use Rattle.ufs_noted.specs.Noted.{Noted}
use Rattle.ufs_held_names.specs.HeldNames.{first_names}
use Rattle.ufs_held_names.proofs.After.{seen_noted}
use Rattle.ufs_held_names.proofs.Births.{births_same}
use Rattle.ufs_held_names.proofs.held_names.HeldNames.tell_born.Goals as goal

pub returns-clause-same : goal.returns-clause-same
returns-clause-same g c = c.tell_lent.ensures.same ∙ c.self.view_is

pub returns-clause-told : goal.returns-clause-told
returns-clause-told g c = c.tell_lent.ensures.told ∙ (λ i. record (c.args.file.now) { born = c.args.file.now.born || set.contains (c.self.view_is i).named c.args.file.now.value.file.file })

pub returns-clause-live : goal.returns-clause-live
returns-clause-live g c =
    subst (λ (q : Noted). IsSome (fin.get q.names.held c.args.file.now.value.file.file)) (seen_noted c.self.inside.noted c.self.inside.right c.self.invariant.0 c.args.self.now c.self.view_is) c.tell_lent.ensures.live

pub invariant_of-self : goal.invariant_of-self
invariant_of-self g c =
    let x = c.self.inside.noted in (
      c.tell_lent.ensures.held,
      c.tell_lent.ensures.calm,
      births_same (first_names x c.self.inside.right.names) (first_names x c.tell_lent.new.right.names) c.self.inside.reached c.tell_lent.ensures.same c.self.invariant.2,
    )
