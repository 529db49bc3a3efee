use Rattle.std.proofs.Common.{◌||◌, ℕ, sym, subst, ◌∙◌}
use Rattle.std.specs.Prelude.{IsSome}
use Rattle.std.specs.FinMap as fin
use Rattle.std.specs.FinSet as set
use Rattle.ufs_file_commits.specs.State.{state_of}
use Rattle.ufs_held.proofs.After.{named_in}
use Rattle.ufs_held.proofs.held.HeldFile.tell_born.Goals as goal

pub returns-clause-told : goal.returns-clause-told
returns-clause-told g c cell has =
    let named = named_in (state_of c.self.inside.hand c.self.inside.commits) c.self.inside.right c.self.invariant.0 c.args.self.now c.self.view_is in
    c.tell_lent.ensures.told cell has ∙ (λ i. record (c.self.view_is i) { born = (c.self.view_is i).born || set.contains cell.named (sym named i) })

pub returns-clause-live : goal.returns-clause-live
returns-clause-live g c cell has =
    let named = named_in (state_of c.self.inside.hand c.self.inside.commits) c.self.inside.right c.self.invariant.0 c.args.self.now c.self.view_is in
    subst (λ (n : ℕ). IsSome (fin.get cell.value.held n)) (sym named) (c.tell_lent.ensures.live cell has)
