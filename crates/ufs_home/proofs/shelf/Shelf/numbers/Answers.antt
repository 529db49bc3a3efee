use Rattle.std.proofs.Common.{◌≡◌, ℕ, List, subst}
use Rattle.std.specs.Prelude.{IfOk}
use Rattle.ufs_home.proofs.Shelves.{numbers_in}
use Rattle.ufs_home.proofs.shelf.Shelf.numbers.Goals as goal

pub returns : goal.returns
returns g c =
    subst (λ (ks : List ℕ). IfOk c.numbers_of.result (λ numbers. numbers.items ≡ ks)) (numbers_in c.self.inside.places c.args.self.now c.self.view_is c.len-count.ensures.ordered) c.numbers_of.ensures
