use Rattle.std.proofs.Common.{◌≡◌, ℕ, subst}
use Rattle.std.specs.Prelude.{IfOk, IsSome}
use Rattle.ufs_joint.specs.Cells.{FileCell}
use Rattle.ufs_hand_laws.specs.Owned.{Has}
use Rattle.ufs_home.specs.Home.{HomeState}
use Rattle.ufs_home.specs.Lending.{AreLent}
use Rattle.ufs_home.specs.Places.{file_here}
use Rattle.ufs_home.proofs.home.Home.lend_all.Goals as goal

pub returns-clause-lent : goal.returns-clause-lent
returns-clause-lent g c = subst (λ (h : HomeState). IfOk c.lend_all.result (λ files. AreLent h.places c.lend_all.new.shelf files.items)) c.self.view_is c.lend_all.ensures.lent

pub returns-clause-all : goal.returns-clause-all
returns-clause-all g c =
    subst (λ (h : HomeState). IfOk c.lend_all.result (λ files. (file : ℕ) → IsSome (file_here h.places file) → (x : FileCell) × Has x files.items × (x.value.file.file ≡ file))) c.self.view_is c.lend_all.ensures.all
