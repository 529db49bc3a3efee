use Rattle.std.proofs.Common.{◌≤◌, ℕ, eqb, subst}
use Rattle.std.specs.Prelude.{IsSome}
use Rattle.ufs_held.specs.Together.{HasThemToo, under_numbers}
use Rattle.ufs_hand_laws.specs.Owned.{count}
use Rattle.ufs_home.specs.Home.{HomeState}
use Rattle.ufs_home.specs.Lending.{files_in}
use Rattle.ufs_home.specs.Places.{file_here}
use Rattle.ufs_home.proofs.home.Home.join_all.Goals as goal

pub returns-clause-joined : goal.returns-clause-joined
returns-clause-joined g c = subst (λ (h : HomeState). HasThemToo (files_in h.places) c.args.hand.now c.join_all.new.hand) c.self.view_is c.join_all.ensures.joined

pub returns-clause-each : goal.returns-clause-each
returns-clause-each g c =
    subst (λ (h : HomeState). (f : ℕ) → IsSome (file_here h.places f) → 1 ≤ count eqb f (under_numbers (files_in h.places))) c.self.view_is c.join_all.ensures.each
