-- A file is told its birth, by a hand that lends the names.
use Rattle.std.specs.Prelude.{ℕ, ◌≡◌, ◌≤◌, List, [], ◌∷◌}
use Rattle.ufs_joint.specs.Cells.{NamesCell, View}
use Rattle.ufs_joint.specs.Marks.{births_told}

abbrev pub told_in : List (Unit {0} × NamesCell) → View → View
told_in [] v = v
told_in (c ∷ cs) v = births_told c.1 v

-- the hand once its files were told what its names know
abbrev pub told_view : View → View
told_view v = told_in v.names v

-- The hand has what it had, and has seen no less.
pub record HasStill (v w : View) : Type 0 where
  pub clients : w.clients ≡ v.clients
  pub asked : w.asked ≡ v.asked
  pub files : w.files ≡ v.files
  pub pools : w.pools ≡ v.pools
  pub names : w.names ≡ v.names
  pub store : w.store ≡ v.store
  pub faults : w.faults ≡ v.faults
  pub seen : v.seen ≤ w.seen
