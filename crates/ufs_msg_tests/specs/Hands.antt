-- A hand that has no part.
use Rattle.std.specs.Prelude.{◌≡◌, []}
use Rattle.ufs_joint.specs.Cells.{View}

pub record HasNothing (v : View) : Type 0 where
  pub clients : v.clients ≡ []
  pub asked : v.asked ≡ []
  pub files : v.files ≡ []
  pub pools : v.pools ≡ []
  pub names : v.names ≡ []
  pub store : v.store ≡ []
