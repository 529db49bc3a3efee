-- A file is committed, and no entry is drawn.
use Rattle.std.specs.Prelude.{◌≡◌, ◌≤◌}
use Rattle.ufs_joint.specs.Cells.{View}

-- The hand has the cells that it had, and has seen no less.
pub record HasSameCells (v w : View) : Type 0 where
  pub clients : w.clients ≡ v.clients
  pub asked : w.asked ≡ v.asked
  pub files : w.files ≡ v.files
  pub pools : w.pools ≡ v.pools
  pub names : w.names ≡ v.names
  pub store : w.store ≡ v.store
  pub seen : v.seen ≤ w.seen
