-- What is so of each file that goes between servers.
use Rattle.std.specs.Prelude.{◌≡◌, ◌<◌, ◌^◌, true}
use Rattle.ufs_joint.specs.Cells.{FileCell}

-- Its number is below those of pools, and its birth is known as committed.
pub record IsOut (cell : FileCell) : Type 0 where
  pub low : cell.value.file.file < 2 ^ 31
  pub born : cell.born ≡ true
