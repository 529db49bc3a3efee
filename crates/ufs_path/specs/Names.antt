-- The components of paths.
use Rattle.std.specs.Prelude.{ℕ, List, ◌≡◌, ◌<◌, ◌≤◌, ◌==◌, not, length, false, IsTrue}
use Rattle.std.specs.List.{list_all}
use Rattle.ufs_model.specs.Paths.{in_range, is_dots}

-- a component that may stand in a path
pub record IsName (name : List ℕ) : Type 0 where
  pub some : 0 < length name
  pub short : length name ≤ 58
  pub no_slash : IsTrue (list_all (λ b. not (b == 47)) name)
  -- bytes 0x21 to 0x7e
  pub printable : IsTrue (list_all in_range name)
  -- not `.` and not `..`
  pub no_dots : is_dots name ≡ false
