-- The names of a directory as a list.
use Rattle.std.specs.Prelude.{◌≡◌, ℕ, List, true, is_some}
use Rattle.std.specs.List.{list_any}
use Rattle.std.specs.Str.{bytes_eq}
pub use Rattle.ufs_base.specs.Order.{names_rise}
use Rattle.ufs_layout.specs.DentryForm.{DentryForm}
use Rattle.ufs_dirs.specs.Directory.{entry_of}

-- the names in the slots, rising
pub record AreNamesIn (slots : List DentryForm) (names : List (List ℕ)) : Type 0 where
  pub rising : names_rise names ≡ true
  pub each : (name : List ℕ) → list_any (bytes_eq name) names ≡ is_some (entry_of slots name)
