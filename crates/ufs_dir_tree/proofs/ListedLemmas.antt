-- The list of the names of a directory without slots.
use Rattle.std.proofs.Common.{◌≡◌, ℕ, List, [], refl}
use Rattle.ufs_dirs.proofs.Facts.{same_names_in}
use Rattle.ufs_dirs.specs.Names.{AreNamesIn}

-- no slot has a name
pub no_names_of : (names : List (List ℕ)) → AreNamesIn [] names → names ≡ []
no_names_of names are = same_names_in [] names [] are (record { rising = refl; each = λ name. refl })
