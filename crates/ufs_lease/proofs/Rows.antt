-- Pairs of paths, computed.
use Rattle.std.proofs.Common.{◌≡◌, true, false, refl}
use Rattle.std.specs.Prelude.{codes}
use Rattle.ufs_lease.specs.Leases.{is_at_or_below}

itself : is_at_or_below (codes "/f") (codes "/f") ≡ true
itself = refl

below : is_at_or_below (codes "/d") (codes "/d/f") ≡ true
below = refl

slashes_count_as_one : is_at_or_below (codes "//d") (codes "/d///f") ≡ true
slashes_count_as_one = refl

all_is_below_the_root : is_at_or_below (codes "/") (codes "/d/f") ≡ true
all_is_below_the_root = refl

above : is_at_or_below (codes "/d/f") (codes "/d") ≡ false
above = refl

a_name_that_goes_on : is_at_or_below (codes "/d") (codes "/df") ≡ false
a_name_that_goes_on = refl

beside : is_at_or_below (codes "/d/f") (codes "/d/g") ≡ false
beside = refl
