-- What a lack isn't.
use Rattle.std.proofs.Common.{◌≡◌, false, refl}
use Rattle.ufs_base.specs.declared.lack.Lack.{Lack}
use Rattle.ufs_base.specs.declared.lack.Lack.TheVariants.{Memory, AtEnd, Unsound, Told}
use Rattle.ufs_metadata.specs.Lacks.{IsOfNumbers}
use Rattle.ufs_brink.specs.Closes.{tells_unsound}
use Rattle.ufs_brink.specs.declared.closing.CloseFault.TheVariants as cause
use Rattle.ufs_store.specs.Ends.{IsMemory}

pub of_numbers : (w : Lack) → IsMemory w → IsOfNumbers w
of_numbers (Memory refused) is = tt
of_numbers AtEnd is = absurd is
of_numbers Unsound is = absurd is
of_numbers Told is = absurd is

pub sound_lack : (w : Lack) → IsOfNumbers w → tells_unsound (cause.Lack w) ≡ false
sound_lack (Memory refused) is = refl
sound_lack AtEnd is = refl
sound_lack Unsound is = absurd is
sound_lack Told is = absurd is
