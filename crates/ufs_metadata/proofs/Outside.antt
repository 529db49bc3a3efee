-- What a fault says of an image, by what it says of another thing.
use Rattle.std.proofs.Common.{◌≡◌, Err}
use Rattle.std.specs.Prelude.{Result}
use Rattle.ufs_image.specs.Volume.{Refusal}
use Rattle.ufs_image.specs.Volume as image
use Rattle.ufs_metadata.specs.Faults.{BlamesNone, IsOutside, IsWhyNot}
use Rattle.ufs_metadata.specs.declared.fault.RecoverFault.{RecoverFault}
use Rattle.ufs_metadata.specs.declared.fault.RecoverFault.TheVariants.{NoSuperblock, BadVersion, BadGeometry, BadRecord, BadTree, Device, Lack}

-- One that comes from outside says nothing.
pub why_outside : {X : Type 0} (given : Result X Refusal) (f : RecoverFault) → IsOutside f → IsWhyNot given f
why_outside given NoSuperblock is = absurd is
why_outside given (BadVersion found) is = absurd is
why_outside given (BadGeometry number) is = absurd is
why_outside given (BadRecord sector) is = absurd is
why_outside given (BadTree inode) is = absurd is
why_outside given (Device fault) is = tt
why_outside given (Lack why) is = is

-- What isn't given for a reason, and what isn't given then for the same reason.
pub why_then : {X Y : Type 0} (given : Result X Refusal) (other : Result Y Refusal) → ((r : Refusal) → given ≡ Err r → other ≡ Err r) → (f : RecoverFault) → IsWhyNot given f → IsWhyNot other f
why_then given other leads NoSuperblock is = leads image.NoSuperblock is
why_then given other leads (BadVersion found) is = leads (image.BadVersion found) is
why_then given other leads (BadGeometry number) is = leads (image.BadGeometry number) is
why_then given other leads (BadRecord sector) is = leads (image.BadRecord sector) is
why_then given other leads (BadTree inode) is = leads (image.BadTree inode) is
why_then given other leads (Device fault) is = tt
why_then given other leads (Lack why) is = is

pub outside_blames : (f : RecoverFault) → IsOutside f → BlamesNone f
outside_blames NoSuperblock is = tt
outside_blames (BadVersion found) is = tt
outside_blames (BadGeometry number) is = tt
outside_blames (BadRecord sector) is = tt
outside_blames (BadTree inode) is = absurd is
outside_blames (Device fault) is = tt
outside_blames (Lack _) is = tt
