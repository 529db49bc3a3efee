-- Why an image stands for no tree, step by step.
use Rattle.std.proofs.Common.{◌≡◌, ℕ, Ok, ap, ◌∙◌}
use Rattle.std.specs.Prelude.{Result}
use Rattle.ufs_base.specs.Images.{Image}
use Rattle.ufs_image.specs.Damage.{bad_tree}
use Rattle.ufs_image.specs.Volume.{Refusal, Volume, volume}
use Rattle.ufs_image.specs.Opens.{opens, entries_of, by_damage, tree_from}
use Rattle.ufs_metadata.specs.Faults.{IsWhyNot}
use Rattle.ufs_metadata.proofs.Outside.{why_then}
use Rattle.ufs_metadata.specs.declared.fault.RecoverFault.{RecoverFault}
use Rattle.ufs_metadata.specs.declared.fault.RecoverFault.TheVariants.{NoSuperblock, BadVersion, BadGeometry, BadRecord, BadTree, Device, Lack}
use Rattle.ufs_opening.specs.Told.{TellsWhy, IsBlame}

module _ (sectors : ℕ) (disk : Image) where
  -- there is no volume
  pub why_volume : (f : RecoverFault) → IsWhyNot (volume sectors disk) f → TellsWhy sectors disk f
  why_volume = why_then (volume sectors disk) (opens sectors disk) (λ r is. ap (λ (v : Result Volume Refusal). tree_from (entries_of v)) is)

  pub why_damage : (v : Volume) → volume sectors disk ≡ Ok v → (f : RecoverFault) → IsBlame (bad_tree v.geometry v.image) f → TellsWhy sectors disk f
  why_damage v taken NoSuperblock is = absurd is
  why_damage v taken (BadVersion found) is = absurd is
  why_damage v taken (BadGeometry number) is = absurd is
  why_damage v taken (BadRecord sector) is = absurd is
  why_damage v taken (BadTree inode) is = ap (λ (w : Result Volume Refusal). tree_from (entries_of w)) taken ∙ ap (λ o. tree_from (by_damage v o)) is
  why_damage v taken (Device fault) is = absurd is
  why_damage v taken (Lack why) is = is
