-- When there is a list of damage, and which.
use Rattle.std.proofs.Common.{◌≡◌, ℕ, List, Ok, ap, sym, ◌∙◌}
use Rattle.std.specs.Prelude.{Result}
use Rattle.ufs_base.specs.Images.{Image}
use Rattle.ufs_image.specs.Damage.{Damage, damage}
use Rattle.ufs_image.specs.Volume.{Refusal, Volume, volume}
use Rattle.ufs_image.specs.Opens.{damage_in, damage_list}
use Rattle.ufs_metadata.specs.Faults.{IsWhyNot}
use Rattle.ufs_metadata.proofs.Outside.{why_then}
use Rattle.ufs_metadata.specs.declared.fault.RecoverFault.{RecoverFault}

module _ (sectors : ℕ) (disk : Image) where
  -- there is no volume
  pub why_volume : (f : RecoverFault) → IsWhyNot (volume sectors disk) f → IsWhyNot (damage_list sectors disk) f
  why_volume = why_then (volume sectors disk) (damage_list sectors disk) (λ r is. ap (λ (v : Result Volume Refusal). damage_in v) is)

  pub listed : (v : Volume) (list : List Damage) → volume sectors disk ≡ Ok v → list ≡ damage v.superblock.clean v.geometry v.image → damage_list sectors disk ≡ Ok list
  listed v list taken is = ap (λ (w : Result Volume Refusal). damage_in w) taken ∙ ap {B = Result (List Damage) Refusal} Ok (sym is)
