-- A proper image is never refused.
use Rattle.std.proofs.Common.{◌≡◌, ℕ, Result, Ok, Err, ap, sym, ◌∙◌}
use Rattle.std.specs.Prelude.{MatchResult}
use Rattle.ufs_base.specs.Images.{Image}
use Rattle.ufs_image.specs.Opens.{by_damage, damage_in, damage_list, entries_of, opens, tree_from}
use Rattle.ufs_image.specs.Proper.{IsProperImage, IsProperVolume}
use Rattle.ufs_image.specs.Volume.{Refusal, Volume, volume}

opened_by : (image : Image) (r : Result Volume Refusal) → MatchResult r (IsProperVolume image) (λ _. ⊥) → (refusal : Refusal) → tree_from (entries_of r) ≡ Err refusal → ⊥
opened_by image (Ok v) proper refusal is = let both = sym (ap (λ o. tree_from (by_damage v o)) proper.has_tree) ∙ is in cc
opened_by image (Err x) proper refusal is = absurd proper

listed_by : (image : Image) (r : Result Volume Refusal) → MatchResult r (IsProperVolume image) (λ _. ⊥) → (refusal : Refusal) → damage_in r ≡ Err refusal → ⊥
listed_by image (Ok v) proper refusal is = cc
listed_by image (Err x) proper refusal is = absurd proper

pub proper_opens : (sectors : ℕ) (image : Image) → IsProperImage sectors image → (refusal : Refusal) → opens sectors image ≡ Err refusal → ⊥
proper_opens sectors image = opened_by image (volume sectors image)

pub proper_listed : (sectors : ℕ) (image : Image) → IsProperImage sectors image → (refusal : Refusal) → damage_list sectors image ≡ Err refusal → ⊥
proper_listed sectors image = listed_by image (volume sectors image)
