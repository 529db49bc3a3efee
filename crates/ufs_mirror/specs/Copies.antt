-- What a copy from one leg to the other did to their counts of faults.
use Rattle.std.specs.Prelude.{◌≡◌, ℕ}
use Rattle.ufs_base.specs.Faults.{raised}
use Rattle.ufs_mirror.specs.declared.copying.Copied.{Copied}
use Rattle.ufs_mirror.specs.declared.copying.Copied.TheVariants.{Whole, Unread, Unwritten}

-- one that didn't go through says which leg failed, once, and the number is that leg's new count
pub record Copies (from from_now to to_now fault : ℕ) (copied : Copied) : Type 0 where
  pub whole : copied ≡ Whole → (from_now ≡ from) × (to_now ≡ to)
  pub unread : copied ≡ Unread → (from_now ≡ raised from) × (to_now ≡ to) × (fault ≡ from_now)
  pub unwritten : copied ≡ Unwritten → (from_now ≡ from) × (to_now ≡ raised to) × (fault ≡ to_now)
