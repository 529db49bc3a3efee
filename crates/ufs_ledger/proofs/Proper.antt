-- What a crash leaves is a proper image.
use Rattle.std.proofs.Common.{◌≡◌, ℕ, ◌+◌, ◌*◌, ◌<◌, ◌≤◌, inl, inr, List, [], ◌∷◌, Bool, true, sym, refl, subst, arith}
use Rattle.std.specs.Prelude.{◌-◌, ◌&&◌, not, nat_lt, MatchResult, IsTrue}
use Rattle.std.specs.List.{list_all}
use Rattle.std.proofs.lemmas.Bool.Decides.{nat_tests}
use Rattle.ufs_disk.specs.Disk.{Cell}
use Rattle.ufs_layout.specs.Areas.{first_of_journal, journal_sectors}
use Rattle.ufs_layout.specs.Superblock.{geometry_of}
use Rattle.ufs_layout.specs.declared.geometry.Geometry.{Geometry}
use Rattle.ufs_layout.specs.declared.superblock.Super.{Super}
use Rattle.ufs_base.specs.Images.{Image}
use Rattle.ufs_image.specs.Journal.{epoch_in}
use Rattle.ufs_image.specs.CatalogLaws.{SpellsDirs}
use Rattle.ufs_image.specs.Proper.{IsProperVolume, IsProperImage}
use Rattle.ufs_image.proofs.Lists.{IsIn}
use Rattle.ufs_image.proofs.Empty.{from_range}
use Rattle.ufs_image.proofs.Whole.{sound_whole}
use Rattle.ufs_image.proofs.Blamed.{not_bad}
use Rattle.ufs_journal.specs.Found.{journal_sector}
use Rattle.ufs_journal.specs.Kept.{HasNoLater}
use Rattle.ufs_ledger.specs.Ledger.{Stand, IsLeft}
use Rattle.ufs_ledger.proofs.Opened.{is_volume, same_geometry}

all_pass : (p : ℕ → Bool) (xs : List ℕ) → ((x : ℕ) → IsIn x xs → p x ≡ true) → IsTrue (list_all p xs)
all_pass p [] each = refl
all_pass p (x ∷ xs) each = let head = each x (inl refl) in let rest = all_pass p xs (λ y is. each y (inr is)) in λ i. head i && rest i

-- No sector of the journal has a later epoch.
none_later : (g : Geometry) (epoch : ℕ) (image : Image) → HasNoLater g epoch image → IsTrue (list_all (λ s. not (nat_lt epoch (epoch_in (image s)))) (journal_sectors g))
none_later g epoch image latest = all_pass (λ s. not (nat_lt epoch (epoch_in (image s)))) (journal_sectors g) (λ s inside. at s (from_range (8 * first_of_journal g) g.journal s inside))
  where
    at : (s : ℕ) → (8 * first_of_journal g ≤ s) × (s < 8 * first_of_journal g + g.journal) → not (nat_lt epoch (epoch_in (image s))) ≡ true
    at s within =
        let from = within.0 in
        let under = within.1 in
        let same : journal_sector g (s - 8 * first_of_journal g) ≡ s = omega (arith, from) in
        let most : epoch_in (image s) ≤ epoch = subst (λ k. epoch_in (image k) ≤ epoch) same (latest (s - 8 * first_of_journal g) (omega (arith, from, under))) in
        grind (arith, nat_tests, most)

pub left_proper : (sectors : ℕ) (superblock : Super) (blocks : ℕ → Cell) (s : Stand) (image : Image) → SpellsDirs (geometry_of superblock) → IsLeft sectors superblock blocks s image → IsProperImage sectors image
left_proper sectors superblock blocks s image spells left =
    let is = is_volume sectors superblock blocks s image left spells in
    let same = same_geometry sectors superblock blocks s image left in
    let latest : HasNoLater left.as_volume.geometry left.as_volume.superblock.epoch image = subst (λ (x : Geometry × Super). HasNoLater x.0 x.1.epoch image) (λ i. (sym same i, sym left.superblock_is i)) left.latest in
    subst (λ r. MatchResult r (IsProperVolume image) (λ _. ⊥)) (sym is.taken) (record {
      has_tree = not_bad left.as_volume.geometry left.as_volume.image (sound_whole left.as_volume.geometry left.as_volume.image s.catalog is.catalog is.sound);
      none_later = none_later left.as_volume.geometry left.as_volume.superblock.epoch image latest;
      if_clean = λ clean. left.if_clean (subst (λ (h : Super). IsTrue h.clean) left.superblock_is clean);
    })
