-- What is committed is written home.
use Rattle.std.proofs.Common.{◌≡◌, ℕ, ◌*◌, ◌<◌, ◌≤◌, ◌⊎◌, inl, inr, List, Bool, true, false, ap, sym, refl, ◌∙◌, subst, arith}
use Rattle.std.specs.Prelude.{nat_le, nat_lt, Ok}
use Rattle.std.specs.FinMap.{from_entries}
use Rattle.std.proofs.lemmas.Bool.{and_parts}
use Rattle.std.proofs.lemmas.Bool.Decides.{nat_tests}
use Rattle.ufs_base.specs.Images.{Image}
use Rattle.ufs_disk.specs.Disk.{State, IsSettled, IsWhole, seen}
use Rattle.ufs_disk.proofs.Images.{seen_is_image}
use Rattle.ufs_layout.specs.Areas.{first_of_data, is_data_sector}
use Rattle.ufs_layout.specs.Superblock.{geometry_of}
use Rattle.ufs_layout.specs.declared.geometry.Geometry.{Geometry}
use Rattle.ufs_layout.specs.declared.superblock.Super.{Super}
use Rattle.ufs_layout.specs.declared.records.Committed.{Committed}
use Rattle.ufs_image.specs.Agree.{IsOfJournal}
use Rattle.ufs_image.specs.Catalog.{catalog_at}
use Rattle.ufs_image.specs.Fold.{folded}
use Rattle.ufs_image.specs.Images.{IsImageOf}
use Rattle.ufs_image.specs.Journal.{committed, epoch_in}
use Rattle.ufs_image.specs.Opens.{ImageTree, opens, walked}
use Rattle.ufs_image.specs.Proper.{IsProperImage}
use Rattle.ufs_image.specs.Standing.{IsVolumeOf}
use Rattle.ufs_image.specs.Volume.{Volume, volume, volume_of, superblock_of}
use Rattle.ufs_image.proofs.Home.{stops_anywhere}
use Rattle.ufs_image.proofs.Journals.{taken}
use Rattle.ufs_image.proofs.Mixed.{else_folded}
use Rattle.ufs_image.proofs.Opening.{opened as by_catalog}
use Rattle.ufs_image.proofs.Proper.{proper}
use Rattle.ufs_overlay.specs.Over.{IsHomeWritten}
use Rattle.ufs_overlay.specs.Seen as overlaid
use Rattle.ufs_overlay.specs.declared.overlay.Overlay.{Overlay}
use Rattle.ufs_recovery.specs.Home.{IsOver, OpensAlike}
use Rattle.ufs_recovery.proofs.Ends.{none_in_clean, none_later, proper_of, proper_opens}

-- ---- where nothing is folded

no_data : (g : Geometry) (sector : ℕ) → sector < 8 * first_of_data g → is_data_sector g sector ≡ false
no_data g sector low = by (is_data_sector g sector) refl
  where
    by : (b : Bool) → is_data_sector g sector ≡ b → is_data_sector g sector ≡ false
    by false e = e
    by true e = let t = (and_parts (nat_le (8 * first_of_data g) sector) (nat_lt sector (8 * g.blocks)) e).0 in let high : 8 * first_of_data g ≤ sector = grind (arith, nat_tests, t) in absurd (omega (arith, low, high))

pub zero_unfolded : (g : Geometry) (log : List Committed) (image : Image) → folded g log image 0 ≡ image 0
zero_unfolded g log image = else_folded g 0 (no_data g 0 (omega arith)) (λ k ranged same. omega (arith, same)) log image

pub journal_unfolded : (g : Geometry) (log : List Committed) (image : Image) (sector : ℕ) → IsOfJournal g sector → folded g log image sector ≡ image sector
journal_unfolded g log image sector of =
    let from = of.from in
    let under = of.below in
    else_folded g sector (no_data g sector (omega (arith, under)))
    (λ k ranged same.
    let high : k ≤ g.inodes = let t = (and_parts (nat_le 1 k) (nat_le k g.inodes) ranged).1 in grind (arith, nat_tests, t) in
    let low : 1 ≤ k = let t = (and_parts (nat_le 1 k) (nat_le k g.inodes) ranged).0 in grind (arith, nat_tests, t) in
    omega (arith, same, high, low, from)) log image

-- ---- the folded image

-- it is what folding makes of the image
pub volume_image : (sectors : ℕ) (image : Image) (v : Volume) (overlay : Overlay) → IsOver sectors image v overlay → v.image ≡ folded v.geometry (committed v.geometry v.superblock.epoch image) image
volume_image sectors image v overlay over =
    let same : v ≡ volume_of (superblock_of image) image = (taken sectors image v over.is.taken).same in
    subst (λ (u : Volume). u.image ≡ folded u.geometry (committed u.geometry u.superblock.epoch image) image) (sym same) refl

-- with the words of the overlay
pub folds_to : (sectors : ℕ) (image : Image) (v : Volume) (overlay : Overlay) → IsOver sectors image v overlay
    → v.image ≡ folded (overlaid.geometry_of overlay) (committed v.geometry v.superblock.epoch image) image
folds_to sectors image v overlay over = volume_image sectors image v overlay over ∙ ap (λ g. folded g (committed v.geometry v.superblock.epoch image) image) (sym over.geometry)

-- ---- proper

-- An image with some of it home is proper, where it was before and stands for the same tree.
module _ (sectors : ℕ) (before image : Image) (v : Volume) (is : volume sectors before ≡ Ok v) (first : image 0 ≡ before 0) (journal : (sector : ℕ) → IsOfJournal v.geometry sector → image sector ≡ before sector)
    (mixed : (sector : ℕ) → (image sector ≡ before sector) ⊎ (image sector ≡ v.image sector)) (same : opens sectors image ≡ opens sectors before) (was : IsProperImage sectors before) where
  tree_before : (tree : ImageTree) × (opens sectors before ≡ Ok tree)
  tree_before = proper_opens sectors before was

  now : (w : Volume) × IsVolumeOf sectors image w (catalog_at w.geometry w.image) × (tree_before.0 ≡ from_entries (walked w))
  now = by_catalog sectors image tree_before.0 (same ∙ tree_before.1)

  same_superblock : now.0.superblock ≡ v.superblock
  same_superblock = ap (λ (u : Volume). u.superblock) (taken sectors image now.0 now.1.taken).same ∙ ap (λ b. superblock_of (λ _. b)) first ∙ sym (ap (λ (u : Volume). u.superblock) (taken sectors before v is).same)

  same_geometry : now.0.geometry ≡ v.geometry
  same_geometry = ap (λ (u : Volume). u.geometry) (taken sectors image now.0 now.1.taken).same ∙ ap (λ b. geometry_of (superblock_of (λ _. b))) first ∙ sym (ap (λ (u : Volume). u.geometry) (taken sectors before v is).same)

  none_later_now : (sector : ℕ) → IsOfJournal now.0.geometry sector → epoch_in (image sector) ≤ now.0.superblock.epoch
  none_later_now sector of =
      let here = subst (λ g. IsOfJournal g sector) same_geometry of in
      let most = none_later before v (proper_of sectors before v is was) sector here in
      let epoch : epoch_in (image sector) ≡ epoch_in (before sector) = ap epoch_in (journal sector here) in
      let later : now.0.superblock.epoch ≡ v.superblock.epoch = ap (λ (h : Super). h.epoch) same_superblock in
      omega (arith, most, epoch, later)

  -- nothing of a clean image is to be written home
  nothing_home : v.superblock.clean ≡ true → (sector : ℕ) → v.image sector ≡ before sector
  nothing_home clean sector =
      let at = (taken sectors before v is).same in
      let clean_superblock : (superblock_of before).clean ≡ true = sym (ap (λ (u : Volume). u.superblock.clean) at) ∙ clean in
      ap (λ (u : Volume). u.image sector) at ∙ ap (λ log. folded (geometry_of (superblock_of before)) log before sector) (none_in_clean sectors before was clean_superblock)

  pub mix_proper : IsProperImage sectors image
  mix_proper = by v.superblock.clean refl
    where
      by : (b : Bool) → v.superblock.clean ≡ b → IsProperImage sectors image
      by true clean = subst (λ (d : Image). IsProperImage sectors d) all was
        where
          each : (sector : ℕ) → (image sector ≡ before sector) ⊎ (image sector ≡ v.image sector) → image sector ≡ before sector
          each sector (inl e) = e
          each sector (inr e) = e ∙ nothing_home clean sector

          all : before ≡ image
          all = λ i sector. sym (each sector (mixed sector)) i
      by false in_use =
          proper sectors image now.0 (catalog_at now.0.geometry now.0.image) now.1 none_later_now
          (λ clean. let no : false ≡ true = sym in_use ∙ sym (ap (λ (h : Super). h.clean) same_superblock) ∙ clean in absurd (grind (arith, no)))

-- ---- written home

module _ (sectors : ℕ) (state : State) (v : Volume) (overlay : Overlay) (over : IsOver sectors (seen state) v overlay) (settled : IsSettled state) (whole : IsWhole sectors state) where
  sized : IsImageOf sectors (seen state)
  sized sector less = whole.within sector less (seen state sector) (seen_is_image state sector)

  -- Whatever of it is home, a crash leaves the same tree.
  pub home_tree : (image : Image) → IsHomeWritten (overlaid.geometry_of overlay) (committed v.geometry v.superblock.epoch (seen state)) state image → OpensAlike sectors (seen state) image
  home_tree image from = record { tree = same_tree; proper = mix_proper sectors (seen state) image v over.is.taken first journal (λ s. mixed s (from.mixed s)) same_tree }
    where
      was : from.before ≡ seen state
      was = settled from.before from.left

      by : (s : ℕ) → (image s ≡ from.before s) ⊎ (image s ≡ folded (overlaid.geometry_of overlay) (committed v.geometry v.superblock.epoch (seen state)) from.before s)
          → folded (overlaid.geometry_of overlay) (committed v.geometry v.superblock.epoch (seen state)) (seen state) s ≡ seen state s → image s ≡ seen state s
      by s (inl e) still = e ∙ ap (λ (d : Image). d s) was
      by s (inr e) still = e ∙ ap (λ (d : Image). folded (overlaid.geometry_of overlay) (committed v.geometry v.superblock.epoch (seen state)) d s) was ∙ still

      mixed : (s : ℕ) → (image s ≡ from.before s) ⊎ (image s ≡ folded (overlaid.geometry_of overlay) (committed v.geometry v.superblock.epoch (seen state)) from.before s)
          → (image s ≡ seen state s) ⊎ (image s ≡ v.image s)
      mixed s (inl e) = inl (e ∙ ap (λ (d : Image). d s) was)
      mixed s (inr e) = inr (e ∙ ap (λ (d : Image). folded (overlaid.geometry_of overlay) (committed v.geometry v.superblock.epoch (seen state)) d s) was ∙ ap (λ (d : Image). d s) (sym (folds_to sectors (seen state) v overlay over)))

      first : image 0 ≡ seen state 0
      first = by 0 (from.mixed 0) (zero_unfolded (overlaid.geometry_of overlay) (committed v.geometry v.superblock.epoch (seen state)) (seen state))

      journal : (s : ℕ) → IsOfJournal v.geometry s → image s ≡ seen state s
      journal s of = by s (from.mixed s) (journal_unfolded (overlaid.geometry_of overlay) (committed v.geometry v.superblock.epoch (seen state)) (seen state) s (subst (λ g. IsOfJournal g s) (sym over.geometry) of))

      same_tree : opens sectors image ≡ opens sectors (seen state)
      same_tree = stops_anywhere sectors (seen state) image v (catalog_at v.geometry v.image) sized over.is first (λ s low under. journal s (record { from = low; below = under })) (λ s low. mixed s (from.mixed s))
