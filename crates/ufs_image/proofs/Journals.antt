-- Images that agree on all that lies before the data area have the same journal and are refused alike.
use Rattle.std.proofs.Common.{◌≡◌, ℕ, ◌*◌, ◌≤◌, inl, inr, List, [], ◌∷◌, ◌++◌, Bool, true, false, cond, length, Option, Some, None, map, ap, sym, refl, ◌∙◌, subst, arith}
use Rattle.std.specs.Prelude.{◌==◌, ◌&&◌, ◌||◌, nat_lt, nat_le, filter, if◌then◌else◌, Result, Ok, Err}
use Rattle.std.specs.List.{list_any, find}
use Rattle.std.proofs.lemmas.Bool.{and_parts}
use Rattle.std.proofs.lemmas.Bool.Decides.{nat_tests}
use Rattle.ufs_layout.specs.Areas.{sector_of_inode, is_inode_number, journal_sectors, first_of_journal}
use Rattle.ufs_layout.specs.Superblock.{geometry_of}
use Rattle.ufs_base.specs.Images.{Image}
use Rattle.ufs_image.specs.Images.{form_at}
use Rattle.ufs_layout.specs.JournalSector.{journal_of}
use Rattle.ufs_image.specs.Journal.{ReadSector, FoundSector, PlacedRecord, Transaction, epoch_in, sectors_of_epoch, well_spelled, transactions, committed_of, committed}
use Rattle.ufs_image.specs.Fold.{is_in_range, is_newer, with_valid, with_committed, folded}
use Rattle.ufs_image.specs.BadSectors.{keeps_too_many, overkept_in, overkept, is_misspelled, is_off, first_bad, bad_sector}
use Rattle.ufs_image.specs.Volume.{Refusal, Volume, superblock_of, superblock_refusal, by_superblock, by_journal, volume, volume_of}
use Rattle.ufs_layout.specs.declared.geometry.Geometry.{Geometry}
use Rattle.ufs_layout.specs.declared.superblock.Super.{Super}
use Rattle.ufs_layout.specs.declared.records.LogRecord.{LogRecord}
use Rattle.ufs_layout.specs.declared.records.LogRecord.TheVariants.{Delta, Place, Free}
use Rattle.ufs_image.specs.Agree.{AgreeOn, IsMetadata}
use Rattle.ufs_image.proofs.Lists.{IsIn, from_filter}
use Rattle.ufs_image.proofs.Empty.{from_range}
use Rattle.ufs_image.proofs.Agreeing.{form_agrees, newer_agrees, record_agrees, committed_agrees, folded_agrees}

pub map-same : {X Y : Type 0} (f h : X → Y) (xs : List X) → ((x : X) → IsIn x xs → f x ≡ h x) → map f xs ≡ map h xs
map-same f h [] same = refl
map-same f h (x ∷ xs) same = let head = same x (inl refl) in let rest = map-same f h xs (λ y is. same y (inr is)) in λ i. head i ∷ rest i

pub filter-same : {X : Type 0} (p q : X → Bool) (xs : List X) → ((x : X) → IsIn x xs → p x ≡ q x) → filter p xs ≡ filter q xs
filter-same p q [] same = refl
filter-same p q (x ∷ xs) same = let head = same x (inl refl) in let rest = filter-same p q xs (λ y is. same y (inr is)) in λ i. cond (head i) (x ∷ rest i) (rest i)

-- ---- where the areas lie

pub inode_metadata : (g : Geometry) (inode : ℕ) → is_inode_number g inode ≡ true → IsMetadata g (sector_of_inode g inode)
inode_metadata g inode is = let low : 1 ≤ inode = let t = (and_parts (nat_le 1 inode) (nat_le inode g.inodes) is).0 in grind (arith, nat_tests, t) in let high : inode ≤ g.inodes = let t = (and_parts (nat_le 1 inode) (nat_le inode g.inodes) is).1 in grind (arith, nat_tests, t) in omega (arith, low, high)

pub journal_metadata : (g : Geometry) (sector : ℕ) → IsIn sector (journal_sectors g) → IsMetadata g sector
journal_metadata g sector is = let at = from_range (8 * first_of_journal g) g.journal sector is in omega (arith, at.1)

pub first_metadata : (g : Geometry) → IsMetadata g 0
first_metadata g = omega arith

module _ (g : Geometry) (these : ℕ → Type 0) (metadata : (sector : ℕ) → IsMetadata g sector → these sector) where
  table : (inode : ℕ) → is_inode_number g inode ≡ true → these (sector_of_inode g inode)
  table inode is = metadata (sector_of_inode g inode) (inode_metadata g inode is)

  module _ (image other : Image) (agree : AgreeOn these image other) where
    at_journal : (s : ℕ) → IsIn s (journal_sectors g) → image s ≡ other s
    at_journal s is = agree s (metadata s (journal_metadata g s is))

    pub sectors_agree : (epoch : ℕ) → sectors_of_epoch g epoch image ≡ sectors_of_epoch g epoch other
    sectors_agree epoch =
        map-same (λ s. (s, journal_of (image s))) (λ s. (s, journal_of (other s))) (filter (λ s. epoch_in (image s) == epoch) (journal_sectors g))
        (λ s is. ap (λ bytes. (s, journal_of bytes)) (at_journal s (from_filter (λ s. epoch_in (image s) == epoch) (journal_sectors g) s is).0))
        ∙ ap (map (λ s. (s, journal_of (other s)))) (filter-same (λ s. epoch_in (image s) == epoch) (λ s. epoch_in (other s) == epoch) (journal_sectors g) (λ s is. ap (λ bytes. epoch_in bytes == epoch) (at_journal s is)))

    pub committed_same : (epoch : ℕ) → committed g epoch image ≡ committed g epoch other
    committed_same epoch = ap (λ read. map committed_of (transactions (well_spelled read))) (sectors_agree epoch)

  too_many_agrees : (number : ℕ) (before sooner now then' : Image) (r : LogRecord) → AgreeOn these before sooner → AgreeOn these now then'
      → (is_in_range g r && keeps_too_many g number before now r) ≡ (is_in_range g r && keeps_too_many g number sooner then' r)
  too_many_agrees number before sooner now then' (Delta inode kind size keep extents) first agree = by (is_inode_number g inode) refl
    where
      by : (b : Bool) → is_inode_number g inode ≡ b → (b && (is_newer g number before inode && nat_lt (length (form_at g now inode).extents) keep)) ≡ (b && (is_newer g number sooner inode && nat_lt (length (form_at g then' inode).extents) keep))
      by true e = let newer = newer_agrees g these table before sooner first number inode e in let form = form_agrees g these table now then' agree inode e in λ i. newer i && nat_lt (length (form i).extents) keep
      by false e = refl
  too_many_agrees number before sooner now then' (Place sector slot dentry) first agree = refl
  too_many_agrees number before sooner now then' (Free inode) first agree = refl

  overkept_in_agrees : (number : ℕ) (before sooner now then' : Image) (ps : List PlacedRecord) → AgreeOn these before sooner → AgreeOn these now then'
      → overkept_in g number before ps now ≡ overkept_in g number sooner ps then'
  overkept_in_agrees number before sooner now then' [] first agree = refl
  overkept_in_agrees number before sooner now then' (p ∷ ps) first agree =
      let head = too_many_agrees number before sooner now then' p.1 first agree in
      let rest = overkept_in_agrees number before sooner (with_valid g number before p.1 now) (with_valid g number sooner p.1 then') ps first (record_agrees g these table number before sooner now then' p.1 first agree) in
      λ i. (if head i then p.0 ∷ [] else []) ++ rest i

  overkept_agrees : (ts : List Transaction) (image other : Image) → AgreeOn these image other → overkept g ts image ≡ overkept g ts other
  overkept_agrees [] image other agree = refl
  overkept_agrees (t ∷ ts) image other agree =
      let head = overkept_in_agrees t.number image other image other t.records agree agree in
      let rest = overkept_agrees ts (with_committed g (committed_of t) image) (with_committed g (committed_of t) other) (committed_agrees g these table (committed_of t) image other agree) in
      λ i. head i ++ rest i

  pub bad_sector_agrees : (s : Super) (image other : Image) → AgreeOn these image other → bad_sector g s image ≡ bad_sector g s other
  bad_sector_agrees s image other agree = ap (first_bad g s.next image) (sectors_agree image other agree s.epoch) ∙ same (sectors_of_epoch g s.epoch other)
    where
      same : (read : List ReadSector) → first_bad g s.next image read ≡ first_bad g s.next other read
      same read = ap (λ sectors. find (λ sector.
          list_any (λ (r : ReadSector). r.0 == sector && is_misspelled r) read
          || list_any (λ (f : FoundSector). f.0 == sector && is_off g s.next (well_spelled read) f) (well_spelled read)
          || list_any (λ o. o == sector) sectors) (journal_sectors g)) (overkept_agrees (transactions (well_spelled read)) image other agree)

-- ---- the whole volume

same_ok : {A E : Type 0} (x y : A) → ◌≡◌ {A = Result A E} (Ok x) (Ok y) → x ≡ y
same_ok x y e = cc

-- what an image that is taken has
pub record IsTaken (sectors : ℕ) (image : Image) (v : Volume) : Type 0 where
  pub superblock : superblock_refusal sectors image ≡ None
  pub journal : bad_sector (geometry_of (superblock_of image)) (superblock_of image) image ≡ None
  pub same : v ≡ volume_of (superblock_of image) image

pub taken : (sectors : ℕ) (image : Image) (v : Volume) → volume sectors image ≡ Ok v → IsTaken sectors image v
taken sectors image v e = by (superblock_refusal sectors image) refl (bad_sector (geometry_of (superblock_of image)) (superblock_of image) image) refl
  where
    by : (r : Option Refusal) → superblock_refusal sectors image ≡ r → (b : Option ℕ) → bad_sector (geometry_of (superblock_of image)) (superblock_of image) image ≡ b → IsTaken sectors image v
    by (Some r) is b at = let no : Err r ≡ Ok v = sym (ap (by_superblock image) is) ∙ e in absurd cc
    by None is (Some b) at = let no : by_journal image (Some b) ≡ Ok v = sym (ap (by_superblock image) is ∙ ap (by_journal image) at) ∙ e in absurd cc
    by None is None at = let ok : Ok v ≡ Ok (volume_of (superblock_of image) image) = sym e ∙ ap (by_superblock image) is ∙ ap (by_journal image) at in record { superblock = is; journal = at; same = same_ok v (volume_of (superblock_of image) image) ok }

pub is_taken : (sectors : ℕ) (image : Image) → superblock_refusal sectors image ≡ None → bad_sector (geometry_of (superblock_of image)) (superblock_of image) image ≡ None → volume sectors image ≡ Ok (volume_of (superblock_of image) image)
is_taken sectors image superblock journal = ap (by_superblock image) superblock ∙ ap (by_journal image) journal

-- An image that agrees with one that is taken on what lies before the data area is taken too, and the folded images agree
-- wherever the two do.
pub taken_alike : (sectors : ℕ) (image other : Image) (v : Volume) (these : ℕ → Type 0) → volume sectors image ≡ Ok v → ((sector : ℕ) → IsMetadata v.geometry sector → these sector) → AgreeOn these image other
    → (w : Volume) × (volume sectors other ≡ Ok w) × (w.geometry ≡ v.geometry) × (w.superblock ≡ v.superblock) × AgreeOn these v.image w.image
taken_alike sectors image other v these e metadata agree = let is = taken sectors image v e in of v (sym is.same) metadata is.superblock is.journal
  where
    of : (v : Volume) → volume_of (superblock_of image) image ≡ v → ((sector : ℕ) → IsMetadata v.geometry sector → these sector) → superblock_refusal sectors image ≡ None → bad_sector (geometry_of (superblock_of image)) (superblock_of image) image ≡ None
        → (w : Volume) × (volume sectors other ≡ Ok w) × (w.geometry ≡ v.geometry) × (w.superblock ≡ v.superblock) × AgreeOn these v.image w.image
    of v is metadata superblock journal =
        let here : (sector : ℕ) → IsMetadata (geometry_of (superblock_of image)) sector → these sector = λ sector in_it. metadata sector (subst (λ (u : Volume). IsMetadata u.geometry sector) is in_it) in
        let first : image 0 ≡ other 0 = agree 0 (here 0 (first_metadata (geometry_of (superblock_of image)))) in
        let superblocks : superblock_of image ≡ superblock_of other = ap (λ bytes. superblock_of (λ _. bytes)) first in
        let superblock_there : superblock_refusal sectors other ≡ None = sym (ap (λ bytes. superblock_refusal sectors (λ _. bytes)) first) ∙ superblock in
        let journal_there : bad_sector (geometry_of (superblock_of other)) (superblock_of other) other ≡ None =
        sym (ap (λ (s : Super). bad_sector (geometry_of s) s other) superblocks) ∙ sym (bad_sector_agrees (geometry_of (superblock_of image)) these here (superblock_of image) image other agree) ∙ journal in
        let g : Geometry = geometry_of (superblock_of image) in
        let cs : committed g (superblock_of image).epoch image ≡ committed g (superblock_of image).epoch other = committed_same g these here image other agree (superblock_of image).epoch in
        let same_volume : volume_of (superblock_of image) other ≡ volume_of (superblock_of other) other = ap (λ (s : Super). volume_of s other) superblocks in
        let folds : AgreeOn these (folded g (committed g (superblock_of image).epoch image) image) (folded g (committed g (superblock_of image).epoch image) other) = folded_agrees g these (table g these here) (committed g (superblock_of image).epoch image) image other agree in (
          volume_of (superblock_of other) other,
          is_taken sectors other superblock_there journal_there,
          sym (ap (λ (u : Volume). u.geometry) same_volume) ∙ ap (λ (u : Volume). u.geometry) is,
          sym (ap (λ (u : Volume). u.superblock) same_volume) ∙ ap (λ (u : Volume). u.superblock) is,
          λ s in_these. sym (ap (λ (u : Volume). u.image s) is) ∙ folds s in_these ∙ ap (λ list. folded g list other s) cs ∙ ap (λ (u : Volume). u.image s) same_volume,
        )
