-- What a recovery begins with and how it ends.
use Rattle.std.proofs.Common.{◌≡◌, ◌≢◌, ℕ, ◌*◌, ◌<◌, ◌≤◌, inl, inr, List, [], ◌∷◌, Bool, true, None, ap, sym, refl, ◌∙◌, subst, arith}
use Rattle.std.specs.Prelude.{max, IsTrue, ◌==◌, not, nat_lt, MatchResult, Result, Ok, Err}
use Rattle.std.specs.List.{list_all, fold, AllByRecursion}
use Rattle.std.specs.FinMap.{from_entries}
use Rattle.std.proofs.Math.Nat.{le-max_left, le-max_right}
use Rattle.std.proofs.lemmas.Bool.{and_parts}
use Rattle.std.proofs.lemmas.Bool.Decides.{nat_tests}
use Rattle.ufs_base.specs.Images.{Image}
use Rattle.ufs_disk.specs.Disk.{State, IsSettled, seen}
use Rattle.ufs_layout.specs.Areas.{first_of_journal, journal_sectors}
use Rattle.ufs_layout.specs.Superblock.{geometry_of}
use Rattle.ufs_layout.specs.declared.records.Committed.{Committed}
use Rattle.ufs_layout.specs.declared.superblock.Super.{Super}
use Rattle.ufs_metadata.specs.Faults.{IsOutside, IsWhyNot}
use Rattle.ufs_metadata.specs.declared.fault.RecoverFault.{RecoverFault}
use Rattle.ufs_metadata.specs.declared.fault.RecoverFault.TheVariants.{NoSuperblock, BadVersion, BadGeometry, BadRecord, BadTree, Device, Lack}
use Rattle.ufs_damage.specs.Findings.{AreFindingsOf, CatalogRead}
use Rattle.ufs_image.specs.Agree.{IsOfJournal}
use Rattle.ufs_image.specs.Damage.{bad_tree}
use Rattle.ufs_image.specs.Journal.{committed, epoch_in}
use Rattle.ufs_image.specs.Opens.{ImageTree, opens, walked, entries_of, tree_from, by_damage}
use Rattle.ufs_image.specs.Proper.{IsProperImage, IsProperVolume, IsProperClean}
use Rattle.ufs_image.specs.Volume as image
use Rattle.ufs_image.specs.Volume.{Refusal, Volume, volume, volume_of, superblock_of}
use Rattle.ufs_image.proofs.Empty.{in_range}
use Rattle.ufs_image.proofs.Journals.{taken}
use Rattle.ufs_image.proofs.Lists.{IsIn}
use Rattle.ufs_overlay.specs.Seen.{HasAdded}
use Rattle.ufs_volume.specs.Volumes.{committed_in, folded_image, highest_number, volume_in}
use Rattle.ufs_volume.specs.declared.volume.FoldedVolume.{FoldedVolume}
use Rattle.ufs_recovery.specs.Finished.{MayWriteBack, IsWrittenBack}
use Rattle.ufs_recovery.specs.Recovered.{IsCleanDisk, IsRecovered, log_of}
use Rattle.ufs_recovery.proofs.Epochs.{none_committed}

-- ---- a proper image

-- its volume
pub proper_volume : (sectors : ℕ) (image : Image) → IsProperImage sectors image → (v : Volume) × (volume sectors image ≡ Ok v) × IsProperVolume image v
proper_volume sectors image is = by (volume sectors image) refl is
  where
    by : (r : Result Volume Refusal) → volume sectors image ≡ r → MatchResult r (IsProperVolume image) (λ _. ⊥) → (v : Volume) × (volume sectors image ≡ Ok v) × IsProperVolume image v
    by (Ok v) e is = (v, e, is)
    by (Err refusal) e none = absurd none

pub proper_opens : (sectors : ℕ) (image : Image) → IsProperImage sectors image → (tree : ImageTree) × (opens sectors image ≡ Ok tree)
proper_opens sectors image is =
    let v = proper_volume sectors image is in
    (from_entries (walked v.0), ap (λ r. tree_from (entries_of r)) v.1 ∙ ap (λ b. tree_from (by_damage v.0 b)) v.2.has_tree)

same_volume : (v w : Volume) → ◌≡◌ {A = Result Volume Refusal} (Ok v) (Ok w) → v ≡ w
same_volume v w e = cc

-- the same of the volume that is known
pub proper_of : (sectors : ℕ) (image : Image) (v : Volume) → volume sectors image ≡ Ok v → IsProperImage sectors image → IsProperVolume image v
proper_of sectors image v e is = let at = proper_volume sectors image is in subst (IsProperVolume image) (same_volume at.0 v (sym at.1 ∙ e)) at.2

all_pass : (p : ℕ → Bool) (xs : List ℕ) → IsTrue (list_all p xs) → (x : ℕ) → IsIn x xs → p x ≡ true
all_pass p [] all x there = absurd there
all_pass p (y ∷ xs) all x (inl same) = ap p same ∙ (and_parts (p y) (list_all p xs) all).0
all_pass p (y ∷ xs) all x (inr there) = all_pass p xs (and_parts (p y) (list_all p xs) all).1 x there

pub none_later : (image : Image) (v : Volume) → IsProperVolume image v → (sector : ℕ) → IsOfJournal v.geometry sector → epoch_in (image sector) ≤ v.superblock.epoch
none_later image v is sector of =
    let t = all_pass (λ s. not (nat_lt v.superblock.epoch (epoch_in (image s)))) (journal_sectors v.geometry) is.none_later sector (in_range (8 * first_of_journal v.geometry) v.geometry.journal sector of.from of.below) in
    grind (arith, nat_tests, t)

no_entry : (image : Image) (v : Volume) → IsProperClean v image → (sector : ℕ) → IsOfJournal v.geometry sector → epoch_in (image sector) ≢ v.superblock.epoch
no_entry image v is sector of same =
    let t = all_pass (λ s. not (epoch_in (image s) == v.superblock.epoch)) (journal_sectors v.geometry) is.no_entry sector (in_range (8 * first_of_journal v.geometry) v.geometry.journal sector of.from of.below) in
    grind (arith, nat_tests, t, same)

-- Nothing is committed in the epoch of a proper image that is clean.
pub none_in_clean : (sectors : ℕ) (image : Image) → IsProperImage sectors image → (superblock_of image).clean ≡ true → log_of image ≡ []
none_in_clean sectors image is clean = of at.0 (taken sectors image at.0 at.1).same at.2
  where
    at : (v : Volume) × (volume sectors image ≡ Ok v) × IsProperVolume image v
    at = proper_volume sectors image is

    of : (v : Volume) → v ≡ volume_of (superblock_of image) image → IsProperVolume image v → log_of image ≡ []
    of v same proper =
        let here : IsProperVolume image (volume_of (superblock_of image) image) = subst (IsProperVolume image) same proper in
        none_committed (geometry_of (superblock_of image)) (superblock_of image).epoch image (no_entry image (volume_of (superblock_of image) image) (here.if_clean clean))

-- ---- faults

pub outside_tells : {X : Type 0} (given : Result X Refusal) (f : RecoverFault) → IsOutside f → IsWhyNot given f
outside_tells given NoSuperblock is = absurd is
outside_tells given (BadVersion v) is = absurd is
outside_tells given (BadGeometry n) is = absurd is
outside_tells given (BadRecord s) is = absurd is
outside_tells given (BadTree i) is = absurd is
outside_tells given (Device fault) is = is
outside_tells given (Lack why) is = is

clash : (tree : ImageTree) (r : Refusal) → ◌≡◌ {A = Result ImageTree Refusal} (Ok tree) (Err r) → ⊥
clash tree r e = cc

pub only_outside : (sectors : ℕ) (disk : Image) → IsProperImage sectors disk → (f : RecoverFault) → IsWhyNot (opens sectors disk) f → IsOutside f
only_outside sectors disk is f why = by f why
  where
    at : (tree : ImageTree) × (opens sectors disk ≡ Ok tree)
    at = proper_opens sectors disk is

    by : (f : RecoverFault) → IsWhyNot (opens sectors disk) f → IsOutside f
    by NoSuperblock why = absurd (clash at.0 image.NoSuperblock (sym at.1 ∙ why))
    by (BadVersion v) why = absurd (clash at.0 (image.BadVersion v) (sym at.1 ∙ why))
    by (BadGeometry n) why = absurd (clash at.0 (image.BadGeometry n) (sym at.1 ∙ why))
    by (BadRecord s) why = absurd (clash at.0 (image.BadRecord s) (sym at.1 ∙ why))
    by (BadTree i) why = absurd (clash at.0 (image.BadTree i) (sym at.1 ∙ why))
    by (Device fault) why = why
    by (Lack lack) why = why

-- ---- the highest of some commit numbers

all_below : (first next : ℕ) (log : List Committed) → fold (λ highest (c : Committed). max highest c.number) first log < next → (first < next) × AllByRecursion (λ (c : Committed). c.number < next) log
all_below first next [] less = (less, tt)
all_below first next (c ∷ log) less =
    let rest = all_below (max first c.number) next log less in
    let most = rest.0 in
    let left = le-max_left first c.number in
    let right = le-max_right first c.number in
    (omega (arith, left, most), (omega (arith, right, most), rest.1))

fold_below : (first n : ℕ) (log : List Committed) → first < n → AllByRecursion (λ (c : Committed). c.number < n) log → fold (λ highest (c : Committed). max highest c.number) first log < n
fold_below first n [] less all = less
fold_below first n (c ∷ log) less all = let one = all.0 in fold_below (max first c.number) n log (omega (arith, less, one)) all.1

-- ---- the volume that was read

module _ (sectors : ℕ) (image : Image) (v : FoldedVolume) (is : volume sectors image ≡ Ok (volume_in v image)) where
  pub superblock_same : v.superblock.superblock ≡ superblock_of image
  superblock_same = ap (λ (u : Volume). u.superblock) (taken sectors image (volume_in v image) is).same

  pub log_same : committed_in v image ≡ log_of image
  log_same = ap (λ (u : Volume). committed u.geometry u.superblock.epoch image) (taken sectors image (volume_in v image) is).same

  pub folded_same : folded_image v image ≡ (volume_of (superblock_of image) image).image
  folded_same = ap (λ (u : Volume). u.image) (taken sectors image (volume_in v image) is).same

  pub below_highest : v.highest ≡ highest_number (committed_in v image) → (n : ℕ) → 1 ≤ n → AllByRecursion (λ (c : Committed). c.number < n) (log_of image) → v.highest < n
  below_highest highest n some logged =
      subst (λ h. h < n) (sym (highest ∙ ap highest_number log_same)) (fold_below 0 n (log_of image) (omega (arith, some)) logged)

  -- without blame it opens
  pub opens_there : bad_tree v.superblock.geometry (folded_image v image) ≡ None → (tree : ImageTree) × (opens sectors image ≡ Ok tree)
  opens_there whole = (from_entries (walked (volume_in v image)), ap (λ r. tree_from (entries_of r)) is ∙ ap (λ b. tree_from (by_damage (volume_in v image) b)) whole)

  pub opens_not : bad_tree v.superblock.geometry (folded_image v image) ≡ None → (refusal : Refusal) → opens sectors image ≡ Err refusal → ⊥
  opens_not whole refusal none = let at = opens_there whole in clash at.0 refusal (sym at.1 ∙ none)

  pub may_write_back : (findings : CatalogRead) → HasAdded v.overlay (committed_in v image) → AreFindingsOf v.superblock.geometry (folded_image v image) findings → bad_tree v.superblock.geometry (folded_image v image) ≡ None
      → IsProperImage sectors image → MayWriteBack sectors image v findings
  may_write_back findings added found whole proper = record {
    taken = is;
    added = added;
    found = found;
    whole = whole;
    none_later = none_later image (volume_in v image) (proper_of sectors image (volume_in v image) is proper);
  }

  pub is_recovered : v.highest ≡ highest_number (committed_in v image) → (after : Image) → IsWrittenBack sectors v.superblock.superblock (folded_image v image) v.highest after → IsRecovered image after
  is_recovered highest after written = of (subst (λ (x : Super × Image). IsWrittenBack sectors x.0 x.1 v.highest after) (λ i. (superblock_same i, folded_same i)) written)
    where
      is_highest : v.highest ≡ highest_number (log_of image)
      is_highest = highest ∙ ap highest_number log_same

      of : IsWrittenBack sectors (superblock_of image) (volume_of (superblock_of image) image).image v.highest after → IsRecovered image after
      of w = record {
        superblock = w.superblock_is;
        known = w.known;
        inodes = w.inodes;
        logged = (all_below 0 (superblock_of after).next (log_of image) (subst (λ n. n < (superblock_of after).next) is_highest w.above)).1;
        least = λ n some from inodes logged. w.least n from (subst (λ h. h < n) (sym is_highest) (fold_below 0 n (log_of image) (omega (arith, some)) logged)) inodes;
        numbers = w.numbers;
        named = w.named;
        fitted = w.fitted;
      }

pub is_clean : (sectors : ℕ) (state : State) (superblock : Super) (folded : Image) (used : ℕ) → IsSettled state → IsWrittenBack sectors superblock folded used (seen state) → IsCleanDisk sectors state
is_clean sectors state superblock folded used settled written =
    let clean : (superblock_of (seen state)).clean ≡ true = ap (λ (h : Super). h.clean) written.superblock_is in
    record { proper = record { settled = settled; proper = written.proper }; clean = clean; empty = none_in_clean sectors (seen state) written.proper clean }
