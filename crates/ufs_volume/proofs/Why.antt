-- Why there is no volume, step by step.
use Rattle.std.proofs.Common.{◌≡◌, ℕ, Option, Some, None, Bool, true, false, Ok, Err, ap, sym, refl, ◌≤◌, ◌∙◌, subst}
use Rattle.std.specs.Prelude.{Result, List, IsTrue, is_none, ◌==◌, ◌&&◌, nat_le}
use Rattle.std.specs.Str.{bytes_eq}
use Rattle.std.proofs.lemmas.Bool.{and_parts, leb-true}
use Rattle.ufs_base.specs.Choices.{first_of, refused_if}
use Rattle.ufs_base.specs.Images.{Image}
use Rattle.ufs_layout.specs.Superblock.{geometry_of, super_of, super_fields, super_bytes, is_super}
use Rattle.ufs_layout.specs.declared.superblock.Super.{Super}
use Rattle.ufs_layout.proofs.Spelled.{some_if-some}
use Rattle.ufs_image.specs.BadSectors.{bad_sector}
use Rattle.ufs_image.specs.Volume.{Refusal, Volume, NoSuperblock, BadVersion, volume, volume_of, superblock_of, superblock_refusal, by_superblock, by_journal, lacks_magic, has_other_version, is_off_form}
use Rattle.ufs_image.specs.Volume as image
use Rattle.ufs_metadata.specs.Faults.{IsRefusal, IsWhyNot}
use Rattle.ufs_metadata.specs.declared.fault.RecoverFault.{RecoverFault}
use Rattle.ufs_metadata.specs.declared.fault.RecoverFault.TheVariants.{NoSuperblock as no_superblock, BadVersion as bad_version, BadGeometry as bad_geometry, BadRecord as bad_record, BadTree as bad_tree, Device, Lack}
use Rattle.ufs_metadata.specs.declared.superblock.ImageSuperblock.{ImageSuperblock}
use Rattle.ufs_layout.specs.declared.geometry.Geometry.{Geometry}
use Rattle.ufs_layout.specs.declared.records.Committed.{Committed}
use Rattle.ufs_image.specs.Journal.{committed}
use Rattle.ufs_image.specs.Fold.{folded}
use Rattle.ufs_overlay.specs.Over.{rise_above}
use Rattle.ufs_volume.specs.Journals.{AreFoldable, IsJournalRefusal}
use Rattle.ufs_volume.specs.Volumes.{committed_in, volume_in}
use Rattle.ufs_volume.specs.declared.volume.FoldedVolume.{FoldedVolume}
use Rattle.ufs_volume.proofs.Rising.{committed_rise}
use Rattle.ufs_volume.proofs.Forms.{committed_fold}

-- ---- the superblock

none_both : {X : Type 0} (a b : Option X) → first_of a b ≡ None → (a ≡ None) × (b ≡ None)
none_both None b is = (refl, is)
none_both (Some x) b is = absurd (let no = is in cc)

not_refused : {X : Type 0} (b : Bool) (x : X) → refused_if b x ≡ None → b ≡ false
not_refused true x is = absurd (let no = is in cc)
not_refused false x is = refl

there : (o : Option Super) → is_none o ≡ false → (s : Super) × (o ≡ Some s)
there None is = absurd (let no = is in cc)
there (Some s) is = (s, refl)

-- the next commit number of a superblock that is taken
pub next_from_one : (sectors : ℕ) (disk : Image) → superblock_refusal sectors disk ≡ None → 1 ≤ (superblock_of disk).next
next_from_one sectors disk is =
    let one = none_both (refused_if (lacks_magic sectors disk) NoSuperblock) _ is in
    let two = none_both (refused_if (has_other_version disk) (BadVersion (superblock_of disk).version)) _ one.1 in
    let three = none_both (refused_if (is_off_form disk) NoSuperblock) _ two.1 in
    let found = there (super_of 1 (disk 0)) (not_refused (is_off_form disk) NoSuperblock three.0) in
    let s = super_fields (disk 0) in
    let both = some_if-some (is_super 1 s && bytes_eq (super_bytes s) (disk 0)) s found.0 found.1 in
    let form = (and_parts (is_super 1 s) (bytes_eq (super_bytes s) (disk 0)) both.0).0 in
    let numbers = (and_parts (s.version == 1) (nat_le 1 s.epoch && nat_le 1 s.next) form).1 in
    leb-true 1 s.next (and_parts (nat_le 1 s.epoch) (nat_le 1 s.next) numbers).1

-- ---- causes

module _ (sectors : ℕ) (disk : Image) where
  superblock_refused : (r : Refusal) → superblock_refusal sectors disk ≡ Some r → volume sectors disk ≡ Err r
  superblock_refused r is = ap (by_superblock disk) is

  pub why_superblock : (f : RecoverFault) → IsRefusal (superblock_refusal sectors disk) f → IsWhyNot (volume sectors disk) f
  why_superblock no_superblock is = superblock_refused image.NoSuperblock is
  why_superblock (bad_version found) is = superblock_refused (image.BadVersion found) is
  why_superblock (bad_geometry number) is = superblock_refused (image.BadGeometry number) is
  why_superblock (bad_record sector) is = superblock_refused (image.BadRecord sector) is
  why_superblock (bad_tree inode) is = superblock_refused (image.BadTree inode) is
  why_superblock (Device fault) is = tt
  why_superblock (Lack why) is = is

  module _ (s : Super) (superblock : s ≡ superblock_of disk) (taken : superblock_refusal sectors disk ≡ None) where
    by_bad : (o : Option ℕ) → bad_sector (geometry_of s) s disk ≡ o → volume sectors disk ≡ by_journal disk o
    by_bad o is = ap (by_superblock disk) taken ∙ ap (by_journal disk) (ap (λ (h : Super). bad_sector (geometry_of h) h disk) (sym superblock) ∙ is)

    pub folds : bad_sector (geometry_of s) s disk ≡ None → volume sectors disk ≡ Ok (volume_of s disk)
    folds is = by_bad None is ∙ ap (λ (h : Super). Ok (volume_of h disk)) (sym superblock)

    pub why_journal : (f : RecoverFault) → IsJournalRefusal (bad_sector (geometry_of s) s disk) f → IsWhyNot (volume sectors disk) f
    why_journal no_superblock is = absurd is
    why_journal (bad_version found) is = absurd is
    why_journal (bad_geometry number) is = absurd is
    why_journal (bad_record sector) is = by_bad (Some sector) is
    why_journal (bad_tree inode) is = absurd is
    why_journal (Device fault) is = tt
    why_journal (Lack why) is = is

-- ---- what was read behind the superblock, while the disk still reads as before
module _ (sectors : ℕ) (disk mid : Image) (content : mid ≡ disk) (h : ImageSuperblock) (superblock : h.superblock ≡ superblock_of disk) (taken : superblock_refusal sectors disk ≡ None) where
  same_bad : bad_sector h.geometry h.superblock mid ≡ bad_sector (geometry_of h.superblock) h.superblock disk
  same_bad i = bad_sector (h.same i) h.superblock (content i)

  same_list : committed h.geometry h.superblock.epoch mid ≡ committed (geometry_of h.superblock) h.superblock.epoch disk
  same_list i = committed (h.same i) h.superblock.epoch (content i)

  pub why_read : (f : RecoverFault) → IsJournalRefusal (bad_sector h.geometry h.superblock mid) f → IsWhyNot (volume sectors disk) f
  why_read f is = why_journal sectors disk h.superblock superblock taken f (subst (λ o. IsJournalRefusal o f) same_bad is)

  module _ (list : List Committed) (is : list ≡ committed h.geometry h.superblock.epoch mid) (none : bad_sector h.geometry h.superblock mid ≡ None) where
    pub rises : IsTrue (rise_above 0 list)
    rises = subst (λ l. IsTrue (rise_above 0 l)) (sym (is ∙ same_list)) (committed_rise (geometry_of h.superblock) h.superblock disk (subst (λ (s : Super). 1 ≤ s.next) (sym superblock) (next_from_one sectors disk taken)) (sym same_bad ∙ none))

    pub folds_all : AreFoldable h.geometry list
    folds_all = subst (λ (g : Geometry). AreFoldable g list) (sym h.same) (subst (AreFoldable (geometry_of h.superblock)) (sym (is ∙ same_list)) (committed_fold (geometry_of h.superblock) h.superblock disk (sym same_bad ∙ none)))

    module _ (v : FoldedVolume) (of : v.superblock ≡ h) where
      pub volume_is : volume sectors disk ≡ Ok (volume_in v disk)
      volume_is =
          folds sectors disk h.superblock superblock taken (sym same_bad ∙ none)
          ∙ ap {B = Result Volume Refusal} (λ (g : Geometry). Ok (record { superblock = h.superblock; geometry = g; image = folded g (committed g h.superblock.epoch disk) disk })) (sym h.same)
          ∙ ap {B = Result Volume Refusal} (λ (x : ImageSuperblock). Ok (record { superblock = x.superblock; geometry = x.geometry; image = folded x.geometry (committed x.geometry x.superblock.epoch disk) disk })) (sym of)

      pub list_is : list ≡ committed_in v disk
      list_is = let back = sym of in is ∙ (λ i. committed (back i).geometry (back i).superblock.epoch (content i))
