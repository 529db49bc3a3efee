-- Files that come to others, and the forms that were read.
use Rattle.std.proofs.Common.{◌≡◌, ◌≢◌, ℕ, zero, suc, ◌+◌, ◌-◌, ◌<◌, ◌≤◌, ◌⊎◌, inl, inr, List, [], ◌∷◌, Bool, true, false, Option, None, Some, length, get_or, slice_index_or, refl, ap, sym, ◌∙◌, subst, arith}
use Rattle.std.specs.Prelude.{IsSome, is_some, slice_get, unwrap_or}
use Rattle.std.specs.Ordering.{nat_cmp}
use Rattle.std.specs.FinMap as fin
use Rattle.std.proofs.lemmas.List.{get_or_default, length-replicate}
use Rattle.std.proofs.lemmas.List.FromFn.{get_or-map-range_with_len, length-map-range_with_len}
use Rattle.ufs_base.specs.Images as images
use Rattle.ufs_file.specs.Content.{Content, IsContentOf, block_count, unread}
use Rattle.ufs_file.specs.Hand.{FileState}
use Rattle.ufs_files.specs.Files.{Files}
use Rattle.ufs_files.proofs.MapLemmas.{one_or_apart, put_here, put_else, is_here}
use Rattle.ufs_image.specs.Catalog.{Catalog, IsInode}
use Rattle.ufs_image.specs.Images.{inode_at, form_at}
use Rattle.ufs_layout.specs.InodeForm.{InodeForm, free_inode}
use Rattle.ufs_layout.specs.declared.geometry.Geometry.{Geometry}
use Rattle.ufs_model.proofs.Facts.Lookups.{same_some}
use Rattle.ufs_names.specs.NamesPart.{NamesPart}
use Rattle.ufs_promise_laws.specs.Loaded.{IsRead, AreRead}
use Rattle.ufs_walk.proofs.Marked.{get_replicate}
use Rattle.ufs_start.specs.Files.{AreFormsOf, AreLaid, AreUnread, IsLaid, IsSoundFile}
use Rattle.ufs_start.specs.Refused.{NamesFile}
use Rattle.ufs_start.specs.Tables.{form_in}
use Rattle.ufs_start.specs.declared.fault.StartFault.{StartFault}
use Rattle.ufs_start.specs.declared.fault.StartFault.TheVariants.{Image, Unreached, Unnamed, ExtraBlocks}

-- ---- the form of an inode

module _ (g : Geometry) (image : images.Image) (forms : List (Option InodeForm)) (are : AreFormsOf g image forms) (inode at : ℕ) (place : at + 1 ≡ inode) (within : inode ≤ length forms) where
  inode_there : (o : Option InodeForm) → o ≡ get_or forms at o → inode_at g image inode ≡ o
  inode_there o is =
      let count : length forms ≡ g.inodes = ap length are ∙ length-map-range_with_len (inode_at g image) 1 g.inodes in
      sym (is ∙ ap (λ (l : List (Option InodeForm)). get_or l at o) are ∙ get_or-map-range_with_len (inode_at g image) 1 g.inodes at inode o (omega (arith, place, within, count)) (omega (arith, place)))

  pub form_there : (form : InodeForm) → Some form ≡ get_or forms at (Some form) → form_at g image inode ≡ form
  form_there form is = ap (λ (o : Option InodeForm). unwrap_or o (free_inode 0)) (inode_there (Some form) is)

module _ (forms : List (Option InodeForm)) (inode at : ℕ) (place : at + 1 ≡ inode) (within : inode ≤ length forms) (o : Option InodeForm) (is : o ≡ get_or forms at o) where
  form_at_place : form_in forms inode ≡ o
  form_at_place =
      let same : inode - 1 ≡ at = omega (arith, place) in
      ap (λ k. get_or forms k None) same ∙ get_or_default forms at None o (omega (arith, place, within)) ∙ sym is

  -- it was read
  pub no_form : (f : InodeForm) → form_in forms inode ≡ Some f → o ≡ Some f
  no_form f there = sym form_at_place ∙ there

  pub sound_form : (f form : InodeForm) → form_in forms inode ≡ Some f → o ≡ Some form → IsSoundFile f → IsSoundFile form
  sound_form f form there some sound = subst IsSoundFile (same_some f form (sym there ∙ form_at_place ∙ some)) sound

pub inode_within : (g : Geometry) (image : images.Image) (forms : List (Option InodeForm)) → AreFormsOf g image forms → (inode : ℕ) → 1 ≤ inode → inode ≤ length forms → IsInode g inode
inode_within g image forms are inode from within = let count : length forms ≡ g.inodes = ap length are ∙ length-map-range_with_len (inode_at g image) 1 g.inodes in record { from_one = from; within = omega (arith, within, count) }

-- the inode of the form at this place is one of the image's
pub names_inode : (g : Geometry) (image : images.Image) (forms : List (Option InodeForm)) → AreFormsOf g image forms → (place : ℕ) → place < length forms → (fault : StartFault) → NamesFile (λ i. i ≡ place + 1) fault → NamesFile (IsInode g) fault
names_inode g image forms are place within fault named = by fault named
  where
    there : (inode : ℕ) → inode ≡ place + 1 → IsInode g inode
    there inode at = inode_within g image forms are inode (omega (arith, at)) (omega (arith, at, within))

    by : (fault : StartFault) → NamesFile (λ i. i ≡ place + 1) fault → NamesFile (IsInode g) fault
    by (Image why) named = tt
    by (Unreached inode) named = tt
    by (Unnamed inode) named = tt
    by (ExtraBlocks inode) named = there inode named

-- ---- a file of which nothing was read

-- it may have any bytes of its size
pub may_be : (c : Content) (size : ℕ) (bytes : List ℕ) → c ≡ unread size → length bytes ≡ size → IsContentOf c bytes
may_be c size bytes is long = record {
  long = long ∙ sym (ap (λ (x : Content). length x.bytes) is ∙ length-replicate {A = ℕ} size 0);
  same = λ place there. let unlike : true ≡ false = get_replicate (block_count size) place false true (sym (ap (λ (x : Content). slice_get x.there place) is) ∙ there) in absurd cc;
}

pub marks_of : (c : Content) (size : ℕ) → c ≡ unread size → length c.dirty ≡ block_count size
marks_of c size is = ap (λ (x : Content). length x.dirty) is ∙ length-replicate {A = Bool} (block_count size) false

-- ---- one file more

module _ (files : Files) (file : ℕ) (s : FileState) where
  -- what is under a number now is the new file, or was there
  met : (other : ℕ) (r : FileState) → fin.get (fin.insert files file s) other ≡ Some r → ((other ≡ file) × (r ≡ s)) ⊎ (fin.get files other ≡ Some r)
  met other r there = by (one_or_apart other file)
    where
      by : (other ≡ file) ⊎ (other ≢ file) → ((other ≡ file) × (r ≡ s)) ⊎ (fin.get files other ≡ Some r)
      by (inl is) = inl (is, same_some r s (sym there ∙ ap (fin.get (fin.insert files file s)) is ∙ put_here files file s))
      by (inr not) = inr (sym (put_else files file s other not) ∙ there)

  pub read_with : (image : images.Image) (c : Catalog) (n : NamesPart) → AreRead image c n files → IsRead image c n file s → AreRead image c n (fin.insert files file s)
  read_with image c n are is other r there = elim (met other r there) [
    | inl new ↦ subst (λ (p : ℕ × FileState). IsRead image c n p.0 p.1) (λ k. (sym new.0 k, sym new.1 k)) is
    | inr old ↦ are other r old
  ]

  pub unread_with : (c : Catalog) → AreUnread c files → s.content ≡ unread (c.forms s.inode).size → AreUnread c (fin.insert files file s)
  unread_with c are is other r there = elim (met other r there) [
    | inl new ↦ subst (λ (x : FileState). x.content ≡ unread (c.forms x.inode).size) (sym new.1) is
    | inr old ↦ are other r old
  ]

  pub laid_with : (c : Catalog) → AreLaid c files → IsLaid c s → AreLaid c (fin.insert files file s)
  laid_with c are is other r there = elim (met other r there) [
    | inl new ↦ subst (IsLaid c) (sym new.1) is
    | inr old ↦ are other r old
  ]

  pub here_with : IsSome (fin.get (fin.insert files file s) file)
  here_with = is_here (fin.insert files file s) file s (put_here files file s)

  -- and no other is new
  pub alone_with : (other : ℕ) → IsSome (fin.get (fin.insert files file s) other) → IsSome (fin.get files other) ⊎ (other ≡ file)
  alone_with other now = elim (one_or_apart other file) [
    | inl is ↦ inr is
    | inr not ↦ inl (subst IsSome (put_else files file s other not) now)
  ]

  pub kept_with : (other : ℕ) → IsSome (fin.get files other) → IsSome (fin.get (fin.insert files file s) other)
  kept_with other was = elim (one_or_apart other file) [
    | inl is ↦ subst (λ f. IsSome (fin.get (fin.insert files file s) f)) (sym is) here_with
    | inr not ↦ subst IsSome (sym (put_else files file s other not)) was
  ]

-- ---- none yet

pub none_read : (image : images.Image) (c : Catalog) (n : NamesPart) (files : Files) → files ≡ fin.empty → AreRead image c n files
none_read image c n files none file s there = let empty = fin.get-empty {X = FileState} nat_cmp file in let was = ap (λ (fs : Files). fin.get fs file) none in cc

pub none_unread : (c : Catalog) (files : Files) → files ≡ fin.empty → AreUnread c files
none_unread c files none file s there = let empty = fin.get-empty {X = FileState} nat_cmp file in let was = ap (λ (fs : Files). fin.get fs file) none in cc

pub none_laid : (c : Catalog) (files : Files) → files ≡ fin.empty → AreLaid c files
none_laid c files none file s there = let empty = fin.get-empty {X = FileState} nat_cmp file in let was = ap (λ (fs : Files). fin.get fs file) none in cc

pub none_told : (files : Files) (file : ℕ) → files ≡ fin.empty → IsSome (fin.get files file) → ⊥
none_told files file none some = let empty = fin.get-empty {X = FileState} nat_cmp file in let was = ap (λ (fs : Files). fin.get fs file) none in let no : true ≡ false = sym some ∙ ap is_some (was ∙ empty) in absurd cc

pub none_here : (o : Option FileState) → (IsSome o → ⊥) → o ≡ None
none_here None not = refl
none_here (Some s) not = absurd (not refl)

-- ---- numbers by inode

pub inside : (numbers : List (Option ℕ)) (inode file : ℕ) → slice_index_or numbers inode None ≡ Some file → inode < length numbers
inside [] inode file e = let no = e in cc
inside (x ∷ xs) zero file e = omega arith
inside (x ∷ xs) (suc k) file e = let rest = inside xs k file e in omega (arith, rest)
