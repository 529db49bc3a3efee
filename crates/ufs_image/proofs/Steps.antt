-- Records go on alike over an image and over its catalog.
use Rattle.std.proofs.Common.{◌≡◌, ◌≢◌, ℕ, zero, suc, ◌+◌, ◌*◌, ◌-◌, ◌/◌, ◌%◌, ◌<◌, ◌≤◌, ◌^◌, List, [], ◌∷◌, ◌++◌, length, take, set, Option, Some, Bool, true, false, map, unwrap_or, ap, sym, refl, ◌∙◌, subst, arith, length-append}
use Rattle.std.specs.Prelude.{◌==◌, ◌&&◌, ◌||◌, not, nat_lt, nat_le, if◌then◌else◌, IsTrue, slice_set}
use Rattle.std.specs.List.{list_all, AllByRecursion}
use Rattle.std.proofs.lemmas.Bool.{and_parts}
use Rattle.std.proofs.lemmas.Bool.Decides.{nat_tests}
use Rattle.std.proofs.lemmas.List.{map-set}
use Rattle.ufs_layout.specs.Words.{pieces}
use Rattle.ufs_layout.specs.Areas.{sector_of_inode, is_inode_number, is_data_sector, first_of_data}
use Rattle.ufs_layout.specs.InodeForm.{InodeForm, inode_of, inode_bytes, inode_fields, is_inode, is_extent, free_inode, FitsExtent}
use Rattle.ufs_layout.specs.DentryForm.{DentryForm, dentry_bytes, dentry_of, is_dentry}
use Rattle.ufs_base.specs.Images.{Image}
use Rattle.ufs_image.specs.Images.{with_sector, with_slot, inode_at, form_at}
use Rattle.ufs_layout.specs.Records.{is_record, FitsRecord}
use Rattle.ufs_image.specs.Fold.{is_newer, with_inode, after_delta, with_record, with_valid, with_records, with_committed, folded}
use Rattle.ufs_layout.specs.declared.geometry.Geometry.{Geometry}
use Rattle.ufs_layout.specs.declared.inode.Extent.{Extent}
use Rattle.ufs_layout.specs.declared.records.LogRecord.{LogRecord}
use Rattle.ufs_layout.specs.declared.records.LogRecord.TheVariants.{Delta, Place, Free}
use Rattle.ufs_layout.specs.declared.records.Committed.{Committed}
use Rattle.ufs_image.specs.Catalog.{Catalog, IsInode}
use Rattle.ufs_image.specs.Nodes.{read_block}
use Rattle.ufs_image.specs.Agree.{IsOfBlock}
use Rattle.ufs_image.specs.Folding.{with_form, with_dentry, is_newer_in, with_record_in, with_valid_in, with_records_in, with_committed_in, folded_in, FitsForm, AreSpelled, FitsCommitted, Spells}
use Rattle.ufs_image.proofs.Blocks.{read_same}
use Rattle.ufs_image.proofs.Empty.{both_true, apart_false}
use Rattle.ufs_layout.proofs.Spelled.{spelled-spelling}
use Rattle.ufs_layout.proofs.InodeForms.{inode-back}
use Rattle.ufs_image.proofs.SlotBytes.{dentry-read, pieces-set, length-with_slot, set_in_row}
use Rattle.ufs_layout.proofs.RecordForms.{length-dentry}

pub inode-read : (form : InodeForm) → FitsForm form → inode_of (inode_bytes form) ≡ Some form
inode-read form fits = spelled-spelling inode_fields inode_bytes is_inode form (inode-back form (record { size = fits.size; number = fits.number; extents = fits.extents })) fits.spelled

in_range_bool : (g : Geometry) (inode : ℕ) → is_inode_number g inode ≡ true → IsInode g inode
in_range_bool g inode e =
    let low = (and_parts (nat_le 1 inode) (nat_le inode g.inodes) e).0 in
    let high = (and_parts (nat_le 1 inode) (nat_le inode g.inodes) e).1 in
    record { from_one = grind (arith, nat_tests, low); within = grind (arith, nat_tests, high) }

data_sector : (g : Geometry) (sector : ℕ) → is_data_sector g sector ≡ true → 8 * first_of_data g ≤ sector
data_sector g sector e = let low = (and_parts (nat_le (8 * first_of_data g) sector) (nat_lt sector (8 * g.blocks)) e).0 in grind (arith, nat_tests, low)

before_data : (g : Geometry) (inode : ℕ) → IsInode g inode → sector_of_inode g inode < 8 * first_of_data g
before_data g inode is = let from = is.from_one in let most = is.within in omega (arith, from, most)

-- ---- forms

taken_fit : (n : ℕ) (es : List Extent) → AllByRecursion FitsExtent es → AllByRecursion FitsExtent (take n es)
taken_fit zero es all = tt
taken_fit (suc n) [] all = tt
taken_fit (suc n) (e ∷ es) all = (all.0, taken_fit n es all.1)

joined_fit : (es fs : List Extent) → AllByRecursion FitsExtent es → AllByRecursion FitsExtent fs → AllByRecursion FitsExtent (es ++ fs)
joined_fit [] fs all more = more
joined_fit (e ∷ es) fs all more = (all.0, joined_fit es fs all.1 more)

taken_all : {X : Type 0} (p : X → Bool) (n : ℕ) (xs : List X) → list_all p xs ≡ true → list_all p (take n xs) ≡ true
taken_all p zero xs e = refl
taken_all p (suc n) [] e = refl
taken_all p (suc n) (x ∷ xs) e = let parts = and_parts (p x) (list_all p xs) e in both_true _ _ parts.0 (taken_all p n xs parts.1)

joined_all : {X : Type 0} (p : X → Bool) (xs ys : List X) → list_all p xs ≡ true → list_all p ys ≡ true → list_all p (xs ++ ys) ≡ true
joined_all p [] ys e h = h
joined_all p (x ∷ xs) ys e h = let parts = and_parts (p x) (list_all p xs) e in both_true _ _ parts.0 (joined_all p xs ys parts.1 h)

length-taken : {X : Type 0} (n : ℕ) (xs : List X) → length (take n xs) ≤ n
length-taken zero xs = omega arith
length-taken (suc n) [] = omega arith
length-taken (suc n) (x ∷ xs) = let rest = length-taken n xs in omega (arith, rest)

after_fits : (form : InodeForm) (number kind size keep : ℕ) (extents : List Extent) → FitsForm form → number < 2 ^ 64
    → ((nat_le 1 kind && nat_le kind 2) && (nat_le (keep + length extents) 56 && list_all is_extent extents)) ≡ true → size < 2 ^ 64 → AllByRecursion FitsExtent extents → FitsForm (after_delta form number kind size keep extents)
after_fits form number kind size keep extents fits small e sized more =
    let halves = and_parts (nat_le 1 kind && nat_le kind 2) _ e in
    let kinds = and_parts (nat_le 1 kind) (nat_le kind 2) halves.0 in
    let rest = and_parts (nat_le (keep + length extents) 56) (list_all is_extent extents) halves.1 in
    let old = (and_parts (list_all is_extent form.extents) _ (and_parts (nat_le (length form.extents) 56) _ (and_parts (nat_le form.kind 2) _ fits.spelled).1).1).0 in
    let low = kinds.0 in
    let many = rest.0 in
    let used : not (kind == 0) ≡ true = grind (arith, nat_tests, low) in
    let taken = length-taken keep form.extents in
    let whole = length-append (take keep form.extents) extents in
    let count : nat_le (length (take keep form.extents ++ extents)) 56 ≡ true = grind (arith, nat_tests, many, taken, whole) in
    record {
      spelled = both_true _ _ kinds.1 (both_true _ _ count (both_true _ _ (joined_all is_extent (take keep form.extents) extents (taken_all is_extent keep form.extents old) rest.1) (ap (λ b. b || length (take keep form.extents ++ extents) == 0 && size == 0) used)));
      size = sized;
      number = small;
      extents = joined_fit (take keep form.extents) extents (taken_fit keep form.extents fits.extents) more;
    }

free_fits : (number : ℕ) → number < 2 ^ 64 → FitsForm (free_inode number)
free_fits number small = record { spelled = refl; size = omega arith; number = small; extents = tt }

module _ (g : Geometry) (whole : Bool) (these : ℕ → Bool) where
  -- ---- an inode

  set_form : (image : Image) (c : Catalog) (inode : ℕ) (form : InodeForm) → Spells g whole these image c → IsInode g inode → FitsForm form → Spells g whole these (with_inode g inode form image) (with_form inode form c)
  set_form image c inode form is in_range fits = record {
    forms = λ k there. shown k there (k == inode) refl;
    on_form = λ e k there. spelled e k there (k == inode) refl;
    fit = λ k there. by_fit k there (k == inode);
    in_data = is.in_data;
    slots = λ b e. sym (read_same image (with_inode g inode form image) b (λ s of. sym (untouched b s e of))) ∙ is.slots b e;
    sized = λ b s e of. ap length (untouched b s e of) ∙ is.sized b s e of;
  }
    where
      here : (k : ℕ) → (k == inode) ≡ true → with_inode g inode form image (sector_of_inode g k) ≡ inode_bytes form
      here k e =
          let same : k ≡ inode = grind (arith, nat_tests, e) in
          let at : (sector_of_inode g k == sector_of_inode g inode) ≡ true = let sectors = ap (sector_of_inode g) same in grind (arith, nat_tests, sectors) in
          ap (λ b. if b then inode_bytes form else image (sector_of_inode g k)) at

      elsewhere : (k : ℕ) → IsInode g k → (k == inode) ≡ false → with_inode g inode form image (sector_of_inode g k) ≡ image (sector_of_inode g k)
      elsewhere k there e =
          let low = there.from_one in
          let other = in_range.from_one in
          let apart : sector_of_inode g k ≢ sector_of_inode g inode = λ h. let same : k ≡ inode = omega (arith, h, low, other) in let yes : (k == inode) ≡ true = grind (arith, nat_tests, same) in let no = sym e ∙ yes in cc in
          ap (λ b. if b then inode_bytes form else image (sector_of_inode g k)) (apart_false _ _ apart)

      shown : (k : ℕ) → IsInode g k → (b : Bool) → (k == inode) ≡ b → form_at g (with_inode g inode form image) k ≡ (if k == inode then form else c.forms k)
      shown k there true e = ap (λ o. unwrap_or o (free_inode 0)) (ap inode_of (here k e) ∙ inode-read form fits) ∙ ap (λ b. if b then form else c.forms k) (sym e)
      shown k there false e = ap (λ bytes. unwrap_or (inode_of bytes) (free_inode 0)) (elsewhere k there e) ∙ is.forms k there ∙ ap (λ b. if b then form else c.forms k) (sym e)

      spelled : IsTrue whole → (k : ℕ) → IsInode g k → (b : Bool) → (k == inode) ≡ b → inode_at g (with_inode g inode form image) k ≡ Some (if k == inode then form else c.forms k)
      spelled w k there true e = ap inode_of (here k e) ∙ inode-read form fits ∙ ap (λ b. Some (if b then form else c.forms k)) (sym e)
      spelled w k there false e = ap inode_of (elsewhere k there e) ∙ is.on_form w k there ∙ ap (λ b. Some (if b then form else c.forms k)) (sym e)

      by_fit : (k : ℕ) → IsInode g k → (b : Bool) → FitsForm (if b then form else c.forms k)
      by_fit k there true = fits
      by_fit k there false = is.fit k there

      untouched : (b s : ℕ) → IsTrue (these b) → IsOfBlock b s → with_inode g inode form image s ≡ image s
      untouched b s e of =
          let data_from = is.in_data b e in
          let at = of.same in
          let table = before_data g inode in_range in
          let apart : s ≢ sector_of_inode g inode = λ h. omega (arith, h, at, data_from, table) in
          ap (λ t. if t then inode_bytes form else image s) (apart_false _ _ apart)

  -- ---- a dentry

  row_of : Image → ℕ → List (Option DentryForm)
  row_of image s = map dentry_of (pieces 8 64 (image s))

  set_slot : (image : Image) (c : Catalog) (sector slot : ℕ) (d : DentryForm) → Spells g whole these image c → is_data_sector g sector ≡ true → slot < 8 → is_dentry d ≡ true → d.inode < 2 ^ 32 → length d.name ≤ 58
      → Spells g whole these (with_sector sector (with_slot slot (dentry_bytes d) (image sector)) image) (with_dentry sector slot d c)
  set_slot image c sector slot d is within less form small short = record {
    forms = λ k there. ap (λ bytes. unwrap_or (inode_of bytes) (free_inode 0)) (kept k there) ∙ is.forms k there;
    on_form = λ e k there. ap inode_of (kept k there) ∙ is.on_form e k there;
    fit = is.fit;
    in_data = is.in_data;
    slots = λ b e. slots b e (b == sector / 8) refl;
    sized = λ b s e of. sized b s e of (s == sector) refl;
  }
    where
      bytes : List ℕ
      bytes = with_slot slot (dentry_bytes d) (image sector)

      kept : (k : ℕ) → IsInode g k → with_sector sector (with_slot slot (dentry_bytes d) (image sector)) image (sector_of_inode g k) ≡ image (sector_of_inode g k)
      kept k there =
          let table = before_data g k there in
          let from = data_sector g sector within in
          let apart : sector_of_inode g k ≢ sector = λ h. omega (arith, h, table, from) in
          ap (λ t. if t then with_slot slot (dentry_bytes d) (image sector) else image (sector_of_inode g k)) (apart_false _ _ apart)

      elsewhere : (s : ℕ) → s ≢ sector → with_sector sector (with_slot slot (dentry_bytes d) (image sector)) image s ≡ image s
      elsewhere s apart = ap (λ t. if t then with_slot slot (dentry_bytes d) (image sector) else image s) (apart_false _ _ apart)

      here : with_sector sector (with_slot slot (dentry_bytes d) (image sector)) image sector ≡ with_slot slot (dentry_bytes d) (image sector)
      here = let same : (sector == sector) ≡ true = grind (arith, nat_tests) in ap (λ t. if t then with_slot slot (dentry_bytes d) (image sector) else image sector) same

      sized : (b s : ℕ) → IsTrue (these b) → IsOfBlock b s → (t : Bool) → (s == sector) ≡ t → length (if s == sector then with_slot slot (dentry_bytes d) (image sector) else image s) ≡ 512
      sized b s e of true at =
          let same : s ≡ sector = grind (arith, nat_tests, at) in
          let size : length (image sector) ≡ 512 = ap (λ k. length (image k)) (sym same) ∙ is.sized b s e of in
          ap (λ t. length (if t then with_slot slot (dentry_bytes d) (image sector) else image s)) at ∙ length-with_slot slot (dentry_bytes d) (image sector) less size (length-dentry d short)
      sized b s e of false at = ap (λ t. length (if t then with_slot slot (dentry_bytes d) (image sector) else image s)) at ∙ is.sized b s e of

      slots : (b : ℕ) → IsTrue (these b) → (t : Bool) → (b == sector / 8) ≡ t
          → read_block (with_sector sector (with_slot slot (dentry_bytes d) (image sector)) image) b ≡ map Some (if b == sector / 8 then slice_set (c.slots b) (8 * (sector % 8) + slot) d else c.slots b)
      slots b e false at =
          let apart : b ≢ sector / 8 = λ h. let yes : (b == sector / 8) ≡ true = grind (arith, nat_tests, h) in let no = sym at ∙ yes in cc in
          sym (read_same image (with_sector sector (with_slot slot (dentry_bytes d) (image sector)) image) b (λ s of. sym (elsewhere s (λ h. let place = of.same in let in_block = of.in_block in apart (omega (arith, h, place, in_block))))))
          ∙ is.slots b e ∙ ap (λ t. map Some (if t then slice_set (c.slots b) (8 * (sector % 8) + slot) d else c.slots b)) (sym at)
      slots b e true at =
          let same : b ≡ sector / 8 = grind (arith, nat_tests, at) in
          let low : 8 * b ≤ sector = omega (arith, same) in
          let high : sector < 8 * b + 8 = omega (arith, same) in
          let place : 8 * (sector - 8 * b) + slot ≡ 8 * (sector % 8) + slot = omega (arith, same) in
          let size : length (image sector) ≡ 512 = is.sized b sector e (record { slot = sector - 8 * b; in_block = omega (arith, low, high); same = omega (arith, low) }) in
          let row : map dentry_of (pieces 8 64 (with_sector sector (with_slot slot (dentry_bytes d) (image sector)) image sector)) ≡ set (map dentry_of (pieces 8 64 (image sector))) slot (Some d) =
          ap (λ x. map dentry_of (pieces 8 64 x)) here ∙ ap (map dentry_of) (pieces-set 8 slot (image sector) (dentry_bytes d) less (omega (arith, size)) (length-dentry d short))
          ∙ map-set dentry_of (pieces 8 64 (image sector)) slot (dentry_bytes d) ∙ ap (set (map dentry_of (pieces 8 64 (image sector))) slot) (dentry-read d small form) in
          set_in_row (λ s. map dentry_of (pieces 8 64 (image s))) (λ s. map dentry_of (pieces 8 64 (with_sector sector (with_slot slot (dentry_bytes d) (image sector)) image s))) (8 * b) 8 sector slot (Some d) low high less
          (λ s. refl) (λ s apart. ap (λ x. map dentry_of (pieces 8 64 x)) (elsewhere s apart)) row
          ∙ ap (λ m. set (read_block image b) m (Some d)) place
          ∙ ap (λ os. set os (8 * (sector % 8) + slot) (Some d)) (is.slots b e)
          ∙ sym (map-set Some (c.slots b) (8 * (sector % 8) + slot) d)
          ∙ ap (λ t. map Some (if t then slice_set (c.slots b) (8 * (sector % 8) + slot) d else c.slots b)) (sym at)

  -- ---- records

  form_there : (image : Image) (c : Catalog) → Spells g whole these image c → (inode : ℕ) → IsInode g inode → form_at g image inode ≡ c.forms inode
  form_there image c is inode in_range = is.forms inode in_range

  newer_there : (image : Image) (c : Catalog) → Spells g whole these image c → (number inode : ℕ) → IsInode g inode → is_newer g number image inode ≡ is_newer_in number c inode
  newer_there image c is number inode in_range = ap (λ (f : InodeForm). nat_lt f.number number) (form_there image c is inode in_range)

  pub record_step : (number : ℕ) → number < 2 ^ 64 → (before now : Image) (b c : Catalog) (r : LogRecord) → Spells g whole these before b → Spells g whole these now c → IsTrue (is_record r) × FitsRecord r
      → Spells g whole these (with_valid g number before r now) (with_valid_in g number b r c)
  record_step number small before now b c (Delta inode kind size keep extents) first is good = by (is_inode_number g inode) refl
    where
      by : (t : Bool) → is_inode_number g inode ≡ t
          → Spells g whole these (if t then with_record g number before (Delta inode kind size keep extents) now else now) (if t then with_record_in number b (Delta inode kind size keep extents) c else c)
      by false e = is
      by true e = subst (λ img. Spells g whole these img (with_record_in number b (Delta inode kind size keep extents) c)) (sym image_is) (of (is_newer_in number b inode))
        where
          in_range : IsInode g inode
          in_range = in_range_bool g inode e

          to : InodeForm
          to = after_delta (c.forms inode) number kind size keep extents

          image_is : with_record g number before (Delta inode kind size keep extents) now ≡ (if is_newer_in number b inode then with_inode g inode (after_delta (c.forms inode) number kind size keep extents) now else now)
          image_is = λ i. if newer_there before b first number inode in_range i then with_inode g inode (after_delta (form_there now c is inode in_range i) number kind size keep extents) now else now

          of : (t : Bool) → Spells g whole these (if t then with_inode g inode (after_delta (c.forms inode) number kind size keep extents) now else now) (if t then with_form inode (after_delta (c.forms inode) number kind size keep extents) c else c)
          of true = set_form now c inode (after_delta (c.forms inode) number kind size keep extents) is in_range (after_fits (c.forms inode) number kind size keep extents (is.fit inode in_range) small good.0 good.1.1 good.1.2)
          of false = is
  record_step number small before now b c (Place sector slot dentry) first is good = by (is_data_sector g sector) refl
    where
      by : (t : Bool) → is_data_sector g sector ≡ t
          → Spells g whole these (if t then with_record g number before (Place sector slot dentry) now else now) (if t then with_record_in number b (Place sector slot dentry) c else c)
      by false e = is
      by true e =
          let parts = and_parts (nat_lt slot 8) (is_dentry dentry) good.0 in
          let most = parts.0 in
          set_slot now c sector slot dentry is e (grind (arith, nat_tests, most)) parts.1 good.1.1 good.1.2
  record_step number small before now b c (Free inode) first is good = by (is_inode_number g inode) refl
    where
      by : (t : Bool) → is_inode_number g inode ≡ t → Spells g whole these (if t then with_record g number before (Free inode) now else now) (if t then with_record_in number b (Free inode) c else c)
      by false e = is
      by true e = subst (λ t. Spells g whole these (if t then with_inode g inode (free_inode number) now else now) (with_record_in number b (Free inode) c)) (sym (newer_there before b first number inode (in_range_bool g inode e))) (of (is_newer_in number b inode))
        where
          of : (t : Bool) → Spells g whole these (if t then with_inode g inode (free_inode number) now else now) (if t then with_form inode (free_inode number) c else c)
          of true = set_form now c inode (free_inode number) is (in_range_bool g inode e) (free_fits number small)
          of false = is

  records_step : (number : ℕ) → number < 2 ^ 64 → (before now : Image) (b c : Catalog) (rs : List LogRecord) → Spells g whole these before b → Spells g whole these now c → AreSpelled rs
      → Spells g whole these (with_records g number before rs now) (with_records_in g number b rs c)
  records_step number small before now b c [] first is good = is
  records_step number small before now b c (r ∷ rs) first is good =
      records_step number small before (with_valid g number before r now) b (with_valid_in g number b r c) rs first (record_step number small before now b c r first is good.0) good.1

  pub committed_step : (image : Image) (c : Catalog) (t : Committed) → Spells g whole these image c → FitsCommitted t → Spells g whole these (with_committed g t image) (with_committed_in g t c)
  committed_step image c t is good = records_step t.number good.number image image c c t.records is is good.records

  pub folded_step : (ts : List Committed) (image : Image) (c : Catalog) → Spells g whole these image c → AllByRecursion FitsCommitted ts → Spells g whole these (folded g ts image) (folded_in g ts c)
  folded_step [] image c is good = is
  folded_step (t ∷ ts) image c is good = folded_step ts (with_committed g t image) (with_committed_in g t c) (committed_step image c t is good.0) good.1
