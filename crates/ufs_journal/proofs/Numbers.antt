-- An inode's number while records are folded: what was applied isn't applied again.
use Rattle.std.proofs.Common.{◌≡◌, inl, inr, ℕ, zero, suc, ◌+◌, ◌-◌, ◌*◌, ◌^◌, ◌<◌, ◌≤◌, List, [], ◌∷◌, ◌++◌, Bool, true, false, ◌&&◌, ◌||◌, Option, Some, None, length, take, replicate, refl, ap, sym, ◌∙◌, subst, arith}
use Rattle.std.specs.Prelude.{if◌then◌else◌, ◌==◌, not, nat_le, nat_lt, unwrap_or, flat_map}
use Rattle.std.specs.List.{list_all, list_any, AllByRecursion}
use Rattle.std.proofs.lemmas.Bool.{cases_Bool, cases_eq, and_parts, and_from, and_cases, or_parts, eqb-true, eq-eqb, ne_eqb, leb-true, le-leb, lt-ltb, ltb-true, ltb-false, le-ltb}
use Rattle.std.proofs.lemmas.List.{length-append, length-take}
use Rattle.byteorder.specs.Endian.{little_bytes}
use Rattle.byteorder.specs.Numbers.{little_from-bytes}
use Rattle.ufs_layout.specs.Areas.{first_of_data, sector_of_inode, is_inode_number, is_data_sector}
use Rattle.ufs_base.specs.Images.{Image}
use Rattle.ufs_image.specs.Images.{with_sector, form_at}
use Rattle.ufs_layout.specs.InodeForm.{InodeForm, FitsExtent, is_extent, extent_bytes, extents_at, inode_of, inode_fields, inode_bytes, is_inode, free_inode}
use Rattle.ufs_image.specs.Fold.{is_newer, after_delta, with_record, with_valid, with_records}
use Rattle.ufs_layout.specs.Records.{is_record, FitsRecord}
use Rattle.ufs_layout.specs.declared.inode.Extent.{Extent}
use Rattle.ufs_layout.specs.declared.geometry.Geometry.{Geometry}
use Rattle.ufs_layout.specs.declared.records.LogRecord.{LogRecord}
use Rattle.ufs_layout.specs.declared.records.LogRecord.TheVariants.{Delta, Place, Free}
use Rattle.ufs_layout.proofs.InodeForms.{inode-back}
use Rattle.ufs_layout.proofs.Spelled.{spelled-some, spelled-spelling, some_if-some}
use Rattle.ufs_journal.proofs.Local.{put_elsewhere}

-- what a sector is read as
abbrev pub form_of : List ℕ → InodeForm
form_of x = unwrap_or (inode_of x) (free_inode 0)

-- ---- what is read fits

pub read_fit : (es : List Extent) (tail : List ℕ) → AllByRecursion FitsExtent (extents_at (length es) (flat_map extent_bytes es ++ tail))
read_fit [] tail = tt
read_fit (e ∷ es) tail = (
  record {
    start = (let is = little_from-bytes 4 0 e.start (little_bytes 4 e.length ++ (flat_map extent_bytes es ++ tail)) in omega (arith, is));
    length = (let is = little_from-bytes 4 0 e.length (flat_map extent_bytes es ++ tail) in omega (arith, is));
  },
  read_fit es tail,
)

pub read_form : (x : List ℕ) → (is_inode (form_of x) ≡ true) × AllByRecursion FitsExtent (form_of x).extents
read_form x = by (inode_of x) refl
  where
    by : (o : Option InodeForm) → inode_of x ≡ o → (is_inode (unwrap_or o (free_inode 0)) ≡ true) × AllByRecursion FitsExtent (unwrap_or o (free_inode 0)).extents
    by None is = (refl, tt)
    by (Some form) is =
        let spelled_ = spelled-some inode_fields inode_bytes is_inode x form is in
        let same : inode_fields (inode_bytes form) ≡ form = sym (ap inode_fields spelled_.0) ∙ (some_if-some _ (inode_fields x) form is).1 in
        (spelled_.1, subst (AllByRecursion FitsExtent) (ap (λ (f : InodeForm). f.extents) same) (read_fit form.extents (replicate (448 - length (flat_map extent_bytes form.extents)) 0)))

all_fit_append : (xs ys : List Extent) → AllByRecursion FitsExtent xs → AllByRecursion FitsExtent ys → AllByRecursion FitsExtent (xs ++ ys)
all_fit_append [] ys one two = two
all_fit_append (x ∷ xs) ys one two = (one.0, all_fit_append xs ys one.1 two)

all_fit_take : (n : ℕ) (xs : List Extent) → AllByRecursion FitsExtent xs → AllByRecursion FitsExtent (take n xs)
all_fit_take zero xs every = tt
all_fit_take (suc n) [] every = tt
all_fit_take (suc n) (x ∷ xs) every = (every.0, all_fit_take n xs every.1)

extents_append : (n : ℕ) (xs ys : List Extent) → list_all is_extent xs ≡ true → list_all is_extent ys ≡ true → list_all is_extent (take n xs ++ ys) ≡ true
extents_append zero xs ys one two = two
extents_append (suc n) [] ys one two = two
extents_append (suc n) (x ∷ xs) ys one two =
    let parts = and_parts (is_extent x) (list_all is_extent xs) one in
    λ i. parts.0 i && extents_append n xs ys parts.1 two i

-- ---- a changed inode is read back

pub delta_back : (x : List ℕ) (number inode kind size keep : ℕ) (extents : List Extent) → is_record (Delta inode kind size keep extents) ≡ true → FitsRecord (Delta inode kind size keep extents) → number < 2 ^ 64
    → inode_of (inode_bytes (after_delta (form_of x) number kind size keep extents)) ≡ Some (after_delta (form_of x) number kind size keep extents)
delta_back x number inode kind size keep extents is fits small =
    let read = read_form x in
    let parts = and_parts (nat_le 1 kind && nat_le kind 2) (nat_le (keep + length extents) 56 && list_all is_extent extents) is in
    let kinds = and_parts (nat_le 1 kind) (nat_le kind 2) parts.0 in
    let lists = and_parts (nat_le (keep + length extents) 56) (list_all is_extent extents) parts.1 in
    let old = and_parts (nat_le (form_of x).kind 2) _ read.0 in
    let olds = and_parts (nat_le (length (form_of x).extents) 56) _ old.1 in
    let old_extents = and_parts (list_all is_extent (form_of x).extents) _ olds.1 in
    let some : 1 ≤ kind = leb-true 1 kind kinds.0 in
    let few : keep + length extents ≤ 56 = leb-true (keep + length extents) 56 lists.0 in
    let long = length-append (take keep (form_of x).extents) extents in
    let short = length-take keep (form_of x).extents in
    spelled-spelling inode_fields inode_bytes is_inode (after_delta (form_of x) number kind size keep extents)
    (inode-back (after_delta (form_of x) number kind size keep extents) (record {
      size = fits.1;
      number = small;
      extents = all_fit_append (take keep (form_of x).extents) extents (all_fit_take keep (form_of x).extents read.1) fits.2;
    }))
    (λ i. kinds.1 i && (le-leb (length (take keep (form_of x).extents ++ extents)) 56 (omega (arith, long, short, few)) i && (extents_append keep (form_of x).extents extents old_extents.0 lists.1 i
    && (not (ne_eqb kind 0 (λ zero_. absurd (omega arith)) i) || length (take keep (form_of x).extents ++ extents) == 0 && size == 0))))

pub free_back : (number : ℕ) → number < 2 ^ 64 → inode_of (inode_bytes (free_inode number)) ≡ Some (free_inode number)
free_back number small = spelled-spelling inode_fields inode_bytes is_inode (free_inode number) (inode-back (free_inode number) (record { size = omega arith; number = small; extents = tt })) refl

-- ---- one record

abbrev pub number_of : List ℕ → ℕ
number_of x = (form_of x).number

-- The record is of the inode with this sector.
abbrev pub touches : Geometry → ℕ → LogRecord → Bool
touches g s (Delta inode kind size keep extents) = is_inode_number g inode && sector_of_inode g inode == s
touches g s (Place sector slot dentry) = false
touches g s (Free inode) = is_inode_number g inode && sector_of_inode g inode == s

module _ (g : Geometry) (s : ℕ) (before_data : s < 8 * first_of_data g) (number : ℕ) where
  -- a record of another sector
  other_inode : (inode : ℕ) (change : Image → List ℕ) (b now : Image) → is_inode_number g inode && sector_of_inode g inode == s ≡ false
      → (if is_inode_number g inode then (if is_newer g number b inode then with_sector (sector_of_inode g inode) (change now) now else now) else now) s ≡ now s
  other_inode inode change b now not_it = by (is_inode_number g inode) not_it
    where
      by : (c : Bool) → c && sector_of_inode g inode == s ≡ false → (if c then (if is_newer g number b inode then with_sector (sector_of_inode g inode) (change now) now else now) else now) s ≡ now s
      by true e = put_elsewhere (is_newer g number b inode) (sector_of_inode g inode) (change now) now s (λ same. Rattle.std.proofs.lemmas.Bool.true≢false (sym (eq-eqb (sector_of_inode g inode) s (sym same)) ∙ e))
      by false e = refl

  pub untouched : (r : LogRecord) (b now : Image) → touches g s r ≡ false → with_valid g number b r now s ≡ now s
  untouched (Delta inode kind size keep extents) b now not_it = other_inode inode (λ d. inode_bytes (after_delta (form_at g d inode) number kind size keep extents)) b now not_it
  untouched (Free inode) b now not_it = other_inode inode (λ d. inode_bytes (free_inode number)) b now not_it
  untouched (Place sector slot dentry) b now not_it = by (is_data_sector g sector) refl
    where
      by : (c : Bool) → is_data_sector g sector ≡ c → (if c then with_record g number b (Place sector slot dentry) now else now) s ≡ now s
      by true is =
          let low : 8 * first_of_data g ≤ sector = leb-true (8 * first_of_data g) sector (and_parts (nat_le (8 * first_of_data g) sector) (nat_lt sector (8 * g.blocks)) is).0 in
          put_elsewhere true sector _ now s (λ same. absurd (omega arith))
      by false is = refl

  -- one that isn't applied, since the inode has its number or a higher one
  quiet_inode : (inode : ℕ) (change : Image → List ℕ) (b now : Image) → nat_lt (number_of (b s)) number ≡ false
      → (if is_inode_number g inode then (if is_newer g number b inode then with_sector (sector_of_inode g inode) (change now) now else now) else now) s ≡ now s
  quiet_inode inode change b now old = by (is_inode_number g inode)
    where
      inner : (if is_newer g number b inode then with_sector (sector_of_inode g inode) (change now) now else now) s ≡ now s
      inner = elim (cases_eq s (sector_of_inode g inode)) [
        | inl here ↦ ap (λ c. (if c then with_sector (sector_of_inode g inode) (change now) now else now) s) (ap (λ k. nat_lt (number_of (b k)) number) (sym here) ∙ old)
        | inr ne ↦ put_elsewhere (is_newer g number b inode) (sector_of_inode g inode) (change now) now s ne
      ]

      by : (c : Bool) → (if c then (if is_newer g number b inode then with_sector (sector_of_inode g inode) (change now) now else now) else now) s ≡ now s
      by true = inner
      by false = refl

  pub quiet : (r : LogRecord) (b now : Image) → nat_lt (number_of (b s)) number ≡ false → with_valid g number b r now s ≡ now s
  quiet (Delta inode kind size keep extents) b now old = quiet_inode inode (λ d. inode_bytes (after_delta (form_at g d inode) number kind size keep extents)) b now old
  quiet (Free inode) b now old = quiet_inode inode (λ d. inode_bytes (free_inode number)) b now old
  quiet (Place sector slot dentry) b now old = untouched (Place sector slot dentry) b now refl

  -- one that is
  pub applied_inode : (inode : ℕ) (change : Image → List ℕ) (b now : Image) → is_inode_number g inode && sector_of_inode g inode == s ≡ true → nat_lt (number_of (b s)) number ≡ true
      → (if is_inode_number g inode then (if is_newer g number b inode then with_sector (sector_of_inode g inode) (change now) now else now) else now) s ≡ change now
  applied_inode inode change b now it newer =
      let parts = and_parts (is_inode_number g inode) (sector_of_inode g inode == s) it in
      let here : sector_of_inode g inode ≡ s = eqb-true (sector_of_inode g inode) s parts.1 in
      ap (λ c. (if c then (if is_newer g number b inode then with_sector (sector_of_inode g inode) (change now) now else now) else now) s) parts.0
      ∙ ap (λ c. (if c then with_sector (sector_of_inode g inode) (change now) now else now) s) (ap (λ k. nat_lt (number_of (b k)) number) here ∙ newer)
      ∙ ap (λ c. if c then change now else now s) (eq-eqb s (sector_of_inode g inode) (sym here))

  pub applied : (r : LogRecord) (b now : Image) → is_record r ≡ true → FitsRecord r → number < 2 ^ 64 → touches g s r ≡ true → nat_lt (number_of (b s)) number ≡ true → number_of (with_valid g number b r now s) ≡ number
  applied (Delta inode kind size keep extents) b now is fits small it newer =
      ap number_of (applied_inode inode (λ d. inode_bytes (after_delta (form_at g d inode) number kind size keep extents)) b now it newer)
      ∙ ap (λ (o : Option InodeForm). (unwrap_or o (free_inode 0)).number) (delta_back (now (sector_of_inode g inode)) number inode kind size keep extents is fits small)
  applied (Free inode) b now is fits small it newer =
      ap number_of (applied_inode inode (λ d. inode_bytes (free_inode number)) b now it newer) ∙ ap (λ (o : Option InodeForm). (unwrap_or o (free_inode 0)).number) (free_back number small)
  applied (Place sector slot dentry) b now is fits small it newer = absurd (Rattle.std.proofs.lemmas.Bool.true≢false (sym it))

  -- ---- the records of one transaction

  pub quiet_all : (rs : List LogRecord) (b now : Image) → nat_lt (number_of (b s)) number ≡ false → with_records g number b rs now s ≡ now s
  quiet_all [] b now old = refl
  quiet_all (r ∷ rs) b now old = quiet_all rs b (with_valid g number b r now) old ∙ quiet r b now old

  pub untouched_all : (rs : List LogRecord) (b now : Image) → list_any (touches g s) rs ≡ false → with_records g number b rs now s ≡ now s
  untouched_all [] b now none = refl
  untouched_all (r ∷ rs) b now none =
      let parts = or_parts (touches g s r) (list_any (touches g s) rs) none in
      untouched_all rs b (with_valid g number b r now) parts.1 ∙ untouched r b now parts.0

  kept_number : (r : LogRecord) (b now : Image) → is_record r ≡ true → FitsRecord r → number < 2 ^ 64 → nat_lt (number_of (b s)) number ≡ true → number_of (now s) ≡ number → number_of (with_valid g number b r now s) ≡ number
  kept_number r b now is fits small newer has = elim (cases_Bool (touches g s r)) [
    | inl it ↦ applied r b now is fits small it newer
    | inr not_it ↦ ap number_of (untouched r b now not_it) ∙ has
  ]

  pub kept_all : (rs : List LogRecord) (b now : Image) → list_all is_record rs ≡ true → AllByRecursion FitsRecord rs → number < 2 ^ 64 → nat_lt (number_of (b s)) number ≡ true → number_of (now s) ≡ number → number_of (with_records g number b rs now s) ≡ number
  kept_all [] b now every fits small newer has = has
  kept_all (r ∷ rs) b now every fits small newer has =
      let parts = and_parts (is_record r) (list_all is_record rs) every in
      kept_all rs b (with_valid g number b r now) parts.1 fits.1 small newer (kept_number r b now parts.0 fits.0 small newer has)

  pub applied_all : (rs : List LogRecord) (b now : Image) → list_all is_record rs ≡ true → AllByRecursion FitsRecord rs → number < 2 ^ 64 → nat_lt (number_of (b s)) number ≡ true → list_any (touches g s) rs ≡ true → number_of (with_records g number b rs now s) ≡ number
  applied_all [] b now every fits small newer some = absurd (Rattle.std.proofs.lemmas.Bool.true≢false (sym some))
  applied_all (r ∷ rs) b now every fits small newer some =
      let parts = and_parts (is_record r) (list_all is_record rs) every in
      by (touches g s r) refl some (λ it. kept_all rs b (with_valid g number b r now) parts.1 fits.1 small newer (applied r b now parts.0 fits.0 small it newer))
      (λ more. applied_all rs b (with_valid g number b r now) parts.1 fits.1 small newer more)
    where
      by : (c : Bool) → touches g s r ≡ c → c || list_any (touches g s) rs ≡ true
          → (touches g s r ≡ true → number_of (with_records g number b rs (with_valid g number b r now) s) ≡ number)
          → (list_any (touches g s) rs ≡ true → number_of (with_records g number b rs (with_valid g number b r now) s) ≡ number)
          → number_of (with_records g number b rs (with_valid g number b r now) s) ≡ number
      by true it some here more = here it
      by false it some here more = more some
