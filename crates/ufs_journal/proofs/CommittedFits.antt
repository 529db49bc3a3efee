-- What is committed in an image is on its form, and its numbers are in the ranges of their types.
use Rattle.std.proofs.Common.{◌≡◌, ℕ, zero, suc, ◌+◌, ◌-◌, ◌^◌, ◌<◌, ◌≤◌, List, [], ◌∷◌, ◌++◌, Bool, true, false, ◌&&◌, Option, Some, None, length, take, drop, replicate, refl, ap, sym, ◌∙◌, subst, arith}
use Rattle.std.specs.Prelude.{if◌then◌else◌, ◌==◌, nat_le, nat_lt, map, flat_map}
use Rattle.std.specs.List.{filter, filter_map, list_all, range_with_len, cons_option, AllByRecursion}
use Rattle.std.specs.Option.{option_map}
use Rattle.std.proofs.lemmas.Bool.{and_parts, leb-true}
use Rattle.std.proofs.lemmas.List.{take_at}
use Rattle.byteorder.specs.Endian.{little_bytes}
use Rattle.byteorder.specs.Numbers.{little_from-bytes}
use Rattle.ufs_layout.specs.Words.{placed_by, rising_by, number_at}
use Rattle.ufs_base.specs.Images.{Image}
use Rattle.ufs_layout.specs.InodeForm.{FitsExtent, extent_bytes}
use Rattle.ufs_layout.specs.DentryForm.{dentry_bytes}
use Rattle.ufs_layout.specs.Records.{record_bytes, records_bytes, record_fields, is_record, FitsRecord}
use Rattle.ufs_image.specs.Journal.{FoundSector, PlacedRecord, Transaction, records_in, commit_in, has_records, same_txn, record_sectors, records_before, transaction_of, transactions, committed_of, committed, well_spelled, sectors_of_epoch}
use Rattle.ufs_layout.specs.JournalHead.{header_bytes}
use Rattle.ufs_layout.specs.JournalSector.{SectorContent, HasRecords, HasCommit, JournalSector, head_in, journal_bytes, journal_fields, journal_of, is_journal_sector}
use Rattle.ufs_layout.specs.declared.inode.Extent.{Extent}
use Rattle.ufs_layout.specs.declared.geometry.Geometry.{Geometry}
use Rattle.ufs_layout.specs.declared.records.LogRecord.{LogRecord}
use Rattle.ufs_layout.specs.declared.records.LogRecord.TheVariants.{Delta, Place, Free}
use Rattle.ufs_layout.proofs.Compared.{number-back}
use Rattle.ufs_layout.proofs.RecordsRead.{record_back}
use Rattle.ufs_layout.proofs.Spelled.{spelled-some, some_if-some}
use Rattle.ufs_journal.specs.Fits.{FitsCommitted}
use Rattle.ufs_journal.proofs.Numbers.{read_fit}

-- ---- records that are read back

abbrev first_inode : List LogRecord → ℕ
first_inode [] = 0
first_inode (Delta inode kind size keep extents ∷ rs) = inode
first_inode (Place sector slot dentry ∷ rs) = sector
first_inode (Free inode ∷ rs) = inode

abbrev first_size : List LogRecord → ℕ
first_size [] = 0
first_size (Delta inode kind size keep extents ∷ rs) = size
first_size (Place sector slot dentry ∷ rs) = dentry.inode
first_size (Free inode ∷ rs) = 0

abbrev first_extents : List LogRecord → List Extent
first_extents [] = []
first_extents (Delta inode kind size keep extents ∷ rs) = extents
first_extents (Place sector slot dentry ∷ rs) = []
first_extents (Free inode ∷ rs) = []

abbrev behind_first : List LogRecord → List LogRecord
behind_first [] = []
behind_first (r ∷ rs) = rs

-- a number that is read back fits
small_4 : (x y : ℕ) (rest : List ℕ) → number_at 4 0 (little_bytes 4 x ++ rest) ≡ y → y ≡ x → x < 2 ^ 32
small_4 x y rest is same = let e = little_from-bytes 4 0 x rest in omega (arith, e, is, same)

small_8 : (x y : ℕ) (rest : List ℕ) → number_at 8 0 (little_bytes 8 x ++ rest) ≡ y → y ≡ x → x < 2 ^ 64
small_8 x y rest is same = let e = little_from-bytes 8 0 x rest in omega (arith, e, is, same)

first_fits : (n : ℕ) (r : LogRecord) (rs : List LogRecord) → is_record r ≡ true → record_fields (suc n) (record_bytes r ++ records_bytes rs) ≡ r ∷ rs → FitsRecord r
first_fits n (Delta inode kind size keep extents) rs is back = (
  small_4 inode _ (kind ∷ little_bytes 8 size ++ keep ∷ length extents ∷ flat_map extent_bytes extents ++ records_bytes rs) refl (ap first_inode back),
  small_8 size _ (keep ∷ length extents ∷ flat_map extent_bytes extents ++ records_bytes rs) refl (ap first_size back),
  subst (AllByRecursion FitsExtent) (ap first_extents back) (read_fit extents (records_bytes rs)),
)
first_fits n (Place sector slot dentry) rs is back =
    let parts = and_parts (nat_lt slot 8) _ is in
    let named = and_parts (nat_le (length dentry.name) 58) _ parts.1 in (
      small_4 sector _ (slot ∷ dentry_bytes dentry ++ records_bytes rs) refl (ap first_inode back),
      small_4 dentry.inode _ (dentry.kind ∷ length dentry.name ∷ take 58 ((dentry.name ++ replicate (58 - length dentry.name) 0) ++ records_bytes rs)) refl (ap first_size back),
      leb-true (length dentry.name) 58 named.0,
    )
first_fits n (Free inode) rs is back = small_4 inode _ (records_bytes rs) refl (ap first_inode back)

pub fields_fit : (n : ℕ) (rs : List LogRecord) → list_all is_record rs ≡ true → record_fields n (records_bytes rs) ≡ rs → AllByRecursion FitsRecord rs
fields_fit n [] every back = tt
fields_fit zero (r ∷ rs) every back = grind (arith, back)
fields_fit (suc n) (r ∷ rs) every back =
    let parts = and_parts (is_record r) (list_all is_record rs) every in
    let fits = first_fits n r rs parts.0 back in
    let rest : record_fields n (records_bytes rs) ≡ rs = ap behind_first (sym (ap (λ o. Rattle.ufs_layout.specs.Records.and_more (record_fields n) o) (record_back r (records_bytes rs) fits)) ∙ back) in
    (fits, fields_fit n rs parts.1 rest)

-- ---- sectors

abbrev pub FitsContent : SectorContent → Type 0
FitsContent (HasRecords rs) = (list_all is_record rs ≡ true) × AllByRecursion FitsRecord rs
FitsContent (HasCommit m) = m < 2 ^ 64

abbrev content_records : SectorContent → List LogRecord
content_records (HasRecords rs) = rs
content_records (HasCommit m) = []

abbrev content_number : SectorContent → ℕ
content_number (HasRecords rs) = 0
content_number (HasCommit m) = m

-- what a sector is the spelling of fits
spelled_fits : (e t k : ℕ) (content : SectorContent) (bytes : List ℕ) → journal_of bytes ≡ Some (record { epoch = e; txn = t; index = k; content = content }) → FitsContent content
spelled_fits e t k (HasCommit m) bytes is =
    let j : JournalSector = record { epoch = e; txn = t; index = k; content = HasCommit m } in
    let back : journal_fields (journal_bytes j) ≡ j = sym (ap journal_fields (spelled-some journal_fields journal_bytes is_journal_sector bytes j is).0) ∙ (some_if-some _ (journal_fields bytes) j is).1 in
    small_8 m _ [] refl (ap (λ (q : JournalSector). content_number q.content) back)
spelled_fits e t k (HasRecords rs) bytes is =
    let j : JournalSector = record { epoch = e; txn = t; index = k; content = HasRecords rs } in
    let spelled_ = spelled-some journal_fields journal_bytes is_journal_sector bytes j is in
    let back : journal_fields (journal_bytes j) ≡ j = sym (ap journal_fields spelled_.0) ∙ (some_if-some _ (journal_fields bytes) j is).1 in
    let parts = and_parts (nat_le 1 t && nat_le (length (records_bytes rs)) 488) (list_all is_record rs) spelled_.1 in
    let few : length (records_bytes rs) ≤ 488 = leb-true (length (records_bytes rs)) 488 (and_parts (nat_le 1 t) (nat_le (length (records_bytes rs)) 488) parts.0).1 in
    let content : take (number_at 2 16 (journal_bytes j)) (drop 24 (journal_bytes j)) ≡ records_bytes rs = ap (λ n. take n (drop 24 (journal_bytes j))) (number-back 2 (length (records_bytes rs)) (omega arith))
    ∙ take_at (records_bytes rs) (replicate (512 - length (header_bytes (head_in j) ++ records_bytes rs)) 0) (length (records_bytes rs)) refl in
    (parts.1, fields_fit (length (records_bytes rs)) rs parts.1 (sym (ap (λ c. record_fields (length c) c) content) ∙ ap (λ (q : JournalSector). content_records q.content) back))

-- ---- lists

pub all_append : {X : Type 0} (P : X → Type 0) (xs ys : List X) → AllByRecursion P xs → AllByRecursion P ys → AllByRecursion P (xs ++ ys)
all_append P [] ys one two = two
all_append P (x ∷ xs) ys one two = (one.0, all_append P xs ys one.1 two)

pub all_filter : {X : Type 0} (P : X → Type 0) (q : X → Bool) (xs : List X) → AllByRecursion P xs → AllByRecursion P (filter q xs)
all_filter P q [] every = tt
all_filter {X} P q (x ∷ xs) every = by (q x) every.0 (all_filter P q xs every.1)
  where
    by : (b : Bool) → P x → AllByRecursion P (filter q xs) → AllByRecursion P (if b then x ∷ filter q xs else filter q xs)
    by true here rest = (here, rest)
    by false here rest = rest

all_placed_by : {X : Type 0} (P : X → Type 0) (key : X → ℕ) (x : X) (xs : List X) → P x → AllByRecursion P xs → AllByRecursion P (placed_by key x xs)
all_placed_by P key x [] here every = (here, tt)
all_placed_by {X} P key x (y ∷ ys) here every = by (nat_le (key x) (key y)) (all_placed_by P key x ys here every.1)
  where
    by : (b : Bool) → AllByRecursion P (placed_by key x ys) → AllByRecursion P (if b then x ∷ y ∷ ys else y ∷ placed_by key x ys)
    by true rest = (here, (every.0, every.1))
    by false rest = (every.0, rest)

pub all_rising : {X : Type 0} (P : X → Type 0) (key : X → ℕ) (xs : List X) → AllByRecursion P xs → AllByRecursion P (rising_by key xs)
all_rising P key [] every = tt
all_rising P key (x ∷ xs) every = all_placed_by P key x (rising_by key xs) every.0 (all_rising P key xs every.1)

all_of_map : {X Y : Type 0} (P : Y → Type 0) (f : X → Y) (xs : List X) → AllByRecursion (λ x. P (f x)) xs → AllByRecursion P (map f xs)
all_of_map P f [] every = tt
all_of_map P f (x ∷ xs) every = (every.0, all_of_map P f xs every.1)

-- ---- transactions

abbrev pub FitsFound : FoundSector → Type 0
FitsFound f = FitsContent f.1.content

-- records with their places
pub record FitsPlaced (ps : List PlacedRecord) : Type 0 where
  pub form : list_all is_record (map (λ (p : PlacedRecord). p.1) ps) ≡ true
  pub fits : AllByRecursion FitsRecord (map (λ (p : PlacedRecord). p.1) ps)

placed_append : (ps qs : List PlacedRecord) → FitsPlaced ps → FitsPlaced qs → FitsPlaced (ps ++ qs)
placed_append [] qs one two = two
placed_append (p ∷ ps) qs one two =
    let parts = and_parts (is_record p.1) (list_all is_record (map (λ (q : PlacedRecord). q.1) ps)) one.form in
    let rest = placed_append ps qs (record { form = parts.1; fits = one.fits.1 }) two in
    record { form = λ i. parts.0 i && rest.form i; fits = (one.fits.0, rest.fits) }

placed_at : (s : ℕ) (rs : List LogRecord) → list_all is_record rs ≡ true → AllByRecursion FitsRecord rs → FitsPlaced (map (λ r. (s, r)) rs)
placed_at s [] form fits = record { form = refl; fits = tt }
placed_at s (r ∷ rs) form fits =
    let parts = and_parts (is_record r) (list_all is_record rs) form in
    let rest = placed_at s rs parts.1 fits.1 in
    record { form = λ i. parts.0 i && rest.form i; fits = (fits.0, rest.fits) }

placed_content : (s : ℕ) (content : SectorContent) → FitsContent content → FitsPlaced (map (λ r. (s, r)) (records_in content))
placed_content s (HasRecords rs) is = placed_at s rs is.0 is.1
placed_content s (HasCommit m) is = record { form = refl; fits = tt }

placed_sectors : (fs : List FoundSector) → AllByRecursion FitsFound fs → FitsPlaced (flat_map (λ (o : FoundSector). map (λ r. (o.0, r)) (records_in o.1.content)) fs)
placed_sectors [] every = record { form = refl; fits = tt }
placed_sectors (f ∷ fs) every = placed_append _ _ (placed_content f.0 f.1.content every.0) (placed_sectors fs every.1)

placed_range : (all : List FoundSector) → AllByRecursion FitsFound all → (f : FoundSector) (a n : ℕ) → FitsPlaced (flat_map (λ k. flat_map (λ (o : FoundSector). map (λ r. (o.0, r)) (records_in o.1.content)) (record_sectors all f k)) (range_with_len a n))
placed_range all every f a zero = record { form = refl; fits = tt }
placed_range all every f a (suc n) = placed_append _ _ (placed_sectors (record_sectors all f a) (all_filter FitsFound (λ o. same_txn f o && (has_records o && o.1.index == a)) all every)) (placed_range all every f (a + 1) n)

-- a transaction
abbrev pub FitsTransaction : Transaction → Type 0
FitsTransaction t = FitsCommitted (committed_of t)

one_transaction : (content : SectorContent) (ps : List PlacedRecord) (rest : List Transaction) → FitsContent content → FitsPlaced ps → AllByRecursion FitsTransaction rest
    → AllByRecursion FitsTransaction (cons_option (option_map (λ number. record { number = number; records = ps }) (commit_in content)) rest)
one_transaction (HasRecords rs) ps rest is placed every = every
one_transaction (HasCommit m) ps rest is placed every = (record { small = is; form = placed.form; fits = placed.fits }, every)

pub all_transactions : (all fs : List FoundSector) → AllByRecursion FitsFound all → AllByRecursion FitsFound fs → AllByRecursion FitsTransaction (filter_map (transaction_of all) fs)
all_transactions all [] every some = tt
all_transactions all (f ∷ fs) every some = one_transaction f.1.content (records_before all f) (filter_map (transaction_of all) fs) some.0 (placed_range all every f 0 f.1.index) (all_transactions all fs every some.1)

pub found_fits : (image : Image) (ss : List ℕ) → AllByRecursion FitsFound (well_spelled (map (λ s. (s, journal_of (image s))) ss))
found_fits image [] = tt
found_fits image (s ∷ ss) = by (journal_of (image s)) refl (found_fits image ss)
  where
    by : (o : Option JournalSector) → journal_of (image s) ≡ o → AllByRecursion FitsFound (well_spelled (map (λ s. (s, journal_of (image s))) ss)) → AllByRecursion FitsFound (well_spelled ((s, o) ∷ map (λ s. (s, journal_of (image s))) ss))
    by None is rest = rest
    by (Some j) is rest = (spelled_fits j.epoch j.txn j.index j.content (image s) is, rest)

pub committed_fits : (g : Geometry) (epoch : ℕ) (image : Image) → AllByRecursion FitsCommitted (committed g epoch image)
committed_fits g epoch image =
    let all = well_spelled (sectors_of_epoch g epoch image) in
    let every : AllByRecursion FitsFound all = found_fits image _ in
    all_of_map FitsCommitted committed_of (transactions all) (all_rising FitsTransaction (λ (t : Transaction). t.number) (filter_map (transaction_of all) all) (all_transactions all all every every))
