-- What is committed in an image is spelled, with numbers in their types' ranges.
use Rattle.std.proofs.Common.{◌≡◌, ℕ, zero, suc, ◌+◌, ◌*◌, ◌<◌, ◌≤◌, ◌^◌, inl, inr, List, [], ◌∷◌, length, take, drop, Option, Some, None, Bool, true, false, map, ap, sym, refl, ◌∙◌, subst, arith}
use Rattle.std.specs.Prelude.{flat_map, filter, ◌==◌, ◌&&◌, nat_lt, nat_le, option_map, if◌then◌else◌, IsTrue}
use Rattle.std.specs.List.{range_with_len, list_all, filter_map, AllByRecursion}
use Rattle.std.specs.Str.{bytes_eq}
use Rattle.std.proofs.lemmas.Bool.{and_parts}
use Rattle.std.proofs.lemmas.Bool.Decides.{nat_tests}
use Rattle.ufs_base.specs.Images.{IsBytes, Image}
use Rattle.ufs_layout.specs.Words.{placed_by, rising_by, number_at, byte_at}
use Rattle.ufs_layout.specs.Areas.{IsGeometry, journal_sectors, first_of_journal, sector_count}
use Rattle.ufs_layout.specs.DentryForm.{DentryForm, is_dentry, dentry_fields}
use Rattle.ufs_image.specs.Images.{IsImageOf}
use Rattle.ufs_layout.specs.Records.{is_record, FitsRecord, record_fields, first_record, record_by_tag, and_more}
use Rattle.ufs_layout.specs.JournalHead.{header_fields, is_header}
use Rattle.ufs_layout.specs.JournalSector.{SectorContent, HasRecords, HasCommit, JournalSector, journal_of, journal_fields, journal_bytes, is_journal_sector, content_fields, is_content, head_in}
use Rattle.ufs_image.specs.Journal.{ReadSector, FoundSector, PlacedRecord, Transaction, epoch_in, sectors_of_epoch, well_spelled, records_in, commit_in, record_sectors, records_before, transaction_of, transactions, committed_of, committed, same_txn, has_records}
use Rattle.ufs_layout.specs.declared.geometry.Geometry.{Geometry}
use Rattle.ufs_layout.specs.declared.header.Header.{Header}
use Rattle.ufs_layout.specs.declared.records.LogRecord.{LogRecord}
use Rattle.ufs_layout.specs.declared.records.LogRecord.TheVariants.{Delta, Place, Free}
use Rattle.ufs_image.specs.Folding.{AreSpelled, FitsCommitted}
use Rattle.ufs_image.proofs.Lists.{IsIn, from_flat_map, from_filter, from_map, from_filter_map}
use Rattle.ufs_image.proofs.Found.{option_map-some}
use Rattle.ufs_image.proofs.Empty.{from_range}
use Rattle.ufs_layout.proofs.Compared.{IsBytes-take, IsBytes-drop}
use Rattle.ufs_image.proofs.Fits.{number_below, extents_fit}
use Rattle.ufs_layout.proofs.Spelled.{some_if-some}

-- ---- records

-- the numbers of a record that is read, but for the length of its name
abbrev FitsRead : LogRecord → Type 0
FitsRead r = IsTrue (is_record r) → FitsRecord r

by_tag : (bytes : List ℕ) → IsBytes bytes → (tag : ℕ) (r : LogRecord × List ℕ) → record_by_tag bytes tag ≡ Some r → FitsRead r.0 × IsBytes r.1
by_tag bytes is zero r e = let no = e in cc
by_tag bytes is (suc zero) r e =
    let same : (Delta (number_at 4 1 bytes) (byte_at 5 bytes) (number_at 8 6 bytes) (byte_at 14 bytes) _, drop (16 + 8 * byte_at 15 bytes) bytes) ≡ r = cc in
    subst (λ (x : LogRecord × List ℕ). FitsRead x.0 × IsBytes x.1) same (
      λ form. (number_below 0 4 (drop 1 bytes) (IsBytes-drop 1 bytes is), number_below 0 8 (drop 6 bytes) (IsBytes-drop 6 bytes is), extents_fit (byte_at 15 bytes) (drop 16 bytes) (IsBytes-drop 16 bytes is)),
      IsBytes-drop (16 + 8 * byte_at 15 bytes) bytes is,
    )
by_tag bytes is (suc (suc zero)) r e =
    let same : (Place (number_at 4 1 bytes) (byte_at 5 bytes) (dentry_fields (take 64 (drop 6 bytes))), drop 70 bytes) ≡ r = cc in
    subst (λ (x : LogRecord × List ℕ). FitsRead x.0 × IsBytes x.1) same (
      λ form. (
        number_below 0 4 (drop 1 bytes) (IsBytes-drop 1 bytes is),
        number_below 0 4 (drop 0 (take 64 (drop 6 bytes))) (IsBytes-drop 0 (take 64 (drop 6 bytes)) (IsBytes-take 64 (drop 6 bytes) (IsBytes-drop 6 bytes is))),
        short (byte_at 5 bytes) (dentry_fields (take 64 (drop 6 bytes))) form,
      ),
      IsBytes-drop 70 bytes is,
    )
  where
    short : (slot : ℕ) (d : DentryForm) → (nat_lt slot 8 && is_dentry d) ≡ true → length d.name ≤ 58
    short slot d form = let t = (and_parts (nat_le (length d.name) 58) _ (and_parts (nat_lt slot 8) (is_dentry d) form).1).0 in grind (arith, nat_tests, t)
by_tag bytes is (suc (suc (suc zero))) r e =
    let same : (Free (number_at 4 1 bytes), drop 5 bytes) ≡ r = cc in
    subst (λ (x : LogRecord × List ℕ). FitsRead x.0 × IsBytes x.1) same (λ form. number_below 0 4 (drop 1 bytes) (IsBytes-drop 1 bytes is), IsBytes-drop 5 bytes is)
by_tag bytes is (suc (suc (suc (suc n)))) r e = let no = e in cc

records_fit : (most : ℕ) (bytes : List ℕ) → IsBytes bytes → list_all is_record (record_fields most bytes) ≡ true → AreSpelled (record_fields most bytes)
records_fit zero bytes is all = tt
records_fit (suc most) bytes is all = by (first_record bytes) refl all (λ rest is_rest. records_fit most rest is_rest)
  where
    by : (o : Option (LogRecord × List ℕ)) → first_record bytes ≡ o → list_all is_record (and_more (record_fields most) o) ≡ true
        → ((rest : List ℕ) → IsBytes rest → list_all is_record (record_fields most rest) ≡ true → AreSpelled (record_fields most rest)) → AreSpelled (and_more (record_fields most) o)
    by None e all more = tt
    by (Some r) e all more =
        let fits = by_tag bytes is (byte_at 0 bytes) r e in
        let parts = and_parts (is_record r.0) (list_all is_record (record_fields most r.1)) all in
        ((parts.0, fits.0 parts.0), more r.1 fits.1 parts.1)

-- ---- a sector of the journal

abbrev FitsContent : SectorContent → Type 0
FitsContent (HasRecords records) = AreSpelled records
FitsContent (HasCommit number) = number < 2 ^ 64

content_fits : (h : Header) (bytes : List ℕ) → IsBytes bytes → is_content (content_fields h bytes) ≡ true → FitsContent (content_fields h bytes)
content_fits h bytes is = by (h.kind == 2)
  where
    by : (b : Bool) → is_content (if b then HasCommit (number_at 8 4 bytes) else HasRecords (record_fields (length bytes) bytes)) ≡ true → FitsContent (if b then HasCommit (number_at 8 4 bytes) else HasRecords (record_fields (length bytes) bytes))
    by true e = number_below 0 8 (drop 4 bytes) (IsBytes-drop 4 bytes is)
    by false e = records_fit (length bytes) bytes is e

sector_fits : (bytes : List ℕ) (j : JournalSector) → IsBytes bytes → journal_of bytes ≡ Some j → FitsContent j.content
sector_fits bytes j is e =
    let parts = some_if-some (is_journal_sector (journal_fields bytes) && bytes_eq (journal_bytes (journal_fields bytes)) bytes) (journal_fields bytes) j e in
    let form = (and_parts (is_header (head_in (journal_fields bytes))) (is_content (journal_fields bytes).content) (and_parts (is_journal_sector (journal_fields bytes)) _ parts.0).0).1 in
    subst (λ (x : JournalSector). FitsContent x.content) parts.1 (content_fits (header_fields bytes) (take (header_fields bytes).used (drop 24 bytes)) (IsBytes-take (header_fields bytes).used (drop 24 bytes) (IsBytes-drop 24 bytes is)) form)

-- ---- transactions

in_placed : {X : Type 0} (key : X → ℕ) (x t : X) (ys : List X) → IsIn t (placed_by key x ys) → IsIn t (x ∷ ys)
in_placed key x t [] is = is
in_placed {X} key x t (y ∷ ys) is = by (nat_le (key x) (key y)) is (in_placed key x t ys)
  where
    by : (b : Bool) → IsIn t (if b then x ∷ y ∷ ys else y ∷ placed_by key x ys) → (IsIn t (placed_by key x ys) → IsIn t (x ∷ ys)) → IsIn t (x ∷ y ∷ ys)
    by true is more = is
    by false (inl e) more = inr (inl e)
    by false (inr there) more = of (more there)
      where
        of : IsIn t (x ∷ ys) → IsIn t (x ∷ y ∷ ys)
        of (inl e) = inl e
        of (inr s) = inr (inr s)

in_rising : {X : Type 0} (key : X → ℕ) (t : X) (xs : List X) → IsIn t (rising_by key xs) → IsIn t xs
in_rising key t [] is = is
in_rising {X} key t (x ∷ xs) is = of (in_placed key x t (rising_by key xs) is) (in_rising key t xs)
  where
    of : IsIn t (x ∷ rising_by key xs) → (IsIn t (rising_by key xs) → IsIn t xs) → IsIn t (x ∷ xs)
    of (inl e) more = inl e
    of (inr s) more = inr (more s)

each_in : {X : Type 0} (P : X → Type 0) (xs : List X) → ((x : X) → IsIn x xs → P x) → AllByRecursion P xs
each_in P [] each = tt
each_in P (x ∷ xs) each = (each x (inl refl), each_in P xs (λ y is. each y (inr is)))

in_each : {X : Type 0} (P : X → Type 0) (xs : List X) → AllByRecursion P xs → (x : X) → IsIn x xs → P x
in_each P [] all x is = absurd is
in_each P (y ∷ xs) all x (inl e) = subst P (sym e) all.0
in_each P (y ∷ xs) all x (inr is) = in_each P xs all.1 x is

module _ (all : List FoundSector) (good : (f : FoundSector) → IsIn f all → FitsContent f.1.content) where
  in_content : (content : SectorContent) → FitsContent content → (r : LogRecord) → IsIn r (records_in content) → IsTrue (is_record r) × FitsRecord r
  in_content (HasRecords records) fits r is = in_each (λ r. IsTrue (is_record r) × FitsRecord r) records fits r is
  in_content (HasCommit number) fits r is = absurd is

  commit_fits : (content : SectorContent) → FitsContent content → (number : ℕ) → commit_in content ≡ Some number → number < 2 ^ 64
  commit_fits (HasRecords records) fits number e = let no = e in cc
  commit_fits (HasCommit n) fits number e = let same : n ≡ number = cc in subst (λ m. m < 2 ^ 64) same fits

  placed_fit : (f : FoundSector) (p : PlacedRecord) → IsIn p (records_before all f) → IsTrue (is_record p.1) × FitsRecord p.1
  placed_fit f p is =
      let index = from_flat_map (λ index. flat_map (λ (o : FoundSector). map {B = PlacedRecord} (λ r. (o.0, r)) (records_in o.1.content)) (record_sectors all f index)) (range_with_len 0 f.1.index) p is in
      let sector = from_flat_map (λ (o : FoundSector). map {B = PlacedRecord} (λ r. (o.0, r)) (records_in o.1.content)) (record_sectors all f index.0) p index.2 in
      let there = (from_filter (λ o. same_txn f o && (has_records o && o.1.index == index.0)) all sector.0 sector.1).0 in
      let record' = from_map {Y = PlacedRecord} (λ r. (sector.0.0, r)) (records_in sector.0.1.content) p sector.2 in
      subst (λ (q : PlacedRecord). IsTrue (is_record q.1) × FitsRecord q.1) (sym record'.2) (in_content sector.0.1.content (good sector.0 there) record'.0 record'.1)

  transaction_fits : (t : Transaction) → IsIn t (transactions all) → FitsCommitted (committed_of t)
  transaction_fits t is =
      let from = from_filter_map (transaction_of all) all t (in_rising (λ (t : Transaction). t.number) t (filter_map (transaction_of all) all) is) in
      let made = option_map-some (λ number. record { number = number; records = records_before all from.0 }) (commit_in from.0.1.content) t from.2 in
      subst (λ (x : Transaction). FitsCommitted (committed_of x)) made.2 (record {
        number = commit_fits from.0.1.content (good from.0 from.1) made.0 made.1;
        records = each_in (λ r. IsTrue (is_record r) × FitsRecord r) (map (λ (p : PlacedRecord). p.1) (records_before all from.0))
            (λ r there. let at = from_map (λ (p : PlacedRecord). p.1) (records_before all from.0) r there in subst (λ x. IsTrue (is_record x) × FitsRecord x) (sym at.2) (placed_fit from.0 at.0 at.1));
      })

pub committed_fit : (g : Geometry) (sectors epoch : ℕ) (image : Image) → IsGeometry g → sector_count g ≤ sectors → IsImageOf sectors image → AllByRecursion FitsCommitted (committed g epoch image)
committed_fit g sectors epoch image is room bytes =
    each_in FitsCommitted (committed g epoch image) (λ t there.
    let from = from_map committed_of (transactions (well_spelled (sectors_of_epoch g epoch image))) t there in
    subst FitsCommitted (sym from.2) (transaction_fits (well_spelled (sectors_of_epoch g epoch image)) found from.0 from.1))
  where
    found : (f : FoundSector) → IsIn f (well_spelled (sectors_of_epoch g epoch image)) → FitsContent f.1.content
    found f inside =
        let from = from_filter_map (λ (r : ReadSector). option_map {U = FoundSector} (λ j. (r.0, j)) r.1) (sectors_of_epoch g epoch image) f inside in
        let read = from_map {Y = ReadSector} (λ s. (s, journal_of (image s))) (filter (λ s. epoch_in (image s) == epoch) (journal_sectors g)) from.0 from.1 in
        let there = (from_filter (λ s. epoch_in (image s) == epoch) (journal_sectors g) read.0 read.1).0 in
        let made = option_map-some {B = FoundSector} (λ j. (from.0.0, j)) from.0.1 f from.2 in
        let spelled : journal_of (image read.0) ≡ Some made.0 = sym (ap (λ (r : ReadSector). r.1) read.2) ∙ made.1 in
        let at = from_range (8 * first_of_journal g) g.journal read.0 there in
        let high = at.1 in
        let left = is.data_left in
        subst (λ (x : FoundSector). FitsContent x.1.content) made.2 (sector_fits (image read.0) made.0 (bytes read.0 (omega (arith, high, left, room))).in_range spelled)
