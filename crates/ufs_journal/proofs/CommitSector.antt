-- A commit more in the journal, of a transaction whose record sectors are there, with a number above all others.
use Rattle.std.proofs.Common.{◌≡◌, inl, inr, ℕ, ◌<◌, List, [], ◌∷◌, ◌++◌, Bool, false, ◌||◌, ◌&&◌, refl, ap, sym, ◌∙◌, arith}
use Rattle.std.specs.Prelude.{length, ◌==◌, not, nat_lt, nat_le}
use Rattle.std.specs.List.{filter_map, flat_map, list_any, range_with_len, cons_option}
use Rattle.std.proofs.lemmas.Bool.{or_parts, or_from, and_cases, and_left, and_right, eq-eqb, ne_eqb, leb-false, le-ltb}
use Rattle.std.proofs.lemmas.List.Elements.{filter_map-append}
use Rattle.ufs_image.specs.Journal.{FoundSector, PlacedRecord, has_records, has_commit, same_txn, record_sectors, Transaction, records_before, transaction_of, transactions}
use Rattle.ufs_layout.specs.JournalSector.{SectorContent, HasRecords, HasCommit}
use Rattle.ufs_image.specs.BadSectors.{is_another, is_repeated, lacks_records, is_behind_commit, is_old, shares_number, leaves_range, is_off}
use Rattle.ufs_layout.specs.Words.{rising_by}
use Rattle.ufs_layout.specs.declared.geometry.Geometry.{Geometry}
use Rattle.ufs_journal.specs.Found.{is_from, reaches}
use Rattle.ufs_journal.proofs.Inserted.{any_skip, filter_skip, any_none}
use Rattle.ufs_journal.proofs.RecordSector.{eqb_sym, all_placed, transaction_with}
use Rattle.ufs_journal.proofs.Rising.{rising_last}

module _ (place epoch txn count number : ℕ) (xs ys : List FoundSector) where
  abbrev pub commit_sector : FoundSector
  commit_sector = (place, record { epoch = epoch; txn = txn; index = count; content = HasCommit number })

  abbrev before : List FoundSector
  before = xs ++ ys

  abbrev after : List FoundSector
  after = xs ++ commit_sector ∷ ys

  -- ---- transactions

  sectors_same : (f : FoundSector) (k : ℕ) → record_sectors after f k ≡ record_sectors before f k
  sectors_same f k = filter_skip (λ o. same_txn f o && (has_records o && o.1.index == k)) commit_sector xs ys (and_right (f.1.txn == txn) (false && count == k) refl)

  records_same : (f : FoundSector) → records_before after f ≡ records_before before f
  records_same f = λ i. flat_map (λ k. all_placed (sectors_same f k i)) (range_with_len 0 f.1.index)

  transaction_same : (f : FoundSector) → transaction_of after f ≡ transaction_of before f
  transaction_same f = ap (λ (r : List PlacedRecord). transaction_with r f.1.content) (records_same f)

  -- the committed transaction
  abbrev pub committed_one : Transaction
  committed_one = record { number = number; records = records_before before commit_sector }

  -- no number reaches it
  none_reaches : (all zs : List FoundSector) → list_any (reaches number) zs ≡ false → list_any (λ (t : Transaction). nat_le number t.number) (filter_map (transaction_of all) zs) ≡ false
  none_reaches all [] none = refl
  none_reaches all (f ∷ fs) none =
      let parts = or_parts (reaches number f) (list_any (reaches number) fs) none in
      by f.1.content parts.0 (records_before all f) (filter_map (transaction_of all) fs) (none_reaches all fs parts.1)
    where
      by : (content : SectorContent) → reaches number (f.0, record { epoch = f.1.epoch; txn = f.1.txn; index = f.1.index; content = content }) ≡ false → (r : List PlacedRecord) (rest : List Transaction)
          → list_any (λ (t : Transaction). nat_le number t.number) rest ≡ false → list_any (λ (t : Transaction). nat_le number t.number) (cons_option (transaction_with r content) rest) ≡ false
      by (HasRecords rs) e r rest so_far = so_far
      by (HasCommit m) e r rest so_far = λ i. e i || so_far i

  pub one_more : list_any (reaches number) before ≡ false → transactions after ≡ transactions before ++ committed_one ∷ []
  one_more fresh =
      ap (rising_by (λ (t : Transaction). t.number)) (filter_map-append (transaction_of after) xs (commit_sector ∷ ys) ∙ (λ i. filter_map (λ f. transaction_same f i) xs ++ record { number = number; records = records_same commit_sector i } ∷ filter_map (λ f. transaction_same f i) ys))
      ∙ rising_last (λ (t : Transaction). t.number) committed_one (filter_map (transaction_of before) xs) (filter_map (transaction_of before) ys)
      (ap (list_any (λ (t : Transaction). nat_le number t.number)) (sym (filter_map-append (transaction_of before) xs ys)) ∙ none_reaches before before fresh)
      ∙ ap (λ (l : List Transaction). rising_by (λ (t : Transaction). t.number) l ++ committed_one ∷ []) (sym (filter_map-append (transaction_of before) xs ys))

  -- ---- sectors that are off

  apart : (f : FoundSector) → is_from txn count f ≡ false → (b : Bool) → (f.1.index < count → b ≡ false) → (f.1.txn == txn) && b ≡ false
  apart f other b leads = elim (and_cases (f.1.txn == txn) (nat_le count f.1.index) other) [
    | inl ne ↦ and_left (f.1.txn == txn) b ne
    | inr above ↦ and_right (f.1.txn == txn) b (leads (leb-false count f.1.index above))
  ]

  repeated_other : (f : FoundSector) → is_from txn count f ≡ false → is_repeated after f ≡ is_repeated before f
  repeated_other f other = any_skip (λ o. is_another f o && (same_txn f o && o.1.index == f.1.index)) commit_sector xs ys
      (and_right (not (place == f.0)) (f.1.txn == txn && count == f.1.index) (apart f other (count == f.1.index) (λ lt. ne_eqb count f.1.index (λ same. absurd (omega arith)))))

  lacks_other : (f : FoundSector) → lacks_records after f ≡ lacks_records before f
  lacks_other f = λ i. has_commit f && list_any (λ k. length (sectors_same f k i) == 0) (range_with_len 0 f.1.index)

  behind_other : (f : FoundSector) → is_from txn count f ≡ false → is_behind_commit after f ≡ is_behind_commit before f
  behind_other f other = ap (λ b. has_records f && b) (any_skip (λ o. same_txn f o && (has_commit o && nat_lt o.1.index f.1.index)) commit_sector xs ys
      (apart f other (nat_lt count f.1.index) (λ lt. le-ltb count f.1.index (omega arith))))

  shares_other : (f : FoundSector) → reaches number f ≡ false → shares_number after f ≡ shares_number before f
  shares_other (p, j) other = by j.content other
    where
      by : (content : SectorContent) → reaches number (p, record { epoch = j.epoch; txn = j.txn; index = j.index; content = content }) ≡ false
          → shares_number after (p, record { epoch = j.epoch; txn = j.txn; index = j.index; content = content }) ≡ shares_number before (p, record { epoch = j.epoch; txn = j.txn; index = j.index; content = content })
      by (HasRecords rs) e = refl
      by (HasCommit m) e = any_skip _ commit_sector xs ys (and_right (not (place == p)) (number == m) (ne_eqb number m (λ same. let lt : m < number = leb-false number m e in absurd (omega arith))))

  pub off_other : (g : Geometry) (next : ℕ) (f : FoundSector) → is_from txn count f || reaches number f ≡ false → is_off g next after f ≡ is_off g next before f
  off_other g next f other =
      let parts = or_parts (is_from txn count f) (reaches number f) other in
      λ i. repeated_other f parts.0 i || lacks_other f i || behind_other f parts.0 i || is_old next f || shares_other f parts.1 i || leaves_range g f

  repeated_none : list_any (is_from txn count) before ≡ false → is_repeated after commit_sector ≡ false
  repeated_none none = any_skip (λ o. is_another commit_sector o && (same_txn commit_sector o && o.1.index == count)) commit_sector xs ys
      (and_left (not (place == place)) ((txn == txn) && (count == count)) (ap not (eq-eqb place place refl)))
      ∙ any_none (is_from txn count) (λ o. is_another commit_sector o && (same_txn commit_sector o && o.1.index == count))
      (λ o other. and_right (is_another commit_sector o) ((txn == o.1.txn) && o.1.index == count) (ap (λ b. b && o.1.index == count) (eqb_sym txn o.1.txn) ∙ apart o other (o.1.index == count) (λ lt. ne_eqb o.1.index count (λ same. absurd (omega arith))))) before none

  shares_none : list_any (reaches number) before ≡ false → shares_number after commit_sector ≡ false
  shares_none none = any_skip _ commit_sector xs ys (and_left (not (place == place)) (number == number) (ap not (eq-eqb place place refl)))
      ∙ any_none (reaches number) _ (λ o other. (or_parts _ false (by o.0 o.1.txn o.1.index o.1.epoch o.1.content other)).0) before none
    where
      by : (p t k e : ℕ) (content : SectorContent) → reaches number (p, record { epoch = e; txn = t; index = k; content = content }) ≡ false
          → shares_number ((p, record { epoch = e; txn = t; index = k; content = content }) ∷ []) commit_sector ≡ false
      by p t k e (HasRecords rs) other = or_from (not (p == place) && false) false (and_right (not (p == place)) false refl) refl
      by p t k e (HasCommit m) other = or_from (not (p == place) && m == number) false (and_right (not (p == place)) (m == number) (ne_eqb m number (λ same. let lt : m < number = leb-false number m other in absurd (omega arith)))) refl

  lacks_none : list_any (λ k. length (record_sectors before commit_sector k) == 0) (range_with_len 0 count) ≡ false → lacks_records after commit_sector ≡ false
  lacks_none all_there = lacks_other commit_sector ∙ all_there

  pub off_none : (g : Geometry) (next : ℕ) → list_any (is_from txn count) before ≡ false → list_any (reaches number) before ≡ false
      → list_any (λ k. length (record_sectors before commit_sector k) == 0) (range_with_len 0 count) ≡ false → nat_lt number next ≡ false → is_off g next after commit_sector ≡ false
  off_none g next none fresh all_there new = λ i. repeated_none none i || lacks_none all_there i || false || new i || shares_none fresh i || false
