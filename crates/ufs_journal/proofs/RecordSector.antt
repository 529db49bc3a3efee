-- A sector of records more in the journal, of a transaction that has no commit.
use Rattle.std.proofs.Common.{◌≡◌, inl, inr, ℕ, List, ◌∷◌, ◌++◌, Bool, true, false, ◌||◌, ◌&&◌, Option, refl, ap, sym, ◌∙◌}
use Rattle.std.specs.Prelude.{length, map, ◌==◌, not, nat_lt, is_none}
use Rattle.std.specs.List.{flat_map, list_any, range_with_len}
use Rattle.std.specs.Option.{option_map}
use Rattle.std.proofs.lemmas.Bool.{or_parts, and_cases, and_left, and_right, eqb-true, eqb-false, eq-eqb, ne_eqb, cases_Bool}
use Rattle.ufs_image.specs.Journal.{FoundSector, PlacedRecord, records_in, commit_in, has_records, has_commit, same_txn, record_sectors, Transaction, records_before, transaction_of, transactions}
use Rattle.ufs_layout.specs.JournalSector.{SectorContent, HasRecords, HasCommit}
use Rattle.ufs_image.specs.BadSectors.{is_another, is_repeated, lacks_records, is_behind_commit, is_old, shares_number, leaves_range, is_off}
use Rattle.ufs_image.specs.Fold.{is_in_range}
use Rattle.ufs_layout.specs.Words.{rising_by}
use Rattle.ufs_layout.specs.declared.geometry.Geometry.{Geometry}
use Rattle.ufs_layout.specs.declared.records.LogRecord.{LogRecord}
use Rattle.ufs_journal.specs.Found.{commits_txn, is_committed, is_at}
use Rattle.ufs_journal.proofs.Inserted.{any_skip, filter_skip, any_none, filter_map_skip, filter_map_agree}

-- the order of an equation is of no account
pub eqb_sym : (a b : ℕ) → (a == b) ≡ (b == a)
eqb_sym a b = elim (cases_Bool (a == b)) [
  | inl is ↦ is ∙ sym (eq-eqb b a (sym (eqb-true a b is)))
  | inr is ↦ is ∙ sym (ne_eqb b a (λ same. eqb-false a b is (sym same)))
]

pub and_true : (b : Bool) → b && true ≡ false → b ≡ false
and_true true e = e
and_true false e = refl

-- the records of the sectors, with their places
abbrev pub all_placed : List FoundSector → List PlacedRecord
all_placed sectors = flat_map (λ (o : FoundSector). map (λ r. (o.0, r)) (records_in o.1.content)) sectors

abbrev pub transaction_with : List PlacedRecord → SectorContent → Option Transaction
transaction_with placed content = option_map (λ number. record { number = number; records = placed }) (commit_in content)

module _ (place epoch txn index : ℕ) (records : List LogRecord) (xs ys : List FoundSector) where
  abbrev pub record_sector : FoundSector
  record_sector = (place, record { epoch = epoch; txn = txn; index = index; content = HasRecords records })

  abbrev before : List FoundSector
  before = xs ++ ys

  abbrev after : List FoundSector
  after = xs ++ record_sector ∷ ys

  -- ---- transactions

  sectors_other : (f : FoundSector) (k : ℕ) → (f.1.txn == txn) ≡ false → record_sectors after f k ≡ record_sectors before f k
  sectors_other f k other = filter_skip (λ o. same_txn f o && (has_records o && o.1.index == k)) record_sector xs ys (and_left (f.1.txn == txn) (true && index == k) other)

  records_other : (f : FoundSector) → (f.1.txn == txn) ≡ false → records_before after f ≡ records_before before f
  records_other f other = λ i. flat_map (λ k. all_placed (sectors_other f k other i)) (range_with_len 0 f.1.index)

  commit_other : (f : FoundSector) → commits_txn txn f ≡ false → transaction_of after f ≡ transaction_of before f
  commit_other f other = by f.1.content other
    where
      by : (content : SectorContent) → (f.1.txn == txn && not (is_none (commit_in content))) ≡ false → transaction_with (records_before after f) content ≡ transaction_with (records_before before f) content
      by (HasRecords rs) e = refl
      by (HasCommit m) e = ap (λ (r : List PlacedRecord). transaction_with r (HasCommit m)) (records_other f (and_true (f.1.txn == txn) e))

  pub same_transactions : is_committed txn before ≡ false → transactions after ≡ transactions before
  same_transactions uncommitted = ap (rising_by (λ (t : Transaction). t.number))
      (filter_map_skip (transaction_of after) record_sector xs ys refl
      ∙ filter_map_agree (commits_txn txn) (transaction_of after) (transaction_of before) commit_other before uncommitted)

  -- ---- sectors that are off

  repeated_other : (f : FoundSector) → is_at txn index f ≡ false → is_repeated after f ≡ is_repeated before f
  repeated_other f other = any_skip (λ o. is_another f o && (same_txn f o && o.1.index == f.1.index)) record_sector xs ys
      (and_right (not (place == f.0)) (f.1.txn == txn && index == f.1.index) (ap (λ b. f.1.txn == txn && b) (eqb_sym index f.1.index) ∙ other))

  lacks_other : (f : FoundSector) → commits_txn txn f ≡ false → lacks_records after f ≡ lacks_records before f
  lacks_other f other = by f.1.content other
    where
      by : (content : SectorContent) → (f.1.txn == txn && not (is_none (commit_in content))) ≡ false
          → not (is_none (commit_in content)) && list_any (λ k. length (record_sectors after f k) == 0) (range_with_len 0 f.1.index)
          ≡ not (is_none (commit_in content)) && list_any (λ k. length (record_sectors before f k) == 0) (range_with_len 0 f.1.index)
      by (HasRecords rs) e = refl
      by (HasCommit m) e = λ i. list_any (λ k. length (sectors_other f k (and_true (f.1.txn == txn) e) i) == 0) (range_with_len 0 f.1.index)

  behind_other : (f : FoundSector) → is_behind_commit after f ≡ is_behind_commit before f
  behind_other f = ap (λ b. has_records f && b) (any_skip (λ o. same_txn f o && (has_commit o && nat_lt o.1.index f.1.index)) record_sector xs ys (and_right (f.1.txn == txn) (false && nat_lt index f.1.index) refl))

  shares_other : (f : FoundSector) → shares_number after f ≡ shares_number before f
  shares_other (p, j) = by j.content
    where
      by : (content : SectorContent) → shares_number after (p, record { epoch = j.epoch; txn = j.txn; index = j.index; content = content }) ≡ shares_number before (p, record { epoch = j.epoch; txn = j.txn; index = j.index; content = content })
      by (HasRecords rs) = refl
      by (HasCommit m) = any_skip _ record_sector xs ys (and_right (not (place == p)) false refl)

  pub off_other : (g : Geometry) (next : ℕ) (f : FoundSector) → commits_txn txn f || is_at txn index f ≡ false → is_off g next after f ≡ is_off g next before f
  off_other g next f other =
      let parts = or_parts (commits_txn txn f) (is_at txn index f) other in
      λ i. repeated_other f parts.1 i || lacks_other f parts.0 i || behind_other f i || is_old next f || shares_other f i || leaves_range g f

  -- the new one itself isn't
  repeated_none : list_any (is_at txn index) before ≡ false → is_repeated after record_sector ≡ false
  repeated_none none = any_skip (λ o. is_another record_sector o && (same_txn record_sector o && o.1.index == index)) record_sector xs ys
      (and_left (not (place == place)) ((txn == txn) && (index == index)) (ap not (eq-eqb place place refl)))
      ∙ any_none (is_at txn index) (λ o. is_another record_sector o && (same_txn record_sector o && o.1.index == index))
      (λ o other. and_right (is_another record_sector o) ((txn == o.1.txn) && o.1.index == index) (ap (λ b. b && o.1.index == index) (eqb_sym txn o.1.txn) ∙ other)) before none

  behind_none : is_committed txn before ≡ false → is_behind_commit after record_sector ≡ false
  behind_none none = any_skip (λ o. same_txn record_sector o && (has_commit o && nat_lt o.1.index index)) record_sector xs ys (and_right (txn == txn) (false && nat_lt index index) refl)
      ∙ any_none (commits_txn txn) (λ o. same_txn record_sector o && (has_commit o && nat_lt o.1.index index)) (λ o other. apart (txn == o.1.txn) (has_commit o) (nat_lt o.1.index index) (ap (λ b. b && has_commit o) (eqb_sym txn o.1.txn) ∙ other)) before none
    where
      apart : (a b c : Bool) → a && b ≡ false → a && (b && c) ≡ false
      apart true true c e = absurd (Rattle.std.proofs.lemmas.Bool.true≢false e)
      apart true false c e = refl
      apart false b c e = refl

  pub off_none : (g : Geometry) (next : ℕ) → is_committed txn before ≡ false → list_any (is_at txn index) before ≡ false → list_any (λ r. not (is_in_range g r)) records ≡ false → is_off g next after record_sector ≡ false
  off_none g next uncommitted single inside = λ i. repeated_none single i || false || behind_none uncommitted i || false || false || inside i
