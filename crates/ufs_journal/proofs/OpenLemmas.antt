-- What is found of a transaction that is appended whole.
use Rattle.std.proofs.Common.{◌≡◌, ℕ, zero, suc, ◌+◌, ◌<◌, ◌≤◌, List, [], ◌∷◌, ◌++◌, Bool, true, false, ◌&&◌, ◌||◌, length, refl, ap, ◌∙◌, arith}
use Rattle.std.specs.Prelude.{if◌then◌else◌, map, ◌==◌, nat_le}
use Rattle.std.specs.List.{filter, flat_map, list_any, range_with_len}
use Rattle.std.proofs.lemmas.Bool.{eq-eqb, ne_eqb, lt-leb, and_left, and_right, or_from}
use Rattle.std.proofs.lemmas.List.{append-nil, map-append}
use Rattle.ufs_image.specs.Journal.{FoundSector, PlacedRecord, has_records, record_sectors, records_before}
use Rattle.ufs_layout.specs.JournalSector.{HasRecords, HasCommit}
use Rattle.ufs_layout.specs.declared.geometry.Geometry.{Geometry}
use Rattle.ufs_layout.specs.declared.records.LogRecord.{LogRecord}
use Rattle.ufs_journal.specs.Found.{is_of, sectors_of_txn, is_from, journal_sector}
use Rattle.ufs_journal.specs.Found.{sectors_at}
use Rattle.ufs_journal.proofs.RecordSector.{eqb_sym, all_placed}
use Rattle.ufs_journal.proofs.CommitWritten.{without_places}
use Rattle.ufs_journal.proofs.FilledLemmas.{joined}

-- a test on one transaction's sectors
pub any_of_txn : (txn : ℕ) (p : FoundSector → Bool) (all : List FoundSector) → list_any (λ f. is_of txn f && p f) all ≡ list_any p (sectors_of_txn txn all)
any_of_txn txn p [] = refl
any_of_txn txn p (f ∷ fs) = by (is_of txn f) (p f) refl (any_of_txn txn p fs)
  where
    by : (b c : Bool) → c ≡ p f → list_any (λ o. is_of txn o && p o) fs ≡ list_any p (sectors_of_txn txn fs) → (b && c) || list_any (λ o. is_of txn o && p o) fs ≡ list_any p (if b then f ∷ sectors_of_txn txn fs else sectors_of_txn txn fs)
    by true c is rest = λ i. is i || rest i
    by false c is rest = rest

-- the record sectors of one transaction
abbrev pub has_index : ℕ → FoundSector → Bool
has_index k o = has_records o && o.1.index == k

pub filter_of_txn : (f : FoundSector) (k : ℕ) (all : List FoundSector) → record_sectors all f k ≡ filter (has_index k) (sectors_of_txn f.1.txn all)
filter_of_txn f k [] = refl
filter_of_txn f k (o ∷ os) = by (f.1.txn == o.1.txn) (o.1.txn == f.1.txn) (eqb_sym f.1.txn o.1.txn) (record_sectors os f k) (sectors_of_txn f.1.txn os) (filter_of_txn f k os)
  where
    by : (b c : Bool) → b ≡ c → (xs ys : List FoundSector) → xs ≡ filter (has_index k) ys → (if b && has_index k o then o ∷ xs else xs) ≡ filter (has_index k) (if c then o ∷ ys else ys)
    by true true same xs ys rest = ap (λ l. if has_index k o then o ∷ l else l) rest
    by false false same xs ys rest = rest
    by true false same xs ys rest = absurd (Rattle.std.proofs.lemmas.Bool.true≢false same)
    by false true same xs ys rest = absurd (Rattle.std.proofs.lemmas.Bool.false≢true same)

module _ (g : Geometry) (epoch txn : ℕ) where
  abbrev pub record_at : (place index : ℕ) → List LogRecord → FoundSector
  record_at place index rs = (journal_sector g place, record { epoch = epoch; txn = txn; index = index; content = HasRecords rs })

  -- indexes rise
  lower_none : (place index k : ℕ) (cs : List (List LogRecord)) → k < index → filter (has_index k) (sectors_at g epoch txn place index cs) ≡ []
  lower_none place index k [] lt = refl
  lower_none place index k (c ∷ cs) lt = ap (λ b. if b then record_at place index c ∷ filter (has_index k) (sectors_at g epoch txn (place + 1) (index + 1) cs) else filter (has_index k) (sectors_at g epoch txn (place + 1) (index + 1) cs)) (ne_eqb index k (λ same. absurd (omega arith)))
      ∙ lower_none (place + 1) (index + 1) k cs (omega arith)

  higher_none : (place index k : ℕ) (cs : List (List LogRecord)) → index + length cs ≤ k → list_any (λ f. nat_le k f.1.index) (sectors_at g epoch txn place index cs) ≡ false
  higher_none place index k [] le = refl
  higher_none place index k (c ∷ cs) le = or_from (nat_le k index) _ (lt-leb k index (omega arith)) (higher_none (place + 1) (index + 1) k cs (omega arith))

  first_skipped : (place index k : ℕ) (c : List LogRecord) (cs : List (List LogRecord)) → index < k → filter (has_index k) (sectors_at g epoch txn place index (c ∷ cs)) ≡ filter (has_index k) (sectors_at g epoch txn (place + 1) (index + 1) cs)
  first_skipped place index k c cs lt = ap (λ b. if b then record_at place index c ∷ filter (has_index k) (sectors_at g epoch txn (place + 1) (index + 1) cs) else filter (has_index k) (sectors_at g epoch txn (place + 1) (index + 1) cs)) (ne_eqb index k (λ same. absurd (omega arith)))

  first_found : (place index : ℕ) (c : List LogRecord) (cs : List (List LogRecord)) → filter (has_index index) (sectors_at g epoch txn place index (c ∷ cs)) ≡ (journal_sector g place, record { epoch = epoch; txn = txn; index = index; content = HasRecords c }) ∷ []
  first_found place index c cs = ap (λ b. if b then record_at place index c ∷ filter (has_index index) (sectors_at g epoch txn (place + 1) (index + 1) cs) else filter (has_index index) (sectors_at g epoch txn (place + 1) (index + 1) cs)) (eq-eqb index index refl)
      ∙ ap (λ (l : List FoundSector). record_at place index c ∷ l) (lower_none (place + 1) (index + 1) index cs (omega arith))

  -- over a range, functions that agree there
  flat_agree : {X : Type 0} (p q : ℕ → List X) (a n : ℕ) → ((k : ℕ) → a ≤ k → p k ≡ q k) → flat_map p (range_with_len a n) ≡ flat_map q (range_with_len a n)
  flat_agree p q a zero agree = refl
  flat_agree p q a (suc n) agree = λ i. agree a (omega arith) i ++ flat_agree p q (a + 1) n (λ k le. agree k (omega arith)) i

  any_agree_from : (p q : ℕ → Bool) (a n : ℕ) → ((k : ℕ) → a ≤ k → p k ≡ q k) → list_any p (range_with_len a n) ≡ list_any q (range_with_len a n)
  any_agree_from p q a zero agree = refl
  any_agree_from p q a (suc n) agree = λ i. agree a (omega arith) i || any_agree_from p q (a + 1) n (λ k le. agree k (omega arith)) i

  -- the sectors with these indexes in turn are all of them
  pub placed_all : (place index : ℕ) (cs : List (List LogRecord)) → flat_map (λ k. all_placed (filter (has_index k) (sectors_at g epoch txn place index cs))) (range_with_len index (length cs)) ≡ all_placed (sectors_at g epoch txn place index cs)
  placed_all place index [] = refl
  placed_all place index (c ∷ cs) = (λ i. all_placed (first_found place index c cs i)
      ++ flat_agree (λ k. all_placed (filter (has_index k) (sectors_at g epoch txn place index (c ∷ cs)))) (λ k. all_placed (filter (has_index k) (sectors_at g epoch txn (place + 1) (index + 1) cs))) (index + 1) (length cs)
      (λ k le. ap all_placed (first_skipped place index k c cs (omega arith))) i)
      ∙ (λ i. append-nil (map (λ r. (journal_sector g place, r)) c) i ++ placed_all (place + 1) (index + 1) cs i)

  -- none is missing
  pub none_missing : (place index : ℕ) (cs : List (List LogRecord)) → list_any (λ k. length (filter (has_index k) (sectors_at g epoch txn place index cs)) == 0) (range_with_len index (length cs)) ≡ false
  none_missing place index [] = refl
  none_missing place index (c ∷ cs) = or_from (length (filter (has_index index) (sectors_at g epoch txn place index (c ∷ cs))) == 0) _
      (ap (λ (l : List FoundSector). length l == 0) (first_found place index c cs))
      (any_agree_from (λ k. length (filter (has_index k) (sectors_at g epoch txn place index (c ∷ cs))) == 0) (λ k. length (filter (has_index k) (sectors_at g epoch txn (place + 1) (index + 1) cs)) == 0) (index + 1) (length cs)
      (λ k le. ap (λ (l : List FoundSector). length l == 0) (first_skipped place index k c cs (omega arith)))
      ∙ none_missing (place + 1) (index + 1) cs)

  -- their records are all records
  at_place : (s : ℕ) (rs : List LogRecord) → without_places (map (λ r. (s, r)) rs) ≡ rs
  at_place s [] = refl
  at_place s (r ∷ rs) = ap (λ l. r ∷ l) (at_place s rs)

  pub records_all : (place index : ℕ) (cs : List (List LogRecord)) → without_places (all_placed (sectors_at g epoch txn place index cs)) ≡ joined cs
  records_all place index [] = refl
  records_all place index (c ∷ cs) = map-append (λ (p : PlacedRecord). p.1) (map (λ r. (journal_sector g place, r)) c) (all_placed (sectors_at g epoch txn (place + 1) (index + 1) cs))
      ∙ (λ i. at_place (journal_sector g place) c i ++ records_all (place + 1) (index + 1) cs i)

  -- ---- where they are all that is found of the transaction
  module _ (place : ℕ) (cs : List (List LogRecord)) (all : List FoundSector) (holds : sectors_of_txn txn all ≡ sectors_at g epoch txn place 0 cs) (s e number : ℕ) where
    abbrev commit : FoundSector
    commit = (s, record { epoch = e; txn = txn; index = length cs; content = HasCommit number })

    pub open_behind : list_any (is_from txn (length cs)) all ≡ false
    open_behind = any_of_txn txn (λ f. nat_le (length cs) f.1.index) all ∙ ap (list_any (λ (f : FoundSector). nat_le (length cs) f.1.index)) holds ∙ higher_none place 0 (length cs) cs (omega arith)

    pub open_there : list_any (λ k. length (record_sectors all commit k) == 0) (range_with_len 0 (length cs)) ≡ false
    open_there = any_agree_from (λ k. length (record_sectors all commit k) == 0) (λ k. length (filter (has_index k) (sectors_at g epoch txn place 0 cs)) == 0) 0 (length cs)
        (λ k le. ap (λ (l : List FoundSector). length l == 0) (filter_of_txn commit k all ∙ ap (filter (has_index k)) holds))
        ∙ none_missing place 0 cs

    pub open_records : without_places (records_before all commit) ≡ joined cs
    open_records = ap without_places (flat_agree (λ k. all_placed (record_sectors all commit k)) (λ k. all_placed (filter (has_index k) (sectors_at g epoch txn place 0 cs))) 0 (length cs)
        (λ k le. ap all_placed (filter_of_txn commit k all ∙ ap (filter (has_index k)) holds)) ∙ placed_all place 0 cs)
        ∙ records_all place 0 cs
