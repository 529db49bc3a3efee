-- How far records fill sectors with one more behind them.
use Rattle.std.proofs.Common.{◌≡◌, ℕ, suc, ◌+◌, ◌<◌, ◌≤◌, ◌⊎◌, inl, inr, List, [], ◌∷◌, ◌++◌, Bool, true, false, length, refl, ap, sym, ◌∙◌, arith, append_assoc}
use Rattle.std.specs.Prelude.{if◌then◌else◌, nat_le}
use Rattle.std.proofs.lemmas.Bool.{cases_lt, le-leb, lt-leb}
use Rattle.std.proofs.lemmas.List.{append-nil, length-append}
use Rattle.std.proofs.lemmas.List.Concat.{flat_map-append}
use Rattle.ufs_layout.specs.Records.{records_bytes, record_bytes}
use Rattle.ufs_layout.specs.Filled.{filled, sector_count_of, sectors_of_records}
use Rattle.ufs_layout.specs.declared.records.LogRecord.{LogRecord}
use Rattle.ufs_ilog.specs.Filling.{used_in_last, IsFilling}

bytes_push : (xs : List LogRecord) (r : LogRecord) → length (records_bytes (xs ++ r ∷ [])) ≡ length (records_bytes xs) + length (record_bytes r)
bytes_push xs r = ap length (flat_map-append record_bytes xs (r ∷ [])) ∙ length-append (records_bytes xs) (records_bytes (r ∷ [])) ∙ ap (λ n. length (records_bytes xs) + n) (ap length (append-nil (record_bytes r)))

-- some sectors with one before them have the same last one, where there are any
used_behind : (s t rs : List LogRecord) → used_in_last (s ∷ filled t rs) ≡ used_in_last (filled t rs)
used_behind s t [] = refl
used_behind s t (r ∷ rs) = by (nat_le (length (records_bytes (t ++ r ∷ []))) 488) (used_behind s (t ++ r ∷ []) rs)
  where
    by : (b : Bool) → used_in_last (s ∷ filled (t ++ r ∷ []) rs) ≡ used_in_last (filled (t ++ r ∷ []) rs)
        → used_in_last (s ∷ (if b then filled (t ++ r ∷ []) rs else t ∷ filled (r ∷ []) rs)) ≡ used_in_last (if b then filled (t ++ r ∷ []) rs else t ∷ filled (r ∷ []) rs)
    by true same = same
    by false same = refl

-- the record goes into the last sector, or into one of its own
pub record IsPushed (r : LogRecord) (old new : List (List LogRecord)) : Type 0 where
  pub joins : used_in_last old + length (record_bytes r) ≤ 488 → (length new ≡ length old) × (used_in_last new ≡ used_in_last old + length (record_bytes r))
  pub begins : 488 < used_in_last old + length (record_bytes r) → (length new ≡ length old + 1) × (used_in_last new ≡ length (record_bytes r))

pushed_behind : (r : LogRecord) (s t t' rs rs' : List LogRecord) → IsPushed r (filled t rs) (filled t' rs') → IsPushed r (s ∷ filled t rs) (s ∷ filled t' rs')
pushed_behind r s t t' rs rs' is =
    let one = used_behind s t rs in
    let other = used_behind s t' rs' in
    record {
      joins = λ fits. let h = is.joins (omega (arith, one, fits)) in (ap (λ n. suc n) h.0, other ∙ h.1 ∙ ap (λ n. n + length (record_bytes r)) (sym one));
      begins = λ over. let h = is.begins (omega (arith, one, over)) in (omega (arith, h.0), other ∙ h.1);
    }

pub filled_push : (s rs : List LogRecord) (r : LogRecord) → IsPushed r (filled s rs) (filled s (rs ++ r ∷ []))
filled_push s [] r = record {
  joins = λ fits. by (nat_le (length (records_bytes (s ++ r ∷ []))) 488) (le-leb (length (records_bytes (s ++ r ∷ []))) 488 (omega (arith, fits, bytes_push s r)));
  begins = λ over. other (nat_le (length (records_bytes (s ++ r ∷ []))) 488) (lt-leb (length (records_bytes (s ++ r ∷ []))) 488 (omega (arith, over, bytes_push s r)));
}
  where
    by : (b : Bool) → b ≡ true → (length (if b then filled (s ++ r ∷ []) [] else s ∷ filled (r ∷ []) []) ≡ 1) × (used_in_last (if b then filled (s ++ r ∷ []) [] else s ∷ filled (r ∷ []) []) ≡ length (records_bytes s) + length (record_bytes r))
    by true is = (refl, bytes_push s r)
    by false is = absurd (cc)

    other : (b : Bool) → b ≡ false → (length (if b then filled (s ++ r ∷ []) [] else s ∷ filled (r ∷ []) []) ≡ 1 + 1) × (used_in_last (if b then filled (s ++ r ∷ []) [] else s ∷ filled (r ∷ []) []) ≡ length (record_bytes r))
    other true is = absurd (cc)
    other false is = (refl, ap length (append-nil (record_bytes r)))
filled_push s (x ∷ rs) r = by (nat_le (length (records_bytes (s ++ x ∷ []))) 488) (filled_push (s ++ x ∷ []) rs r) (filled_push (x ∷ []) rs r)
  where
    by : (b : Bool) → IsPushed r (filled (s ++ x ∷ []) rs) (filled (s ++ x ∷ []) (rs ++ r ∷ [])) → IsPushed r (filled (x ∷ []) rs) (filled (x ∷ []) (rs ++ r ∷ []))
        → IsPushed r (if b then filled (s ++ x ∷ []) rs else s ∷ filled (x ∷ []) rs) (if b then filled (s ++ x ∷ []) (rs ++ r ∷ []) else s ∷ filled (x ∷ []) (rs ++ r ∷ []))
    by true one other = one
    by false one other = pushed_behind r s (x ∷ []) (x ∷ []) rs (rs ++ r ∷ []) other

filled_some : (s rs : List LogRecord) → 1 ≤ length (filled s rs)
filled_some s [] = omega arith
filled_some s (r ∷ rs) = by (nat_le (length (records_bytes (s ++ r ∷ []))) 488) (filled_some (s ++ r ∷ []) rs)
  where
    by : (b : Bool) → 1 ≤ length (filled (s ++ r ∷ []) rs) → 1 ≤ length (if b then filled (s ++ r ∷ []) rs else s ∷ filled (r ∷ []) rs)
    by true is = is
    by false is = omega arith

-- one record more, which goes into the last sector
pub filling_joins : (sectors used : ℕ) (xs : List LogRecord) (r : LogRecord) → IsFilling sectors used xs → 1 ≤ sectors → used + length (record_bytes r) ≤ 488 → IsFilling sectors (used + length (record_bytes r)) (xs ++ r ∷ [])
filling_joins sectors used [] r is some fits = absurd (omega (arith, is.counted))
filling_joins sectors used (x ∷ xs) r is some fits =
    let h = (filled_push (x ∷ []) xs r).joins (omega (arith, is.last, fits)) in
    record { counted = is.counted ∙ sym h.0; last = ap (λ n. n + length (record_bytes r)) is.last ∙ sym h.1 }

-- one that begins another
pub filling_begins : (sectors used : ℕ) (xs : List LogRecord) (r : LogRecord) → IsFilling sectors used xs → (1 ≤ sectors → 488 < used + length (record_bytes r)) → IsFilling (sectors + 1) (length (record_bytes r)) (xs ++ r ∷ [])
filling_begins sectors used [] r is over = record { counted = ap (λ n. n + 1) is.counted; last = sym (ap length (append-nil (record_bytes r))) }
filling_begins sectors used (x ∷ xs) r is over =
    let some = filled_some (x ∷ []) xs in
    let h = (filled_push (x ∷ []) xs r).begins (omega (arith, is.last, over (omega (arith, is.counted)))) in
    record { counted = ap (λ n. n + 1) is.counted ∙ sym h.0; last = sym h.1 }

-- ---- records more take no fewer sectors

count_push : (xs : List LogRecord) (r : LogRecord) → length (sectors_of_records xs) ≤ length (sectors_of_records (xs ++ r ∷ []))
count_push [] r = omega arith
count_push (x ∷ xs) r = by (cases_lt 488 (used_in_last (filled (x ∷ []) xs) + length (record_bytes r)))
  where
    is : IsPushed r (filled (x ∷ []) xs) (filled (x ∷ []) (xs ++ r ∷ []))
    is = filled_push (x ∷ []) xs r

    by : (488 < used_in_last (filled (x ∷ []) xs) + length (record_bytes r)) ⊎ (used_in_last (filled (x ∷ []) xs) + length (record_bytes r) ≤ 488)
        → length (filled (x ∷ []) xs) ≤ length (filled (x ∷ []) (xs ++ r ∷ []))
    by (inl over) = omega (arith, (is.begins over).0)
    by (inr fits) = omega (arith, (is.joins fits).0)

pub count_more : (xs ys : List LogRecord) → sector_count_of xs ≤ sector_count_of (xs ++ ys)
count_more xs [] = let e : length (sectors_of_records (xs ++ [])) ≡ length (sectors_of_records xs) = ap (λ (l : List LogRecord). length (sectors_of_records l)) (append-nil xs) in omega (arith, e)
count_more xs (y ∷ ys) =
    let e : length (sectors_of_records ((xs ++ y ∷ []) ++ ys)) ≡ length (sectors_of_records (xs ++ y ∷ ys)) = ap (λ (l : List LogRecord). length (sectors_of_records l)) (append_assoc xs (y ∷ []) ys) in
    omega (arith, e, count_push xs y, count_more (xs ++ y ∷ []) ys)
