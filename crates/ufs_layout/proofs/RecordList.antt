-- A content is a list of records exactly where its leading record is one and the rest is a list.
use Rattle.std.proofs.Common.{ℕ, zero, suc, ◌≡◌, ◌+◌, ◌-◌, ◌*◌, ◌≤◌, List, [], ◌∷◌, ◌++◌, length, drop, Bool, true, false, Option, Some, None, ◌&&◌, refl, sym, ap, ◌∙◌, subst, arith}
use Rattle.std.specs.Prelude.{option_map, IsTrue}
use Rattle.std.specs.List.{list_all}
use Rattle.std.specs.Bool.{Decides}
use Rattle.std.specs.Str.{bytes_eq}
use Rattle.std.proofs.lemmas.Slice.Eq.{bytes_eq-Decides}
use Rattle.std.proofs.lemmas.List.{append-nil, append_assoc, drop_all, drop_at, length-append, length-drop}
use Rattle.ufs_base.specs.Choices.{some_if}
use Rattle.ufs_layout.specs.Words.{byte_at, number_at}
use Rattle.ufs_layout.specs.Records.{record_bytes, records_bytes, first_record, record_by_tag, and_more, record_fields, spelled_in, leading_record, is_record, records_of}
use Rattle.ufs_layout.specs.declared.records.LogRecord.{LogRecord}
use Rattle.ufs_layout.specs.declared.records.LogRecord.TheVariants.{Free}
use Rattle.ufs_layout.proofs.Compared.{bytes_eq-append}
use Rattle.ufs_layout.proofs.Spelled.{some_if-some, some_if-none, both}
use Rattle.ufs_layout.proofs.Extents.{length-extents_at}
use Rattle.ufs_layout.proofs.RecordForms.{length-delta, length-place}
use Rattle.ufs_layout.proofs.Leading.{short_name, delta_in, extents_of, place_in, dentry_in, other_length}

some-inj : {X : Type 0} (x y : X) → Some x ≡ Some y → x ≡ y
some-inj x y e = cc e

-- ---- the record that is read first

-- what stands behind it, and that it has bytes
record IsFirst (bs : List ℕ) (r : LogRecord) (behind : List ℕ) : Type 0 where
  behind_is : behind ≡ drop (length (record_bytes r)) bs
  has_bytes : 5 ≤ length (record_bytes r)

first_of_tag : (bs : List ℕ) (tag : ℕ) (p : LogRecord × List ℕ) → record_by_tag bs tag ≡ Some p → IsFirst bs p.0 p.1
first_of_tag bs zero p is = absurd (grind (arith, is))
first_of_tag bs (suc zero) p is = subst (λ q. IsFirst bs q.0 q.1) (some-inj (delta_in bs, drop (16 + 8 * byte_at 15 bs) bs) p is) (record { behind_is = ap (λ n. drop n bs) (sym long); has_bytes = omega (arith, long) })
  where
    long : length (record_bytes (delta_in bs)) ≡ 16 + 8 * byte_at 15 bs
    long = length-delta (number_at 4 1 bs) (byte_at 5 bs) (number_at 8 6 bs) (byte_at 14 bs) (extents_of bs) ∙ ap (λ n. 16 + 8 * n) (length-extents_at (byte_at 15 bs) (drop 16 bs))
first_of_tag bs (suc (suc zero)) p is = subst (λ q. IsFirst bs q.0 q.1) (some-inj (place_in bs, drop 70 bs) p is) (record { behind_is = ap (λ n. drop n bs) (sym long); has_bytes = omega (arith, long) })
  where
    long : length (record_bytes (place_in bs)) ≡ 70
    long = length-place (number_at 4 1 bs) (byte_at 5 bs) (dentry_in bs) (short_name bs)
first_of_tag bs (suc (suc (suc zero))) p is = subst (λ q. IsFirst bs q.0 q.1) (some-inj (Free (number_at 4 1 bs), drop 5 bs) p is) (record { behind_is = refl; has_bytes = omega arith })
first_of_tag bs (suc (suc (suc (suc n)))) p is = absurd (grind (arith, is))

shorter : (bs : List ℕ) (r : LogRecord) (behind : List ℕ) (most : ℕ) → IsFirst bs r behind → length bs ≤ suc most → length behind ≤ most
shorter bs r behind most is fits = omega (arith, is.has_bytes, length-drop (length (record_bytes r)) bs, ap length is.behind_is)

-- ---- reading on

and_more-same : (f g : List ℕ → List LogRecord) (o : Option (LogRecord × List ℕ)) → ((p : LogRecord × List ℕ) → o ≡ Some p → f p.1 ≡ g p.1) → and_more f o ≡ and_more g o
and_more-same f g None same = refl
and_more-same f g (Some p) same = ap (λ rs. p.0 ∷ rs) (same p refl)

-- As many records as bytes are enough.
enough : (m n : ℕ) (bs : List ℕ) → length bs ≤ m → length bs ≤ n → record_fields m bs ≡ record_fields n bs
enough zero zero bs small fits = refl
enough zero (suc n) [] small fits = refl
enough zero (suc n) (b ∷ bs) small fits = absurd (omega arith)
enough (suc m) zero [] small fits = refl
enough (suc m) zero (b ∷ bs) small fits = absurd (omega arith)
enough (suc m) (suc n) bs small fits =
    and_more-same (record_fields m) (record_fields n) (first_record bs) (λ p is. enough m n p.1 (shorter bs p.0 p.1 m (first_of_tag bs (byte_at 0 bs) p is) small) (shorter bs p.0 p.1 n (first_of_tag bs (byte_at 0 bs) p is) fits))

-- the first record and the others
fields_by : (bs : List ℕ) (p : LogRecord × List ℕ) → 1 ≤ length bs → first_record bs ≡ Some p → record_fields (length bs) bs ≡ p.0 ∷ record_fields (length p.1) p.1
fields_by bs p some is =
    let first = first_of_tag bs (byte_at 0 bs) p is in
    let one_less : length bs ≡ suc (length bs - 1) = omega arith in
    ap (λ n. record_fields n bs) one_less ∙ ap (and_more (record_fields (length bs - 1))) is
    ∙ ap (λ rs. p.0 ∷ rs) (enough (length bs - 1) (length p.1) p.1 (shorter bs p.0 p.1 (length bs - 1) first (omega arith)) (omega arith))

-- a list by its fields
abbrev listed : List ℕ → List LogRecord → Option (List LogRecord)
listed bs rs = some_if (list_all is_record rs && bytes_eq (records_bytes rs) bs) rs

-- ---- the two laws

by_pair : (bs : List ℕ) (p : LogRecord × List ℕ) (r : LogRecord) → first_record bs ≡ Some p → spelled_in bs (Some p) ≡ Some r
    → (records_of bs ≡ option_map (λ rs. r ∷ rs) (records_of (drop (length (record_bytes r)) bs))) × IsTrue (is_record r) × (bs ≡ record_bytes r ++ drop (length (record_bytes r)) bs)
by_pair bs p r is it = subst Goal parts.1 (law, tests.0, whole)
  where
    Goal : LogRecord → Type 0
    Goal q = (records_of bs ≡ option_map (λ rs. q ∷ rs) (records_of (drop (length (record_bytes q)) bs))) × IsTrue (is_record q) × (bs ≡ record_bytes q ++ drop (length (record_bytes q)) bs)

    parts : ((is_record p.0 && bytes_eq (record_bytes p.0 ++ p.1) bs) ≡ true) × (p.0 ≡ r)
    parts = some_if-some (is_record p.0 && bytes_eq (record_bytes p.0 ++ p.1) bs) p.0 r it

    tests : (is_record p.0 ≡ true) × (bytes_eq (record_bytes p.0 ++ p.1) bs ≡ true)
    tests = both (is_record p.0) (bytes_eq (record_bytes p.0 ++ p.1) bs) parts.0

    bs_is : record_bytes p.0 ++ p.1 ≡ bs
    bs_is = (bytes_eq-Decides (record_bytes p.0 ++ p.1) bs).0 tests.1

    first : IsFirst bs p.0 p.1
    first = first_of_tag bs (byte_at 0 bs) p is

    some : 1 ≤ length bs
    some = omega (arith, ap length bs_is, length-append (record_bytes p.0) p.1, first.has_bytes)

    whole : bs ≡ record_bytes p.0 ++ drop (length (record_bytes p.0)) bs
    whole = sym bs_is ∙ ap (λ xs. record_bytes p.0 ++ xs) first.behind_is

    split : (a b c : Bool) (rs : List LogRecord) → a ≡ true → some_if ((a && b) && c) (p.0 ∷ rs) ≡ option_map (λ qs. p.0 ∷ qs) (some_if (b && c) rs)
    split a true true rs on = rw on refl
    split a true false rs on = rw on refl
    split a false c rs on = rw on refl

    law : records_of bs ≡ option_map (λ rs. p.0 ∷ rs) (records_of (drop (length (record_bytes p.0)) bs))
    law =
        ap (listed bs) (fields_by bs p some is)
        ∙ ap (λ t. some_if ((is_record p.0 && list_all is_record (record_fields (length p.1) p.1)) && t) (p.0 ∷ record_fields (length p.1) p.1))
        (ap (bytes_eq (record_bytes p.0 ++ records_bytes (record_fields (length p.1) p.1))) (sym bs_is) ∙ bytes_eq-append (record_bytes p.0) (records_bytes (record_fields (length p.1) p.1)) p.1)
        ∙ split (is_record p.0) (list_all is_record (record_fields (length p.1) p.1)) (bytes_eq (records_bytes (record_fields (length p.1) p.1)) p.1) (record_fields (length p.1) p.1) tests.0
        ∙ ap (λ xs. option_map (λ rs. p.0 ∷ rs) (records_of xs)) first.behind_is

-- A content that begins with a record is a list where the rest is one.
pub records-cons : (bs : List ℕ) (r : LogRecord) → leading_record bs ≡ Some r
    → (records_of bs ≡ option_map (λ rs. r ∷ rs) (records_of (drop (length (record_bytes r)) bs))) × IsTrue (is_record r) × (bs ≡ record_bytes r ++ drop (length (record_bytes r)) bs)
records-cons bs r it = by_first (first_record bs) refl it
  where
    by_first : (o : Option (LogRecord × List ℕ)) → first_record bs ≡ o → spelled_in bs o ≡ Some r
        → (records_of bs ≡ option_map (λ rs. r ∷ rs) (records_of (drop (length (record_bytes r)) bs))) × IsTrue (is_record r) × (bs ≡ record_bytes r ++ drop (length (record_bytes r)) bs)
    by_first None is it = absurd (grind (arith, it))
    by_first (Some p) is it = by_pair bs p r is it

-- A content that begins with none is a list where it is empty alone.
pub records-none : (bs : List ℕ) → 1 ≤ length bs → leading_record bs ≡ None → records_of bs ≡ None
records-none bs some it = by_first (first_record bs) refl it
  where
    nothing : first_record bs ≡ None → records_of bs ≡ None
    nothing is =
        let one_less : length bs ≡ suc (length bs - 1) = omega arith in
        ap (listed bs) (ap (λ n. record_fields n bs) one_less ∙ ap (and_more (record_fields (length bs - 1))) is)
        ∙ ap (λ t. some_if t []) (other_length [] bs (λ e. absurd (omega (arith, e))))

    off : (p : LogRecord × List ℕ) (rs : List LogRecord) → IsFirst bs p.0 p.1 → (a c d : Bool) → (a && c) ≡ false → Decides c (record_bytes p.0 ++ p.1 ≡ bs) → Decides d (record_bytes p.0 ++ records_bytes rs ≡ bs) → (b : Bool) → ((a && b) && d) ≡ false
    off p rs first false c d never is_c is_d b = refl
    off p rs first true c false never is_c is_d true = refl
    off p rs first true c false never is_c is_d false = refl
    off p rs first true c true never is_c is_d false = refl
    off p rs first true c true never is_c is_d true =
        let same = is_d.0 refl in
        let behind : p.1 ≡ records_bytes rs = first.behind_is ∙ ap (drop (length (record_bytes p.0))) (sym same) ∙ drop_at (record_bytes p.0) (records_bytes rs) (length (record_bytes p.0)) refl in
        sym (is_c.1 (ap (λ xs. record_bytes p.0 ++ xs) behind ∙ same)) ∙ never

    by_first : (o : Option (LogRecord × List ℕ)) → first_record bs ≡ o → spelled_in bs o ≡ None → records_of bs ≡ None
    by_first None is it = nothing is
    by_first (Some p) is it =
        ap (listed bs) (fields_by bs p some is)
        ∙ ap (λ t. some_if t (p.0 ∷ record_fields (length p.1) p.1))
        (off p (record_fields (length p.1) p.1) (first_of_tag bs (byte_at 0 bs) p is) (is_record p.0) (bytes_eq (record_bytes p.0 ++ p.1) bs) (bytes_eq (record_bytes p.0 ++ records_bytes (record_fields (length p.1) p.1)) bs)
        (some_if-none (is_record p.0 && bytes_eq (record_bytes p.0 ++ p.1) bs) p.0 it) (bytes_eq-Decides (record_bytes p.0 ++ p.1) bs) (bytes_eq-Decides (record_bytes p.0 ++ records_bytes (record_fields (length p.1) p.1)) bs)
        (list_all is_record (record_fields (length p.1) p.1)))

-- One record more is read.
pub read-on : (o : Option (List LogRecord)) (done : List LogRecord) (r : LogRecord) → option_map (λ rs. done ++ rs) (option_map (λ rs. r ∷ rs) o) ≡ option_map (λ rs. done ++ r ∷ [] ++ rs) o
read-on None done r = refl
read-on (Some rs) done r = ap Some (sym (append_assoc done (r ∷ []) rs))

-- All are read.
pub read-all : (content : List ℕ) (at : ℕ) (done : List LogRecord) → length content ≤ at → records_of content ≡ option_map (λ rs. done ++ rs) (records_of (drop at content)) → records_of content ≡ Some done
read-all content at done end read = read ∙ ap (λ rest. option_map (λ rs. done ++ rs) (records_of rest)) (drop_all at content end) ∙ ap Some (append-nil done)
