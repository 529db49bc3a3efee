-- Sectors of an epoch, one by one.
use Rattle.std.proofs.Common.{◌≡◌, ℕ, zero, suc, ◌+◌, ◌-◌, ◌*◌, ◌<◌, List, [], ◌∷◌, ◌++◌, Bool, true, false, Option, Some, None, take, drop, refl, ap, sym, ◌∙◌, subst, arith, append_assoc}
use Rattle.std.specs.Prelude.{if◌then◌else◌, ◌==◌, map}
use Rattle.std.specs.List.{filter, find, range_with_len}
use Rattle.std.specs.Option.{option_map}
use Rattle.std.proofs.lemmas.List.{append-nil, map-append}
use Rattle.std.proofs.lemmas.List.Elements.{filter_map-append, filter-append}
use Rattle.ufs_base.specs.Choices.{first_of}
use Rattle.ufs_base.specs.Images.{Image}
use Rattle.ufs_layout.specs.JournalSector.{JournalSector, journal_of}
use Rattle.ufs_image.specs.Journal.{epoch_in, ReadSector, FoundSector, well_spelled}
use Rattle.ufs_image.specs.BadSectors.{is_misspelled}
use Rattle.ufs_found.specs.Read.{found_at, read_one, read_from, pieces_from, misspelled, listed, off_form}

-- ---- one sector

pub one_other : (epoch sector : ℕ) (bytes : List ℕ) → (epoch_in bytes == epoch) ≡ false → read_one epoch sector bytes ≡ []
one_other epoch sector bytes no_ = ap (λ b. if b then (sector, journal_of bytes) ∷ [] else []) no_

pub one_listed : (epoch sector : ℕ) (bytes : List ℕ) → (epoch_in bytes == epoch) ≡ true → well_spelled (read_one epoch sector bytes) ≡ listed (found_at sector bytes)
one_listed epoch sector bytes yes_ = ap (λ b. well_spelled (if b then (sector, journal_of bytes) ∷ [] else [])) yes_ ∙ by (journal_of bytes)
  where
    by : (o : Option JournalSector) → well_spelled ((sector, o) ∷ []) ≡ listed (option_map {U = FoundSector} (λ j. (sector, j)) o)
    by None = refl
    by (Some j) = refl

pub one_off : (epoch sector : ℕ) (bytes : List ℕ) → (epoch_in bytes == epoch) ≡ true → misspelled (read_one epoch sector bytes) ≡ off_form sector (found_at sector bytes)
one_off epoch sector bytes yes_ = ap (λ b. misspelled (if b then (sector, journal_of bytes) ∷ [] else [])) yes_ ∙ by (journal_of bytes)
  where
    by : (o : Option JournalSector) → misspelled ((sector, o) ∷ []) ≡ off_form sector (option_map {U = FoundSector} (λ j. (sector, j)) o)
    by None = refl
    by (Some j) = refl

pub first_of-none : {X : Type 0} (o : Option X) → first_of o None ≡ o
first_of-none None = refl
first_of-none (Some x) = refl

-- ---- many

pub range_more : (a n : ℕ) → range_with_len a (n + 1) ≡ range_with_len a n ++ (a + n) ∷ []
range_more a zero = λ i. omega_zero i ∷ []
  where
    omega_zero : a ≡ a + 0
    omega_zero = omega arith
range_more a (suc n) = ap (range_with_len a) one ∙ ap (λ l. a ∷ l) (range_more (a + 1) n) ∙ ap (λ (m : ℕ). a ∷ (range_with_len (a + 1) n ++ m ∷ [])) moved
  where
    one : suc n + 1 ≡ suc (n + 1)
    one = omega arith

    moved : a + 1 + n ≡ a + suc n
    moved = omega arith

-- one sector more
pub from_more : (epoch : ℕ) (image : Image) (a n : ℕ) → read_from epoch image a (n + 1) ≡ read_from epoch image a n ++ read_one epoch (a + n) (image (a + n))
from_more epoch image a n =
    ap (λ l. map (λ s. (s, journal_of (image s))) (filter (λ s. epoch_in (image s) == epoch) l)) (range_more a n)
    ∙ ap (map {B = ReadSector} (λ s. (s, journal_of (image s)))) (filter-append (λ s. epoch_in (image s) == epoch) (range_with_len a n) ((a + n) ∷ []))
    ∙ map-append {B = ReadSector} (λ s. (s, journal_of (image s))) (filter (λ s. epoch_in (image s) == epoch) (range_with_len a n)) (filter (λ s. epoch_in (image s) == epoch) ((a + n) ∷ []))
    ∙ ap (λ l. read_from epoch image a n ++ l) (by (epoch_in (image (a + n)) == epoch))
  where
    by : (b : Bool) → map {B = ReadSector} (λ s. (s, journal_of (image s))) (if b then (a + n) ∷ [] else []) ≡ (if b then (a + n, journal_of (image (a + n))) ∷ [] else [])
    by true = refl
    by false = refl

pub well_append : (xs ys : List ReadSector) → well_spelled (xs ++ ys) ≡ well_spelled xs ++ well_spelled ys
well_append xs ys = filter_map-append _ xs ys

pub misspelled_append : (xs ys : List ReadSector) → misspelled (xs ++ ys) ≡ first_of (misspelled xs) (misspelled ys)
misspelled_append [] ys = refl
misspelled_append (x ∷ xs) ys = by (is_misspelled x) (misspelled_append xs ys)
  where
    by : (b : Bool) → misspelled (xs ++ ys) ≡ first_of (misspelled xs) (misspelled ys)
        → option_map (λ (r : ReadSector). r.0) (if b then Some x else find is_misspelled (xs ++ ys)) ≡ first_of (option_map (λ (r : ReadSector). r.0) (if b then Some x else find is_misspelled xs)) (misspelled ys)
    by true rest = refl
    by false rest = rest

pub first_of-assoc : {X : Type 0} (a b c : Option X) → first_of (first_of a b) c ≡ first_of a (first_of b c)
first_of-assoc None b c = refl
first_of-assoc (Some x) b c = refl

-- what is noted goes on by one sector
pub found_more : (epoch : ℕ) (image : Image) (a n : ℕ) (old now next : List FoundSector) → now ≡ old ++ well_spelled (read_from epoch image a n)
    → next ≡ now ++ well_spelled (read_one epoch (a + n) (image (a + n))) → next ≡ old ++ well_spelled (read_from epoch image a (n + 1))
found_more epoch image a n old now next so_far one =
    one ∙ ap (λ l. l ++ well_spelled (read_one epoch (a + n) (image (a + n)))) so_far
    ∙ append_assoc old (well_spelled (read_from epoch image a n)) (well_spelled (read_one epoch (a + n) (image (a + n))))
    ∙ ap (λ l. old ++ l) (sym (well_append (read_from epoch image a n) (read_one epoch (a + n) (image (a + n)))) ∙ ap well_spelled (sym (from_more epoch image a n)))

pub off_more : (epoch : ℕ) (image : Image) (a n : ℕ) (old now next : Option ℕ) → now ≡ first_of old (misspelled (read_from epoch image a n))
    → next ≡ first_of now (misspelled (read_one epoch (a + n) (image (a + n)))) → next ≡ first_of old (misspelled (read_from epoch image a (n + 1)))
off_more epoch image a n old now next so_far one =
    one ∙ ap (λ o. first_of o (misspelled (read_one epoch (a + n) (image (a + n))))) so_far
    ∙ first_of-assoc old (misspelled (read_from epoch image a n)) (misspelled (read_one epoch (a + n) (image (a + n))))
    ∙ ap (first_of old) (sym (misspelled_append (read_from epoch image a n) (read_one epoch (a + n) (image (a + n)))) ∙ ap misspelled (sym (from_more epoch image a n)))

-- a sector among bytes
pub piece_at : (s i : ℕ) (bytes : List ℕ) → take (512 * i + 512 - 512 * i) (drop (512 * i) bytes) ≡ pieces_from s bytes (s + i)
piece_at s i bytes =
    let one : 512 * i + 512 - 512 * i ≡ 512 = omega arith in
    let two : i ≡ s + i - s = omega arith in
    (λ k. take (one k) (drop (512 * two k) bytes))

-- the first of them, and the others
pub from_split : (epoch : ℕ) (f : Image) (a n : ℕ) → read_from epoch f a (suc n) ≡ read_one epoch a (f a) ++ read_from epoch f (a + 1) n
from_split epoch f a n = by (epoch_in (f a) == epoch)
  where
    by : (b : Bool) → map {B = ReadSector} (λ s. (s, journal_of (f s))) (if b then a ∷ filter (λ s. epoch_in (f s) == epoch) (range_with_len (a + 1) n) else filter (λ s. epoch_in (f s) == epoch) (range_with_len (a + 1) n))
        ≡ (if b then (a, journal_of (f a)) ∷ [] else []) ++ read_from epoch f (a + 1) n
    by true = refl
    by false = refl

-- other images that have the same in these sectors
pub from_same : (epoch : ℕ) (d e : Image) (a n : ℕ) → ((i : ℕ) → i < n → d (a + i) ≡ e (a + i)) → read_from epoch d a n ≡ read_from epoch e a n
from_same epoch d e a zero same = refl
from_same epoch d e a (suc n) same =
    let here : d a ≡ e a = subst (λ m. d m ≡ e m) (omega arith) (same 0 (omega arith)) in
    let moved : (i : ℕ) → a + suc i ≡ a + 1 + i = λ i. omega arith in
    from_split epoch d a n
    ∙ (λ k. read_one epoch a (here k) ++ from_same epoch d e (a + 1) n (λ i less. subst (λ m. d m ≡ e m) (moved i) (same (suc i) (omega (arith, less)))) k)
    ∙ sym (from_split epoch e a n)

-- more sectors
pub from_append : (epoch : ℕ) (d : Image) (a m n : ℕ) → read_from epoch d a (m + n) ≡ read_from epoch d a m ++ read_from epoch d (a + m) n
from_append epoch d a m zero = ap (read_from epoch d a) (omega arith) ∙ sym (append-nil (read_from epoch d a m))
from_append epoch d a m (suc n) =
    ap (read_from epoch d a) one ∙ from_more epoch d a (m + n)
    ∙ (λ k. from_append epoch d a m n k ++ read_one epoch (two k) (d (two k)))
    ∙ append_assoc (read_from epoch d a m) (read_from epoch d (a + m) n) (read_one epoch (a + m + n) (d (a + m + n)))
    ∙ ap (λ l. read_from epoch d a m ++ l) (sym (from_more epoch d (a + m) n) ∙ ap (read_from epoch d (a + m)) three)
  where
    one : m + suc n ≡ m + n + 1
    one = omega arith

    two : a + (m + n) ≡ a + m + n
    two = omega arith

    three : n + 1 ≡ suc n
    three = omega arith
