-- The lowest sector of which one of several things holds.
use Rattle.std.proofs.Common.{◌≡◌, inl, inr, ℕ, zero, suc, ◌+◌, ◌*◌, ◌<◌, ◌≤◌, List, [], ◌∷◌, ◌++◌, Bool, true, false, ◌&&◌, ◌||◌, Option, Some, None, refl, ap, sym, ◌∙◌, arith}
use Rattle.std.specs.Prelude.{if◌then◌else◌, ◌==◌, min}
use Rattle.std.specs.List.{find, list_any, range_with_len}
use Rattle.std.specs.Option.{option_map}
use Rattle.std.proofs.lemmas.Bool.{cases_eq, eq-eqb, ne_eqb}
use Rattle.ufs_layout.specs.Areas.{first_of_journal}
use Rattle.ufs_base.specs.Images.{Image}
use Rattle.ufs_layout.specs.JournalSector.{JournalSector, journal_of}
use Rattle.ufs_image.specs.Journal.{epoch_in, ReadSector, FoundSector, sectors_of_epoch, well_spelled, transactions}
use Rattle.ufs_image.specs.BadSectors.{is_misspelled, is_off, overkept, bad_sector}
use Rattle.ufs_layout.specs.declared.geometry.Geometry.{Geometry}
use Rattle.ufs_layout.specs.declared.superblock.Super.{Super}
use Rattle.ufs_found.specs.Read.{read_from, misspelled}
use Rattle.ufs_found.specs.Off.{lower, lowest_of, first_off}
use Rattle.ufs_found.proofs.Noted.{from_split}

-- tests that agree in the range
pub find_same : (p q : ℕ → Bool) (a n : ℕ) → ((s : ℕ) → a ≤ s → p s ≡ q s) → find p (range_with_len a n) ≡ find q (range_with_len a n)
find_same p q a zero same = refl
find_same p q a (suc n) same =
    ap (λ b. if b then Some a else find p (range_with_len (a + 1) n)) (same a (omega arith))
    ∙ ap (λ o. if q a then Some a else o) (find_same p q (a + 1) n (λ s le. same s (omega (arith, le))))

pub find_from : (q : ℕ → Bool) (a n k : ℕ) → find q (range_with_len a n) ≡ Some k → a ≤ k
find_from q a zero k is = grind (arith, is)
find_from q a (suc n) k is = by (q a) is (λ rest. find_from q (a + 1) n k rest)
  where
    by : (b : Bool) → (if b then Some a else find q (range_with_len (a + 1) n)) ≡ Some k → (find q (range_with_len (a + 1) n) ≡ Some k → a + 1 ≤ k) → a ≤ k
    by true is more = grind (arith, is)
    by false is more = let le = more is in omega (arith, le)

lower_first : (a : ℕ) (o : Option ℕ) → ((k : ℕ) → o ≡ Some k → a ≤ k) → Some a ≡ lower (Some a) o
lower_first a None ge = refl
lower_first a (Some k) ge = let le = ge k refl in let same : a ≡ min a k = omega (arith, le) in ap Some same

lower_second : (a : ℕ) (o : Option ℕ) → ((k : ℕ) → o ≡ Some k → a ≤ k) → Some a ≡ lower o (Some a)
lower_second a None ge = refl
lower_second a (Some k) ge = let le = ge k refl in let same : a ≡ min k a = omega (arith, le) in ap Some same

-- one of two
pub find_either : (p q : ℕ → Bool) (a n : ℕ) → find (λ s. p s || q s) (range_with_len a n) ≡ lower (find p (range_with_len a n)) (find q (range_with_len a n))
find_either p q a zero = refl
find_either p q a (suc n) = by (p a) (q a) (find_either p q (a + 1) n)
  where
    P : Option ℕ
    P = find p (range_with_len (a + 1) n)

    Q : Option ℕ
    Q = find q (range_with_len (a + 1) n)

    by : (x y : Bool) → find (λ s. p s || q s) (range_with_len (a + 1) n) ≡ lower (find p (range_with_len (a + 1) n)) (find q (range_with_len (a + 1) n))
        → (if x || y then Some a else find (λ s. p s || q s) (range_with_len (a + 1) n)) ≡ lower (if x then Some a else find p (range_with_len (a + 1) n)) (if y then Some a else find q (range_with_len (a + 1) n))
    by true true rest = lower_first a (Some a) (λ k is. grind (arith, is))
    by true false rest = lower_first a (find q (range_with_len (a + 1) n)) (λ k is. omega (arith, find_from q (a + 1) n k is))
    by false true rest = lower_second a (find p (range_with_len (a + 1) n)) (λ k is. omega (arith, find_from p (a + 1) n k is))
    by false false rest = rest

-- ---- the numbers of a list

same_number : (a : ℕ) → (a == a) ≡ true
same_number a = eq-eqb a a refl

pub find_number : (x a n : ℕ) → a ≤ x → x < a + n → find (λ s. x == s) (range_with_len a n) ≡ Some x
find_number x a zero low high = absurd (omega (arith, low, high))
find_number x a (suc n) low high = elim (cases_eq x a) [
  | inl is ↦ ap (λ b. if b then Some a else find (λ s. x == s) (range_with_len (a + 1) n)) (eq-eqb x a is) ∙ ap Some (sym is)
  | inr ne ↦ ap (λ b. if b then Some a else find (λ s. x == s) (range_with_len (a + 1) n)) (ne_eqb x a ne) ∙ find_number x (a + 1) n (omega (arith, low, ne)) (omega (arith, high))
]

-- Each is in the range.
abbrev pub AreIn : ℕ → ℕ → List ℕ → Type 0
AreIn a n [] = Unit {0}
AreIn a n (x ∷ xs) = (a ≤ x) × (x < a + n) × AreIn a n xs

pub find_among : (xs : List ℕ) (a n : ℕ) → AreIn a n xs → find (λ s. list_any (λ o. o == s) xs) (range_with_len a n) ≡ lowest_of xs
find_among [] a n are = none a n
  where
    none : (a n : ℕ) → find (λ s. false) (range_with_len a n) ≡ None
    none a zero = refl
    none a (suc n) = none (a + 1) n
find_among (x ∷ xs) a n are = find_either (λ s. x == s) (λ s. list_any (λ o. o == s) xs) a n ∙ (λ i. lower (find_number x a n are.0 are.1 i) (find_among xs a n are.2 i))

-- ---- what is read

-- no sector below the first
none_below : (epoch : ℕ) (d : Image) (P : ReadSector → Bool) (s b n : ℕ) → s < b → list_any (λ (r : ReadSector). r.0 == s && P r) (read_from epoch d b n) ≡ false
none_below epoch d P s b zero less = refl
none_below epoch d P s b (suc n) less = ap (list_any (λ (r : ReadSector). r.0 == s && P r)) (from_split epoch d b n) ∙ by (epoch_in (d b) == epoch) (none_below epoch d P s (b + 1) n (omega (arith, less)))
  where
    by : (c : Bool) → list_any (λ (r : ReadSector). r.0 == s && P r) (read_from epoch d (b + 1) n) ≡ false → list_any (λ (r : ReadSector). r.0 == s && P r) ((if c then (b, journal_of (d b)) ∷ [] else []) ++ read_from epoch d (b + 1) n) ≡ false
    by true rest = ap (λ x. (x && P (b, journal_of (d b))) || list_any (λ (r : ReadSector). r.0 == s && P r) (read_from epoch d (b + 1) n)) (ne_eqb b s (λ e. omega (arith, e, less))) ∙ rest
    by false rest = rest

-- the lowest of which P holds is the first
pub find_read : (epoch : ℕ) (d : Image) (P : ReadSector → Bool) (a n : ℕ) → find (λ s. list_any (λ (r : ReadSector). r.0 == s && P r) (read_from epoch d a n)) (range_with_len a n) ≡ option_map (λ (r : ReadSector). r.0) (find P (read_from epoch d a n))
find_read epoch d P a zero = refl
find_read epoch d P a (suc n) =
    ap (λ l. find (λ s. list_any (λ (r : ReadSector). r.0 == s && P r) l) (range_with_len a (suc n))) (from_split epoch d a n)
    ∙ by (epoch_in (d a) == epoch) (find_read epoch d P (a + 1) n) ∙ ap (λ l. option_map (λ (r : ReadSector). r.0) (find P l)) (sym (from_split epoch d a n))
  where
    rest : List ReadSector
    rest = read_from epoch d (a + 1) n

    at : (j : Option JournalSector) (p : Bool) → P (a, j) ≡ p → find (λ s. list_any (λ (r : ReadSector). r.0 == s && P r) (read_from epoch d (a + 1) n)) (range_with_len (a + 1) n) ≡ option_map (λ (r : ReadSector). r.0) (find P (read_from epoch d (a + 1) n))
        → find (λ s. list_any (λ (r : ReadSector). r.0 == s && P r) ((a, j) ∷ read_from epoch d (a + 1) n)) (range_with_len a (suc n)) ≡ option_map (λ (r : ReadSector). r.0) (if p then Some (a, j) else find P (read_from epoch d (a + 1) n))
    at j true is ih = ap (λ b. if b then Some a else find (λ s. list_any (λ (r : ReadSector). r.0 == s && P r) ((a, j) ∷ read_from epoch d (a + 1) n)) (range_with_len (a + 1) n))
        (λ i. (same_number a i && is i) || list_any (λ (r : ReadSector). r.0 == a && P r) (read_from epoch d (a + 1) n))
    at j false is ih =
        ap (λ b. if b then Some a else find (λ s. list_any (λ (r : ReadSector). r.0 == s && P r) ((a, j) ∷ read_from epoch d (a + 1) n)) (range_with_len (a + 1) n))
        ((λ i. (same_number a i && is i) || list_any (λ (r : ReadSector). r.0 == a && P r) (read_from epoch d (a + 1) n)) ∙ none_below epoch d P a (a + 1) n (omega arith))
        ∙ find_same (λ s. list_any (λ (r : ReadSector). r.0 == s && P r) ((a, j) ∷ read_from epoch d (a + 1) n)) (λ s. list_any (λ (r : ReadSector). r.0 == s && P r) (read_from epoch d (a + 1) n)) (a + 1) n
        (λ s le. ap (λ x. (x && P (a, j)) || list_any (λ (r : ReadSector). r.0 == s && P r) (read_from epoch d (a + 1) n)) (ne_eqb a s (λ e. omega (arith, e, le))))
        ∙ ih

    by : (c : Bool) → find (λ s. list_any (λ (r : ReadSector). r.0 == s && P r) (read_from epoch d (a + 1) n)) (range_with_len (a + 1) n) ≡ option_map (λ (r : ReadSector). r.0) (find P (read_from epoch d (a + 1) n)) → find (λ s. list_any (λ (r : ReadSector). r.0 == s && P r) ((if c then (a, journal_of (d a)) ∷ [] else []) ++ read_from epoch d (a + 1) n)) (range_with_len a (suc n))
        ≡ option_map (λ (r : ReadSector). r.0) (find P ((if c then (a, journal_of (d a)) ∷ [] else []) ++ read_from epoch d (a + 1) n))
    by true ih = at (journal_of (d a)) (P (a, journal_of (d a))) refl ih
    by false ih = ap (λ b. if b then Some a else find (λ s. list_any (λ (r : ReadSector). r.0 == s && P r) (read_from epoch d (a + 1) n)) (range_with_len (a + 1) n)) (none_below epoch d P a (a + 1) n (omega arith))
        ∙ ih

-- ---- and those that are on their form

abbrev of_row : (FoundSector → Bool) → ReadSector → Bool
of_row Q r = by r.1
  where
    by : Option JournalSector → Bool
    by None = false
    by (Some j) = Q (r.0, j)

any_well : (Q : FoundSector → Bool) (s : ℕ) (rs : List ReadSector) → list_any (λ (f : FoundSector). f.0 == s && Q f) (well_spelled rs) ≡ list_any (λ (r : ReadSector). r.0 == s && of_row Q r) rs
any_well Q s [] = refl
any_well Q s (r ∷ rs) = by r.1 (any_well Q s rs)
  where
    none : (b : Bool) → false ≡ (b && false)
    none true = refl
    none false = refl

    by : (o : Option JournalSector) → list_any (λ (f : FoundSector). f.0 == s && Q f) (well_spelled rs) ≡ list_any (λ (r : ReadSector). r.0 == s && of_row Q r) rs
        → list_any (λ (f : FoundSector). f.0 == s && Q f) (well_spelled ((r.0, o) ∷ rs)) ≡ list_any (λ (r : ReadSector). r.0 == s && of_row Q r) ((r.0, o) ∷ rs)
    by None rest = rest ∙ ap (λ b. b || list_any (λ (r : ReadSector). r.0 == s && of_row Q r) rs) (none (r.0 == s))
    by (Some j) rest = ap (λ b. (r.0 == s && Q (r.0, j)) || b) rest

find_well : (Q : FoundSector → Bool) (rs : List ReadSector) → option_map (λ (r : ReadSector). r.0) (find (of_row Q) rs) ≡ option_map (λ (f : FoundSector). f.0) (find Q (well_spelled rs))
find_well Q [] = refl
find_well Q (r ∷ rs) = by r.1 (find_well Q rs)
  where
    at : (j : JournalSector) (b : Bool) → option_map (λ (r : ReadSector). r.0) (find (of_row Q) rs) ≡ option_map (λ (f : FoundSector). f.0) (find Q (well_spelled rs))
        → option_map (λ (r : ReadSector). r.0) (if b then Some (r.0, Some j) else find (of_row Q) rs) ≡ option_map (λ (f : FoundSector). f.0) (if b then Some (r.0, j) else find Q (well_spelled rs))
    at j true rest = refl
    at j false rest = rest

    by : (o : Option JournalSector) → option_map (λ (r : ReadSector). r.0) (find (of_row Q) rs) ≡ option_map (λ (f : FoundSector). f.0) (find Q (well_spelled rs))
        → option_map (λ (r : ReadSector). r.0) (find (of_row Q) ((r.0, o) ∷ rs)) ≡ option_map (λ (f : FoundSector). f.0) (find Q (well_spelled ((r.0, o) ∷ rs)))
    by None rest = rest
    by (Some j) rest = at j (Q (r.0, j)) rest

-- ---- the lowest sector that is off

pub bad_is : (g : Geometry) (superblock : Super) (image : Image) (kept : List ℕ) → overkept g (transactions (well_spelled (sectors_of_epoch g superblock.epoch image))) image ≡ kept → AreIn (8 * first_of_journal g) g.journal kept
    → bad_sector g superblock image ≡ lower (lower (misspelled (sectors_of_epoch g superblock.epoch image)) (first_off g superblock.next (well_spelled (sectors_of_epoch g superblock.epoch image)))) (lowest_of kept)
bad_is g superblock image kept is are =
    let read : List ReadSector = sectors_of_epoch g superblock.epoch image in
    let all : List FoundSector = well_spelled (sectors_of_epoch g superblock.epoch image) in
    let a : ℕ = 8 * first_of_journal g in
    let A : ℕ → Bool = λ s. list_any (λ (r : ReadSector). r.0 == s && is_misspelled r) (sectors_of_epoch g superblock.epoch image) in
    let B : ℕ → Bool = λ s. list_any (λ (f : FoundSector). f.0 == s && is_off g superblock.next (well_spelled (sectors_of_epoch g superblock.epoch image)) f) (well_spelled (sectors_of_epoch g superblock.epoch image)) in
    find_either (λ s. A s || B s) (λ s. list_any (λ o. o == s) (overkept g (transactions (well_spelled (sectors_of_epoch g superblock.epoch image))) image)) (8 * first_of_journal g) g.journal
    ∙ (λ i. lower (find_either A B (8 * first_of_journal g) g.journal i) (find (λ s. list_any (λ o. o == s) (is i)) (range_with_len (8 * first_of_journal g) g.journal)))
    ∙ (λ i. lower (lower (find_read superblock.epoch image is_misspelled (8 * first_of_journal g) g.journal i) (found i)) (find_among kept (8 * first_of_journal g) g.journal are i))
  where
    found : find (λ s. list_any (λ (f : FoundSector). f.0 == s && is_off g superblock.next (well_spelled (sectors_of_epoch g superblock.epoch image)) f) (well_spelled (sectors_of_epoch g superblock.epoch image))) (range_with_len (8 * first_of_journal g) g.journal)
        ≡ first_off g superblock.next (well_spelled (sectors_of_epoch g superblock.epoch image))
    found =
        find_same _ (λ s. list_any (λ (r : ReadSector). r.0 == s && of_row (is_off g superblock.next (well_spelled (sectors_of_epoch g superblock.epoch image))) r) (sectors_of_epoch g superblock.epoch image)) (8 * first_of_journal g) g.journal
        (λ s le. any_well (is_off g superblock.next (well_spelled (sectors_of_epoch g superblock.epoch image))) s (sectors_of_epoch g superblock.epoch image))
        ∙ find_read superblock.epoch image (of_row (is_off g superblock.next (well_spelled (sectors_of_epoch g superblock.epoch image)))) (8 * first_of_journal g) g.journal
        ∙ find_well (is_off g superblock.next (well_spelled (sectors_of_epoch g superblock.epoch image))) (sectors_of_epoch g superblock.epoch image)

pub lower_assoc : (a b c : Option ℕ) → lower (lower a b) c ≡ lower a (lower b c)
lower_assoc None b c = refl
lower_assoc (Some s) None c = refl
lower_assoc (Some s) (Some t) None = refl
lower_assoc (Some s) (Some t) (Some u) = let same : min (min s t) u ≡ min s (min t u) = omega arith in ap Some same

pub lowest_append : (xs ys : List ℕ) → lowest_of (xs ++ ys) ≡ lower (lowest_of xs) (lowest_of ys)
lowest_append [] ys = refl
lowest_append (x ∷ xs) ys = ap (lower (Some x)) (lowest_append xs ys) ∙ sym (lower_assoc (Some x) (lowest_of xs) (lowest_of ys))
