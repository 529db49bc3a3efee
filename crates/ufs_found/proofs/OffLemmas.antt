-- How a test of a sector is made.
use Rattle.std.proofs.Common.{◌≡◌, inl, inr, ℕ, suc, ◌+◌, ◌*◌, ◌<◌, ◌≤◌, ◌∙◌, List, [], ◌∷◌, Bool, true, false, ◌&&◌, ◌||◌, Option, Some, None, length, refl, ap, sym, arith}
use Rattle.std.specs.Prelude.{if◌then◌else◌, ◌==◌, not, nat_lt, nat_le, map}
use Rattle.std.specs.List.{filter, list_any, find, range_with_len}
use Rattle.std.specs.List.Sorted.{IsPermutation}
use Rattle.std.proofs.lemmas.Bool.{ne_eqb, and_parts, eqb-true, lt-ltb, le-ltb, ltb-true, le-leb}
use Rattle.std.proofs.lemmas.List.Sorted.{list_any-IsPermutation, IsPermutation-map}
use Rattle.ufs_image.specs.Journal.{FoundSector, commit_in, has_records, has_commit, same_txn}
use Rattle.ufs_image.specs.BadSectors.{is_another, shares_number, is_repeated, lacks_records, is_old, leaves_range, is_off}
use Rattle.ufs_layout.specs.declared.geometry.Geometry.{Geometry}
use Rattle.ufs_found.specs.Off.{has_number, is_off_in, first_in, first_off}
use Rattle.ufs_found.specs.Sorted.{place_of, number_of, is_between, is_numbered}
use Rattle.ufs_found.proofs.Windows.{any_kept, any_map}

some_there : (n : ℕ) → (suc n == 0) ≡ false
some_there n = ne_eqb (suc n) 0 (λ e. omega (arith, e))

pub none_left : {X : Type 0} (p : X → Bool) (xs : List X) → not (list_any p xs) ≡ (length (filter p xs) == 0)
none_left p [] = refl
none_left p (x ∷ xs) = by (p x) (none_left p xs)
  where
    by : (b : Bool) → not (list_any p xs) ≡ (length (filter p xs) == 0) → not (b || list_any p xs) ≡ (length (if b then x ∷ filter p xs else filter p xs) == 0)
    by true rest = sym (some_there (length (filter p xs)))
    by false rest = rest

pub shares_is : (all : List FoundSector) (f : FoundSector) (number : ℕ) → commit_in f.1.content ≡ Some number → shares_number all f ≡ list_any (λ (o : FoundSector). is_another f o && has_number number (commit_in o.1.content)) all
shares_is all f number is = ap shared is
  where
    shared : Option ℕ → Bool
    shared None = false
    shared (Some m) = list_any (λ (o : FoundSector). is_another f o && has_number m (commit_in o.1.content)) all

-- ---- in a part of a list that has all that a test finds

any_in : {X : Type 0} (now : X → FoundSector) (P Q : FoundSector → Bool) → ((o : FoundSector) → P o ≡ true → Q o ≡ true) → (xs part : List X) → part ≡ filter (λ x. Q (now x)) xs → list_any (λ x. P (now x)) part ≡ list_any P (map now xs)
any_in now P Q passes xs part is = ap (list_any (λ x. P (now x))) is ∙ any_kept (λ x. P (now x)) (λ x. Q (now x)) (λ x. passes (now x)) xs ∙ sym (any_map now P xs)

between_yes : (low high : ℕ) (o : FoundSector) → low ≤ place_of o → place_of o < high → is_between low high o ≡ true
between_yes low high o le lt = λ i. not (le-ltb (place_of o) low le i) && lt-ltb (place_of o) high lt i

pub repeated_in : {X : Type 0} (now : X → FoundSector) (f : FoundSector) (a b : ℕ) → a ≡ place_of f → b ≡ place_of f → (xs part : List X) → part ≡ filter (λ x. is_between a (b + 1) (now x)) xs
    → list_any (λ x. is_another f (now x) && (same_txn f (now x) && (now x).1.index == f.1.index)) part ≡ is_repeated (map now xs) f
repeated_in now f a b at up xs part is = any_in now (λ o. is_another f o && (same_txn f o && o.1.index == f.1.index)) (is_between a (b + 1)) passes xs part is
  where
    passes : (o : FoundSector) → (is_another f o && (same_txn f o && o.1.index == f.1.index)) ≡ true → is_between a (b + 1) o ≡ true
    passes o holds =
        let both = and_parts (same_txn f o) (o.1.index == f.1.index) (and_parts (is_another f o) (same_txn f o && o.1.index == f.1.index) holds).1 in
        let txn : f.1.txn ≡ o.1.txn = eqb-true f.1.txn o.1.txn both.0 in
        let index : o.1.index ≡ f.1.index = eqb-true o.1.index f.1.index both.1 in
        between_yes a (b + 1) o (omega (arith, at, txn, index)) (omega (arith, up, txn, index))

pub record_in : {X : Type 0} (now : X → FoundSector) (f : FoundSector) (index a : ℕ) → a ≡ f.1.txn * 65536 + index → (xs part : List X) → part ≡ filter (λ x. is_between a (a + 1) (now x)) xs
    → list_any (λ x. same_txn f (now x) && (has_records (now x) && (now x).1.index == index)) part ≡ list_any (λ o. same_txn f o && (has_records o && o.1.index == index)) (map now xs)
record_in now f index a at xs part is = any_in now (λ o. same_txn f o && (has_records o && o.1.index == index)) (is_between a (a + 1)) passes xs part is
  where
    passes : (o : FoundSector) → (same_txn f o && (has_records o && o.1.index == index)) ≡ true → is_between a (a + 1) o ≡ true
    passes o holds =
        let both = and_parts (same_txn f o) (has_records o && o.1.index == index) holds in
        let txn : f.1.txn ≡ o.1.txn = eqb-true f.1.txn o.1.txn both.0 in
        let same : o.1.index ≡ index = eqb-true o.1.index index (and_parts (has_records o) (o.1.index == index) both.1).1 in
        between_yes a (a + 1) o (omega (arith, at, txn, same)) (omega (arith, at, txn, same))

pub behind_in : {X : Type 0} (now : X → FoundSector) (f : FoundSector) (a b : ℕ) → a ≡ f.1.txn * 65536 + 0 → b ≡ place_of f → (xs part : List X) → part ≡ filter (λ x. is_between a b (now x)) xs
    → list_any (λ x. same_txn f (now x) && (has_commit (now x) && nat_lt (now x).1.index f.1.index)) part ≡ list_any (λ o. same_txn f o && (has_commit o && nat_lt o.1.index f.1.index)) (map now xs)
behind_in now f a b at up xs part is = any_in now (λ o. same_txn f o && (has_commit o && nat_lt o.1.index f.1.index)) (is_between a b) passes xs part is
  where
    passes : (o : FoundSector) → (same_txn f o && (has_commit o && nat_lt o.1.index f.1.index)) ≡ true → is_between a b o ≡ true
    passes o holds =
        let both = and_parts (same_txn f o) (has_commit o && nat_lt o.1.index f.1.index) holds in
        let txn : f.1.txn ≡ o.1.txn = eqb-true f.1.txn o.1.txn both.0 in
        let low : o.1.index < f.1.index = ltb-true o.1.index f.1.index (and_parts (has_commit o) (nat_lt o.1.index f.1.index) both.1).1 in
        between_yes a b o (omega (arith, at, txn)) (omega (arith, up, txn, low))

numbered_yes : (number : ℕ) (o : FoundSector) → has_number number (commit_in o.1.content) ≡ true → is_numbered number o ≡ true
numbered_yes number o holds = by (commit_in o.1.content) refl holds
  where
    by : (c : Option ℕ) → commit_in o.1.content ≡ c → has_number number c ≡ true → is_numbered number o ≡ true
    by None is wrong = grind (arith, wrong)
    by (Some m) is same =
        let one : number_of o ≡ m = ap (λ (c : Option ℕ). Rattle.std.specs.Prelude.unwrap_or c 0) is in
        let equal : m ≡ number = eqb-true m number same in
        (λ i. not (le-ltb (number_of o) number (omega (arith, one, equal)) i) && le-leb (number_of o) number (omega (arith, one, equal)) i)

pub shared_in : {X : Type 0} (now : X → FoundSector) (f : FoundSector) (number : ℕ) (xs part : List X) → part ≡ filter (λ x. is_numbered number (now x)) xs
    → list_any (λ x. is_another f (now x) && has_number number (commit_in (now x).1.content)) part ≡ list_any (λ o. is_another f o && has_number number (commit_in o.1.content)) (map now xs)
shared_in now f number xs part is = any_in now (λ o. is_another f o && has_number number (commit_in o.1.content)) (is_numbered number) passes xs part is
  where
    passes : (o : FoundSector) → (is_another f o && has_number number (commit_in o.1.content)) ≡ true → is_numbered number o ≡ true
    passes o holds = numbered_yes number o (and_parts (is_another f o) (has_number number (commit_in o.1.content)) holds).1

-- ---- and in another order

any_same : {X : Type 0} (p q : X → Bool) → ((x : X) → p x ≡ q x) → (xs : List X) → list_any p xs ≡ list_any q xs
any_same p q same [] = refl
any_same p q same (x ∷ xs) = λ i. same x i || any_same p q same xs i

find_alike : {X : Type 0} (p q : X → Bool) → ((x : X) → p x ≡ q x) → (xs : List X) → find p xs ≡ find q xs
find_alike p q same [] = refl
find_alike p q same (x ∷ xs) = λ i. if same x i then Some x else find_alike p q same xs i

map_filter : {X Y : Type 0} (now : X → Y) (p : Y → Bool) (xs : List X) → map now (filter (λ x. p (now x)) xs) ≡ filter p (map now xs)
map_filter now p [] = refl
map_filter {X} {Y} now p (x ∷ xs) = by (p (now x)) (map_filter now p xs)
  where
    by : (b : Bool) → map now (filter (λ x. p (now x)) xs) ≡ filter p (map now xs) → map now (if b then x ∷ filter (λ x. p (now x)) xs else filter (λ x. p (now x)) xs) ≡ (if b then now x ∷ filter p (map now xs) else filter p (map now xs))
    by true rest = ap (λ (l : List Y). now x ∷ l) rest
    by false rest = rest

-- the commits among them
commits_alike : (P : FoundSector → Bool) → ((o : FoundSector) → P o ≡ true → has_commit o ≡ true) → (all ps cs : List FoundSector) → IsPermutation all ps → IsPermutation (filter has_commit ps) cs → list_any P cs ≡ list_any P all
commits_alike P passes all ps cs one two =
    sym (list_any-IsPermutation P (filter has_commit ps) cs two) ∙ any_kept P has_commit passes ps ∙ sym (list_any-IsPermutation P all ps one)

lacks_alike : (f : FoundSector) (all ps : List FoundSector) → IsPermutation all ps → lacks_records ps f ≡ lacks_records all f
lacks_alike f all ps one = ap (λ b. has_commit f && b) (any_same _ _ each (range_with_len 0 f.1.index))
  where
    each : (index : ℕ) → (length (filter (λ o. same_txn f o && (has_records o && o.1.index == index)) ps) == 0) ≡ (length (filter (λ o. same_txn f o && (has_records o && o.1.index == index)) all) == 0)
    each index =
        let P : FoundSector → Bool = λ o. same_txn f o && (has_records o && o.1.index == index) in
        sym (none_left P ps) ∙ ap not (sym (list_any-IsPermutation P all ps one)) ∙ none_left P all

shares_alike : (f : FoundSector) (all ps ns : List FoundSector) → IsPermutation all ps → IsPermutation (filter has_commit ps) ns → shares_number ns f ≡ shares_number all f
shares_alike f all ps ns one two = by (commit_in f.1.content) refl
  where
    shared : List FoundSector → Option ℕ → Bool
    shared l None = false
    shared l (Some m) = list_any (λ (o : FoundSector). is_another f o && has_number m (commit_in o.1.content)) l

    a_commit : (m : ℕ) (o : FoundSector) → (is_another f o && has_number m (commit_in o.1.content)) ≡ true → has_commit o ≡ true
    a_commit m o holds = at (commit_in o.1.content) (and_parts (is_another f o) (has_number m (commit_in o.1.content)) holds).1
      where
        at : (c : Option ℕ) → has_number m c ≡ true → not (Rattle.std.specs.Prelude.is_none c) ≡ true
        at None wrong = grind (arith, wrong)
        at (Some k) is = refl

    by : (c : Option ℕ) → commit_in f.1.content ≡ c → shares_number ns f ≡ shares_number all f
    by None is = ap (shared ns) is ∙ sym (ap (shared all) is)
    by (Some m) is = shares_is ns f m is ∙ commits_alike (λ o. is_another f o && has_number m (commit_in o.1.content)) (a_commit m) all ps ns one two ∙ sym (shares_is all f m is)

off_alike : (g : Geometry) (next : ℕ) (all ps cs ns : List FoundSector) → IsPermutation all ps → IsPermutation (filter has_commit ps) cs → IsPermutation (filter has_commit ps) ns → (f : FoundSector) → is_off_in g next ps cs ns f ≡ is_off g next all f
off_alike g next all ps cs ns one two three f = λ i.
    sym (list_any-IsPermutation (λ o. is_another f o && (same_txn f o && o.1.index == f.1.index)) all ps one) i || lacks_alike f all ps one i
    || (has_records f && commits_alike (λ o. same_txn f o && (has_commit o && nat_lt o.1.index f.1.index)) a_commit all ps cs one two i)
    || is_old next f || shares_alike f all ps ns one three i || leaves_range g f
  where
    a_commit : (o : FoundSector) → (same_txn f o && (has_commit o && nat_lt o.1.index f.1.index)) ≡ true → has_commit o ≡ true
    a_commit o holds = (and_parts (has_commit o) (nat_lt o.1.index f.1.index) (and_parts (same_txn f o) (has_commit o && nat_lt o.1.index f.1.index) holds).1).0

pub first_alike : {X : Type 0} (now : X → FoundSector) (g : Geometry) (next : ℕ) (all : List FoundSector) (ps cs ns : List X) → IsPermutation all (map now ps) → IsPermutation (filter (λ x. has_commit (now x)) ps) cs → IsPermutation (filter (λ x. has_commit (now x)) ps) ns
    → first_in g next (map now ps) (map now cs) (map now ns) all ≡ first_off g next all
first_alike {X} now g next all ps cs ns one two three =
    ap (λ o. Rattle.std.specs.Prelude.option_map (λ (f : FoundSector). f.0) o) (find_alike _ _ (off_alike g next all (map now ps) (map now cs) (map now ns) one (moved cs two) (moved ns three)) all)
  where
    moved : (l : List X) → IsPermutation (filter (λ x. has_commit (now x)) ps) l → IsPermutation (filter has_commit (map now ps)) (map now l)
    moved l is = Rattle.std.proofs.Common.subst (λ (k : List FoundSector). IsPermutation k (map now l)) (map_filter now has_commit ps) (IsPermutation-map now _ _ is)

-- by what stands where it is passed
pub first_told : {X : Type 0} (now : X → FoundSector) (g : Geometry) (next : ℕ) (all : List FoundSector) (ps cs ns a b p q r : List X) → IsPermutation all (map now ps) → a ≡ ps → b ≡ ps → IsPermutation (filter (λ x. has_commit (now x)) a) cs → IsPermutation (filter (λ x. has_commit (now x)) b) ns
    → p ≡ ps → q ≡ cs → r ≡ ns → first_in g next (map now p) (map now q) (map now r) all ≡ first_off g next all
first_told {X} now g next all ps cs ns a b p q r one a_is b_is two three p_is q_is r_is =
    (λ i. first_in g next (map now (p_is i)) (map now (q_is i)) (map now (r_is i)) all)
    ∙ first_alike now g next all ps cs ns one (moved cs a a_is two) (moved ns b b_is three)
  where
    moved : (l k : List X) → k ≡ ps → IsPermutation (filter (λ x. has_commit (now x)) k) l → IsPermutation (filter (λ x. has_commit (now x)) ps) l
    moved l k is moves = Rattle.std.proofs.Common.subst (λ (j : List X). IsPermutation (filter (λ x. has_commit (now x)) j) l) is moves
