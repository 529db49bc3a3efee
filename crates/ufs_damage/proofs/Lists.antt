-- Lists that grow by one, numbered lists, and lists made in two steps.
use Rattle.std.proofs.Common.{◌≡◌, ℕ, zero, suc, ◌+◌, ◌<◌, List, [], ◌∷◌, ◌++◌, Bool, true, false, cond, Option, Some, None, length, take, get_or, map, ap, sym, refl, ◌∙◌, arith, append_assoc}
use Rattle.std.specs.Prelude.{filter, ◌&&◌, ◌||◌}
use Rattle.std.specs.List.{filter_map, cons_option, enumerate_from, range_with_len, list_any}
use Rattle.std.specs.Option.{option_to_list}
use Rattle.std.proofs.lemmas.List.Elements.{filter_map-append}
use Rattle.std.proofs.lemmas.Grind.{take_at_read}
use Rattle.ufs_base.specs.Choices.{some_if}

-- ---- one more

pub range_more : (a n : ℕ) → range_with_len a (n + 1) ≡ range_with_len a n ++ (a + n) ∷ []
range_more a zero = ap (λ (m : ℕ). m ∷ []) on
  where
    on : a ≡ a + 0
    on = omega arith
range_more a (suc n) = ap (range_with_len a) one ∙ ap (λ l. a ∷ l) (range_more (a + 1) n) ∙ ap (λ (m : ℕ). a ∷ (range_with_len (a + 1) n ++ m ∷ [])) moved
  where
    one : suc n + 1 ≡ suc (n + 1)
    one = omega arith

    moved : a + 1 + n ≡ a + suc n
    moved = omega arith

pub range_append : (a m n : ℕ) → range_with_len a (m + n) ≡ range_with_len a m ++ range_with_len (a + m) n
range_append a zero n = λ i. range_with_len (from i) (all i)
  where
    from : a ≡ a + 0
    from = omega arith

    all : 0 + n ≡ n
    all = omega arith
range_append a (suc m) n = ap (range_with_len a) one ∙ ap (λ l. a ∷ l) (range_append (a + 1) m n) ∙ ap (λ k. a ∷ (range_with_len (a + 1) m ++ range_with_len k n)) on
  where
    one : suc m + n ≡ suc (m + n)
    one = omega arith

    on : a + 1 + m ≡ a + suc m
    on = omega arith

enumerate_append : {X : Type 0} (n m : ℕ) (xs : List X) (x : X) → m ≡ n + length xs → enumerate_from n (xs ++ x ∷ []) ≡ enumerate_from n xs ++ (m, x) ∷ []
enumerate_append {X} n m [] x e = ap (λ (k : ℕ). (k, x) ∷ []) on
  where
    on : n ≡ m
    on = omega (arith, e)
enumerate_append n m (y ∷ xs) x e = ap (λ l. (n, y) ∷ l) (enumerate_append (n + 1) m xs x (omega (arith, e)))

pub take_more : {X : Type 0} (xs : List X) (i : ℕ) (x : X) → i < length xs → x ≡ get_or xs i x → take (i + 1) xs ≡ take i xs ++ x ∷ []
take_more xs i x less is = (take_at_read xs i x less).1 ∙ ap (λ y. take i xs ++ y ∷ []) (sym is)

pub length_take : {X : Type 0} (i : ℕ) (xs : List X) → i < length xs → length (take i xs) ≡ i
length_take zero xs less = refl
length_take (suc i) [] less = absurd (omega (arith, less))
length_take (suc i) (x ∷ xs) less = ap suc (length_take i xs (omega (arith, less)))

pub numbered_more : {X : Type 0} (n m : ℕ) (xs : List X) (i : ℕ) (x : X) → i < length xs → x ≡ get_or xs i x → m ≡ n + i → enumerate_from n (take (i + 1) xs) ≡ enumerate_from n (take i xs) ++ (m, x) ∷ []
numbered_more n m xs i x less is at =
    ap (enumerate_from n) (take_more xs i x less is) ∙ enumerate_append n m (take i xs) x (at ∙ ap (λ k. n + k) (sym (length_take i xs less)))

pub filter_map_one : {X Y : Type 0} (h : X → Option Y) (x : X) → filter_map h (x ∷ []) ≡ option_to_list (h x)
filter_map_one {X} {Y} h x = by (h x)
  where
    by : (o : Option Y) → cons_option o [] ≡ option_to_list o
    by None = refl
    by (Some y) = refl

-- what is told of one more is put behind the others
pub told_more : {X Y : Type 0} (h : X → Option Y) (xs ys : List X) (x : X) (old now next : List Y) (o : Option Y) → ys ≡ xs ++ x ∷ [] → now ≡ old ++ filter_map h xs → o ≡ h x → next ≡ now ++ option_to_list o → next ≡ old ++ filter_map h ys
told_more h xs ys x old now next o more so_far one put =
    put ∙ ap (λ l. l ++ option_to_list o) so_far ∙ append_assoc old (filter_map h xs) (option_to_list o)
    ∙ ap (λ l. old ++ l) (ap (λ p. filter_map h xs ++ option_to_list p) one ∙ ap (λ l. filter_map h xs ++ l) (sym (filter_map_one h x)) ∙ sym (filter_map-append h xs (x ∷ [])) ∙ ap (filter_map h) (sym more))

-- the same of a list that is numbered
pub told_numbered : {X Y : Type 0} (h : ℕ × X → Option Y) (n m : ℕ) (xs : List X) (i : ℕ) (x : X) (old now next : List Y) (o : Option Y) → i < length xs → x ≡ get_or xs i x → m ≡ n + i → now ≡ old ++ filter_map h (enumerate_from n (take i xs)) → o ≡ h (m, x) → next ≡ now ++ option_to_list o → next ≡ old ++ filter_map h (enumerate_from n (take (i + 1) xs))
told_numbered h n m xs i x old now next o less is at so_far one put =
    told_more h (enumerate_from n (take i xs)) (enumerate_from n (take (i + 1) xs)) (m, x) old now next o (numbered_more n m xs i x less is at) so_far one put

-- the same of a range
pub told_range : {Y : Type 0} (h : ℕ → Option Y) (a n m : ℕ) (old now next : List Y) (o : Option Y) → m ≡ a + n → now ≡ old ++ filter_map h (range_with_len a n) → o ≡ h m → next ≡ now ++ option_to_list o → next ≡ old ++ filter_map h (range_with_len a (n + 1))
told_range h a n m old now next o at so_far one put =
    told_more h (range_with_len a n) (range_with_len a (n + 1)) m old now next o (range_more a n ∙ ap (λ (k : ℕ). range_with_len a n ++ k ∷ []) (sym at)) so_far one put

-- ---- two steps in one

pub map_filter : {X Y : Type 0} (f : X → Y) (p : X → Bool) (xs : List X) → map f (filter p xs) ≡ filter_map (λ x. some_if (p x) (f x)) xs
map_filter f p [] = refl
map_filter {X} {Y} f p (x ∷ xs) = by (p x) (map_filter f p xs)
  where
    by : (b : Bool) → map f (filter p xs) ≡ filter_map (λ y. some_if (p y) (f y)) xs → map f (cond b (x ∷ filter p xs) (filter p xs)) ≡ cons_option (some_if b (f x)) (filter_map (λ y. some_if (p y) (f y)) xs)
    by true more = ap (λ l. f x ∷ l) more
    by false more = more

-- what there may be, passed on
abbrev pub then_map : {X Y : Type 0} → (X → Option Y) → Option X → Option Y
then_map f None = None
then_map f (Some x) = f x

pub filter_map_twice : {X Y Z : Type 0} (f : Y → Option Z) (s : X → Option Y) (xs : List X) → filter_map f (filter_map s xs) ≡ filter_map (λ x. then_map f (s x)) xs
filter_map_twice f s [] = refl
filter_map_twice {X} {Y} {Z} f s (x ∷ xs) = by (s x) (filter_map_twice f s xs)
  where
    by : (o : Option Y) → filter_map f (filter_map s xs) ≡ filter_map (λ y. then_map f (s y)) xs → filter_map f (cons_option o (filter_map s xs)) ≡ cons_option (then_map f o) (filter_map (λ y. then_map f (s y)) xs)
    by None more = more
    by (Some y) more = ap (cons_option (f y)) more

pub filter_map_of_map : {X Y Z : Type 0} (f : Y → Option Z) (s : X → Y) (xs : List X) → filter_map f (map s xs) ≡ filter_map (λ x. f (s x)) xs
filter_map_of_map f s [] = refl
filter_map_of_map f s (x ∷ xs) = ap (cons_option (f (s x))) (filter_map_of_map f s xs)

pub filter_map_same : {X Y : Type 0} (f h : X → Option Y) (xs : List X) → ((x : X) → f x ≡ h x) → filter_map f xs ≡ filter_map h xs
filter_map_same f h xs same = ap (λ k. filter_map k xs) (λ i x. same x i)

pub then_if : {X Y : Type 0} (f : X → Option Y) (b : Bool) (x : X) → then_map f (some_if b x) ≡ cond b (f x) None
then_if f true x = refl
then_if f false x = refl

pub if_both : {Y : Type 0} (a b : Bool) (y : Y) → cond a (some_if b y) None ≡ some_if (a && b) y
if_both true b y = refl
if_both false b y = refl

-- ---- numbered

pub numbered_map : {X : Type 0} (look : ℕ → X) (a n : ℕ) → enumerate_from a (map look (range_with_len a n)) ≡ map {B = ℕ × X} (λ i. (i, look i)) (range_with_len a n)
numbered_map look a zero = refl
numbered_map look a (suc n) = ap (λ l. (a, look a) ∷ l) (numbered_map look (a + 1) n)

pub any_false_at : {X : Type 0} (p : X → Bool) (xs : List X) (i : ℕ) (x : X) → list_any p xs ≡ false → i < length xs → x ≡ get_or xs i x → p x ≡ false
any_false_at p [] i x none less is = absurd (omega (arith, less))
any_false_at {X} p (y ∷ xs) i x none less is = by i (p y) refl none less is (λ k h l e. any_false_at p xs k x h l e)
  where
    by : (i : ℕ) (b : Bool) → p y ≡ b → (b || list_any p xs) ≡ false → i < length (y ∷ xs) → x ≡ get_or (y ∷ xs) i x → ((k : ℕ) → list_any p xs ≡ false → k < length xs → x ≡ get_or xs k x → p x ≡ false) → p x ≡ false
    by i true e none less is more = let no = none in cc
    by zero false e none less is more = ap p is ∙ e
    by (suc k) false e none less is more = more k none (omega (arith, less)) is

pub any_append : {X : Type 0} (p : X → Bool) (xs ys : List X) → list_any p (xs ++ ys) ≡ (list_any p xs || list_any p ys)
any_append p [] ys = refl
any_append {X} p (x ∷ xs) ys = by (p x) (any_append p xs ys)
  where
    by : (b : Bool) → list_any p (xs ++ ys) ≡ (list_any p xs || list_any p ys) → (b || list_any p (xs ++ ys)) ≡ ((b || list_any p xs) || list_any p ys)
    by true more = refl
    by false more = more

pub or_turned : (a b : Bool) → (a || b) ≡ (b || (a || false))
or_turned true true = refl
or_turned true false = refl
or_turned false true = refl
or_turned false false = refl
