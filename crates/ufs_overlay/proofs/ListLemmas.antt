-- Lists of records by sector, with one record more or less.
use Rattle.std.proofs.Common.{◌≡◌, inl, inr, ℕ, zero, suc, ◌+◌, ◌-◌, List, [], ◌∷◌, ◌++◌, Bool, true, false, ◌&&◌, length, take, get_or, ◌<◌, Result, Ok, Err, subst, refl, ap, sym, ◌∙◌, arith, append_assoc}
use Rattle.std.specs.Prelude.{if◌then◌else◌, ◌==◌, ◌*◌, ◌≤◌, nat_le, nat_lt, map, filter, max, OnOk, OnErr}
use Rattle.std.specs.List.{list_all}
use Rattle.std.proofs.lemmas.Bool.{cases_eq, eq-eqb, ne_eqb, eqb-true, and_parts, leb-true, ltb-true, true≢false}
use Rattle.ufs_layout.specs.Areas.{IsGeometry, first_of_data}
use Rattle.ufs_layout.specs.declared.records.LogRecord.TheVariants.{Delta, Place, Free}
use Rattle.std.proofs.lemmas.List.{append-nil, length-append, take_at, take_more}
use Rattle.ufs_layout.specs.Records.{is_record}
use Rattle.ufs_image.specs.Fold.{is_in_range}
use Rattle.ufs_overlay.specs.declared.lists.Numbered.{Numbered}
use Rattle.ufs_overlay.specs.Over.{sector_of_record, is_of, numbered_of, records_of, AreOf}
use Rattle.ufs_layout.specs.declared.geometry.Geometry.{Geometry}
use Rattle.ufs_layout.specs.declared.records.LogRecord.{LogRecord}
use Rattle.ufs_layout.specs.declared.records.Committed.{Committed}

same_eqb : (a b : ℕ) → a == b ≡ b == a
same_eqb a b = elim (cases_eq a b) [
  | inl is ↦ eq-eqb a b is ∙ sym (eq-eqb b a (sym is))
  | inr ne ↦ ne_eqb a b ne ∙ sym (ne_eqb b a (λ e. ne (sym e)))
]

numbered_push : (g : Geometry) (k number : ℕ) (rs : List LogRecord) (r : LogRecord) → is_in_range g r ≡ true
    → numbered_of g k number (rs ++ r ∷ []) ≡ (if k == sector_of_record g r then numbered_of g k number rs ++ record { number = number; change = r } ∷ [] else numbered_of g k number rs)
numbered_push g k number [] r is = by (is_of g k r) (k == sector_of_record g r) (ap (λ b. b && sector_of_record g r == k) is ∙ same_eqb (sector_of_record g r) k)
  where
    by : (b c : Bool) → b ≡ c → map {B = Numbered} (λ (r : LogRecord). record { number = number; change = r }) (if b then r ∷ [] else []) ≡ (if c then record { number = number; change = r } ∷ [] else [])
    by true true e = refl
    by true false e = absurd (cc)
    by false true e = absurd (cc)
    by false false e = refl
numbered_push g k number (x ∷ xs) r is = by (is_of g k x) (k == sector_of_record g r) (numbered_push g k number xs r is)
  where
    by : (b c : Bool) → numbered_of g k number (xs ++ r ∷ []) ≡ (if c then numbered_of g k number xs ++ record { number = number; change = r } ∷ [] else numbered_of g k number xs)
        → map {B = Numbered} (λ (r : LogRecord). record { number = number; change = r }) (if b then x ∷ filter (is_of g k) (xs ++ r ∷ []) else filter (is_of g k) (xs ++ r ∷ []))
        ≡ (if c then map {B = Numbered} (λ (r : LogRecord). record { number = number; change = r }) (if b then x ∷ filter (is_of g k) xs else filter (is_of g k) xs) ++ record { number = number; change = r } ∷ []
        else map {B = Numbered} (λ (r : LogRecord). record { number = number; change = r }) (if b then x ∷ filter (is_of g k) xs else filter (is_of g k) xs))
    by true true e = ap (λ l. record { number = number; change = x } ∷ l) e
    by true false e = ap (λ l. record { number = number; change = x } ∷ l) e
    by false true e = e
    by false false e = e

-- one record more
pub put_one : (g : Geometry) (k number : ℕ) (rs : List LogRecord) (r : LogRecord) (old now : List Numbered) → is_in_range g r ≡ true → now ≡ old ++ numbered_of g k number rs
    → (if k == sector_of_record g r then now ++ record { number = number; change = r } ∷ [] else now) ≡ old ++ numbered_of g k number (rs ++ r ∷ [])
put_one g k number rs r old now in_range is = by (k == sector_of_record g r) (numbered_push g k number rs r in_range)
  where
    n : Numbered
    n = record { number = number; change = r }

    by : (b : Bool) → numbered_of g k number (rs ++ r ∷ []) ≡ (if b then numbered_of g k number rs ++ n ∷ [] else numbered_of g k number rs) → (if b then now ++ n ∷ [] else now) ≡ old ++ numbered_of g k number (rs ++ r ∷ [])
    by true e = ap (λ l. l ++ n ∷ []) is ∙ append_assoc old (numbered_of g k number rs) (n ∷ []) ∙ ap (λ l. old ++ l) (sym e)
    by false e = is ∙ ap (λ l. old ++ l) (sym e)

without_push : (xs : List Numbered) (n : Numbered) → take (length (xs ++ n ∷ []) - 1) (xs ++ n ∷ []) ≡ xs
without_push xs n = take_at xs (n ∷ []) _ (omega (arith, length-append xs (n ∷ [])))

-- and one less
pub take_one : (g : Geometry) (k number : ℕ) (rs : List LogRecord) (r : LogRecord) (old now : List Numbered) → is_in_range g r ≡ true → now ≡ old ++ numbered_of g k number (rs ++ r ∷ [])
    → (if k == sector_of_record g r then take (length now - 1) now else now) ≡ old ++ numbered_of g k number rs
take_one g k number rs r old now in_range is = by (k == sector_of_record g r) (numbered_push g k number rs r in_range)
  where
    n : Numbered
    n = record { number = number; change = r }

    by : (b : Bool) → numbered_of g k number (rs ++ r ∷ []) ≡ (if b then numbered_of g k number rs ++ n ∷ [] else numbered_of g k number rs) → (if b then take (length now - 1) now else now) ≡ old ++ numbered_of g k number rs
    by true e =
        let whole : now ≡ (old ++ numbered_of g k number rs) ++ n ∷ [] = is ∙ ap (λ l. old ++ l) e ∙ sym (append_assoc old (numbered_of g k number rs) (n ∷ [])) in
        ap (λ l. take (length l - 1) l) whole ∙ without_push (old ++ numbered_of g k number rs) n
    by false e = is ∙ ap (λ l. old ++ l) e

-- one transaction more
pub records_push : (g : Geometry) (k : ℕ) (cs : List Committed) (c : Committed) → records_of g k (cs ++ c ∷ []) ≡ records_of g k cs ++ numbered_of g k c.number c.records
records_push g k [] c = append-nil (numbered_of g k c.number c.records)
records_push g k (x ∷ xs) c = ap (λ l. numbered_of g k x.number x.records ++ l) (records_push g k xs c) ∙ sym (append_assoc (numbered_of g k x.number x.records) (records_of g k xs) (numbered_of g k c.number c.records))

-- its records are those of their sectors
numbered_are : (g : Geometry) (k number : ℕ) (rs : List LogRecord) → list_all is_record rs ≡ true → list_all (λ (n : Numbered). is_record n.change && is_of g k n.change) (numbered_of g k number rs) ≡ true
numbered_are g k number [] form = refl
numbered_are g k number (r ∷ rs) form =
    let parts = and_parts (is_record r) (list_all is_record rs) form in
    by (is_of g k r) refl parts.0 (numbered_are g k number rs parts.1)
  where
    by : (b : Bool) → is_of g k r ≡ b → is_record r ≡ true → list_all (λ (n : Numbered). is_record n.change && is_of g k n.change) (numbered_of g k number rs) ≡ true
        → list_all (λ (n : Numbered). is_record n.change && is_of g k n.change) (map {B = Numbered} (λ (r : LogRecord). record { number = number; change = r }) (if b then r ∷ filter (is_of g k) rs else filter (is_of g k) rs)) ≡ true
    by true is form rest = λ i. (form i && is i) && rest i
    by false is form rest = rest

all_append : (p : Numbered → Bool) (xs ys : List Numbered) → list_all p xs ≡ true → list_all p ys ≡ true → list_all p (xs ++ ys) ≡ true
all_append p [] ys one two = two
all_append p (x ∷ xs) ys one two = let parts = and_parts (p x) (list_all p xs) one in λ i. parts.0 i && all_append p xs ys parts.1 two i

pub are_more : (g : Geometry) (k number : ℕ) (rs : List LogRecord) (old new : List Numbered) → AreOf g k old → list_all is_record rs ≡ true → new ≡ old ++ numbered_of g k number rs → AreOf g k new
are_more g k number rs old new are form is = ap (list_all (λ (n : Numbered). is_record n.change && is_of g k n.change)) is ∙ all_append _ old (numbered_of g k number rs) are (numbered_are g k number rs form)

pub forms_of : (g : Geometry) (k : ℕ) (ns : List Numbered) → AreOf g k ns → list_all (λ (n : Numbered). is_record n.change) ns ≡ true
forms_of g k [] are = refl
forms_of g k (n ∷ ns) are =
    let parts = and_parts (is_record n.change && is_of g k n.change) (list_all (λ (n : Numbered). is_record n.change && is_of g k n.change) ns) are in
    let one = and_parts (is_record n.change) (is_of g k n.change) parts.0 in
    λ i. one.0 i && forms_of g k ns parts.1 i

-- ---- the records of a list by their places

pub taken : (rs : List LogRecord) (i : ℕ) (r : LogRecord) → i < length rs → r ≡ get_or rs i r → take (i + 1) rs ≡ take i rs ++ r ∷ []
taken rs i r lt is = take_more rs i r lt ∙ ap (λ x. take i rs ++ x ∷ []) (sym is)

pub every_at : (p : LogRecord → Bool) (rs : List LogRecord) (i : ℕ) (r : LogRecord) → list_all p rs ≡ true → i < length rs → r ≡ get_or rs i r → p r ≡ true
every_at p [] i r every lt is = absurd (omega arith)
every_at p (x ∷ xs) zero r every lt is = ap p is ∙ (and_parts (p x) (list_all p xs) every).0
every_at p (x ∷ xs) (suc i) r every lt is = every_at p xs i r (and_parts (p x) (list_all p xs) every).1 (omega arith) is

pub every_front : (p : LogRecord → Bool) (n : ℕ) (rs : List LogRecord) → list_all p rs ≡ true → list_all p (take n rs) ≡ true
every_front p zero rs every = refl
every_front p (suc n) [] every = refl
every_front p (suc n) (x ∷ xs) every = let parts = and_parts (p x) (list_all p xs) every in λ i. parts.0 i && every_front p n xs parts.1 i

-- ---- lists with no record

pub empty_list : (ns : List Numbered) → length ns == 0 ≡ true → ns ≡ []
empty_list [] is = refl
empty_list (n ∷ ns) is = absurd (true≢false (sym is ∙ ne_eqb (suc (length ns)) 0 (λ e. absurd (omega (arith, e)))))

pub some_list : (ns : List Numbered) → length ns == 0 ≡ false → ns ≡ [] → ⊥
some_list [] is none = true≢false is
some_list (n ∷ ns) is none = cc

sector_inside : (g : Geometry) → IsGeometry g → (r : LogRecord) → is_in_range g r ≡ true → sector_of_record g r < 8 * g.blocks
sector_inside g limits (Delta inode kind size keep extents) is =
    let parts = and_parts (nat_le 1 inode) (nat_le inode g.inodes) is in
    let high : inode ≤ g.inodes = leb-true inode g.inodes parts.1 in
    let low : 1 ≤ inode = leb-true 1 inode parts.0 in
    omega (arith, limits.data_left)
sector_inside g limits (Place sector slot dentry) is = ltb-true sector (8 * g.blocks) (and_parts (nat_le (8 * first_of_data g) sector) (nat_lt sector (8 * g.blocks)) is).1
sector_inside g limits (Free inode) is =
    let parts = and_parts (nat_le 1 inode) (nat_le inode g.inodes) is in
    let high : inode ≤ g.inodes = leb-true inode g.inodes parts.1 in
    let low : 1 ≤ inode = leb-true 1 inode parts.0 in
    omega (arith, limits.data_left)

-- behind the image's end there is none
pub none_beyond : (g : Geometry) (k : ℕ) (ns : List Numbered) → IsGeometry g → AreOf g k ns → 8 * g.blocks ≤ k → ns ≡ []
none_beyond g k [] limits are from = refl
none_beyond g k (n ∷ ns) limits are from =
    let parts = and_parts (is_record n.change && is_of g k n.change) (list_all (λ (n : Numbered). is_record n.change && is_of g k n.change) ns) are in
    let one = and_parts (is_record n.change) (is_of g k n.change) parts.0 in
    let of_ = and_parts (is_in_range g n.change) (sector_of_record g n.change == k) one.1 in
    let here : sector_of_record g n.change ≡ k = eqb-true (sector_of_record g n.change) k of_.1 in
    let inside = sector_inside g limits n.change of_.0 in
    absurd (omega (arith, here, inside))

-- whether or not a transaction could be put
pub are_after : {T E : Type 0} (g : Geometry) (number : ℕ) (rs : List LogRecord) (old new : ℕ → List Numbered) (r : Result T E) → OnOk r ((k : ℕ) → new k ≡ old k ++ numbered_of g k number rs) → OnErr r ((k : ℕ) → new k ≡ old k)
    → list_all is_record rs ≡ true → ((k : ℕ) → AreOf g k (old k)) → (k : ℕ) → AreOf g k (new k)
are_after g number rs old new (Ok x) ok err form are k = are_more g k number rs (old k) (new k) (are k) form (ok k)
are_after g number rs old new (Err e) ok err form are k = subst (AreOf g k) (sym (err k)) (are k)

-- ---- how many records a sector gets

few_numbered : (g : Geometry) (k number : ℕ) (rs : List LogRecord) → length (numbered_of g k number rs) ≤ length rs
few_numbered g k number [] = omega arith
few_numbered g k number (r ∷ rs) = by (is_of g k r) (few_numbered g k number rs)
  where
    by : (b : Bool) → length (numbered_of g k number rs) ≤ length rs
        → length (map {B = Numbered} (λ (r : LogRecord). record { number = number; change = r }) (if b then r ∷ filter (is_of g k) rs else filter (is_of g k) rs)) ≤ suc (length rs)
    by true few = omega (arith, few)
    by false few = omega (arith, few)

-- A list has room for what it had, or for twice as many records as were given by then.
pub room_by : (g : Geometry) (k number i old_room room : ℕ) (rs : List LogRecord) (old now : List Numbered) → now ≡ old ++ numbered_of g k number (take i rs)
    → room ≤ max old_room (2 * (length old + i)) → (new_room : ℕ) → new_room ≤ max room (2 * length now + 1) → new_room ≤ max old_room (2 * (length old + (i + 1)))
room_by g k number i old_room room rs old now is before new_room after =
    let counted : length now ≡ length old + length (numbered_of g k number (take i rs)) = ap length is ∙ length-append old (numbered_of g k number (take i rs)) in
    omega (arith, counted, few_numbered g k number (take i rs), taken_few i rs, before, after)
  where
    taken_few : (i : ℕ) (rs : List LogRecord) → length (take i rs) ≤ i
    taken_few zero rs = omega arith
    taken_few (suc i) [] = omega arith
    taken_few (suc i) (r ∷ rs) = omega (arith, taken_few i rs)
