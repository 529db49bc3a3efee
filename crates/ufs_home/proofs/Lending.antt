-- Files that are lent one after the other, and put back.
use Rattle.std.proofs.Common.{◌≡◌, ◌≢◌, ◌≤◌, ◌<◌, ◌^◌, ◌+◌, ℕ, zero, suc, ◌⊎◌, inl, inr, eqb, Bool, true, false, List, [], ◌∷◌, ◌++◌, length, Option, Some, None, is_some, ◌||◌, refl, ap, sym, ◌∙◌, subst, arith}
use Rattle.std.specs.Prelude.{IsSome}
use Rattle.std.specs.Cmp.{nat_cmp_total}
use Rattle.std.specs.FinMap as fin
use Rattle.std.specs.FinMap.{nat_cmp-IsAntisymmetric}
use Rattle.std.specs.List.{list_any}
use Rattle.std.proofs.lemmas.Bool.{eq-eqb, eqb-true}
use Rattle.ufs_held.specs.Together.{under_numbers}
use Rattle.ufs_joint.specs.Cells.{FileCell}
use Rattle.ufs_model.proofs.Facts.Lookups as lookups
use Rattle.ufs_hand_laws.specs.Owned.{Has, count, one}
use Rattle.ufs_home.specs.Lending.{AreAway, AreLent, put_all}
use Rattle.ufs_home.specs.Places.{Places, file_here, in_place}
use Rattle.ufs_home.proofs.Shelves.{in_its_place, one_or_other, place_of_here, put_again, put_else, put_here, same_places}

abbrev pub number_of : FileCell → ℕ
number_of c = c.value.file.file

-- ---- how often a number stands there

abbrev pub times : ℕ → List FileCell → ℕ
times f cs = count eqb f (under_numbers cs)

turned : (a : ℕ) → a + 0 ≡ 0 + a
turned a = omega arith

grouped : (a b c d : ℕ) → b ≡ c + d → a + b ≡ (a + c) + d
grouped a b c d is = omega (arith, is)

times_more : (f : ℕ) (cs : List FileCell) (c : FileCell) → times f (cs ++ c ∷ []) ≡ times f cs + one (eqb f (number_of c))
times_more f [] c = turned (one (eqb f (number_of c)))
times_more f (d ∷ cs) c = grouped (one (eqb f (number_of d))) (times f (cs ++ c ∷ [])) (times f cs) (one (eqb f (number_of c))) (times_more f cs c)

-- the first one counts once, or not
own : (f : ℕ) (c : FileCell) → f ≡ number_of c → one (eqb f (number_of c)) ≡ 1
own f c is = ap one (eq-eqb f (number_of c) is)

no_own : (a b : ℕ) → a + b ≡ 0 → b ≡ 0
no_own a b none = omega (arith, none)

is_other : (f : ℕ) (c : FileCell) (cs : List FileCell) → times f (c ∷ cs) ≡ 0 → f ≢ number_of c
is_other f c cs none is =
    let all : one (eqb f (number_of c)) + times f cs ≡ 0 = none in
    let this = own f c is in
    omega (arith, all, this)

others : (f : ℕ) (c : FileCell) (cs : List FileCell) → times f (c ∷ cs) ≡ 0 → times f cs ≡ 0
others f c cs none = no_own (one (eqb f (number_of c))) (times f cs) none

rest_once : (f : ℕ) (c : FileCell) (cs : List FileCell) → times f (c ∷ cs) ≤ 1 → times f cs ≤ 1
rest_once f c cs most =
    let all : one (eqb f (number_of c)) + times f cs ≤ 1 = most in
    omega (arith, all)

once_there : (f : ℕ) (c : FileCell) (cs : List FileCell) → f ≡ number_of c → times f (c ∷ cs) ≤ 1 → times f cs ≡ 0
once_there f c cs is most =
    let all : one (eqb f (number_of c)) + times f cs ≤ 1 = most in
    let this = own f c is in
    omega (arith, all, this)

rest_counted : (f : ℕ) (c : FileCell) (cs : List FileCell) → 1 ≤ times f cs → 1 ≤ times f (c ∷ cs)
rest_counted f c cs some = more (one (eqb f (number_of c))) (times f cs) some
  where
    more : (a b : ℕ) → 1 ≤ b → 1 ≤ a + b
    more a b some = omega (arith, some)

first_counted : (c : FileCell) (cs : List FileCell) → 1 ≤ times (number_of c) (c ∷ cs)
first_counted c cs = more (one (eqb (number_of c) (number_of c))) (times (number_of c) cs) (own (number_of c) c refl)
  where
    more : (a b : ℕ) → a ≡ 1 → 1 ≤ a + b
    more a b is = omega (arith, is)

none_counted : (f : ℕ) → 1 ≤ times f [] → ⊥
none_counted f some =
    let no : 1 ≤ 0 = some in
    omega (arith, no)

pub has_counted : (f : ℕ) (cs : List FileCell) → 1 ≤ times f cs → (c : FileCell) × Has c cs × (number_of c ≡ f)
has_counted f [] some = absurd (none_counted f some)
has_counted f (c ∷ cs) some = by (eqb f (number_of c)) refl (has_counted f cs)
  where
    by : (b : Bool) → eqb f (number_of c) ≡ b → (1 ≤ times f cs → (d : FileCell) × Has d cs × (number_of d ≡ f)) → (d : FileCell) × Has d (c ∷ cs) × (number_of d ≡ f)
    by true e rest = (c, inl refl, sym (eqb-true f (number_of c) e))
    by false e rest =
        let none : one (eqb f (number_of c)) ≡ 0 = ap one e in
        let all : 1 ≤ one (eqb f (number_of c)) + times f cs = some in
        let more = rest (omega (arith, all, none)) in
        (more.0, inr more.1, more.2)

pub counted_has : (cs : List FileCell) (c : FileCell) → Has c cs → 1 ≤ times (number_of c) cs
counted_has [] c has = absurd has
counted_has (d ∷ cs) c (inl is) = subst (λ (x : FileCell). 1 ≤ times (number_of c) (x ∷ cs)) is (first_counted c cs)
counted_has (d ∷ cs) c (inr has) = rest_counted (number_of c) d cs (counted_has cs c has)

-- ---- files are put back

put_more : (p : Places) (cs : List FileCell) (c : FileCell) → put_all p (cs ++ c ∷ []) ≡ fin.insert (put_all p cs) (number_of c) (Some c)
put_more p [] c = refl
put_more p (d ∷ cs) c = put_more (fin.insert p (number_of d) (Some d)) cs c

-- another place stays
pub all_else : (p : Places) (cs : List FileCell) (f : ℕ) → times f cs ≡ 0 → fin.get (put_all p cs) f ≡ fin.get p f
all_else p [] f none = refl
all_else p (c ∷ cs) f none = all_else (fin.insert p (number_of c) (Some c)) cs f (others f c cs none) ∙ put_else p (number_of c) (Some c) f (is_other f c cs none)

-- each of them is in its place
pub all_here : (p : Places) (cs : List FileCell) → ((f : ℕ) → times f cs ≤ 1) → (c : FileCell) → Has c cs → file_here (put_all p cs) (number_of c) ≡ Some c
all_here p [] once c has = absurd has
all_here p (d ∷ cs) once c (inl is) =
    ap in_place (all_else (fin.insert p (number_of d) (Some d)) cs (number_of c) (once_there (number_of c) d cs (ap (λ (x : FileCell). number_of x) is) (once (number_of c))))
    ∙ ap (λ (x : FileCell). file_here (fin.insert p (number_of d) (Some d)) (number_of x)) is
    ∙ ap in_place (put_here p (number_of d) (Some d)) ∙ ap Some (sym is)
all_here p (d ∷ cs) once c (inr has) = all_here (fin.insert p (number_of d) (Some d)) cs (λ f. rest_once f d cs (once f)) c has

-- writes at two places may change their order
swap : (p : Places) (n m : ℕ) (o q : Option FileCell) → n ≢ m → fin.insert (fin.insert p n o) m q ≡ fin.insert (fin.insert p m q) n o
swap p n m o q apart = same_places _ _ (λ g. by g (one_or_other n g) (one_or_other m g))
  where
    by : (g : ℕ) → (g ≡ n) ⊎ (g ≢ n) → (g ≡ m) ⊎ (g ≢ m) → fin.get (fin.insert (fin.insert p n o) m q) g ≡ fin.get (fin.insert (fin.insert p m q) n o) g
    by g (inl e) (inl d) = absurd (apart (sym e ∙ d))
    by g (inl e) (inr other) =
        put_else (fin.insert p n o) m q g other ∙ ap (fin.get (fin.insert p n o)) e ∙ put_here p n o ∙ sym (ap (fin.get (fin.insert (fin.insert p m q) n o)) e ∙ put_here (fin.insert p m q) n o)
    by g (inr other) (inl d) =
        ap (fin.get (fin.insert (fin.insert p n o) m q)) d ∙ put_here (fin.insert p n o) m q ∙ sym (put_else (fin.insert p m q) n o g other ∙ ap (fin.get (fin.insert p m q)) d ∙ put_here p m q)
    by g (inr a) (inr b) = put_else (fin.insert p n o) m q g b ∙ put_else p n o g a ∙ sym (put_else (fin.insert p m q) n o g a ∙ put_else p m q g b)

past : (p : Places) (n : ℕ) (o : Option FileCell) (cs : List FileCell) → times n cs ≡ 0 → put_all (fin.insert p n o) cs ≡ fin.insert (put_all p cs) n o
past p n o [] none = refl
past p n o (c ∷ cs) none =
    ap (λ (x : Places). put_all x cs) (swap p n (number_of c) o (Some c) (is_other n c cs none))
    ∙ past (fin.insert p (number_of c) (Some c)) n o cs (others n c cs none)

-- ---- one more is lent

pub none_yet : (p : Places) (cs : List FileCell) → cs ≡ [] → AreLent p p cs
none_yet p cs none = subst (AreLent p p) (sym none) (record {
  away = record { empty = λ f some. absurd (none_counted f some); low = λ f some. absurd (none_counted f some); once = λ f. few };
  back = refl;
})
  where
    few : 0 ≤ 1
    few = omega arith

-- one that is here isn't lent
unlent : (p : Places) (cs : List FileCell) (n : ℕ) (c : FileCell) → AreAway p cs → file_here p n ≡ Some c → times n cs ≡ 0
unlent p cs n c away here = by (times n cs) refl
  where
    by : (k : ℕ) → times n cs ≡ k → times n cs ≡ 0
    by zero e = e
    by (suc k) e =
        let gone : file_here p n ≡ None = ap in_place (away.empty n (omega (arith, e))) in
        let both : None ≡ Some c = sym gone ∙ here in
        absurd cc

module _ (p : Places) (cs : List FileCell) (n : ℕ) (c : FileCell) (away : AreAway p cs) (none : times n cs ≡ 0) (number : number_of c ≡ n) (few : n < 2 ^ 31) where
  -- whose number stands there is one of those before, or this
  earlier : (f : ℕ) → eqb f (number_of c) ≡ false → 1 ≤ times f (cs ++ c ∷ []) → 1 ≤ times f cs
  earlier f e some =
      let long = times_more f cs c in
      let this : one (eqb f (number_of c)) ≡ 0 = ap one e in
      omega (arith, long, this, some)

  empty_more : (f : ℕ) → 1 ≤ times f (cs ++ c ∷ []) → fin.get (fin.insert p n None) f ≡ Some None
  empty_more f some = by (eqb f (number_of c)) refl
    where
      by : (b : Bool) → eqb f (number_of c) ≡ b → fin.get (fin.insert p n None) f ≡ Some None
      by true e = ap (fin.get (fin.insert p n None)) (eqb-true f (number_of c) e ∙ number) ∙ put_here p n None
      by false e =
          let had = earlier f e some in
          put_else p n None f (λ is. let no : times f cs ≡ 0 = ap (λ (m : ℕ). times m cs) is ∙ none in omega (arith, had, no)) ∙ away.empty f had

  low_more : (f : ℕ) → 1 ≤ times f (cs ++ c ∷ []) → f < 2 ^ 31
  low_more f some = by (eqb f (number_of c)) refl
    where
      by : (b : Bool) → eqb f (number_of c) ≡ b → f < 2 ^ 31
      by true e = subst (λ (m : ℕ). m < 2 ^ 31) (sym (eqb-true f (number_of c) e ∙ number)) few
      by false e = away.low f (earlier f e some)

  once_more : (f : ℕ) → times f (cs ++ c ∷ []) ≤ 1
  once_more f = by (eqb f (number_of c)) refl
    where
      by : (b : Bool) → eqb f (number_of c) ≡ b → times f (cs ++ c ∷ []) ≤ 1
      by true e =
          let long = times_more f cs c in
          let this : one (eqb f (number_of c)) ≡ 1 = ap one e in
          let no : times f cs ≡ 0 = ap (λ (m : ℕ). times m cs) (eqb-true f (number_of c) e ∙ number) ∙ none in
          omega (arith, long, this, no)
      by false e =
          let long = times_more f cs c in
          let this : one (eqb f (number_of c)) ≡ 0 = ap one e in
          let most = away.once f in
          omega (arith, long, this, most)

  away_more : AreAway (fin.insert p n None) (cs ++ c ∷ [])
  away_more = record { empty = empty_more; low = low_more; once = once_more }

pub lent_more : (was p q : Places) (cs : List FileCell) (n : ℕ) (c : FileCell) → AreLent was p cs → file_here p n ≡ Some c → number_of c ≡ n → number_of c < 2 ^ 31 → q ≡ fin.insert p n None → AreLent was q (cs ++ c ∷ [])
lent_more was p q cs n c lent here number few put =
    let none = unlent p cs n c lent.away here in
    subst (λ (x : Places). AreLent was x (cs ++ c ∷ [])) (sym put) (record {
      away = away_more p cs n c lent.away none number (subst (λ (m : ℕ). m < 2 ^ 31) number few);
      back = put_more (fin.insert p n None) cs c
          ∙ ap (λ (x : Places). fin.insert x (number_of c) (Some c)) (past p n None cs none)
          ∙ ap (λ (m : ℕ). fin.insert (fin.insert (put_all p cs) n None) m (Some c)) number
          ∙ ap (λ (x : Places). fin.insert (fin.insert x n None) n (Some c)) lent.back
          ∙ put_again was n None (Some c) (ap (λ (x : Places). fin.get x n) (sym lent.back) ∙ all_else p cs n none ∙ in_its_place (fin.get p n) c here);
    })

-- ---- all are lent

-- what is still here was here
pub still_here : (p q : Places) (n : ℕ) → q ≡ fin.insert p n None → (f : ℕ) → IsSome (file_here q f) → IsSome (file_here p f)
still_here p q n put f some = by (one_or_other n f)
  where
    by : (f ≡ n) ⊎ (f ≢ n) → IsSome (file_here p f)
    by (inl e) =
        let gone : file_here q f ≡ None = ap (λ (x : Places). file_here x f) put ∙ ap (file_here (fin.insert p n None)) e ∙ ap in_place (put_here p n None) in
        let both : false ≡ true = sym (ap is_some gone) ∙ some in
        absurd cc
    by (inr other) = ap is_some (sym (ap (λ (x : Places). file_here x f) put ∙ ap in_place (put_else p n None f other))) ∙ some

pub gone_now : (p q : Places) (n : ℕ) → q ≡ fin.insert p n None → file_here q n ≡ None
gone_now p q n put = ap (λ (x : Places). file_here x n) put ∙ ap in_place (put_here p n None)

pub not_here : (p : Places) (f : ℕ) → is_some (file_here p f) ≡ false → file_here p f ≡ None
not_here p f none = by (file_here p f) none
  where
    by : (o : Option FileCell) → is_some o ≡ false → o ≡ None
    by None e = refl
    by (Some c) e = absurd cc

-- those that are still here are among the numbers that are left
pub among_rest : (p : Places) (n f : ℕ) (rest : List ℕ) → file_here p n ≡ None → IsSome (file_here p f) → list_any (eqb f) (n ∷ rest) ≡ true → list_any (eqb f) rest ≡ true
among_rest p n f rest gone some among = by (eqb f n) refl
  where
    by : (b : Bool) → eqb f n ≡ b → list_any (eqb f) rest ≡ true
    by true e =
        let none : is_some (file_here p f) ≡ false = ap (λ (m : ℕ). is_some (file_here p m)) (eqb-true f n e) ∙ ap is_some gone in
        let both : false ≡ true = sym none ∙ some in
        absurd cc
    by false e = ap (λ (b : Bool). b || list_any (eqb f) rest) (sym e) ∙ among

pub none_here : (p : Places) → ((f : ℕ) → IsSome (file_here p f) → list_any (eqb f) [] ≡ true) → (f : ℕ) → file_here p f ≡ None
none_here p among f = by (is_some (file_here p f)) refl
  where
    by : (b : Bool) → is_some (file_here p f) ≡ b → file_here p f ≡ None
    by true e = let no : false ≡ true = among f e in absurd cc
    by false e = not_here p f e

-- each that is here is among all numbers
pub among_all : (p : Places) (f : ℕ) → IsSome (file_here p f) → list_any (eqb f) (fin.keys p) ≡ true
among_all p f some = lookups.key_passes nat_cmp_total nat_cmp-IsAntisymmetric (eqb f) p f (place_of_here (fin.get p f) some) (eq-eqb f f refl)

pub all_lent : (was p : Places) (cs : List FileCell) → AreLent was p cs → ((f : ℕ) → file_here p f ≡ None) → (f : ℕ) → IsSome (file_here was f) → (c : FileCell) × Has c cs × (number_of c ≡ f)
all_lent was p cs lent none f some = has_counted f cs (by (times f cs) refl)
  where
    by : (k : ℕ) → times f cs ≡ k → 1 ≤ times f cs
    by zero e =
        let gone : file_here was f ≡ None = ap (λ (x : Places). file_here x f) (sym lent.back) ∙ ap in_place (all_else p cs f e) ∙ none f in
        let both : false ≡ true = sym (ap is_some gone) ∙ some in
        absurd cc
    by (suc k) e = omega (arith, e)

-- ---- the first goes back

module _ (p : Places) (c : FileCell) (cs : List FileCell) (away : AreAway p (c ∷ cs)) where
  pub first_empty : fin.get p (number_of c) ≡ Some None
  first_empty = away.empty (number_of c) (first_counted c cs)

  pub first_low : number_of c < 2 ^ 31
  first_low = away.low (number_of c) (first_counted c cs)

  -- the others have other numbers
  apart : (f : ℕ) → 1 ≤ times f cs → f ≢ number_of c
  apart f some is =
      let none = once_there f c cs is (away.once f) in
      omega (arith, some, none)

  pub rest_away : AreAway (fin.insert p (number_of c) (Some c)) cs
  rest_away = record {
    empty = λ f some. put_else p (number_of c) (Some c) f (apart f some) ∙ away.empty f (rest_counted f c cs some);
    low = λ f some. away.low f (rest_counted f c cs some);
    once = λ f. rest_once f c cs (away.once f);
  }

pub no_items : {X : Type 0} (xs : List X) → length xs ≡ 0 → xs ≡ []
no_items [] none = refl
no_items (x ∷ xs) none = absurd (omega (arith, none))
