-- How the moments of a pair go on.
use Rattle.std.proofs.Common.{◌≡◌, ◌⊎◌, inl, inr, ℕ, Bool, IsTrue, List, [], ◌∷◌, ◌++◌, map, length, drop, refl, sym, ◌∙◌, ap, subst, arith, append_assoc}
use Rattle.std.specs.Prelude.{◌&&◌, ⊤}
use Rattle.std.specs.List.{AllByRecursion}
use Rattle.std.proofs.lemmas.List.{append-nil, drop_at, drop_all}
use Rattle.ufs_base.specs.Images.{Image}
use Rattle.ufs_disk.specs.Disk.{State, Leaves}
use Rattle.ufs_disk.specs.Moments.{Moments, all, IsStill, Passes, LeavesOnly}
use Rattle.ufs_disk.proofs.Runs.{all_append, all_map, passes_joined, passes_weaker}
use Rattle.ufs_mirror.specs.Pairs.{Follows, IsOneOf, Pair, Pairs, Snap, Runs, RunsStill, WentBy, all_pairs, inside, leads, moments_of, next, pairs_of, passed, present, state_of, watched}
use Rattle.ufs_mirror.specs.Labelled.{IsMoment}
use Rattle.ufs_mirror.specs.Opens.{OpenRight, OpensRight}
use Rattle.ufs_mirror.specs.Whole.{left_of, right_of}
use Rattle.ufs_mirror.specs.declared.legs.Picks.{Picks}

pub map_append : {X Y : Type 0} (f : X → Y) (xs ys : List X) → map f (xs ++ ys) ≡ map f xs ++ map f ys
map_append f [] ys = refl
map_append f (x ∷ xs) ys = ap (λ l. f x ∷ l) (map_append f xs ys)

next_more : (rest : List Snap) (s t : Snap) → next (rest ++ s ∷ []) t ≡ next rest s
next_more [] s t = refl
next_more (p ∷ rest) s t = refl

-- one moment more is noted
leads_more : (noted : List Snap) (s t : Snap) → leads (noted ++ s ∷ []) t ≡ leads noted s ++ (present s ∷ inside s t)
leads_more [] s t = ap (λ l. present s ∷ l) (append-nil (inside s t))
leads_more (p ∷ rest) s t =
    ap (λ l. present p ∷ l)
    ((λ i. inside p (next_more rest s t i) ++ leads_more rest s t i) ∙ sym (append_assoc (inside p (next rest s)) (leads rest s) (present s ∷ inside s t)))

noted_more : (noted : List Snap) (s t : Snap) → all_pairs (pairs_of (noted ++ s ∷ []) t) ≡ all_pairs (pairs_of noted s) ++ (inside s t ++ present t ∷ [])
noted_more noted s t =
    ap (λ l. l ++ present t ∷ []) (leads_more noted s t) ∙ append_assoc (leads noted s) (present s ∷ inside s t) (present t ∷ [])
    ∙ sym (append_assoc (leads noted s) (present s ∷ []) (inside s t ++ present t ∷ []))

-- what a leg passed in a run
passed_is : (P : State → Type 0) (old new : Moments) (run : Passes P old new) → passed old new ≡ run.inside
passed_is P old new run = ap (drop (length (all old))) run.whole ∙ drop_at (all old) run.inside (length (all old)) refl

pub passed_each : (P : State → Type 0) (old new : Moments) → Passes P old new → AllByRecursion P (passed old new)
passed_each P old new run = subst (AllByRecursion P) (sym (passed_is P old new run)) run.each

passed_none : (now : Moments) → passed now now ≡ []
passed_none now = drop_all (length (all now)) (all now) (omega arith)

mapped : {X Y : Type 0} (P : X → Type 0) (R : Y → Type 0) (f : X → Y) → ((x : X) → P x → R (f x)) → (xs : List X) → AllByRecursion P xs → AllByRecursion R (map f xs)
mapped P R f follows [] every = tt
mapped P R f follows (x ∷ xs) every = (follows x every.0, mapped P R f follows xs every.1)

none_mapped : {X Y : Type 0} (R : Y → Type 0) (f : X → Y) (xs : List X) → xs ≡ [] → AllByRecursion R (map f xs)
none_mapped R f xs is = subst (λ l. AllByRecursion R (map f l)) (sym is) tt

-- ---- each leg's states

one_of_left : (state : State) (xs ys : List State) → IsOneOf state xs → IsOneOf state (xs ++ ys)
one_of_left state [] ys is = absurd is
one_of_left state (x ∷ xs) ys (inl is) = inl is
one_of_left state (x ∷ xs) ys (inr is) = inr (one_of_left state xs ys is)

one_of_right : (state : State) (xs ys : List State) → IsOneOf state ys → IsOneOf state (xs ++ ys)
one_of_right state [] ys is = is
one_of_right state (x ∷ xs) ys is = inr (one_of_right state xs ys is)

-- a leg, in pairs
module _ (g : Pair → State) where
  in_left : (state : State) (xs ys : List Pair) → IsOneOf state (map g xs) → IsOneOf state (map g (xs ++ ys))
  in_left state xs ys is = subst (IsOneOf state) (sym (map_append g xs ys)) (one_of_left state (map g xs) (map g ys) is)

  in_right : (state : State) (xs ys : List Pair) → IsOneOf state (map g ys) → IsOneOf state (map g (xs ++ ys))
  in_right state xs ys is = subst (IsOneOf state) (sym (map_append g xs ys)) (one_of_right state (map g xs) (map g ys) is)

  in_pairs : (f : State → Pair) → ((x : State) → g (f x) ≡ x) → (state : State) (xs : List State) → IsOneOf state xs → IsOneOf state (map g (map f xs))
  in_pairs f same state [] is = absurd is
  in_pairs f same state (x ∷ xs) (inl is) = inl (is ∙ sym (same x))
  in_pairs f same state (x ∷ xs) (inr is) = inr (in_pairs f same state xs is)

  went_on : (xs ys : List Pair) (a b c : Moments) → Passes (λ state. IsOneOf state (map g xs)) a b → Passes (λ state. IsOneOf state (map g ys)) b c → Passes (λ state. IsOneOf state (map g (xs ++ ys))) a c
  went_on xs ys a b c front back = passes_joined (λ state. IsOneOf state (map g (xs ++ ys))) a b c
      (passes_weaker (λ state. IsOneOf state (map g xs)) (λ state. IsOneOf state (map g (xs ++ ys))) (λ state is. in_left state xs ys is) a b front)
      (passes_weaker (λ state. IsOneOf state (map g ys)) (λ state. IsOneOf state (map g (xs ++ ys))) (λ state is. in_right state xs ys is) b c back)

passes_none : (P : State → Type 0) (now : Moments) → Passes P now now
passes_none P now = record { inside = []; whole = sym (append-nil (all now)); each = tt }

all_one_of : (P : State → Type 0) (xs : List State) → ((state : State) → IsOneOf state xs → P state) → AllByRecursion P xs
all_one_of P [] leads = tt
all_one_of P (x ∷ xs) leads = (leads x (inl refl), all_one_of P xs (λ state is. leads state (inr is)))

-- what a call went through
passes_by : (P Q : State → Type 0) (old new : Moments) → Passes P old new → ((state : State) → IsOneOf state (passed old new) → Q state) → Passes Q old new
passes_by P Q old new run leads = record { inside = run.inside; whole = run.whole; each = subst (AllByRecursion Q) (passed_is P old new run) (all_one_of Q (passed old new) leads) }

went_none : (list : List Pair) (snap : Snap) → WentBy list snap snap
went_none list snap = record { first = passes_none _ snap.first; second = passes_none _ snap.second }

module _ (a b c : Moments) (picks : Picks) (P : State → Type 0) where
  abbrev as_first : State → Pair
  as_first x = record { first = x; second = b.state; picks = picks }

  abbrev as_second : State → Pair
  as_second y = record { first = a.state; second = y; picks = picks }

  went_first : Passes P a c → WentBy (inside (record { first = a; second = b; picks = picks }) (record { first = c; second = b; picks = picks }) ++ present (record { first = c; second = b; picks = picks }) ∷ [])
      (record { first = a; second = b; picks = picks }) (record { first = c; second = b; picks = picks })
  went_first run = record {
    first = passes_by P _ a c run (λ state is. in_left (λ pair. pair.first) state (inside (record { first = a; second = b; picks = picks }) (record { first = c; second = b; picks = picks })) _
        (in_left (λ pair. pair.first) state (map as_first (passed a c)) _ (in_pairs (λ pair. pair.first) as_first (λ x. refl) state (passed a c) is)));
    second = passes_none _ b;
  }

  went_second : Passes P b c → WentBy (inside (record { first = a; second = b; picks = picks }) (record { first = a; second = c; picks = picks }) ++ present (record { first = a; second = c; picks = picks }) ∷ [])
      (record { first = a; second = b; picks = picks }) (record { first = a; second = c; picks = picks })
  went_second run = record {
    first = passes_none _ a;
    second = passes_by P _ b c run (λ state is. in_left (λ pair. pair.second) state (inside (record { first = a; second = b; picks = picks }) (record { first = a; second = c; picks = picks })) _
        (in_right (λ pair. pair.second) state (map as_first (passed a a)) _ (in_pairs (λ pair. pair.second) as_second (λ y. refl) state (passed b c) is)));
  }

-- ---- runs

module _ (keeps : Bool) (R : Pair → Type 0) where
  pub started : (now : Pairs) → R now.now → Runs keeps R now now
  started now here = record { before = here; after = here; between = λ kept. ([], sym (append-nil (all_pairs now)), tt, went_none [] now.legs) }

  pub joined : (first mid new : Pairs) → Runs keeps R first mid → Runs keeps R mid new → Runs keeps R first new
  joined first mid new front back = record {
    before = front.before;
    after = back.after;
    between = λ kept.
        let f = front.between kept in let b = back.between kept in (
          f.0 ++ b.0,
          b.1 ∙ ap (λ l. l ++ b.0) f.1 ∙ append_assoc (all_pairs first) f.0 b.0,
          all_append R f.0 b.0 f.2 b.2,
          record {
            first = went_on (λ pair. pair.first) f.0 b.0 first.legs.first mid.legs.first new.legs.first f.3.first b.3.first;
            second = went_on (λ pair. pair.second) f.0 b.0 first.legs.second mid.legs.second new.legs.second f.3.second b.3.second;
          },
        );
  }

  pub weaker : (Q : Pair → Type 0) → ((pair : Pair) → R pair → Q pair) → (old new : Pairs) → Runs keeps R old new → Runs keeps Q old new
  weaker Q follows old new run = record {
    before = follows old.now run.before;
    after = follows new.now run.after;
    between = λ kept. let b = run.between kept in (b.0, b.1, all_map R Q follows b.0 b.2, b.3);
  }

  -- a moment is noted, and then the legs go on
  pub noted : (before : List Snap) (s t : Snap) → R (present s) → R (present t) → (IsTrue keeps → AllByRecursion R (inside s t)) → (IsTrue keeps → WentBy (inside s t ++ present t ∷ []) s t)
      → Runs keeps R (pairs_of before s) (pairs_of (before ++ s ∷ []) t)
  noted before s t old new each went = record {
    before = old;
    after = new;
    between = λ kept. (inside s t ++ present t ∷ [], noted_more before s t, all_append R (inside s t) (present t ∷ []) (each kept) (new, tt), went kept);
  }

module _ (one other : Bool) (R : Pair → Type 0) where
  -- the first leg's call, in whose states Q holds
  first_call : (Q : State → Type 0) (before : List Snap) (a b c : Moments) (picks : Picks) → Q a.state → Q c.state → (IsTrue one → Passes Q a c)
      → ((x : State) → Q x → R (record { first = x; second = b.state; picks = picks }))
      → Runs (one && other) R (pairs_of before (record { first = a; second = b; picks = picks }))
      (pairs_of (before ++ record { first = a; second = b; picks = picks } ∷ []) (record { first = c; second = b; picks = picks }))
  first_call Q before a b c picks at_first at_last between leads_to =
      noted (one && other) R before _ _ (leads_to a.state at_first) (leads_to c.state at_last)
      (λ kept. all_append R (map (λ x. record { first = x; second = b.state; picks = picks }) (passed a c)) _
      (mapped Q R _ leads_to (passed a c) (passed_each Q a c (between (left_of one other kept))))
      (none_mapped R (λ y. record { first = c.state; second = y; picks = picks }) (passed b b) (passed_none b)))
      (λ kept. went_first a b c picks Q (between (left_of one other kept)))

  -- the second leg's call
  second_call : (Q : State → Type 0) (before : List Snap) (a b c : Moments) (picks : Picks) → Q b.state → Q c.state → (IsTrue other → Passes Q b c)
      → ((y : State) → Q y → R (record { first = a.state; second = y; picks = picks }))
      → Runs (one && other) R (pairs_of before (record { first = a; second = b; picks = picks }))
      (pairs_of (before ++ record { first = a; second = b; picks = picks } ∷ []) (record { first = a; second = c; picks = picks }))
  second_call Q before a b c picks at_first at_last between leads_to =
      noted (one && other) R before _ _ (leads_to b.state at_first) (leads_to c.state at_last)
      (λ kept. all_append R (map (λ x. record { first = x; second = b.state; picks = picks }) (passed a a)) _
      (none_mapped R (λ x. record { first = x; second = b.state; picks = picks }) (passed a a) (passed_none a))
      (mapped Q R (λ y. record { first = a.state; second = y; picks = picks }) leads_to (passed b c) (passed_each Q b c (between (right_of one other kept)))))
      (λ kept. went_second a b c picks Q (between (right_of one other kept)))

  -- another leg may be picked from now on
  pub told : (before : List Snap) (a b : Moments) (old new : Picks)
      → R (record { first = a.state; second = b.state; picks = old }) → R (record { first = a.state; second = b.state; picks = new })
      → Runs (one && other) R (pairs_of before (record { first = a; second = b; picks = old }))
      (pairs_of (before ++ record { first = a; second = b; picks = old } ∷ []) (record { first = a; second = b; picks = new }))
  told before a b old new was is =
      noted (one && other) R before _ _ was is
      (λ kept. all_append R (map (λ x. record { first = x; second = b.state; picks = old }) (passed a a)) _
      (none_mapped R (λ x. record { first = x; second = b.state; picks = old }) (passed a a) (passed_none a))
      (none_mapped R (λ y. record { first = a.state; second = y; picks = old }) (passed b b) (passed_none b)))
      (λ kept. record { first = passes_none _ a; second = passes_none _ b })

-- the moments of a mirror that goes on by these pairs
moments_more : (size : ℕ) (old new : Pairs) (list : List Pair) → all_pairs new ≡ all_pairs old ++ list → all (moments_of size new) ≡ all (moments_of size old) ++ map (state_of size) list
moments_more size old new list is =
    sym (map_append (state_of size) new.earlier (new.now ∷ [])) ∙ ap (map (state_of size)) is
    ∙ map_append (state_of size) (all_pairs old) list ∙ ap (λ l. l ++ map (state_of size) list) (map_append (state_of size) old.earlier (old.now ∷ []))

-- what a mirror's crash leaves
pub run_leaves : (keeps : Bool) (size number : ℕ) (P : Image → Type 0) (old new : Pairs) → Runs keeps (IsMoment size number P) old new
    → LeavesOnly keeps P (moments_of size old) (moments_of size new)
run_leaves keeps size number P old new run = record {
  before = run.before.leaves;
  after = run.after.leaves;
  between = λ kept. let b = run.between kept in record {
    inside = map (state_of size) b.0;
    whole = moments_more size old new b.0 b.1;
    each = mapped (IsMoment size number P) (Leaves P) (state_of size) (λ pair is. is.leaves) b.0 b.2;
  };
}

-- ---- reads

-- The mirror was in no other state.
pub run_still : (keeps : Bool) (size : ℕ) (old new : Pairs) → RunsStill keeps old new → IsStill keeps (moments_of size old) (moments_of size new)
run_still keeps size old new run = record {
  state = ap (state_of size) run.after;
  between = λ kept. let b = run.between kept in record {
    inside = map (state_of size) b.0;
    whole = moments_more size old new b.0 b.1;
    each = mapped (λ pair. pair ≡ old.now) (λ state. state ≡ state_of size old.now) (state_of size) (λ pair is. ap (state_of size) is) b.0 b.2;
  };
}

pub still_joined : (keeps : Bool) (first mid new : Pairs) → RunsStill keeps first mid → RunsStill keeps mid new → RunsStill keeps first new
still_joined keeps first mid new front back =
    joined keeps (λ pair. pair ≡ first.now) first mid new front
    (weaker keeps (λ pair. pair ≡ mid.now) (λ pair. pair ≡ first.now) (λ pair is. is ∙ front.after) mid new back)

pub front_all : {X : Type 0} (P : X → Type 0) (xs ys : List X) → AllByRecursion P (xs ++ ys) → AllByRecursion P xs
front_all P [] ys every = tt
front_all P (x ∷ xs) ys every = (every.0, front_all P xs ys every.1)

-- whatever pair is left goes on opening to what the mirror may have
pub run_right : (keeps : Bool) (size number : ℕ) (P : Image → Type 0) (old new : Pairs)
    → ((pair : Pair) → IsMoment size number P pair → OpensRight size pair)
    → Runs keeps (IsMoment size number P) old new → OpenRight keeps size old → OpenRight keeps size new
run_right keeps size number P old new opens run right = record {
  now = opens new.now run.after;
  before = λ kept. let b = run.between kept in
      front_all (OpensRight size) new.earlier (new.now ∷ [])
      (subst (AllByRecursion (OpensRight size)) (sym b.1)
      (all_append (OpensRight size) (all_pairs old) b.0 (all_append (OpensRight size) old.earlier (old.now ∷ []) (right.before kept) (right.now, tt))
      (all_map (IsMoment size number P) (OpensRight size) opens b.0 b.2)));
}

module _ {E : Type 0} (one other : Bool) (R : Pair → Type 0) (f g : E → Moments) where
  abbrev snap_of : E × Picks → Snap
  snap_of e = record { first = f e.0; second = g e.0; picks = e.1 }

  more_noted : (log more : List (E × Picks)) (old : E) (picks : Picks) → more ≡ log ++ (old, picks) ∷ [] → map snap_of log ++ snap_of (old, picks) ∷ [] ≡ map snap_of more
  more_noted log more old picks is = sym (map_append snap_of log ((old, picks) ∷ [])) ∙ ap (map snap_of) (sym is)

  watched_first_in : (Q : State → Type 0) (log more : List (E × Picks)) (old new : E) (picks now : Picks)
      → more ≡ log ++ (old, picks) ∷ [] → now ≡ picks → g new ≡ g old → Q (f old).state → Q (f new).state → (IsTrue one → Passes Q (f old) (f new))
      → ((x : State) → Q x → R (record { first = x; second = (g old).state; picks = picks }))
      → Runs (one && other) R (watched f g log old picks) (watched f g more new now)
  watched_first_in Q log more old new picks now more_is now_is same at_first at_last between leads_to =
      subst (Runs (one && other) R (watched f g log old picks))
      (λ i. pairs_of (more_noted log more old picks more_is i) (record { first = f new; second = sym same i; picks = sym now_is i }))
      (first_call one other R Q (map snap_of log) (f old) (g old) (f new) picks at_first at_last between leads_to)

  pub watched_first : (P : Image → Type 0) (log more : List (E × Picks)) (old new : E) (picks now : Picks)
      → more ≡ log ++ (old, picks) ∷ [] → now ≡ picks → g new ≡ g old → LeavesOnly one P (f old) (f new)
      → ((x : State) → Leaves P x → R (record { first = x; second = (g old).state; picks = picks }))
      → Runs (one && other) R (watched f g log old picks) (watched f g more new now)
  watched_first P log more old new picks now more_is now_is same call leads_to =
      watched_first_in (Leaves P) log more old new picks now more_is now_is same call.before call.after call.between leads_to

  watched_second_in : (Q : State → Type 0) (log more : List (E × Picks)) (old new : E) (picks now : Picks)
      → more ≡ log ++ (old, picks) ∷ [] → now ≡ picks → f new ≡ f old → Q (g old).state → Q (g new).state → (IsTrue other → Passes Q (g old) (g new))
      → ((y : State) → Q y → R (record { first = (f old).state; second = y; picks = picks }))
      → Runs (one && other) R (watched f g log old picks) (watched f g more new now)
  watched_second_in Q log more old new picks now more_is now_is same at_first at_last between leads_to =
      subst (Runs (one && other) R (watched f g log old picks))
      (λ i. pairs_of (more_noted log more old picks more_is i) (record { first = sym same i; second = g new; picks = sym now_is i }))
      (second_call one other R Q (map snap_of log) (f old) (g old) (g new) picks at_first at_last between leads_to)

  pub watched_second : (P : Image → Type 0) (log more : List (E × Picks)) (old new : E) (picks now : Picks)
      → more ≡ log ++ (old, picks) ∷ [] → now ≡ picks → f new ≡ f old → LeavesOnly other P (g old) (g new)
      → ((y : State) → Leaves P y → R (record { first = (f old).state; second = y; picks = picks }))
      → Runs (one && other) R (watched f g log old picks) (watched f g more new now)
  watched_second P log more old new picks now more_is now_is same call leads_to =
      watched_second_in (Leaves P) log more old new picks now more_is now_is same call.before call.after call.between leads_to

  pub watched_told : (log more : List (E × Picks)) (old new : E) (picks now : Picks)
      → more ≡ log ++ (old, picks) ∷ [] → new ≡ old
      → R (record { first = (f old).state; second = (g old).state; picks = picks }) → R (record { first = (f old).state; second = (g old).state; picks = now })
      → Runs (one && other) R (watched f g log old picks) (watched f g more new now)
  watched_told log more old new picks now more_is same was is =
      subst (Runs (one && other) R (watched f g log old picks))
      (λ i. pairs_of (more_noted log more old picks more_is i) (record { first = f (sym same i); second = g (sym same i); picks = now }))
      (told one other R (map snap_of log) (f old) (g old) picks now was is)

module _ {E : Type 0} (one other : Bool) (f g : E → Moments) where
  pub still_first : (log more : List (E × Picks)) (old new : E) (picks now : Picks)
      → more ≡ log ++ (old, picks) ∷ [] → now ≡ picks → g new ≡ g old → IsStill one (f old) (f new)
      → RunsStill (one && other) (watched f g log old picks) (watched f g more new now)
  still_first log more old new picks now more_is now_is same is =
      watched_first_in one other (λ pair. pair ≡ (watched f g log old picks).now) f g (λ state. state ≡ (f old).state) log more old new picks now more_is now_is same refl is.state is.between
      (λ x at. ap (λ (s : State). let pair : Pair = record { first = s; second = (g old).state; picks = picks } in pair) at)

  pub still_second : (log more : List (E × Picks)) (old new : E) (picks now : Picks)
      → more ≡ log ++ (old, picks) ∷ [] → now ≡ picks → f new ≡ f old → IsStill other (g old) (g new)
      → RunsStill (one && other) (watched f g log old picks) (watched f g more new now)
  still_second log more old new picks now more_is now_is same is =
      watched_second_in one other (λ pair. pair ≡ (watched f g log old picks).now) f g (λ state. state ≡ (g old).state) log more old new picks now more_is now_is same refl is.state is.between
      (λ y at. ap (λ (s : State). let pair : Pair = record { first = (f old).state; second = s; picks = picks } in pair) at)
