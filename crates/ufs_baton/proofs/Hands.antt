-- A hand without the store's cell is split there, and one without a cell is joined.
use Rattle.std.proofs.Common.{◌≡◌, ◌≤◌, ℕ, leb, arith, Bool, true, false, cond, List, [], ◌∷◌, ◌++◌, Option, Some, None, refl, sym, ap, ◌∙◌, subst}
use Rattle.std.proofs.lemmas.Bool.{leb-false, leb-true}
use Rattle.ufs_hand_laws.specs.Owned.{only, without}
use Rattle.ufs_hand_laws.specs.Parts.{ClientPart, either, is_store, later}
use Rattle.ufs_joint.specs.Cells.{Start, StoreCell, View, both_of, given_of, kept_of}
use Rattle.ufs_model.specs.declared.data.Ask.{Ask}
use Rattle.ufs_model.specs.declared.data.PartName.TheVariants.{Store}
use Rattle.ufs_model.specs.declared.data.Actor.{Actor}
use Rattle.ufs_model.specs.declared.data.Desc.{Desc}
use Rattle.ufs_model.specs.declared.data.Entry.{Entry}
use Rattle.ufs_model.specs.declared.data.Lease.{Lease}
use Rattle.ufs_msg.specs.Answers.{Told}
use Rattle.ufs_msg.specs.declared.answer.Answer.{Answer}
use Rattle.ufs_msg.specs.declared.answer.Answer.TheVariants.{Redirect, Served}
use Rattle.ufs_msg.specs.Requests.{HasClientAlone, IsAsked}
use Rattle.ufs_baton.specs.Baton.{HasNothing, IsToldOf}

without_none : {K D : Type 0} (ps : List (K × D)) → without (λ _. false) ps ≡ ps
without_none [] = refl
without_none (p ∷ ps) = ap (λ qs. p ∷ qs) (without_none ps)

only_none : {K D : Type 0} (ps : List (K × D)) → only (λ _. false) ps ≡ []
only_none [] = refl
only_none (p ∷ ps) = only_none ps

app_none : {A : Type 0} (xs : List A) → xs ++ [] ≡ xs
app_none [] = refl
app_none (x ∷ xs) = ap (λ ys. x ∷ ys) (app_none xs)

pub later_right : (a b : ℕ) → b ≤ later a b
later_right a b = by (leb a b) refl
  where
    by : (d : Bool) → leb a b ≡ d → b ≤ cond d b a
    by true e = omega arith
    by false e = let l = leb-false a b e in omega (arith, l)

pub later_left : (a b : ℕ) → a ≤ later a b
later_left a b = by (leb a b) refl
  where
    by : (d : Bool) → leb a b ≡ d → a ≤ cond d b a
    by true e = leb-true a b e
    by false e = omega arith

-- ---- what is split off

without_store : (ps : List (Unit {0} × StoreCell)) → ps ≡ [] → without (is_store Store) ps ≡ ps
without_store ps none = ap (without (is_store Store)) none ∙ sym none

only_store : (ps : List (Unit {0} × StoreCell)) → ps ≡ [] → only (is_store Store) ps ≡ []
only_store ps none = ap (only (is_store Store)) none

pub kept_whole : (v : View) → v.store ≡ [] → kept_of Store v ≡ v
kept_whole v none = λ i. record {
  clients = without_none v.clients i;
  asked = without_none v.asked i;
  files = without_none v.files i;
  pools = without_none v.pools i;
  names = without_none v.names i;
  store = without_store v.store none i;
  seen = v.seen;
  faults = v.faults;
  stop = v.stop;
}

pub given_nothing : (v : View) → v.store ≡ [] → HasNothing (given_of Store v)
given_nothing v none = record {
  clients = only_none v.clients;
  asked = only_none v.asked;
  files = only_none v.files;
  pools = only_none v.pools;
  names = only_none v.names;
  store = only_store v.store none;
}

-- ---- what is joined

with_none : {A : Type 0} (xs ys : List A) → ys ≡ [] → xs ++ ys ≡ xs
with_none xs ys none = ap (λ zs. xs ++ zs) none ∙ app_none xs

still_stopped : (a b : Option ℕ) (fault : ℕ) → a ≡ Some fault → either a b ≡ Some fault
still_stopped None b fault is = absurd cc
still_stopped (Some a) b fault is = is

pub told_of : (v u : View) → HasNothing u → IsToldOf u.seen v (both_of v (given_of Store u))
told_of v u nothing = record {
  clients = with_none v.clients (given_of Store u).clients (only_none u.clients);
  asked = with_none v.asked (given_of Store u).asked (only_none u.asked);
  files = with_none v.files (given_of Store u).files (only_none u.files);
  pools = with_none v.pools (given_of Store u).pools (only_none u.pools);
  names = with_none v.names (given_of Store u).names (only_none u.names);
  store = with_none v.store (given_of Store u).store (only_store u.store nothing.store);
  faults = app_none v.faults;
  stop = still_stopped v.stop u.stop;
  later = later_left v.seen u.seen;
  seen = later_right v.seen u.seen;
}

pub both_nothing : (v u : View) → HasNothing v → u.store ≡ [] → HasNothing (both_of v (given_of Store u))
both_nothing v u here none =
    let there = given_nothing u none in
    record {
      clients = λ i. here.clients i ++ there.clients i;
      asked = λ i. here.asked i ++ there.asked i;
      files = λ i. here.files i ++ there.files i;
      pools = λ i. here.pools i ++ there.pools i;
      names = λ i. here.names i ++ there.names i;
      store = λ i. here.store i ++ there.store i;
    }

-- ---- a request's hand

pub told_alone : (n client : ℕ) (v w : View) → IsToldOf n v w → (self : ClientPart) → HasClientAlone client self v → HasClientAlone client self w
told_alone n client v w told self alone = record {
  clients = told.clients ∙ alone.clients;
  asked = told.asked ∙ alone.asked;
  files = told.files ∙ alone.files;
  pools = told.pools ∙ alone.pools;
  names = told.names ∙ alone.names;
  store = told.store ∙ alone.store;
}

pub told_asked : (k : Start) (ask : Ask) (n : ℕ) (v w : View) → IsToldOf n v w → IsAsked k ask v → IsAsked k ask w
told_asked k ask n v w told asked = record {
  there = asked.there;
  self = asked.self;
  alone = told_alone n ask.client v w told asked.self asked.alone;
  low = asked.low;
  seq = asked.seq;
  few = asked.few;
  bounded = asked.bounded;
  asked = asked.asked;
  desc = asked.desc;
  told = asked.told;
  needs = asked.needs;
  dropped = asked.dropped;
  unleased = asked.unleased;
}

-- ---- an answer

abbrev pub told_as : View → Entry → Option Desc → Option Actor → Option Lease → Told
told_as hand entry desc owner lease = record { hand = hand; entry = entry; desc = desc; owner = owner; lease = lease }

told_in : {N : Type 0} → Told → Answer N → Told
told_in none (Served told) = told
told_in none (Redirect sent) = none

pub same_told : {N : Type 0} (s t : Told) → ◌≡◌ {A = Answer N} (Served s) (Served t) → s ≡ t
unfolding told_in
same_told s t is = ap (told_in s) is
