-- What comes of a request, put together.
use Rattle.std.proofs.Common.{◌≡◌, ◌≢◌, ◌≤◌, ◌<◌, ◌^◌, ℕ, ◌⊎◌, inl, inr, Bool, true, false, cond, List, Option, Some, None, is_some, arith, refl, ap, sym, ◌∙◌, subst}
use Rattle.std.specs.Prelude.{IfNone, IfSome, IsSome}
use Rattle.std.specs.FinMap as fin
use Rattle.ufs_file.specs.Hand.{IsOf}
use Rattle.ufs_bitmap.specs.Blocks.{BlockSet}
use Rattle.ufs_held.specs.Asking.{IsGuest}
use Rattle.ufs_held.specs.Births.{HasStill}
use Rattle.ufs_held_names.specs.Asked.{number_of}
use Rattle.ufs_held_names.specs.Come.{IsNewborn, IsStillThere}
use Rattle.ufs_home.specs.Home.{HomeState}
use Rattle.ufs_home.specs.Lending.{AreAway}
use Rattle.ufs_home.specs.Places.{Places, file_here, in_place, with_place}
use Rattle.ufs_home.proofs.Shelves.{in_its_place, one_or_other, over, placed_there, put_again, put_else, put_here}
use Rattle.ufs_joint.specs.Cells.{FileCell, Start, View}
use Rattle.ufs_model.proofs.Facts.Lookups.{same_some}
use Rattle.ufs_model.specs.Asks.{file_in}
use Rattle.ufs_model.specs.declared.data.Ask.{Ask}
use Rattle.ufs_model.specs.declared.data.Desc.{Desc}
use Rattle.ufs_msg.specs.Requests.{Asked, HasClientAlone, IsAsked, asked_of}
use Rattle.ufs_msg.specs.There.{IsByHint, is_by_hint}
use Rattle.ufs_msg.specs.declared.answer.Answer.TheVariants as says
use Rattle.ufs_hand_laws.specs.Parts.{ClientPart}
use Rattle.ufs_at_primary.specs.All.{numbers_in}
use Rattle.ufs_at_primary.specs.Kinds.{IsOnFile}
use Rattle.ufs_at_primary.specs.Stock.{AreHere, StockState}
use Rattle.ufs_at_primary.specs.Served.{IsOut, IsStill, IsTriedSince, emptied, lent_with, made_in}
use Rattle.ufs_at_primary.specs.declared.tried.Tried.{Tried}
use Rattle.ufs_at_primary.specs.declared.tried.Tried.TheVariants as tried
use Rattle.ufs_at_primary.proofs.AllTold.{same_counts}

pub none_is : {A : Type 0} (o : Option A) → is_some o ≡ false → o ≡ None
none_is None is = refl
none_is (Some x) is = absurd cc

pub some_is : {A : Type 0} (o : Option A) → IsSome o → (x : A) × (o ≡ Some x)
some_is None is = absurd cc
some_is (Some x) is = (x, refl)

-- ---- the request

pub same_still : (r : Asked) → IsStill r r
same_still r = record { ask = refl; leases_back = refl; hand = λ self has. has }

-- the file isn't here, though it is live: so it is out
pub is_out : (s : StockState) (file : ℕ) → AreHere s.names s.home → IsSome (fin.get s.names.value.held file) → file_here s.home.places file ≡ None → IsOut s file
is_out s file here live away at = (let both = sym (here file live at) ∙ ap is_some away in cc)

-- what was told with it is so, with the client's part in another hand
pub asked_by : (k : Start) (ask : Ask) (before after : View) (asked : IsAsked k ask before) → HasClientAlone ask.client asked.self after → IsAsked k ask after
asked_by k ask before after asked alone = record {
  there = asked.there;
  self = asked.self;
  alone = alone;
  low = asked.low;
  seq = asked.seq;
  few = asked.few;
  bounded = asked.bounded;
  asked = asked.asked;
  desc = asked.desc;
  told = asked.told;
  needs = asked.needs;
  dropped = asked.dropped;
  unleased = asked.unleased;
}

-- the same, taken apart and put together with another hand of its client
pub still_new : (r q : Asked) (v w : View) (ask : Ask) (back : Bool) → asked_of v ask back ≡ r → q ≡ asked_of w ask back → ((self : ClientPart) → HasClientAlone ask.client self v → HasClientAlone ask.client self w) → IsStill r q
still_new r q v w ask back apart new hand = subst (λ (x : Asked). IsStill x q) apart (subst (IsStill (asked_of v ask back)) (sym new) (record { ask = refl; leases_back = refl; hand = hand }))

-- the guest has what it had, by a look
pub guest_still : (client : ℕ) (self : ClientPart) (n : ℕ) (pool : BlockSet) (v w : View) → HasStill v w → IsGuest client self n pool v → IsGuest client self n pool w
guest_still client self n pool v w still is = record {
  clients = still.clients ∙ is.clients;
  asked = still.asked ∙ is.asked;
  files = still.files ∙ is.files;
  pools = still.pools ∙ is.pools;
  names = still.names ∙ is.names;
  store = still.store ∙ is.store;
}

-- ---- its file

pub of_file : (d : Option Desc) (file : ℕ) → file_in d ≡ Some file → IsOf d file
of_file None file is = absurd cc
of_file (Some d) file is = is

desc_in : (d : Option Desc) (file : ℕ) → file_in d ≡ Some file → (x : Desc) × (d ≡ Some x) × (x.file ≡ Some file)
desc_in None file is = absurd cc
desc_in (Some d) file is = (d, refl, is)

pub by_hint : (ask : Ask) (file : ℕ) → IsOnFile ask file → is_by_hint ask.op ≡ true → IsByHint ask
by_hint ask file on hinted =
    let d = desc_in ask.desc file on.of in
    record { kind = hinted; desc = d.0; has = d.1; file = file; of = d.2 }

-- a file that was lent has its place
pub lent_place : (h g : HomeState) (file : ℕ) → g ≡ record h { places = fin.insert h.places file None } → fin.get g.places file ≡ Some None
lent_place h g file is = ap (λ (x : HomeState). fin.get x.places file) is ∙ put_here h.places file None

-- and is back in it
pub back_home : (h g f : HomeState) (file n : ℕ) (c : FileCell) → g ≡ record h { places = fin.insert h.places file None } → n ≡ file → f ≡ record g { places = fin.insert g.places n (Some c) } → f ≡ record h { places = fin.insert h.places file (Some c) }
back_home h g f file n c lent same back =
    back ∙ (λ i. record (lent i) { places = fin.insert (lent i).places (same i) (Some c) }) ∙ ap (λ (p : Places). record h { places = p }) (over h.places file None (Some c))

-- ---- numbers of files

pub away_still : (p : Places) (xs ys : List FileCell) → numbers_in ys ≡ numbers_in xs → AreAway p xs → AreAway p ys
away_still p xs ys is away = record {
  empty = λ f some. away.empty f (subst (λ (n : ℕ). 1 ≤ n) (same_counts f xs ys is) some);
  low = λ f some. away.low f (subst (λ (n : ℕ). 1 ≤ n) (same_counts f xs ys is) some);
  once = λ f. subst (λ (n : ℕ). n ≤ 1) (sym (same_counts f xs ys is)) (away.once f);
}

-- ---- a file that a request of the names touches

-- it has its place while it is lent
pub was_lent : (h g : HomeState) (o : Option FileCell) → g ≡ record h { places = emptied h.places o } → IfSome o (λ c. c.value.file.file < 2 ^ 31) → IfSome o (λ c. (fin.get g.places c.value.file.file ≡ Some None) × (c.value.file.file < 2 ^ 31))
was_lent h g None lent low = tt
was_lent h g (Some c) lent low = (lent_place h g c.value.file.file lent, low)

-- and is given back
pub given_back : (h g f : HomeState) (o : Option FileCell) → g ≡ record h { places = emptied h.places o } → IfSome o (λ c. file_here h.places c.value.file.file ≡ Some c)
    → IfSome o (λ c. f ≡ record g { places = fin.insert g.places c.value.file.file (Some c) }) → IfNone o (f ≡ g) → f ≡ h
given_back h g f None lent here some none = none ∙ lent
given_back h g f (Some c) lent here some none =
    back_home h g f c.value.file.file c.value.file.file c lent refl some
    ∙ ap (λ (p : Places). record h { places = p }) (sym (over h.places c.value.file.file None (Some c)) ∙ put_again h.places c.value.file.file None (Some c) (in_its_place (fin.get h.places c.value.file.file) c here))

-- the new file's place is free, and isn't the touched one's
module _ (h : HomeState) (next : ℕ) (free : file_here h.places next ≡ None) where
  emptied_free : (o : Option FileCell) → file_here (emptied h.places o) next ≡ None
  emptied_free None = free
  emptied_free (Some c) = by (one_or_other c.value.file.file next)
    where
      by : (next ≡ c.value.file.file) ⊎ (next ≢ c.value.file.file) → file_here (fin.insert h.places c.value.file.file None) next ≡ None
      by (inl e) = ap (file_here (fin.insert h.places c.value.file.file None)) e ∙ ap in_place (put_here h.places c.value.file.file None)
      by (inr other) = ap in_place (put_else h.places c.value.file.file None next other) ∙ free

  pub next_free : (g : HomeState) (o : Option FileCell) → g ≡ record h { places = lent_with h.places o next } → fin.get g.places next ≡ Some None
  next_free g o lent = ap (λ (x : HomeState). fin.get x.places next) lent ∙ placed_there (emptied h.places o) next (emptied_free o)

  pub touched_apart : (o : Option FileCell) → IfSome o (λ c. file_here h.places c.value.file.file ≡ Some c) → IfSome o (λ c. c.value.file.file ≢ next)
  touched_apart None here = tt
  touched_apart (Some c) here = λ is. let both = sym here ∙ ap (file_here h.places) is ∙ free in cc

  placed_away : (p : Places) (f : ℕ) → f ≢ next → fin.get (with_place p next) f ≡ fin.get p f
  placed_away p f other = by (is_some (fin.get p next))
    where
      by : (b : Bool) → fin.get (cond b p (fin.insert p next None)) f ≡ fin.get p f
      by true = refl
      by false = put_else p next None f other

  pub touched_lent : (g : HomeState) (o : Option FileCell) (file : Option ℕ) → number_of o ≡ file → g ≡ record h { places = lent_with h.places o next } → IfSome o (λ c. file_here h.places c.value.file.file ≡ Some c)
      → IfSome file (λ f. (fin.get g.places f ≡ Some None) × (f ≢ next))
  touched_lent g o file same lent here = subst (λ (x : Option ℕ). IfSome x (λ f. (fin.get g.places f ≡ Some None) × (f ≢ next))) same (by o lent here)
    where
      by : (o : Option FileCell) → g ≡ record h { places = lent_with h.places o next } → IfSome o (λ c. file_here h.places c.value.file.file ≡ Some c) → IfSome (number_of o) (λ f. (fin.get g.places f ≡ Some None) × (f ≢ next))
      by None lent here = tt
      by (Some c) lent here =
          let apart = touched_apart (Some c) here in (
            ap (λ (x : HomeState). fin.get x.places c.value.file.file) lent ∙ placed_away (fin.insert h.places c.value.file.file None) c.value.file.file apart ∙ put_here h.places c.value.file.file None,
            apart,
          )

-- ---- what the request left

pub still_same : (still touched : Option FileCell) (file : Option ℕ) (ticket : ℕ) (excused : Bool) → number_of touched ≡ file → IfSome touched (λ c. c.value.file.file < 2 ^ 31) → (excused ≡ true → still ≡ touched) → (excused ≡ false → IfSome still (IsStillThere ticket touched))
    → IfSome still (λ c. (file ≡ Some c.value.file.file) × (c.value.file.file < 2 ^ 31))
still_same None touched file ticket excused number low kept there = tt
still_same (Some d) None file ticket true number low kept there = absurd (let is = kept refl in cc)
still_same (Some d) None file ticket false number low kept there = absurd (there refl)
still_same (Some d) (Some c) file ticket true number low kept there =
    let is = same_some d c (kept refl) in
    (sym number ∙ ap (λ (x : FileCell). Some x.value.file.file) (sym is), subst (λ (x : FileCell). x.value.file.file < 2 ^ 31) (sym is) low)
still_same (Some d) (Some c) file ticket false number low kept there =
    let is = there refl in
    (sym number ∙ ap Some (sym is.1), subst (λ (n : ℕ). n < 2 ^ 31) (sym is.1) low)

pub made_number : (young : Option FileCell) (next ticket : ℕ) → IfSome young (IsNewborn next ticket) → IfSome young (λ c. next ≡ c.value.file.file)
made_number None next ticket made = tt
made_number (Some c) next ticket made = sym (ap (λ (x : FileCell). x.value.file.file) made)

-- ---- places behind that

-- where the new file is in its place, the touched one's is empty still
pub still_lent : (file : Option ℕ) (young : Option FileCell) (next : ℕ) (h g : HomeState) → g ≡ record h { places = made_in young next h.places } → IfSome file (λ f. (fin.get h.places f ≡ Some None) × (f ≢ next)) → IfSome file (λ f. fin.get g.places f ≡ Some None)
still_lent None young next h g is lent = tt
still_lent (Some f) young next h g is lent = ap (λ (x : HomeState). fin.get x.places f) is ∙ by young
  where
    by : (y : Option FileCell) → fin.get (made_in y next h.places) f ≡ Some None
    by None = lent.0
    by (Some c) = put_else h.places next (Some c) f lent.1 ∙ lent.0

-- ---- what its hand had seen

-- what is so since a later ticket is so since an earlier one
pub since_before : {N : Type 0} (x : Tried N) (a b : ℕ) → a ≤ b → IsTriedSince b x → IsTriedSince a x
since_before (tried.Answered (says.Served told)) a b less is = let l = is.later in record { later = omega (arith, less, l); seen = is.seen }
since_before (tried.Answered (says.Redirect sent)) a b less is = tt
since_before (tried.Redirected answer file) a b less is = tt
since_before (tried.Away q file) a b less is = omega (arith, less, is)
