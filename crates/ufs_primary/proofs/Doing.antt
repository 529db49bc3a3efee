-- A request that is done, and what is told of it.
use Rattle.std.proofs.Common.{◌≡◌, ◌≤◌, ℕ, ◌⊎◌, Bool, true, List, [], ◌∷◌, ◌++◌, length, inl, inr, Option, refl, ap, sym, ◌∙◌, subst}
use Rattle.ufs_at_primary.specs.OfBaton.{IsDrawnWith, IsToldOf}
use Rattle.ufs_joint.specs.Cells.{FileCell, View}
use Rattle.ufs_model.specs.declared.data.Ask.{Ask}
use Rattle.ufs_msg.specs.Answers.{Told}
use Rattle.ufs_msg.specs.Requests.{Asked, HasClientAlone}
use Rattle.ufs_msg.specs.There.{is_by_hint}
use Rattle.ufs_msg.specs.declared.answer.Answer.{Answer}
use Rattle.ufs_at_primary.specs.OfServing.{AnswersGo, Said, said}
use Rattle.ufs_at_primary.specs.Excused.{IsExcusedHere}
use Rattle.ufs_at_primary.specs.Kinds.{IsOnFile}
use Rattle.ufs_at_primary.specs.Stock.{StockState}
use Rattle.ufs_primary.specs.Primary.{PrimaryState, primary_of}
use Rattle.ufs_at_primary.specs.Served.{IsAway, IsSentOn, IsServedInRoom, IsStill}
use Rattle.ufs_at_primary.specs.Noted.{IsUnnoted}
use Rattle.ufs_primary.specs.Turns.{IsFront, IsFull, IsIdle, IsOldest, IsRequestDone, IsTakenUp, IsUnnotedHere}
use Rattle.ufs_primary.specs.Waiting.{AllWait, IsPutOff, Waits}
use Rattle.ufs_primary.specs.declared.turn.PrimaryTurn.{PrimaryTurn}
use Rattle.ufs_primary.specs.declared.turn.PrimaryTurn.TheVariants as turn

module _ {N Q : Type 0} (answers : Q → ℕ → Answer N → Q → Type 0) (same : Q → Q → Type 0) (full : Q → ℕ → Type 0) (visible : Bool) (before after : Option View) (since upto : ℕ) where
  pub is_served : (h t : StockState) (coming : Option FileCell) (old new : List Said) (waiting now : List Waits) (r : Asked) (a : Said) (p q : Q) (told : Told) → a ≡ inl told → IsServedInRoom visible before after h t r.ask told ⊎ IsUnnotedHere before after h t r told → IsDrawnWith since upto told.entry → now ≡ waiting
      → AnswersGo answers same full (old ++ a ∷ []) new p q
      → IsRequestDone answers same full visible before after since upto (primary_of h coming old waiting) (primary_of t coming new now) r p q turn.Served
  is_served h t coming old new waiting now r a p q told is served drawn wait goes = record {
    told = told;
    served = served;
    drawn = drawn;
    answer = subst (λ (x : Said). AnswersGo answers same full (old ++ x ∷ []) new p q) is goes;
    rest = ap (λ (x : List Waits). primary_of t coming new x) wait;
  }

  pub is_redirected : (h t : StockState) (coming : Option FileCell) (old new : List Said) (waiting : List Waits) (r : Asked) (a : Answer N) (file : ℕ) (p q : Q) → IsSentOn h r a file → t ≡ h
      → AnswersGo answers same full (old ++ said a ∷ []) new p q
      → IsRequestDone answers same full visible before after since upto (primary_of h coming old waiting) (primary_of t coming new waiting) r p q (turn.Redirected file)
  is_redirected h t coming old new waiting r a file p q on still goes = record {
    kind = on.kind;
    hinted = on.hinted;
    away = on.away;
    worker = on.worker;
    has = on.has;
    asked = r;
    still = record { ask = refl; leases_back = refl; hand = λ self alone. alone };
    answer = subst (λ (x : Said). AnswersGo answers same full (old ++ x ∷ []) new p q) (ap said on.answer) goes;
    rest = ap (λ (x : StockState). primary_of x coming new waiting) still;
  }

  pub is_waiting : (h t u : StockState) (coming : Option FileCell) (answer : List Said) (old new : List Waits) (r asked : Asked) (file : ℕ) (p : Q) → IsStill r asked → IsAway h r.ask file → t ≡ h
      → IsPutOff t.home u.home old new asked file → u ≡ record t { home = u.home }
      → IsRequestDone answers same full visible before after since upto (primary_of h coming answer old) (primary_of u coming answer new) r p p (turn.Waiting file)
  is_waiting h t u coming answer old new r asked file p still cause same' put rest = record {
    cause = cause;
    asked = asked;
    still = still;
    put = subst (λ (x : StockState). IsPutOff x.home u.home old new asked file) same' put;
    nothing = refl;
    rest = ap (λ (x : StockState). primary_of x coming answer new) (rest ∙ ap (λ (x : StockState). record x { home = u.home }) same');
  }

  -- it came back, and its file may have been asked for
  pub is_unnoted : (h t u w : StockState) (mid : Option View) (r asked back : Asked) (file : ℕ) (told : Told) → IsStill r asked → IsAway h r.ask file → t ≡ h → mid ≡ before → IsUnnoted t.home u.home file → u ≡ record t { home = u.home } → back ≡ asked
      → IsExcusedHere mid after u.home.owners back.ask told → w ≡ u → IsUnnotedHere before after h w r told
  is_unnoted h t u w mid r asked back file told still cause same' store home rest came excused then = record {
    file = file;
    cause = cause;
    home = subst (λ (x : StockState × StockState). IsUnnoted x.0.home x.1.home file) (λ i. (same' i, sym then i)) home;
    excused = subst (λ (x : Option View × StockState × Ask). IsExcusedHere x.0 after x.1.home.owners x.2 told) (λ i. (store i, sym then i, (ap (λ (q : Asked). q.ask) came ∙ still.ask) i)) excused;
    rest = then ∙ rest ∙ (λ i. record (same' i) { home = (sym then i).home });
  }

  -- ---- the request as it came

  as_unnoted : (s t : StockState) (r q : Asked) (told : Told) → IsStill r q → IsUnnotedHere before after s t q told → IsUnnotedHere before after s t r told
  as_unnoted s t r q told still u = record {
    file = u.file;
    cause = subst (λ (a : Ask). IsAway s a u.file) still.ask u.cause;
    home = u.home;
    excused = subst (λ (a : Ask). IsExcusedHere before after t.home.owners a told) still.ask u.excused;
    rest = u.rest;
  }

  as_served : (s t : StockState) (r q : Asked) (told : Told) → IsStill r q → IsServedInRoom visible before after s t q.ask told ⊎ IsUnnotedHere before after s t q told → IsServedInRoom visible before after s t r.ask told ⊎ IsUnnotedHere before after s t r told
  as_served s t r q told still (inl served) = inl (subst (λ (a : Ask). IsServedInRoom visible before after s t a told) still.ask served)
  as_served s t r q told still (inr unnoted) = inr (as_unnoted s t r q told still unnoted)

  still_on : (r q x : Asked) → IsStill r q → IsStill q x → IsStill r x
  still_on r q x one other = record {
    ask = other.ask ∙ one.ask;
    leases_back = other.leases_back ∙ one.leases_back;
    hand = λ self alone. subst (λ (a : Ask). HasClientAlone a.client self x.hand) one.ask (other.hand self (subst (λ (a : Ask). HasClientAlone a.client self q.hand) (sym one.ask) (one.hand self alone)));
  }

  -- what is done with a request that was told what the baton has seen is done with it as it came
  pub done_as : (s t : PrimaryState) (r q : Asked) (p p' : Q) (o : PrimaryTurn) → IsStill r q → IsRequestDone answers same full visible before after since upto s t q p p' o → IsRequestDone answers same full visible before after since upto s t r p p' o
  done_as s t r q p p' turn.Served still d = record { told = d.told; served = as_served s.stock t.stock r q d.told still d.served; drawn = d.drawn; answer = d.answer; rest = d.rest }
  done_as s t r q p p' (turn.Redirected file) still d = record {
    kind = subst (λ (a : Ask). IsOnFile a file) still.ask d.kind;
    hinted = subst (λ (a : Ask). is_by_hint a.op ≡ true) still.ask d.hinted;
    away = d.away;
    worker = d.worker;
    has = d.has;
    asked = d.asked;
    still = still_on r q d.asked still d.still;
    answer = d.answer;
    rest = d.rest;
  }
  done_as s t r q p p' (turn.Waiting file) still d = record {
    cause = subst (λ (a : Ask). IsAway s.stock a file) still.ask d.cause;
    asked = d.asked;
    still = still_on r q d.asked still d.still;
    put = d.put;
    nothing = d.nothing;
    rest = d.rest;
  }
  done_as s t r q p p' turn.Settled still d = d
  done_as s t r q p p' (turn.Lack lack) still d = d
  done_as s t r q p p' turn.Noted still d = d
  done_as s t r q p p' turn.Idle still d = d

  -- ---- which request it is

  pub of_oldest : (h then t : StockState) (coming : Option FileCell) (a new : List Said) (old left now : List Waits) (r : Asked) (p q : Q) (o : PrimaryTurn) → IsTakenUp h then old left r
      → IsRequestDone answers same full visible before after since upto (primary_of then coming a left) (primary_of t coming new now) r p q o
      → IsOldest answers same full visible before after since upto (primary_of h coming a old) (primary_of t coming new now) p q o
  of_oldest h then t coming a new old left now r p q o up done = record { request = r; left = left; then = then; taken = up; done = done }

  module _ (clients : ℕ) (gets : Q → Asked → Q → Type 0) (none : Q → Type 0) where
    pub of_front : (h then t : StockState) (coming : Option FileCell) (a new : List Said) (old left now : List Waits) (r : Asked) (p m q : Q) (o : PrimaryTurn) → AllWait h.home.owners old → left ≡ old → then ≡ h → gets p r m
        → IsRequestDone answers same full visible before after since upto (primary_of then coming a left) (primary_of t coming new now) r m q o
        → IsFront answers same full visible before after since upto clients gets none (primary_of h coming a old) (primary_of t coming new now) p q o
    of_front h then t coming a new old left now r p m q o all rest held came done = record {
      wait = all;
      request = r;
      mid = m;
      came = came;
      done = subst (λ (x : StockState × List Waits). IsRequestDone answers same full visible before after since upto (primary_of x.0 coming a x.1) (primary_of t coming new now) r m q o) (λ i. (held i, rest i)) done;
    }

    pub of_none : (h then : StockState) (coming : Option FileCell) (a : List Said) (old left : List Waits) (p q : Q) → AllWait h.home.owners old → left ≡ old → then ≡ h → same p q → none p
        → IsIdle answers same full visible before after since upto clients gets none (primary_of h coming a old) (primary_of then coming a left) p q turn.Idle
    of_none h then coming a old left p q all rest held nothing empty = record { wait = all; empty = empty; nothing = nothing; says = refl; rest = (λ i. primary_of (held i) coming a (rest i)) }

    -- ---- or none is taken up

    pub of_full : (h then : StockState) (coming : Option FileCell) (a : List Said) (old left : List Waits) (p : Q) → (clients ≤ length a) ⊎ ((clients ≤ length old) × AllWait h.home.owners old) → left ≡ old → then ≡ h
        → IsFull answers same full visible before after since upto clients gets none (primary_of h coming a old) (primary_of then coming a left) p p turn.Idle
    of_full h then coming a old left p many rest held = record { many = many; nothing = refl; says = refl; rest = (λ i. primary_of (held i) coming a (rest i)) }

-- the baton tells a request's hand what it has seen, and the request is the same
pub lent_still : (r q : Asked) (n : ℕ) → q.ask ≡ r.ask → q.leases_back ≡ r.leases_back → IsToldOf n r.hand q.hand → IsStill r q
lent_still r q n ask leases_back told = record {
  ask = ask;
  leases_back = leases_back;
  hand = λ self alone. record {
    clients = told.clients ∙ alone.clients;
    asked = told.asked ∙ alone.asked;
    files = told.files ∙ alone.files;
    pools = told.pools ∙ alone.pools;
    names = told.names ∙ alone.names;
    store = told.store ∙ alone.store;
  };
}
