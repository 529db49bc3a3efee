-- One turn of an actor of a session on one thread.
use Rattle.std.specs.Prelude.{ℕ, ◌+◌, ◌≡◌, ◌≢◌, Bool, List, Option, Some, is_some, slice_get, slice_set}
use Rattle.ufs_caller.specs.Callers.{Caller}
use Rattle.ufs_caller.specs.Turns as caller
use Rattle.ufs_caller.specs.declared.turn.Turn.{Turn}
use Rattle.ufs_caller.specs.declared.turn.Turn.TheVariants as client_turn
use Rattle.ufs_primary.specs.OfHeld.{Raises}
use Rattle.ufs_primary.specs.OfHome.{letter_of}
use Rattle.ufs_joint.specs.Cells.{Start, View}
use Rattle.ufs_model.specs.declared.data.Actor.{Actor}
use Rattle.ufs_model.specs.declared.data.Actor.TheVariants as actor
use Rattle.ufs_msg.specs.There.{client_count, worker_count}
use Rattle.ufs_msg.specs.declared.letter.Letter.TheVariants as letter
use Rattle.ufs_primary.specs.Primary.{PrimaryState}
use Rattle.ufs_primary.specs.Turns as primary
use Rattle.ufs_primary.specs.declared.turn.PrimaryTurn.{PrimaryTurn}
use Rattle.ufs_primary.specs.declared.turn.PrimaryTurn.TheVariants as primary_turn
use Rattle.ufs_told.specs.Numbers.{most_raised}
use Rattle.ufs_worker.specs.Turns as worker
use Rattle.ufs_worker.specs.Worker.{WorkerState}
use Rattle.ufs_worker.specs.declared.turn.WorkerTurn.{WorkerTurn}
use Rattle.ufs_worker.specs.declared.turn.WorkerTurn.TheVariants as worker_turn
use Rattle.ufs_rounds.specs.Numbers.{AreClients}
use Rattle.ufs_rounds.specs.Rings.{Answers, Asks, Gets, HasNoAnswer, HasNoLetter, HasNoRequest, Hears, IsAnswerFull, IsAskFull, IsLetterFull, IsQuiet, Reads, Rings, Sends}
use Rattle.ufs_rounds.specs.declared.turned.Turned.{Turned}
use Rattle.ufs_rounds.specs.declared.turned.Turned.TheVariants as turned

-- Who takes part, and what is between them.
pub record GlobalState (N : Type 0) : Type 0 where
  -- client 0 first, worker 1 first
  pub clients : List Caller
  pub workers : List WorkerState
  pub primary : PrimaryState
  pub rings : Rings N
  -- how many tickets the baton has seen, which goes from turn to turn
  pub seen : ℕ
  -- the store's cell, where the way to it tells that
  pub store : Option View

module _ {A : Type 0} where
  -- The one at this place went on so; the others are as they were.
  pub record GoesOnAt (so : A → A → Type 0) (old : List A) (place : ℕ) (new : List A) : Type 0 where
    pub was : A
    pub is : A
    pub stood : slice_get old place ≡ Some was
    pub stands : new ≡ slice_set old place is
    pub goes : so was is

module _ {N : Type 0} where
  abbrev pub state_of : List Caller → List WorkerState → PrimaryState → Rings N → ℕ → Option View → GlobalState N
  state_of clients workers primary rings seen store = record { clients = clients; workers = workers; primary = primary; rings = rings; seen = seen; store = store }

  -- ---- each actor, by the rings that are lent to it

  abbrev pub IsCallerTurn : (since upto : ℕ) → Rings N → Rings N → Turn → Caller → Caller → Type 0
  IsCallerTurn since upto p q o a b = caller.IsTurn Asks Hears IsQuiet IsAskFull HasNoAnswer since upto p q a o b

  abbrev pub IsServerTurn : Bool → Option View → Option View → (since upto : ℕ) → Rings N → Rings N → WorkerTurn → WorkerState → WorkerState → Type 0
  IsServerTurn visible before after since upto p q o w v = worker.IsTurn (λ r c s. Sends r actor.Primary (letter.Parcel c) s) (λ r c. IsLetterFull r actor.Primary) Answers IsAnswerFull IsQuiet Reads HasNoLetter Gets HasNoRequest
      visible before after since upto w v p q o

  abbrev pub IsFirstTurn : Start → Option View → Option View → (since upto : ℕ) → Rings N → Rings N → PrimaryTurn → PrimaryState → PrimaryState → Type 0
  IsFirstTurn k before after since upto p q o s t = primary.IsTurn (λ w r m z. Sends r (actor.Worker w) (letter_of m) z) (λ r w. IsLetterFull r (actor.Worker w)) Answers IsAnswerFull IsQuiet (worker_count k) (client_count k) Reads HasNoLetter Gets HasNoRequest
      k.is_visible before after since upto s t p q o

  -- The rings are lent to the client, whose turn it is, and the baton: that has seen more only where it answered a request itself. It keeps
  -- its number.
  pub record IsClientTurn (since upto number : ℕ) (old new : List Caller) (p q : Rings N) (o : Turn) : Type 0 where
    pub lent : Rings N
    pub quiet : IsQuiet p lent
    pub mine : lent.client ≡ number
    pub goes : GoesOnAt (IsCallerTurn since upto lent q o) old number new
    pub numbers : AreClients new
    pub seen : o ≢ client_turn.Local → upto ≡ since

  -- The same of a worker, from 1 on. It comes to the store, and draws an entry, only where it serves.
  pub record IsWorkerTurn (visible : Bool) (before after : Option View) (since upto number : ℕ) (old new : List WorkerState) (p q : Rings N) (o : WorkerTurn) : Type 0 where
    pub lent : Rings N
    pub quiet : IsQuiet p lent
    pub mine : lent.server ≡ actor.Worker number
    pub place : ℕ
    pub behind : number ≡ place + 1
    pub goes : GoesOnAt (IsServerTurn visible before after since upto lent q o) old place new
    pub telling : is_some after ≡ is_some before
    pub store : o ≢ worker_turn.Served → after ≡ before
    pub seen : o ≢ worker_turn.Served → upto ≡ since

  -- and of the primary
  pub record IsPrimaryTurn (k : Start) (before after : Option View) (since upto : ℕ) (old new : PrimaryState) (p q : Rings N) (o : PrimaryTurn) : Type 0 where
    pub lent : Rings N
    pub quiet : IsQuiet p lent
    pub mine : lent.server ≡ actor.Primary
    pub goes : IsFirstTurn k before after since upto lent q o old new
    pub telling : is_some after ≡ is_some before
    pub store : o ≢ primary_turn.Served → after ≡ before
    pub seen : o ≢ primary_turn.Served → upto ≡ since
    pub raised : Raises before after (most_raised k.geometry)

  -- This actor made its turn, as it says, and the others are as they were. A client's turn doesn't come to the store.
  abbrev pub IsTurnOf : Start → Actor → GlobalState N → GlobalState N → Turned → Type 0
  IsTurnOf k (actor.Client number) s t (turned.Client o) =
      IsClientTurn s.seen t.seen number s.clients t.clients s.rings t.rings o × (t ≡ record s { clients = t.clients; rings = t.rings; seen = t.seen })
  IsTurnOf k (actor.Worker number) s t (turned.Worker o) =
      IsWorkerTurn k.is_visible s.store t.store s.seen t.seen number s.workers t.workers s.rings t.rings o × (t ≡ record s { workers = t.workers; rings = t.rings; seen = t.seen; store = t.store })
  IsTurnOf k actor.Primary s t (turned.Primary o) =
      IsPrimaryTurn k s.store t.store s.seen t.seen s.primary t.primary s.rings t.rings o × (t ≡ record s { primary = t.primary; rings = t.rings; seen = t.seen; store = t.store })
  IsTurnOf k _ s t _ = ⊥
