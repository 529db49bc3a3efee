-- One turn of the primary.
use Rattle.std.specs.Prelude.{ℕ, ◌≡◌, ◌≤◌, ◌⊎◌, ◌++◌, Bool, true, List, [], ◌∷◌, length, Option, Some, None}
use Rattle.std.proofs.Common.{inl, inr}
use Rattle.ufs_at_primary.specs.OfBaton.{IsDrawnWith}
use Rattle.ufs_at_primary.specs.OfHome.{Mailed, RingsGo}
use Rattle.ufs_at_primary.specs.OfHome.{file_here}
use Rattle.ufs_joint.specs.Cells.{FileCell, View}
use Rattle.ufs_model.specs.declared.data.Actor.TheVariants as actor
use Rattle.ufs_msg.specs.Answers.{Told}
use Rattle.ufs_msg.specs.Requests.{Asked}
use Rattle.ufs_msg.specs.There.{is_by_hint}
use Rattle.ufs_msg.specs.declared.answer.Answer.{Answer}
use Rattle.ufs_msg.specs.declared.letter.Letter.{Letter}
use Rattle.ufs_owner.specs.Owners.{owner_at}
use Rattle.ufs_owner.specs.declared.owner.Owner.TheVariants as owner
use Rattle.ufs_at_primary.specs.OfServing.{AnswersGo}
use Rattle.ufs_at_primary.specs.Excused.{IsExcusedHere}
use Rattle.ufs_at_primary.specs.Kinds.{IsOnFile}
use Rattle.ufs_at_primary.specs.Noted.{IsUnnoted, unwaited}
use Rattle.ufs_at_primary.specs.Served.{IsAway, IsServedInRoom, IsStill}
use Rattle.ufs_at_primary.specs.Stock.{StockState}
use Rattle.ufs_primary.specs.Letters.{IsFrontDone}
use Rattle.ufs_primary.specs.Primary.{PrimaryState}
use Rattle.ufs_primary.specs.Waiting.{AllWait, IsPutOff, TakesOldest, Waits}
use Rattle.ufs_primary.specs.declared.turn.PrimaryTurn.{PrimaryTurn}
use Rattle.ufs_primary.specs.declared.turn.PrimaryTurn.TheVariants as turn

-- ---- what is kept goes

module _ {N Q : Type 0} (sends : ℕ → Q → Mailed → Q → Type 0) (letters_full : Q → ℕ → Type 0) (answers : Q → ℕ → Answer N → Q → Type 0) (answers_full : Q → ℕ → Type 0) (same : Q → Q → Type 0) (workers : ℕ) where
  -- The letters to each worker in turn, in order, then the answers, as far as there is room.
  pub record KeptGoes (s t : PrimaryState) (p q : Q) : Type 0 where
    pub mid : Q
    pub letters : RingsGo sends same letters_full workers s.stock.home.letters t.stock.home.letters s.stock.home.owners t.stock.home.owners p mid
    pub home : t.stock ≡ record s.stock { home = record s.stock.home { owners = t.stock.home.owners; letters = t.stock.home.letters } }
    pub answer : AnswersGo answers same answers_full s.answers t.answers mid q
    pub rest : t ≡ record s { stock = t.stock; answers = t.answers }

-- ---- the front letter

module _ {Q : Type 0} (same : Q → Q → Type 0) (gets : Q → Letter FileCell → Q → Type 0) (none : Q → Type 0) where
  -- A file that waits for room comes first.
  pub record IsLetterTried (s t : PrimaryState) (p q : Q) (made : Option PrimaryTurn) : Type 0 where
    pub front : IsFrontDone same gets none s.coming s.stock.home t.stock.home t.coming p q made
    pub rest : t ≡ record s { stock = record s.stock { home = t.stock.home }; coming = t.coming }

-- ---- a request

-- It is the oldest of those that wait and whose files have come, and its client waits for its file no more.
pub record IsTakenUp (s t : StockState) (old new : List Waits) (r : Asked) : Type 0 where
  pub one : Waits
  pub is : one.request ≡ r
  pub taken : TakesOldest s.home.owners old new one
  pub rest : t ≡ record s { home = unwaited s.home one.file r.ask.client }

-- It wants a file that is out, and is excused for want of memory to note that it waits, or, where it asks for a commit, since the store has
-- stopped: the file may have been asked for.
pub record IsUnnotedHere (before after : Option View) (s t : StockState) (r : Asked) (told : Told) : Type 0 where
  pub file : ℕ
  pub cause : IsAway s r.ask file
  pub home : IsUnnoted s.home t.home file
  pub excused : IsExcusedHere before after t.home.owners r.ask told
  pub rest : t ≡ record s { home = t.home }

module _ {N Q : Type 0} (answers : Q → ℕ → Answer N → Q → Type 0) (same : Q → Q → Type 0) (full : Q → ℕ → Type 0) (visible : Bool) (before after : Option View) (since upto : ℕ) where
  -- It is served or excused, its entry drawn with the baton, and its answer goes behind those that are kept.
  pub record IsServedNow (s t : PrimaryState) (r : Asked) (p q : Q) : Type 0 where
    pub told : Told
    pub served : IsServedInRoom visible before after s.stock t.stock r.ask told ⊎ IsUnnotedHere before after s.stock t.stock r told
    pub drawn : IsDrawnWith since upto told.entry
    pub answer : AnswersGo answers same full (s.answers ++ inl told ∷ []) t.answers p q
    pub rest : t ≡ record s { stock = t.stock; answers = t.answers }

  -- It goes by a hint, and a worker has its file, which isn't here: so it is told to its client.
  pub record IsRedirected (s t : PrimaryState) (r : Asked) (file : ℕ) (p q : Q) : Type 0 where
    pub kind : IsOnFile r.ask file
    pub hinted : is_by_hint r.ask.op ≡ true
    pub away : file_here s.stock.home.places file ≡ None
    pub worker : ℕ
    pub has : owner_at s.stock.home.owners file ≡ owner.Worker worker
    pub asked : Asked
    pub still : IsStill r asked
    pub answer : AnswersGo answers same full (s.answers ++ inr (record { request = asked; to = actor.Worker worker }) ∷ []) t.answers p q
    pub rest : t ≡ record s { answers = t.answers }

  -- A file that it wants is out: it waits, and the file is asked for.
  pub record IsMadeWait (s t : PrimaryState) (r : Asked) (file : ℕ) (p q : Q) : Type 0 where
    pub cause : IsAway s.stock r.ask file
    pub asked : Asked
    pub still : IsStill r asked
    pub put : IsPutOff s.stock.home t.stock.home s.waiting t.waiting asked file
    pub nothing : q ≡ p
    pub rest : t ≡ record s { stock = record s.stock { home = t.stock.home }; waiting = t.waiting }

  abbrev pub IsRequestDone : PrimaryState → PrimaryState → Asked → Q → Q → PrimaryTurn → Type 0
  IsRequestDone s t r p q turn.Served = IsServedNow s t r p q
  IsRequestDone s t r p q (turn.Redirected file) = IsRedirected s t r file p q
  IsRequestDone s t r p q (turn.Waiting file) = IsMadeWait s t r file p q
  IsRequestDone s t r p q _ = ⊥

  -- The oldest of those that wait and whose files have come is taken up, and done.
  pub record IsOldest (s t : PrimaryState) (p q : Q) (o : PrimaryTurn) : Type 0 where
    pub request : Asked
    pub left : List Waits
    pub then : StockState
    pub taken : IsTakenUp s.stock then s.waiting left request
    pub done : IsRequestDone (record s { stock = then; waiting = left }) t request p q o

  module _ (clients : ℕ) (gets : Q → Asked → Q → Type 0) (none : Q → Type 0) where
    -- There is none, and the front request of the ring is done.
    pub record IsFront (s t : PrimaryState) (p q : Q) (o : PrimaryTurn) : Type 0 where
      pub wait : AllWait s.stock.home.owners s.waiting
      pub request : Asked
      pub mid : Q
      pub came : gets p request mid
      pub done : IsRequestDone s t request mid q o

    -- There is neither.
    pub record IsIdle (s t : PrimaryState) (p q : Q) (o : PrimaryTurn) : Type 0 where
      pub wait : AllWait s.stock.home.owners s.waiting
      pub empty : none p
      pub nothing : same p q
      pub says : o ≡ turn.Idle
      pub rest : t ≡ s

    -- As many answers are kept as there are clients, or as many requests wait and no file of theirs has come: none is taken up. A client has
    -- one request under way, so then no other one is; but what a hand knows of itself doesn't tell that.
    pub record IsFull (s t : PrimaryState) (p q : Q) (o : PrimaryTurn) : Type 0 where
      pub many : (clients ≤ length s.answers) ⊎ ((clients ≤ length s.waiting) × AllWait s.stock.home.owners s.waiting)
      pub nothing : q ≡ p
      pub says : o ≡ turn.Idle
      pub rest : t ≡ s

    abbrev pub IsWorkDone : PrimaryState → PrimaryState → Q → Q → PrimaryTurn → Type 0
    IsWorkDone s t p q o = IsOldest s t p q o ⊎ (IsFront s t p q o ⊎ (IsIdle s t p q o ⊎ IsFull s t p q o))

-- ---- the turn

-- Behind a letter that made the turn nothing is done; else a request is.
abbrev pub IsThen : {Q : Type 0} → Option PrimaryTurn → PrimaryTurn → PrimaryState → PrimaryState → Q → Q → Type 0 → Type 0
IsThen (Some made) o s t p q work = (o ≡ made) × (t ≡ s) × (q ≡ p)
IsThen None o s t p q work = work

module _ {N Q : Type 0} (sends : ℕ → Q → Mailed → Q → Type 0) (letters_full : Q → ℕ → Type 0) (answers : Q → ℕ → Answer N → Q → Type 0) (answers_full : Q → ℕ → Type 0) (same : Q → Q → Type 0) (workers clients : ℕ) (gets_letter : Q → Letter FileCell → Q → Type 0) (no_letter : Q → Type 0) (gets_ask : Q → Asked → Q → Type 0) (no_ask : Q → Type 0) (visible : Bool) (before after : Option View) (since upto : ℕ) where
  -- What is kept goes; then the front letter is done; and where that made no turn, a request.
  pub record IsTurn (s t : PrimaryState) (p q : Q) (o : PrimaryTurn) : Type 0 where
    pub sent : PrimaryState
    pub sent_by : Q
    pub kept : KeptGoes sends letters_full answers answers_full same workers s sent p sent_by
    pub lettered : PrimaryState
    pub lettered_by : Q
    pub made : Option PrimaryTurn
    pub letter : IsLetterTried same gets_letter no_letter sent lettered sent_by lettered_by made
    pub work : IsThen made o lettered t lettered_by q (IsWorkDone answers same answers_full visible before after since upto clients gets_ask no_ask lettered t lettered_by q o)
