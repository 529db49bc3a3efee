-- What an actor does at its post, as contracts see the rings.
use Rattle.std.proofs.Common.{◌≡◌, ℕ, zero, suc, inl, inr, Bool, List, [], ◌∷◌, ◌++◌, set, slice_get, Option, Some, None, ap, sym, ◌∙◌}
use Rattle.std.specs.FinMap as fin
use Rattle.ufs_caller.specs.Callers.{Caller}
use Rattle.ufs_caller.specs.Turns as caller
use Rattle.ufs_caller.specs.declared.turn.Turn.{Turn}
use Rattle.ufs_caller.specs.declared.turn.Turn.TheVariants as turn
use Rattle.ufs_primary.specs.OfHome.{HomeState}
use Rattle.ufs_primary.specs.OfHome.{Boxes, LettersGo, Mailed, RingsGo, letter_of}
use Rattle.ufs_joint.specs.Cells.{FileCell, Start, View}
use Rattle.ufs_model.specs.declared.data.Actor.TheVariants as actor
use Rattle.ufs_msg.specs.Requests.{Asked}
use Rattle.ufs_msg.specs.There.{client_count, worker_count}
use Rattle.ufs_msg.specs.declared.answer.Answer.{Answer}
use Rattle.ufs_msg.specs.declared.letter.Letter.{Letter}
use Rattle.ufs_msg.specs.declared.letter.Letter.TheVariants as letter
use Rattle.ufs_owner.specs.Owners.{Files}
use Rattle.ufs_primary.specs.Letters as front
use Rattle.ufs_primary.specs.Primary.{PrimaryState}
use Rattle.ufs_primary.specs.Turns as primary
use Rattle.ufs_primary.specs.declared.turn.PrimaryTurn.{PrimaryTurn}
use Rattle.ufs_primary.specs.declared.turn.PrimaryTurn.TheVariants as did
use Rattle.ufs_primary.specs.OfServing.{AnswersGo, IsFullFor, IsSaid, Said}
use Rattle.ufs_primary.specs.OfServing.{AllWent, AreLeft, GoInOrder}
use Rattle.ufs_worker.specs.Turns as worker
use Rattle.ufs_worker.specs.Worker.{WorkerState}
use Rattle.ufs_worker.specs.declared.turn.WorkerTurn.{WorkerTurn}
use Rattle.ufs_rounds.specs.Rings.{Answers, Asks, Gets, HasNoAnswer, HasNoLetter, HasNoRequest, Hears, IsAnswerFull, IsAskFull, IsLetterFull, IsQuiet, Reads, Rings, Sends}
use Rattle.ufs_rounds.specs.Turns.{GoesOnAt, IsCallerTurn, IsFirstTurn, IsServerTurn}

-- ---- in order

module _ {A P R : Type 0} (f : P → R) (sends : R → A → R → Type 0) (same : R → R → Type 0) (full : R → A → Type 0) where
  all_went : (xs : List A) (p q : P) → AllWent (λ r x s. sends (f r) x (f s)) (λ r s. same (f r) (f s)) (λ r x. full (f r) x) xs p q → AllWent sends same full xs (f p) (f q)
  all_went [] p q went = ap f went
  all_went (x ∷ xs) p q went = (f went.0, went.1, all_went xs went.0 q went.2)

  are_left : (xs : List A) (p q : P) → AreLeft (λ r x s. sends (f r) x (f s)) (λ r s. same (f r) (f s)) (λ r x. full (f r) x) xs p q → AreLeft sends same full xs (f p) (f q)
  are_left [] p q left = ap f left
  are_left (x ∷ xs) p q left = left

  pub go_in_order : (old new : List A) (p q : P) → GoInOrder (λ r x s. sends (f r) x (f s)) (λ r s. same (f r) (f s)) (λ r x. full (f r) x) old new p q → GoInOrder sends same full old new (f p) (f q)
  go_in_order old new p q go = record {
    gone = go.gone;
    mid = f go.mid;
    parted = go.parted;
    went = all_went go.gone p go.mid go.went;
    left = are_left new go.mid q go.left;
  }

module _ {N P : Type 0} (f : P → Rings N) where
  -- ---- a client

  pub client_turn : (since upto : ℕ) (p q : P) (o : Turn) (a b : Caller)
      → caller.IsTurn (λ r to x s. Asks (f r) to x (f s)) (λ r x s. Hears (f r) x (f s)) (λ r s. IsQuiet (f r) (f s)) (λ r to. IsAskFull (f r) to) (λ r. HasNoAnswer (f r)) since upto p q a o b
      → IsCallerTurn since upto (f p) (f q) o a b
  client_turn since upto p q (turn.Sent to) a b h = h
  client_turn since upto p q (turn.Resent to) a b (inl h) = inl (h.0, h.1, f h.2, h.3, h.4, h.5, h.6)
  client_turn since upto p q (turn.Resent to) a b (inr h) = inr h
  client_turn since upto p q turn.Local a b h = (h.0, ap f h.1)
  client_turn since upto p q turn.Told a b h = h
  client_turn since upto p q (turn.Full to) a b (inl h) = inl h
  client_turn since upto p q (turn.Full to) a b (inr (inl h)) = inr (inl (h.0, h.1, f h.2, h.3, h.4, h.5, h.6))
  client_turn since upto p q (turn.Full to) a b (inr (inr h)) = inr (inr h)
  client_turn since upto p q turn.Waiting a b h = h
  client_turn since upto p q turn.Done a b h = (h.0, ap f h.1)

  pub client_goes : (since upto : ℕ) (p q : P) (o : Turn) (old new : List Caller) (place number : ℕ) → place ≡ number
      → GoesOnAt (λ a b. caller.IsTurn (λ r to x s. Asks (f r) to x (f s)) (λ r x s. Hears (f r) x (f s)) (λ r s. IsQuiet (f r) (f s)) (λ r to. IsAskFull (f r) to) (λ r. HasNoAnswer (f r)) since upto p q a o b) old place new
      → GoesOnAt (IsCallerTurn since upto (f p) (f q) o) old number new
  client_goes since upto p q o old new place number is h = record {
    was = h.was;
    is = h.is;
    stood = ap (slice_get old) (sym is) ∙ h.stood;
    stands = h.stands ∙ ap (λ (i : ℕ). set old i h.is) is;
    goes = client_turn since upto p q o h.was h.is h.goes;
  }

  -- ---- a worker

  -- the words of the post
  abbrev sends_w : P → FileCell → P → Type 0
  sends_w r c s = Sends (f r) actor.Primary (letter.Parcel c) (f s)

  abbrev full_w : P → FileCell → Type 0
  full_w r c = IsLetterFull (f r) actor.Primary

  abbrev sends_p : ℕ → P → Mailed → P → Type 0
  sends_p w r m s = Sends (f r) (actor.Worker w) (letter_of m) (f s)

  abbrev full_p : P → ℕ → Type 0
  full_p r w = IsLetterFull (f r) (actor.Worker w)

  abbrev answers_s : P → ℕ → Answer N → P → Type 0
  answers_s r to x s = Answers (f r) to x (f s)

  abbrev full_s : P → ℕ → Type 0
  full_s r to = IsAnswerFull (f r) to

  abbrev same_s : P → P → Type 0
  same_s r s = IsQuiet (f r) (f s)

  abbrev reads_s : P → Letter FileCell → P → Type 0
  reads_s r x s = Reads (f r) x (f s)

  abbrev none_read : P → Type 0
  none_read r = HasNoLetter (f r)

  abbrev gets_s : P → Asked → P → Type 0
  gets_s r x s = Gets (f r) x (f s)

  abbrev none_got : P → Type 0
  none_got r = HasNoRequest (f r)

  sent_w : (old new : List FileCell) (p q : P) → GoInOrder sends_w same_s full_w old new p q → GoInOrder (λ r c s. Sends r actor.Primary (letter.Parcel c) s) IsQuiet (λ r c. IsLetterFull r actor.Primary) old new (f p) (f q)
  sent_w old new p q go = go_in_order f (λ r c s. Sends r actor.Primary (letter.Parcel c) s) IsQuiet (λ r c. IsLetterFull r actor.Primary) old new p q go

  answered : (old new : List Said) (p q : P) → AnswersGo answers_s same_s full_s old new p q → AnswersGo Answers IsQuiet IsAnswerFull old new (f p) (f q)
  answered old new p q go = go_in_order f (IsSaid Answers IsQuiet IsAnswerFull) IsQuiet (IsFullFor Answers IsQuiet IsAnswerFull) old new p q go

  obeyed : (o : Option FileCell) (w v : WorkerState) (file : ℕ) (p q : P) (t : Option WorkerTurn) → worker.IsObeyed sends_w same_s full_w o w v file p q t
      → worker.IsObeyed (λ r c s. Sends r actor.Primary (letter.Parcel c) s) IsQuiet (λ r c. IsLetterFull r actor.Primary) o w v file (f p) (f q) t
  obeyed None w v file p q t h = (h.0, h.1, ap f h.2)
  obeyed (Some c) w v file p q t h = (h.0, h.1, sent_w (w.letters ++ c ∷ []) v.letters p q h.2)

  letter_done : (w v : WorkerState) (l : Letter FileCell) (p q : P) (t : Option WorkerTurn) → worker.IsLetterDone sends_w same_s full_w w v l p q t
      → worker.IsLetterDone (λ r c s. Sends r actor.Primary (letter.Parcel c) s) IsQuiet (λ r c. IsLetterFull r actor.Primary) w v l (f p) (f q) t
  letter_done w v (letter.Parcel c) p q t h = (h.0, ap f h.1)
  letter_done w v (letter.Recall file) p q t h = obeyed (fin.get w.files file) w v file p q t h
  letter_done w v (letter.Report loads) p q t h = (h.0, h.1, ap f h.2)

  worker_front : (o : Option FileCell) (w v : WorkerState) (p q : P) (t : Option WorkerTurn) → worker.IsFrontDone sends_w same_s full_w reads_s none_read o w v p q t
      → worker.IsFrontDone (λ r c s. Sends r actor.Primary (letter.Parcel c) s) IsQuiet (λ r c. IsLetterFull r actor.Primary) Reads HasNoLetter o w v (f p) (f q) t
  worker_front (Some c) w v p q t h = (h.0, ap f h.1)
  worker_front None w v p q t (inl h) = inl h
  worker_front None w v p q t (inr h) = inr (h.0, f h.1, h.2, letter_done w v h.0 h.1 q t h.3)

  worker_request : (visible : Bool) (before after : Option View) (since upto : ℕ) (o : Option FileCell) (w v : WorkerState) (r : Asked) (file : ℕ) (p q : P) (t : WorkerTurn)
      → worker.IsRequestDone answers_s same_s full_s visible before after since upto o w v r file p q t → worker.IsRequestDone Answers IsQuiet IsAnswerFull visible before after since upto o w v r file (f p) (f q) t
  worker_request visible before after since upto None w v r file p q t h = (h.0, h.1, answered _ v.answers p q h.2)
  worker_request visible before after since upto (Some c) w v r file p q t h = (h.0, (h.1.0, h.1.1, h.1.2, h.1.3, h.1.4, answered _ v.answers p q h.1.5))

  worker_asked : (visible : Bool) (before after : Option View) (since upto : ℕ) (w v : WorkerState) (p q : P) (t : WorkerTurn)
      → worker.IsAskDone answers_s same_s full_s gets_s none_got visible before after since upto w v p q t → worker.IsAskDone Answers IsQuiet IsAnswerFull Gets HasNoRequest visible before after since upto w v (f p) (f q) t
  worker_asked visible before after since upto w v p q t (inl h) = inl (h.0, h.1, f h.2, h.3, h.4, worker_request visible before after since upto (fin.get w.files h.1) w v h.0 h.1 h.2 q t h.5)
  worker_asked visible before after since upto w v p q t (inr (inl h)) = inr (inl h)
  worker_asked visible before after since upto w v p q t (inr (inr h)) = inr (inr (h.0, h.1, h.2, ap f h.3))

  worker_then : (visible : Bool) (before after : Option View) (since upto : ℕ) (made : Option WorkerTurn) (o : WorkerTurn) (w v : WorkerState) (p q : P)
      → worker.IsThen made o w v p q (worker.IsAskDone answers_s same_s full_s gets_s none_got visible before after since upto w v p q o)
      → worker.IsThen made o w v (f p) (f q) (worker.IsAskDone Answers IsQuiet IsAnswerFull Gets HasNoRequest visible before after since upto w v (f p) (f q) o)
  worker_then visible before after since upto (Some made) o w v p q h = (h.0, h.1, ap f h.2)
  worker_then visible before after since upto None o w v p q h = worker_asked visible before after since upto w v p q o h

  pub worker_turn : (visible : Bool) (before after : Option View) (since upto : ℕ) (w v : WorkerState) (p q : P) (o : WorkerTurn)
      → worker.IsTurn sends_w full_w answers_s full_s same_s reads_s none_read gets_s none_got visible before after since upto w v p q o → IsServerTurn visible before after since upto (f p) (f q) o w v
  worker_turn visible before after since upto w v p q o h = record {
    sent = h.sent;
    sent_by = f h.sent_by;
    kept = record { mid = f h.kept.mid; letters = sent_w w.letters h.sent.letters p h.kept.mid h.kept.letters; answer = answered w.answers h.sent.answers h.kept.mid h.sent_by h.kept.answer; rest = h.kept.rest };
    lettered = h.lettered;
    lettered_by = f h.lettered_by;
    made = h.made;
    letter = worker_front h.sent.coming h.sent h.lettered h.sent_by h.lettered_by h.made h.letter;
    work = worker_then visible before after since upto h.made o h.lettered v h.lettered_by q h.work;
  }

  pub worker_goes : (visible : Bool) (before after : Option View) (since upto : ℕ) (p q : P) (o : WorkerTurn) (old new : List WorkerState) (place : ℕ)
      → GoesOnAt (λ w v. worker.IsTurn sends_w full_w answers_s full_s same_s reads_s none_read gets_s none_got visible before after since upto w v p q o) old place new
      → GoesOnAt (IsServerTurn visible before after since upto (f p) (f q) o) old place new
  worker_goes visible before after since upto p q o old new place h = record { was = h.was; is = h.is; stood = h.stood; stands = h.stands; goes = worker_turn visible before after since upto h.was h.is p q o h.goes }

  -- ---- the primary

  letters_go : (worker : ℕ) (old new : List Mailed) (owners then : Files) (p q : P) → LettersGo (sends_p worker) same_s (λ r. full_p r worker) old new owners then p q
      → LettersGo (λ r m s. Sends r (actor.Worker worker) (letter_of m) s) IsQuiet (λ r. IsLetterFull r (actor.Worker worker)) old new owners then (f p) (f q)
  unfolding go_in_order
  letters_go worker old new owners then p q h = record {
    go = go_in_order f (λ r m s. Sends r (actor.Worker worker) (letter_of m) s) IsQuiet (λ r m. IsLetterFull r (actor.Worker worker)) old new p q h.go;
    owned = h.owned;
  }

  rings_go : (n : ℕ) (old new : Boxes) (owners then : Files) (p q : P) → RingsGo sends_p same_s full_p n old new owners then p q
      → RingsGo (λ w r m s. Sends r (actor.Worker w) (letter_of m) s) IsQuiet (λ r w. IsLetterFull r (actor.Worker w)) n old new owners then (f p) (f q)
  rings_go zero old new owners then p q h = (h.0, h.1, ap f h.2)
  rings_go (suc n) old new owners then p q h = (
    h.0,
    h.1,
    f h.2,
    rings_go n old h.0 owners h.1 p h.2 h.3,
    record {
      was = h.4.was;
      is = h.4.is;
      stood = h.4.stood;
      stands = h.4.stands;
      go = letters_go (suc n) h.4.was h.4.is h.1 then h.2 q h.4.go;
    },
  )

  primary_front : (o : Option FileCell) (h g : HomeState) (waits : Option FileCell) (p q : P) (t : Option PrimaryTurn) → front.IsFrontDone same_s reads_s none_read o h g waits p q t
      → front.IsFrontDone IsQuiet Reads HasNoLetter o h g waits (f p) (f q) t
  primary_front (Some c) h g waits p q t is = (is.0, ap f is.1)
  primary_front None h g waits p q t is = is

  primary_request : (visible : Bool) (before after : Option View) (since upto : ℕ) (s t : PrimaryState) (r : Asked) (p q : P) (o : PrimaryTurn) → primary.IsRequestDone answers_s same_s full_s visible before after since upto s t r p q o
      → primary.IsRequestDone Answers IsQuiet IsAnswerFull visible before after since upto s t r (f p) (f q) o
  primary_request visible before after since upto s t r p q did.Served h = record { told = h.told; served = h.served; drawn = h.drawn; answer = answered _ t.answers p q h.answer; rest = h.rest }
  primary_request visible before after since upto s t r p q (did.Redirected file) h = record {
    kind = h.kind;
    hinted = h.hinted;
    away = h.away;
    worker = h.worker;
    has = h.has;
    asked = h.asked;
    still = h.still;
    answer = answered _ t.answers p q h.answer;
    rest = h.rest;
  }
  primary_request visible before after since upto s t r p q (did.Waiting file) h = record { cause = h.cause; asked = h.asked; still = h.still; put = h.put; nothing = ap f h.nothing; rest = h.rest }
  primary_request visible before after since upto s t r p q did.Settled h = absurd h
  primary_request visible before after since upto s t r p q did.Noted h = absurd h
  primary_request visible before after since upto s t r p q did.Idle h = absurd h
  primary_request visible before after since upto s t r p q (did.Lack what) h = absurd h

  primary_worked : (visible : Bool) (before after : Option View) (since upto : ℕ) (clients : ℕ) (s t : PrimaryState) (p q : P) (o : PrimaryTurn) → primary.IsWorkDone answers_s same_s full_s visible before after since upto clients gets_s none_got s t p q o
      → primary.IsWorkDone Answers IsQuiet IsAnswerFull visible before after since upto clients Gets HasNoRequest s t (f p) (f q) o
  primary_worked visible before after since upto clients s t p q o (inl h) =
      inl (record { request = h.request; left = h.left; then = h.then; taken = h.taken; done = primary_request visible before after since upto (record s { stock = h.then; waiting = h.left }) t h.request p q o h.done })
  primary_worked visible before after since upto clients s t p q o (inr (inl h)) =
      inr (inl (record { wait = h.wait; request = h.request; mid = f h.mid; came = h.came; done = primary_request visible before after since upto s t h.request h.mid q o h.done }))
  primary_worked visible before after since upto clients s t p q o (inr (inr (inl h))) = inr (inr (inl (record { wait = h.wait; empty = h.empty; nothing = h.nothing; says = h.says; rest = h.rest })))
  primary_worked visible before after since upto clients s t p q o (inr (inr (inr h))) = inr (inr (inr (record { many = h.many; nothing = ap f h.nothing; says = h.says; rest = h.rest })))

  primary_then : (visible : Bool) (before after : Option View) (since upto : ℕ) (clients : ℕ) (made : Option PrimaryTurn) (o : PrimaryTurn) (s t : PrimaryState) (p q : P)
      → primary.IsThen made o s t p q (primary.IsWorkDone answers_s same_s full_s visible before after since upto clients gets_s none_got s t p q o)
      → primary.IsThen made o s t (f p) (f q) (primary.IsWorkDone Answers IsQuiet IsAnswerFull visible before after since upto clients Gets HasNoRequest s t (f p) (f q) o)
  primary_then visible before after since upto clients (Some made) o s t p q h = (h.0, h.1, ap f h.2)
  primary_then visible before after since upto clients None o s t p q h = primary_worked visible before after since upto clients s t p q o h

  pub primary_turn : (k : Start) (before after : Option View) (since upto : ℕ) (s t : PrimaryState) (p q : P) (o : PrimaryTurn)
      → primary.IsTurn sends_p full_p answers_s full_s same_s (worker_count k) (client_count k) reads_s none_read gets_s none_got k.is_visible before after since upto s t p q o → IsFirstTurn k before after since upto (f p) (f q) o s t
  primary_turn k before after since upto s t p q o h = record {
    sent = h.sent;
    sent_by = f h.sent_by;
    kept = record {
      mid = f h.kept.mid;
      letters = rings_go (worker_count k) s.stock.home.letters h.sent.stock.home.letters s.stock.home.owners h.sent.stock.home.owners p h.kept.mid h.kept.letters;
      home = h.kept.home;
      answer = answered s.answers h.sent.answers h.kept.mid h.sent_by h.kept.answer;
      rest = h.kept.rest;
    };
    lettered = h.lettered;
    lettered_by = f h.lettered_by;
    made = h.made;
    letter = record { front = primary_front h.sent.coming h.sent.stock.home h.lettered.stock.home h.lettered.coming h.sent_by h.lettered_by h.made h.letter.front; rest = h.letter.rest };
    work = primary_then k.is_visible before after since upto (client_count k) h.made o h.lettered t h.lettered_by q h.work;
  }
