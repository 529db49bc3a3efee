-- One turn of a worker.
use Rattle.std.specs.Prelude.{ℕ, ◌≡◌, ◌⊎◌, ◌++◌, [], ◌∷◌, Bool, IsSome, Option, Some, None}
use Rattle.std.proofs.Common.{inl, inr}
use Rattle.std.specs.FinMap as fin
use Rattle.ufs_base.specs.declared.memory.Memory.{Memory}
use Rattle.ufs_baton.specs.Baton.{IsDrawnWith}
use Rattle.ufs_model.specs.Asks.{file_in}
use Rattle.ufs_model.specs.declared.data.Actor.TheVariants as actor
use Rattle.ufs_joint.specs.Cells.{FileCell, View}
use Rattle.ufs_msg.specs.Answers.{Told}
use Rattle.ufs_msg.specs.Requests.{Asked}
use Rattle.ufs_msg.specs.declared.answer.Answer.{Answer}
use Rattle.ufs_msg.specs.declared.letter.Letter.{Letter}
use Rattle.ufs_msg.specs.declared.letter.Letter.TheVariants.{Parcel, Recall, Report}
use Rattle.ufs_serving.specs.Posts.{AnswersGo}
use Rattle.ufs_serving.specs.Sending.{GoInOrder}
use Rattle.ufs_serving.specs.Serving.{IsServedBy}
use Rattle.ufs_worker.specs.Worker.{WorkerState}
use Rattle.ufs_worker.specs.declared.turn.WorkerTurn.{WorkerTurn}
use Rattle.ufs_worker.specs.declared.turn.WorkerTurn.TheVariants as turn

-- ---- a letter

-- The file is the worker's, or there was no room for it, and it waits; as it would while another of its number is held.
abbrev pub IsTaken : WorkerState → WorkerState → FileCell → Option WorkerTurn → Type 0
IsTaken w v c (Some turn.Took) = (fin.get w.files c.value.file.file ≡ None) × (v ≡ record w { files = fin.insert w.files c.value.file.file c; coming = None })
IsTaken w v c (Some (turn.Memory memory)) = v ≡ record w { coming = Some c }
IsTaken w v c None = IsSome (fin.get w.files c.value.file.file) × (v ≡ record w { coming = Some c })
IsTaken w v c _ = ⊥

module _ {Q : Type 0} (sends : Q → FileCell → Q → Type 0) (same : Q → Q → Type 0) (full : Q → FileCell → Type 0) where
  -- The primary wants this file back: it goes behind those that are on their way. One that isn't here can't.
  abbrev pub IsObeyed : Option FileCell → WorkerState → WorkerState → ℕ → Q → Q → Option WorkerTurn → Type 0
  IsObeyed None w v file p q o = (o ≡ None) × (v ≡ w) × (q ≡ p)
  IsObeyed (Some c) w v file p q o = (o ≡ Some turn.Gave) × (v ≡ record w { files = fin.remove w.files file; letters = v.letters }) × GoInOrder sends same full (w.letters ++ c ∷ []) v.letters p q

  abbrev pub IsLetterDone : WorkerState → WorkerState → Letter FileCell → Q → Q → Option WorkerTurn → Type 0
  IsLetterDone w v (Parcel c) p q o = IsTaken w v c o × (q ≡ p)
  IsLetterDone w v (Recall file) p q o = IsObeyed (fin.get w.files file) w v file p q o
  IsLetterDone w v (Report loads) p q o = (o ≡ None) × (v ≡ w) × (q ≡ p)

  module _ (gets : Q → Letter FileCell → Q → Type 0) (none : Q → Type 0) where
    -- the front letter of the ring is done
    abbrev pub IsNextDone : WorkerState → WorkerState → Q → Q → Option WorkerTurn → Type 0
    IsNextDone w v p q o = (same p q × none p × (o ≡ None) × (v ≡ w)) ⊎ ((l : Letter FileCell) × (r : Q) × gets p l r × IsLetterDone w v l r q o)

    -- A file that waits for room comes first.
    abbrev pub IsFrontDone : Option FileCell → WorkerState → WorkerState → Q → Q → Option WorkerTurn → Type 0
    IsFrontDone (Some c) w v p q o = IsTaken w v c o × (q ≡ p)
    IsFrontDone None w v p q o = IsNextDone w v p q o

-- ---- a request

module _ {N Q : Type 0} (answers : Q → ℕ → Answer N → Q → Type 0) (same : Q → Q → Type 0) (full : Q → ℕ → Type 0) where
  -- A request on a file that isn't here is to go to the primary, as it is; one on a file that is, is served, and its entry drawn with the
  -- baton. Its answer goes behind those that are kept.
  abbrev pub IsRequestDone : (visible : Bool) (before after : Option View) (since upto : ℕ) → Option FileCell → WorkerState → WorkerState → Asked → ℕ → Q → Q → WorkerTurn → Type 0
  IsRequestDone visible before after since upto None w v r file p q o =
      (o ≡ turn.Redirected file) × (v ≡ record w { answers = v.answers }) × AnswersGo answers same full (w.answers ++ inr (record { request = r; to = actor.Primary }) ∷ []) v.answers p q
  IsRequestDone visible before after since upto (Some c) w v r file p q o =
      (o ≡ turn.Served) × ((d : FileCell) × (told : Told) × IsServedBy visible before after (actor.Worker w.number) c d w.pool v.pool r.ask told × IsDrawnWith since upto told.entry
      × (v ≡ record w { files = fin.insert w.files file d; pool = v.pool; answers = v.answers }) × AnswersGo answers same full (w.answers ++ inl told ∷ []) v.answers p q)

  module _ (gets : Q → Asked → Q → Type 0) (none : Q → Type 0) where
    -- The front request of the ring is done, or there is none, or memory for its answer is wanting.
    abbrev pub IsAskDone : (visible : Bool) (before after : Option View) (since upto : ℕ) → WorkerState → WorkerState → Q → Q → WorkerTurn → Type 0
    IsAskDone visible before after since upto w v p q o = ((r : Asked) × (file : ℕ) × (m : Q) × gets p r m × (file_in r.ask.desc ≡ Some file) × IsRequestDone visible before after since upto (fin.get w.files file) w v r file m q o)
        ⊎ ((same p q × none p × (o ≡ turn.Idle) × (v ≡ w)) ⊎ ((memory : Memory) × (o ≡ turn.Memory memory) × (v ≡ w) × (q ≡ p)))

-- ---- the turn

-- Behind a letter that made the turn nothing is done; else a request is.
abbrev pub IsThen : {Q : Type 0} → Option WorkerTurn → WorkerTurn → WorkerState → WorkerState → Q → Q → Type 0 → Type 0
IsThen (Some made) o w v p q work = (o ≡ made) × (v ≡ w) × (q ≡ p)
IsThen None o w v p q work = work

module _ {N Q : Type 0} (sends : Q → FileCell → Q → Type 0) (letters_full : Q → FileCell → Type 0) (answers : Q → ℕ → Answer N → Q → Type 0) (answers_full : Q → ℕ → Type 0) (same : Q → Q → Type 0) where
  -- What is kept goes, as far as there is room: the letters in order, then the answers.
  pub record KeptGoes (w v : WorkerState) (p q : Q) : Type 0 where
    pub mid : Q
    pub letters : GoInOrder sends same letters_full w.letters v.letters p mid
    pub answer : AnswersGo answers same answers_full w.answers v.answers mid q
    pub rest : v ≡ record w { letters = v.letters; answers = v.answers }

  module _ (gets_letter : Q → Letter FileCell → Q → Type 0) (no_letter : Q → Type 0) (gets_ask : Q → Asked → Q → Type 0) (no_ask : Q → Type 0) (visible : Bool) (before after : Option View) (since upto : ℕ) where
    -- Then the front letter is done; and where that made no turn, the front request.
    pub record IsTurn (w v : WorkerState) (p q : Q) (o : WorkerTurn) : Type 0 where
      pub sent : WorkerState
      pub sent_by : Q
      pub kept : KeptGoes w sent p sent_by
      pub lettered : WorkerState
      pub lettered_by : Q
      pub made : Option WorkerTurn
      pub letter : IsFrontDone sends same letters_full gets_letter no_letter sent.coming sent lettered sent_by lettered_by made
      pub work : IsThen made o lettered v lettered_by q (IsAskDone answers same answers_full gets_ask no_ask visible before after since upto lettered v lettered_by q o)
