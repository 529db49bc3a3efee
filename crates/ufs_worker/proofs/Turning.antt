-- What a turn leaves, put together.
use Rattle.std.proofs.Common.{◌≡◌, ℕ, ◌++◌, List, [], ◌∷◌, inl, inr, Bool, true, false, is_some, Option, Some, None, refl, ap, subst}
use Rattle.std.specs.FinMap as fin
use Rattle.ufs_baton.specs.Baton.{IsDrawnWith}
use Rattle.ufs_bitmap.specs.Blocks.{BlockSet}
use Rattle.ufs_joint.specs.Cells.{FileCell, View}
use Rattle.ufs_model.specs.declared.data.Actor.TheVariants as actor
use Rattle.ufs_msg.specs.Answers.{Told}
use Rattle.ufs_msg.specs.Requests.{Asked}
use Rattle.ufs_msg.specs.declared.answer.Answer.{Answer}
use Rattle.ufs_msg.specs.declared.letter.Letter.{Letter}
use Rattle.ufs_serving.specs.Posts.{AnswersGo, Said}
use Rattle.ufs_serving.specs.Sending.{GoInOrder}
use Rattle.ufs_serving.specs.Serving.{IsServedBy}
use Rattle.ufs_worker.specs.Turns.{IsFrontDone, IsNextDone, IsObeyed, IsRequestDone, IsTaken, KeptGoes}
use Rattle.ufs_worker.specs.Worker.{ShelfState, WorkerState, worker_of}
use Rattle.ufs_worker.specs.declared.turn.WorkerTurn.{WorkerTurn}
use Rattle.ufs_worker.specs.declared.turn.WorkerTurn.TheVariants as turn

-- the file that waited for room is the one that is taken
pub taken_front : (w v : WorkerState) (c : FileCell) (x : Option WorkerTurn) → IsTaken (record w { coming = None }) v c x → IsTaken w v c x
taken_front w v c None is = is
taken_front w v c (Some turn.Took) is = is
taken_front w v c (Some (turn.Memory memory)) is = is
taken_front w v c (Some turn.Gave) is = is
taken_front w v c (Some (turn.Redirected file)) is = is
taken_front w v c (Some turn.Served) is = is
taken_front w v c (Some turn.Idle) is = is

pub none_is : {A : Type 0} (o : Option A) → is_some o ≡ false → o ≡ None
none_is None is = refl
none_is (Some x) is = absurd cc

module _ {N Q : Type 0} (sends : Q → FileCell → Q → Type 0) (letters_full : Q → FileCell → Type 0) (answers : Q → ℕ → Answer N → Q → Type 0) (answers_full : Q → ℕ → Type 0) (same : Q → Q → Type 0) where
  pub kept_goes : (number : ℕ) (shelf then : ShelfState) (coming : Option FileCell) (pool : BlockSet) (a b : List Said) (p m q : Q) → GoInOrder sends same letters_full shelf.letters then.letters p m → then ≡ record shelf { letters = then.letters }
      → AnswersGo answers same answers_full a b m q
      → KeptGoes sends letters_full answers answers_full same (worker_of number shelf coming pool a) (worker_of number then coming pool b) p q
  kept_goes number shelf then coming pool a b p m q letters files answer = record {
    mid = m;
    letters = letters;
    answer = answer;
    rest = ap (λ (s : ShelfState). worker_of number s coming pool b) files;
  }

module _ {Q : Type 0} (sends : Q → FileCell → Q → Type 0) (same : Q → Q → Type 0) (letters_full : Q → FileCell → Type 0) where
  pub not_here : (o : Option FileCell) (w : WorkerState) (file : ℕ) (p : Q) → is_some o ≡ false → IsObeyed sends same letters_full o w w file p p None
  not_here None w file p is = (refl, refl, refl)
  not_here (Some c) w file p is = absurd cc

  pub given_back : (o : Option FileCell) (w v : WorkerState) (file : ℕ) (p q : Q) → is_some o ≡ true → ((c : FileCell) → o ≡ Some c → v ≡ record w { files = fin.remove w.files file; letters = v.letters })
      → ((c : FileCell) → o ≡ Some c → GoInOrder sends same letters_full (w.letters ++ c ∷ []) v.letters p q) → IsObeyed sends same letters_full o w v file p q (Some turn.Gave)
  given_back None w v file p q is goes letters = absurd cc
  given_back (Some c) w v file p q is goes letters = (refl, goes c refl, letters c refl)

  module _ (gets_letter : Q → Letter FileCell → Q → Type 0) (no_letter : Q → Type 0) where
    -- the front letter, where a file waits for room and where none does
    pub front_is : (o : Option FileCell) (w v : WorkerState) (p : Q) (x : Option WorkerTurn) (c : FileCell) → o ≡ Some c → IsTaken w v c x → IsFrontDone sends same letters_full gets_letter no_letter o w v p p x
    front_is None w v p x c is taken = absurd cc
    front_is (Some d) w v p x c is taken = (subst (λ (e : FileCell). IsTaken w v e x) (one d c is) taken, refl)
      where
        one : (d c : FileCell) → Some d ≡ Some c → c ≡ d
        one d c is = cc

    pub next_is : (o : Option FileCell) (w v : WorkerState) (p q : Q) (x : Option WorkerTurn) → o ≡ None → IsNextDone sends same letters_full gets_letter no_letter w v p q x → IsFrontDone sends same letters_full gets_letter no_letter o w v p q x
    next_is None w v p q x is next = next
    next_is (Some c) w v p q x is next = absurd cc

module _ {N Q : Type 0} (answers : Q → ℕ → Answer N → Q → Type 0) (same : Q → Q → Type 0) (full : Q → ℕ → Type 0) (visible : Bool) (before after : Option View) (since upto : ℕ) where
  pub is_served : (o : Option FileCell) (number : ℕ) (shelf then : ShelfState) (coming : Option FileCell) (pool left : BlockSet) (old new : List Said) (r : Asked) (file : ℕ) (s : Said) (p q : Q) → is_some o ≡ true
      → ((c : FileCell) → o ≡ Some c → (d : FileCell) × (told : Told) × (s ≡ inl told) × IsServedBy visible before after (actor.Worker number) c d pool left r.ask told × IsDrawnWith since upto told.entry × (then ≡ record shelf { files = fin.insert shelf.files file d }))
      → AnswersGo answers same full (old ++ s ∷ []) new p q
      → IsRequestDone answers same full visible before after since upto o (worker_of number shelf coming pool old) (worker_of number then coming left new) r file p q turn.Served
  is_served None number shelf then coming pool left old new r file s p q is served goes = absurd cc
  is_served (Some c) number shelf then coming pool left old new r file s p q is served goes =
      let x = served c refl in
      (refl, (x.0, x.1, x.3, x.4, (λ i. worker_of number (x.5 i) coming left new), subst (λ (a : Said). AnswersGo answers same full (old ++ a ∷ []) new p q) x.2 goes))

  pub is_redirected : (o : Option FileCell) (number : ℕ) (shelf : ShelfState) (coming : Option FileCell) (pool : BlockSet) (old new : List Said) (r : Asked) (file : ℕ) (p q : Q) → is_some o ≡ false
      → AnswersGo answers same full (old ++ inr (record { request = r; to = actor.Primary }) ∷ []) new p q
      → IsRequestDone answers same full visible before after since upto o (worker_of number shelf coming pool old) (worker_of number shelf coming pool new) r file p q (turn.Redirected file)
  is_redirected None number shelf coming pool old new r file p q is goes = (refl, refl, goes)
  is_redirected (Some c) number shelf coming pool old new r file p q is goes = absurd cc
