-- What goes through the rings of a session whose primary alone serves.
use Rattle.std.proofs.Common.{◌≡◌, ◌⊎◌, inl, inr, ⊎_elim, ℕ, zero, suc, ◌+◌, ◌≤◌, Bool, true, false, eqb, eqb-true, length, set, slice_get, List, [], ◌∷◌, ◌++◌, None, Some, refl, ap, sym, ◌∙◌, subst, arith}
use Rattle.circular_buffer.specs.Buffer.{Buffer}
use Rattle.ufs_hand_laws.proofs.Keys.{itself}
use Rattle.ufs_hand_laws.specs.Owned.{Has, one, weigh}
use Rattle.ufs_model.specs.declared.data.Actor.{Actor}
use Rattle.ufs_model.specs.declared.data.Actor.TheVariants as actor
use Rattle.ufs_joint.specs.Cells.{Start}
use Rattle.ufs_msg.proofs.Places.{get_set}
use Rattle.ufs_msg.specs.Requests.{Asked}
use Rattle.ufs_msg.specs.Rows.{HappensAt}
use Rattle.ufs_msg.specs.There.{IsServerThere, worker_count}
use Rattle.ufs_msg.specs.declared.answer.Answer.{Answer}
use Rattle.ufs_ring.specs.Buffers.{HasGained, HasLost}
use Rattle.ufs_rounds.specs.Alone.{asked_by}
use Rattle.ufs_rounds.specs.Rings.{IsQuiet, Rings}
use Rattle.ufs_rounds.proofs.Asking.{set_there}
use Rattle.ufs_rounds.proofs.Together.{length_push}

-- ---- with no worker

pub only_primary : (k : Start) → worker_count k ≡ 0 → (who : Actor) → IsServerThere k who → who ≡ actor.Primary
only_primary k none actor.Primary is = refl
only_primary k none (actor.Worker worker) is = (let low = is.0 in let high = is.1 in absurd (omega (arith, low, high, none)))
only_primary k none (actor.Client client) is = absurd is

-- ---- lists

pub nothing_at : {A : Type 0} {X : Type 0} (xs : List A) (i : ℕ) (x : A) → xs ≡ [] → slice_get xs i ≡ Some x → X
nothing_at [] i x none at = absurd (clash at)
  where
    clash : None ≡ Some x → ⊥
    clash e = cc
nothing_at (y ∷ ys) i x none at = absurd (clash none)
  where
    clash : y ∷ ys ≡ [] → ⊥
    clash e = cc

pub none_joined : {A : Type 0} (xs ys : List A) → xs ++ ys ≡ [] → (xs ≡ []) × (ys ≡ [])
none_joined [] ys e = (refl, e)
none_joined (x ∷ xs) ys e = absurd (clash e)
  where
    clash : x ∷ (xs ++ ys) ≡ [] → ⊥
    clash f = cc

pub one_joined : {A : Type 0} (x : A) (xs ys : List A) → x ∷ [] ≡ xs ++ ys → ((xs ≡ []) × (ys ≡ x ∷ [])) ⊎ ((xs ≡ x ∷ []) × (ys ≡ []))
one_joined x [] ys e = inl (refl, sym e)
one_joined x (y ∷ xs) ys e = inr (both (none_joined xs ys (sym tail)))
  where
    head : x ≡ y
    head = cc

    tail : [] ≡ xs ++ ys
    tail = cc

    both : (xs ≡ []) × (ys ≡ []) → (y ∷ xs ≡ x ∷ []) × (ys ≡ [])
    both n = (λ i. sym head i ∷ n.0 i, n.1)

pub weigh_set : {A : Type 0} (m : A → ℕ) (xs : List A) (i : ℕ) (was is : A) → slice_get xs i ≡ Some was → weigh m (set xs i is) + m was ≡ weigh m xs + m is
weigh_set m [] i was is at = nothing_at [] i was refl at
weigh_set m (x ∷ xs) zero was is at =
    let same : x ≡ was = (let e = at in cc) in
    let e = ap m same in
    omega (arith, e)
weigh_set m (x ∷ xs) (suc i) was is at = let rest = weigh_set m xs i was is at in omega (arith, rest)

pub weigh_most : {A : Type 0} (m : A → ℕ) (xs : List A) → ((i : ℕ) (x : A) → slice_get xs i ≡ Some x → m x ≤ 1) → weigh m xs ≤ length xs
weigh_most m [] low = omega arith
weigh_most m (x ∷ xs) low =
    let first = low zero x refl in
    let rest = weigh_most m xs (λ i y at. low (suc i) y at) in
    omega (arith, first, rest)

pub length_at : {A : Type 0} (xs : List A) (i : ℕ) (x : A) → length (set xs i x) ≡ length xs
length_at [] i x = refl
length_at (y ∷ xs) zero x = refl
length_at (y ∷ xs) (suc i) x = ap suc (length_at xs i x)

pub set_else : {A : Type 0} (xs : List A) (i j : ℕ) (w : A) → (j ≡ i → ⊥) → slice_get (set xs i w) j ≡ slice_get xs j
set_else [] i j w not = refl
set_else (x ∷ xs) zero zero w not = absurd (not refl)
set_else (x ∷ xs) zero (suc j) w not = refl
set_else (x ∷ xs) (suc i) zero w not = refl
set_else (x ∷ xs) (suc i) (suc j) w not = set_else xs i j w (λ e. not (ap suc e))

pub some_one : {A : Type 0} (x y : A) → Some x ≡ Some y → x ≡ y
some_one x y e = cc

-- ---- requests of clients

pub other : (a b : ℕ) → (a ≡ b → ⊥) → eqb a b ≡ false
other a b not = by (eqb a b) refl
  where
    by : (x : Bool) → eqb a b ≡ x → x ≡ false
    by true e = absurd (not (eqb-true a b e))
    by false e = refl

pub own_one : (client : ℕ) (r : Asked) → r.ask.client ≡ client → one (eqb client r.ask.client) ≡ 1
own_one client r is = ap (λ (n : ℕ). one (eqb client n)) is ∙ ap one (itself client)

pub other_none : (client : ℕ) (r : Asked) → (client ≡ r.ask.client → ⊥) → one (eqb client r.ask.client) ≡ 0
other_none client r not = ap one (other client r.ask.client not)

asked_push : (client : ℕ) (rs : List Asked) (r : Asked) → asked_by client (rs ++ r ∷ []) ≡ asked_by client rs + one (eqb client r.ask.client)
asked_push client [] r = omega arith
asked_push client (q ∷ rs) r = let rest = asked_push client rs r in omega (arith, rest)

-- ---- how the rings go on

abbrev pub held : {N : Type 0} → Buffer (Answer N) → ℕ
held ring = length ring.items

module _ {N : Type 0} where
  -- the same stands in the rings
  pub record AreNear (p q : Rings N) : Type 0 where
    pub letters : q.letters.primary ≡ p.letters.primary
    pub requests : q.requests.primary ≡ p.requests.primary
    pub workers : q.requests.workers.items ≡ p.requests.workers.items
    pub answers : q.answers ≡ p.answers

  pub near_then : (p q r : Rings N) → AreNear p q → AreNear q r → AreNear p r
  near_then p q r a b = record { letters = b.letters ∙ a.letters; requests = b.requests ∙ a.requests; workers = b.workers ∙ a.workers; answers = b.answers ∙ a.answers }

  pub near_quiet : (p q : Rings N) → IsQuiet p q → AreNear p q
  near_quiet p q h = record { letters = h.2.primary; requests = h.1.primary; workers = h.1.workers; answers = h.0 }

  pub near_same : (p q : Rings N) → q ≡ p → AreNear p q
  near_same p q e = record { letters = λ i. (e i).letters.primary; requests = λ i. (e i).requests.primary; workers = λ i. (e i).requests.workers.items; answers = λ i. (e i).answers }

  -- The client's request came into the primary's ring, or an answer came out of the client's; so many of both.
  pub record GoOn (client asked heard : ℕ) (p q : Rings N) : Type 0 where
    pub letters : q.letters.primary.items ≡ p.letters.primary.items
    pub workers : q.requests.workers.items ≡ p.requests.workers.items
    pub capacity : q.requests.primary.capacity ≡ p.requests.primary.capacity
    pub fit : p.requests.primary.capacity ≡ 16 → length p.requests.primary.items ≤ 16 → length q.requests.primary.items ≤ 16
    pub asks_here : asked_by client q.requests.primary.items ≡ asked_by client p.requests.primary.items + asked
    pub asks_else : (other : ℕ) → (other ≡ client → ⊥) → asked_by other q.requests.primary.items ≡ asked_by other p.requests.primary.items
    pub many : length q.requests.primary.items ≡ length p.requests.primary.items + asked
    pub rings : length q.answers ≡ length p.answers
    pub was : (place : ℕ) (ring : Buffer (Answer N)) → slice_get q.answers place ≡ Some ring → (old : Buffer (Answer N)) × (slice_get p.answers place ≡ Some old) × (ring.capacity ≡ old.capacity) × ((x : Answer N) → Has x ring.items → Has x old.items)
    pub hears_here : (ring old : Buffer (Answer N)) → slice_get q.answers client ≡ Some ring → slice_get p.answers client ≡ Some old → length old.items ≡ length ring.items + heard
    pub hears_else : (other : ℕ) → (other ≡ client → ⊥) → slice_get q.answers other ≡ slice_get p.answers other
    pub sum : weigh held p.answers ≡ weigh held q.answers + heard

  module _ (client : ℕ) (p q : Rings N) (answers : q.answers ≡ p.answers) where
    was_same : (place : ℕ) (ring : Buffer (Answer N)) → slice_get q.answers place ≡ Some ring → (old : Buffer (Answer N)) × (slice_get p.answers place ≡ Some old) × (ring.capacity ≡ old.capacity) × ((x : Answer N) → Has x ring.items → Has x old.items)
    was_same place ring at = (ring, ap (λ (l : List (Buffer (Answer N))). slice_get l place) (sym answers) ∙ at, refl, λ x has. has)

    hears_same : (ring old : Buffer (Answer N)) → slice_get q.answers client ≡ Some ring → slice_get p.answers client ≡ Some old → length old.items ≡ length ring.items + 0
    hears_same ring old at there =
        let same = ap held (some_one old ring (sym there ∙ ap (λ (l : List (Buffer (Answer N))). slice_get l client) (sym answers) ∙ at)) in
        omega (arith, same)

    -- nothing came or went
    pub goes_still : AreNear p q → GoOn client 0 0 p q
    goes_still near =
        let letters = near.letters in
        let requests = near.requests in
        let long = ap (λ (b : Buffer Asked). length b.items) requests in
        let mine = ap (λ (b : Buffer Asked). asked_by client b.items) requests in
        let all = ap (weigh held) answers in
        record {
          letters = λ i. (letters i).items;
          workers = near.workers;
          capacity = λ i. (requests i).capacity;
          fit = λ room few. omega (arith, long, few);
          asks_here = omega (arith, mine);
          asks_else = λ c not i. asked_by c (requests i).items;
          many = omega (arith, long);
          rings = ap length answers;
          was = was_same;
          hears_here = hears_same;
          hears_else = λ c not. ap (λ (l : List (Buffer (Answer N))). slice_get l c) answers;
          sum = omega (arith, all);
        }

    -- the client's request came
    pub goes_asked : (r : Asked) → r.ask.client ≡ client → q.letters.primary ≡ p.letters.primary → q.requests.workers.items ≡ p.requests.workers.items → HasGained p.requests.primary r q.requests.primary → GoOn client 1 0 p q
    goes_asked r is letters workers gained =
        let now : q.requests.primary.items ≡ p.requests.primary.items ++ r ∷ [] = ap (λ (b : Buffer Asked). b.items) gained.1 in
        let long = ap length now ∙ length_push p.requests.primary.items r in
        let low = gained.0 in
        let here = ap (asked_by client) now ∙ asked_push client p.requests.primary.items r in
        let mine = own_one client r is in
        let all = ap (weigh held) answers in
        record {
          letters = λ i. (letters i).items;
          workers = workers;
          capacity = ap (λ (b : Buffer Asked). b.capacity) gained.1;
          fit = λ room few. omega (arith, low, room, long);
          asks_here = omega (arith, here, mine);
          asks_else = λ c not.
              let there = ap (asked_by c) now ∙ asked_push c p.requests.primary.items r in
              let none = other_none c r (λ same. not (same ∙ is)) in
              omega (arith, there, none);
          many = omega (arith, long);
          rings = ap length answers;
          was = was_same;
          hears_here = hears_same;
          hears_else = λ c not. ap (λ (l : List (Buffer (Answer N))). slice_get l c) answers;
          sum = omega (arith, all);
        }

  -- the client's answer was taken
  pub goes_heard : (client : ℕ) (p q : Rings N) (x : Answer N) → q.letters.primary ≡ p.letters.primary → q.requests.primary ≡ p.requests.primary → q.requests.workers.items ≡ p.requests.workers.items → HappensAt HasLost p.answers client x q.answers → GoOn client 0 1 p q
  goes_heard client p q x letters requests workers h =
      let long = ap (λ (b : Buffer Asked). length b.items) requests in
      let mine = ap (λ (b : Buffer Asked). asked_by client b.items) requests in
      let all = ap (weigh held) h.stands in
      let sum = weigh_set held p.answers client h.was h.is h.stood in
      let less = ap length h.so.0 in
      record {
        letters = λ i. (letters i).items;
        workers = workers;
        capacity = λ i. (requests i).capacity;
        fit = λ room few. omega (arith, long, few);
        asks_here = omega (arith, mine);
        asks_else = λ c not i. asked_by c (requests i).items;
        many = omega (arith, long);
        rings = ap length h.stands ∙ length_at p.answers client h.is;
        was = λ place ring at. ⊎_elim
            (λ (e : (place ≡ client) × (h.is ≡ ring)). (
              h.was,
              ap (slice_get p.answers) e.0 ∙ h.stood,
              (λ i. (sym e.1 i).capacity) ∙ h.so.1,
              λ y has. subst (Has y) (sym h.so.0) (inr (subst (λ (b : Buffer (Answer N)). Has y b.items) (sym e.1) has)),
            ))
            (λ (e : slice_get p.answers place ≡ Some ring). (ring, e, refl, λ y has. has))
            (get_set p.answers client place h.is ring (ap (λ (l : List (Buffer (Answer N))). slice_get l place) (sym h.stands) ∙ at));
        hears_here = λ ring old at there.
            let now = ap held (some_one ring h.is (sym at ∙ ap (λ (l : List (Buffer (Answer N))). slice_get l client) h.stands ∙ set_there p.answers client h.was h.is h.stood)) in
            let was = ap held (some_one old h.was (sym there ∙ h.stood)) in
            omega (arith, now, was, less);
        hears_else = λ c not. ap (λ (l : List (Buffer (Answer N))). slice_get l c) h.stands ∙ set_else p.answers client c h.is not;
        sum = omega (arith, all, sum, less);
      }
