-- A disk goes from moment to moment, of which each is explained by a few of the first entries of a history.
use Rattle.std.proofs.Common.{◌≡◌, ◌∙◌, ℕ, ◌+◌, ◌-◌, ◌≤◌, Bool, List, [], ◌∷◌, ◌++◌, length, take, drop, refl, sym, ap, subst, arith}
use Rattle.std.proofs.Math.Seq.{take-append_seam}
use Rattle.std.proofs.lemmas.List.{append-nil, append_assoc, length-append, length-take-le, take-append-drop}
use Rattle.ufs_disk.specs.Disk.{Leaves, State}
use Rattle.ufs_disk.specs.Moments.{Moments, all, gone_to}
use Rattle.ufs_disk.proofs.Runs.{started}
use Rattle.ufs_model.specs.PosixTree.{PosixTree}
use Rattle.ufs_model.specs.declared.data.Entry.{Entry}
use Rattle.ufs_promise_laws.specs.OnDisk.{IsExplainedBetween, IsExplainedImage}
use Rattle.ufs_told.specs.Throughout.{IsExplainedThroughout}
use Rattle.ufs_told.proofs.ThroughoutLemmas.{throughout_after}

-- ---- moments

module _ (keeps : Bool) (sectors : ℕ) (start : PosixTree) where
  -- Where whatever a crash leaves of both is explained, it is so from the one to the other.
  abbrev pub IsLink : Moments → Moments → Type 0
  IsLink m n = (history : List Entry) → Leaves (IsExplainedImage sectors start history) m.state → Leaves (IsExplainedImage sectors start history) n.state → IsExplainedBetween keeps sectors start history m n

  abbrev pub AreLinked : Moments → List Moments → Type 0
  AreLinked m [] = Unit {0}
  AreLinked m (n ∷ ms) = IsLink m n × AreLinked n ms

-- where they end
abbrev pub end_of : Moments → List Moments → Moments
end_of m [] = m
end_of m (n ∷ ms) = end_of n ms

-- the disk goes through these states
abbrev pub trail : Moments → List State → List Moments
trail m [] = []
trail m (x ∷ xs) = gone_to x m ∷ trail (gone_to x m) xs

module _ (keeps : Bool) (sectors : ℕ) (start : PosixTree) where
  gone_link : (x : State) (m : Moments) → IsLink keeps sectors start m (gone_to x m)
  gone_link x m history here there = record { before = here; after = there; between = λ kept. record { inside = x ∷ []; whole = refl; each = (there, tt) } }

  pub trail_linked : (m : Moments) (xs : List State) → AreLinked keeps sectors start m (trail m xs)
  trail_linked m [] = tt
  trail_linked m (x ∷ xs) = (gone_link x m, trail_linked (gone_to x m) xs)

push_on : {A : Type 0} (xs : List A) (x : A) (ys : List A) → (xs ++ x ∷ []) ++ ys ≡ xs ++ (x ∷ ys)
push_on [] x ys = refl
push_on (y ∷ xs) x ys = λ i. y ∷ push_on xs x ys i

all_then : (m : Moments) (xs : List State) → all (end_of m (trail m xs)) ≡ all m ++ xs
all_then m [] = sym (append-nil (all m))
all_then m (x ∷ xs) = all_then (gone_to x m) xs ∙ push_on (all m) x xs

-- the last of a list, and those before it
same_last : {A : Type 0} (xs ys : List A) (x y : A) → xs ++ x ∷ [] ≡ ys ++ y ∷ [] → (xs ≡ ys) × (x ≡ y)
same_last [] [] x y e = let one : x ≡ y = cc in (refl, one)
same_last [] (z ∷ []) x y e = absurd (let no = e in cc)
same_last [] (z ∷ w ∷ ys) x y e = absurd (let no = e in cc)
same_last (z ∷ []) [] x y e = absurd (let no = e in cc)
same_last (z ∷ w ∷ xs) [] x y e = absurd (let no = e in cc)
same_last (z ∷ xs) (w ∷ ys) x y e =
    let first : z ≡ w = cc in
    let rest : xs ++ x ∷ [] ≡ ys ++ y ∷ [] = cc in
    let more = same_last xs ys x y rest in
    ((λ i. first i ∷ more.0 i), more.1)

same_moments : (m n : Moments) → all m ≡ all n → m ≡ n
same_moments m n e = let both = same_last m.earlier n.earlier m.state n.state e in λ i. record { earlier = both.0 i; state = both.1 i }

-- A disk that went through these states is there.
pub trail_ends : (m n : Moments) (xs : List State) → all n ≡ all m ++ xs → end_of m (trail m xs) ≡ n
trail_ends m n xs e = same_moments (end_of m (trail m xs)) n (all_then m xs ∙ sym e)

-- ---- a history

module _ (keeps : Bool) (sectors : ℕ) (start : PosixTree) (history : List Entry) where
  -- whatever a crash leaves then is explained by so many entries
  abbrev pub Explains : ℕ → Moments → Type 0
  Explains i m = Leaves (IsExplainedImage sectors start (take i history)) m.state

  -- each by each number from where the one before it ended to its own end
  abbrev pub AreExplained : ℕ → List Moments → ℕ → Type 0
  AreExplained from [] to = from ≡ to
  AreExplained from (m ∷ ms) to = (upto : ℕ) × (from ≤ upto) × ((i : ℕ) → from ≤ i → i ≤ upto → Explains i m) × AreExplained upto ms to

  rises : (from to : ℕ) (ms : List Moments) → AreExplained from ms to → from ≤ to
  rises from to [] are = omega (arith, are)
  rises from to (m ∷ ms) are = let low = are.1 in let more = rises are.0 to ms are.3 in omega (arith, low, more)

  abbrev Throughout : List Entry → List Entry → Moments → Moments → Type 0
  Throughout before told m n = IsExplainedThroughout keeps sectors start before told m n

  first_are : (before rest : List Entry) → history ≡ before ++ rest → take (length before) history ≡ before
  first_are before rest same = ap (take (length before)) same ∙ take-append_seam before rest

  -- Entries are answered at one moment, which each number of them explains.
  stays : (before told rest : List Entry) (m n : Moments) → history ≡ before ++ (told ++ rest) → ((i : ℕ) → length before ≤ i → i ≤ length before + length told → Explains i m) → Throughout (before ++ told) rest m n → Throughout before (told ++ rest) m n
  stays before [] rest m n same each more = subst (λ (h : List Entry). Throughout h rest m n) (append-nil before) more
  stays before (e ∷ told) rest m n same each more = (
    m,
    started keeps (IsExplainedImage sectors start before) m (subst (λ (h : List Entry). Leaves (IsExplainedImage sectors start h) m.state) (first_are before (e ∷ told ++ rest) same) (each (length before) (omega arith) (omega arith))),
    stays (before ++ e ∷ []) told rest m n (same ∙ sym (push_on before e (told ++ rest)))
        (λ i low high. let long = length-append before (e ∷ []) in each i (omega (arith, low, long)) (omega (arith, high, long)))
        (subst (λ (h : List Entry). Throughout h rest m n) (sym (push_on before e told)) more),
  )

  -- at a moment that is explained by each number of entries up to this one, behind so many
  module _ (before rest : List Entry) (m : Moments) (same : history ≡ before ++ rest) (upto : ℕ) (low : length before ≤ upto) (high : upto ≤ length history) (each : (i : ℕ) → length before ≤ i → i ≤ upto → Explains i m) where
    abbrev told : List Entry
    told = take (upto - length before) rest

    abbrev left : List Entry
    left = drop (upto - length before) rest

    parts : told ++ left ≡ rest
    parts = take-append-drop (upto - length before) rest

    all_long : length history ≡ length before + length rest
    all_long = ap length same ∙ length-append before rest

    long : length told ≡ upto - length before
    long = length-take-le (upto - length before) rest (let b = all_long in omega (arith, low, high, b))

    done : length (before ++ told) ≡ upto
    done = let a = length-append before told in let b = long in omega (arith, a, b, low)

    as_told : history ≡ (before ++ told) ++ left
    as_told = same ∙ ap (λ (l : List Entry). before ++ l) (sym parts) ∙ sym (append_assoc before told left)

    explained_so : (n : Moments) → Explains upto n → Leaves (IsExplainedImage sectors start (before ++ told)) n.state
    explained_so n is = subst (λ (h : List Entry). Leaves (IsExplainedImage sectors start h) n.state) (ap (λ (k : ℕ). take k history) (sym done) ∙ first_are (before ++ told) left as_told) is

    stays_here : (n : Moments) → Throughout (before ++ told) left m n → Throughout before rest m n
    stays_here n more =
        subst (λ (l : List Entry). Throughout before l m n) parts
        (stays before told left m n (same ∙ ap (λ (l : List Entry). before ++ l) (sym parts)) (λ i from to. each i from (let b = long in omega (arith, to, b, low))) more)

    -- behind the last entry
    ends_here : upto ≡ length history → Throughout (before ++ told) left m m
    ends_here ends = subst (λ (l : List Entry). Throughout (before ++ told) l m m) (sym (none left (let a = ap length as_told ∙ length-append (before ++ told) left in let b = done in omega (arith, a, b, ends))))
        (started keeps (IsExplainedImage sectors start (before ++ told)) m (explained_so m (each upto low (omega arith))))
      where
        none : (l : List Entry) → length l ≡ 0 → l ≡ []
        none [] e = refl
        none (x ∷ l) e = absurd (omega (arith, e))

  pub walks : (before rest : List Entry) (m : Moments) (ms : List Moments) → history ≡ before ++ rest → AreExplained (length before) (m ∷ ms) (length history) → AreLinked keeps sectors start m ms → Throughout before rest m (end_of m ms)
  walks before rest m [] same are linked =
      let high : are.0 ≤ length history = let e = are.3 in omega (arith, e) in
      stays_here before rest m same are.0 are.1 high are.2 m (ends_here before rest m same are.0 are.1 high are.2 are.3)
  walks before rest m (n ∷ ns) same are linked =
      let high = rises are.0 (length history) (n ∷ ns) are.3 in
      let front = before ++ told before rest m same are.0 are.1 high are.2 in
      let back = left before rest m same are.0 are.1 high are.2 in
      stays_here before rest m same are.0 are.1 high are.2 (end_of n ns)
      (throughout_after keeps sectors start front back m n (end_of n ns)
      (linked.0 front (explained_so before rest m same are.0 are.1 high are.2 m (are.2 are.0 are.1 (omega arith))) (explained_so before rest m same are.0 are.1 high are.2 n (are.3.2 are.0 (omega arith) are.3.1)))
      (walks front back n ns (as_told before rest m same are.0 are.1 high are.2)
      (subst (λ (k : ℕ). AreExplained k (n ∷ ns) (length history)) (sym (done before rest m same are.0 are.1 high are.2)) are.3) linked.1))
