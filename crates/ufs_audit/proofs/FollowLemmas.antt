-- A trace is followed in one way: what its text begins with, and which entry that tells, are determined.
use Rattle.std.proofs.Common.{◌≡◌, ◌≢◌, ℕ, ◌+◌, ◌*◌, ◌^◌, ◌<◌, ◌≤◌, List, [], ◌∷◌, ◌++◌, Option, Some, None, ap, sym, refl, subst, ◌∙◌, length, arith, zero, suc, ◌⊎◌, inl, inr, true}
use Rattle.std.specs.Prelude.{slice_get, ◌==◌}
use Rattle.std.specs.List.{AllByRecursion}
use Rattle.std.proofs.lemmas.List.{length-append}
use Rattle.std.proofs.lemmas.Bool.{eqb-true}
use Rattle.ufs_model.specs.PosixTree.{PosixTree}
use Rattle.ufs_model.specs.History.{tree_after, entries_of, requests_of, IsComplete}
use Rattle.ufs_model.specs.declared.data.Op.{Op}
use Rattle.ufs_model.specs.declared.data.Entry.{Entry}
use Rattle.ufs_lines.specs.Trace.{Tells, TellOne}
use Rattle.ufs_audit.specs.Audit.{IsLine, Begins, IsNextRequest, IsNextEntry, IsAnswered, IsAllowed, Reaches, IsAny, IsWhole, IsWrong, TellsNothing, TellsNext, GoesOn, entry_of}
use Rattle.ufs_audit.specs.Following.{Follows, Stands, IsStep, IsTraceVerdict, total}
use Rattle.ufs_lines.proofs.CutLemmas.{IsSameCut, one_cut}
use Rattle.ufs_lines.specs.declared.told.Told.{Told}
use Rattle.ufs_audit.specs.declared.verdict.Verdict.{Verdict}
use Rattle.ufs_audit.specs.declared.verdict.Verdict.TheVariants as verdict
use Rattle.ufs_audit.specs.declared.verdict.Wrong.{Wrong}
use Rattle.ufs_audit.specs.declared.verdict.Wrong.TheVariants as wrong

-- ---- one line

pub begins_one : (text line more line' more' : List ℕ) → Begins text line more → Begins text line' more' → IsSameCut line more line' more'
begins_one text line more line' more' a b = one_cut 10 line line' more more' a.0 b.0 (sym a.1 ∙ b.1)

pub not_nil : (text line more : List ℕ) → Begins text line more → text ≡ [] → ⊥
not_nil text line more a none = no line (sym a.1 ∙ none)
  where
    no : (line : List ℕ) → line ++ 10 ∷ more ≡ [] → ⊥
    no [] e = cc
    no (b ∷ line) e = cc

one_op : (clients : List (List Op)) (history : List Entry) (told : Told) (op other : Op) → IsNextRequest clients history told op → IsNextRequest clients history told other → op ≡ other
one_op clients history told op other a b =
    let same : Some op ≡ Some other = sym a.asked ∙ b.asked in
    cc

past : {X : Type 0} (xs : List X) (x : X) → slice_get xs (length xs) ≡ Some x → ⊥
past [] x e = cc
past (y ∷ xs) x e = past xs x e

-- where every request has its entry, none is next
none_next : (clients : List (List Op)) (history : List Entry) (told : Told) (op : Op) → IsComplete clients history → IsNextRequest clients history told op → ⊥
none_next clients history told op complete next =
    past (requests_of clients told.client) op (ap (slice_get (requests_of clients told.client)) (sym (complete told.client)) ∙ ap (slice_get (requests_of clients told.client)) (sym next.numbered) ∙ next.asked)

module _ (start : PosixTree) (clients : List (List Op)) (answers : List (List (List ℕ))) where
  -- so far it is as a whole
  -- how a trace may end
  abbrev pub ends : Option (Option Wrong) → List Entry → List ℕ → Type 0
  ends None = IsAny answers
  ends (Some None) = IsWhole clients answers
  ends (Some (Some cause)) = IsWrong start clients answers cause

  pub record IsRun (trace : List ℕ) (ticket : ℕ) (history : List Entry) (rest : List ℕ) : Type 0 where
    pub long : length history ≡ ticket
    pub on : (e : Option (Option Wrong)) (n : ℕ) → Reaches start clients answers (ends e) n history rest → Reaches start clients answers (ends e) (ticket + n) [] trace
    pub back : (e : Option (Option Wrong)) (n : ℕ) → Reaches start clients answers (ends e) (ticket + n) [] trace → Reaches start clients answers (ends e) n history rest
    pub short : (n : ℕ) → n < ticket → Reaches start clients answers (IsWhole clients answers) n [] trace → ⊥

  pub begins_run : (trace : List ℕ) → IsRun trace 0 [] trace
  begins_run trace = record {
    long = refl;
    on = λ e n reaches. subst (λ (m : ℕ). Reaches start clients answers (ends e) m [] trace) (omega arith) reaches;
    back = λ e n reaches. subst (λ (m : ℕ). Reaches start clients answers (ends e) m [] trace) (omega arith) reaches;
    short = λ n few reaches. absurd (omega arith);
  }

module _ (one : TellOne) (start : PosixTree) (clients : List (List Op)) (answers : List (List (List ℕ))) where
  -- a trace that is followed by one entry goes on behind it
  pub goes_behind : (Ends : List Entry → List ℕ → Type 0) (n : ℕ) (history : List Entry) (text line more : List ℕ) (told : Told) (op : Op) → length history < 2 ^ 64
      → Follows start clients answers history text told op line more
      → Reaches start clients answers Ends (suc n) history text
      → Reaches start clients answers Ends n (history ++ entry_of (length history) (tree_after start history) told op ∷ []) more
  goes_behind Ends n history text line more told op few follows reaches =
      let line' = reaches.0 in
      let more' = reaches.1 in
      let told' = reaches.2 in
      let op' = reaches.3 in
      let begins' : Begins text line' more' = reaches.4 in
      let next' : IsNextEntry start clients answers history line' told' op' = reaches.5 in
      let rest = reaches.6 in
      let cut = begins_one text line' more' line more begins' follows.begins in
      let tells' : Tells (length history) told' line = subst (λ (l : List ℕ). Tells (length history) told' l) cut.line_is next'.tells in
      let same : told' ≡ told = one (length history) told' told line few tells' follows.next.tells in
      let asked' : IsNextRequest clients history told op' = subst (λ (t : Told). IsNextRequest clients history t op') same next'.next in
      let same_op : op' ≡ op = one_op clients history told op' op asked' follows.next.next in
      subst (λ (l : List ℕ). Reaches start clients answers Ends n (history ++ entry_of (length history) (tree_after start history) told op ∷ []) l) cut.more_is
      (subst (λ (o : Op). Reaches start clients answers Ends n (history ++ entry_of (length history) (tree_after start history) told o ∷ []) more') same_op
      (subst (λ (t : Told). Reaches start clients answers Ends n (history ++ entry_of (length history) (tree_after start history) t op' ∷ []) more') same rest))

  split_lt : (n m : ℕ) → n < m + 1 → (n < m) ⊎ (n ≡ m + 0)
  split_lt zero zero h = inr refl
  split_lt zero (suc m) h = inl (omega arith)
  split_lt (suc n) zero h = absurd (omega arith)
  split_lt (suc n) (suc m) h = elim (split_lt n m (omega arith)) [
    | inl less ↦ inl (omega arith)
    | inr same ↦ inr (omega arith)
  ]

  pub one_more : (trace rest line more : List ℕ) (ticket : ℕ) (history : List Entry) (told : Told) (op : Op) → ticket < 2 ^ 64
      → IsRun start clients answers trace ticket history rest → Follows start clients answers history rest told op line more
      → IsRun start clients answers trace (ticket + 1) (history ++ entry_of (length history) (tree_after start history) told op ∷ []) more
  one_more trace rest line more ticket history told op few run follows =
      let long = run.long in
      let short_history : length history < 2 ^ 64 = omega (arith, long, few) in
      record {
        long = (let l = length-append history (entry_of (length history) (tree_after start history) told op ∷ []) in omega (arith, l, long));
        on = λ e n reaches.
            subst (λ (m : ℕ). Reaches start clients answers (ends start clients answers e) m [] trace) (omega arith)
            (run.on e (suc n) (line, more, told, op, follows.begins, follows.next, reaches));
        back = λ e n reaches.
            goes_behind (ends start clients answers e) n history rest line more told op short_history follows
            (run.back e (suc n) (subst (λ (m : ℕ). Reaches start clients answers (ends start clients answers e) m [] trace) (omega arith) reaches));
        short = λ n less reaches. elim (split_lt n ticket less) [
          | inl less ↦ run.short n less reaches
          | inr same ↦ not_nil rest line more follows.begins (run.back (Some None) 0 (subst (λ (m : ℕ). Reaches start clients answers (IsWhole clients answers) m [] trace) same reaches)).0
        ];
      }

  -- ---- the end

  -- what is told next is one thing
  same_told : (history : List Entry) (text line more line' more' : List ℕ) (told told' : Told) → length history < 2 ^ 64
      → Begins text line more → Tells (length history) told line → Begins text line' more' → Tells (length history) told' line' → told' ≡ told
  same_told history text line more line' more' told told' few begins tells begins' tells' =
      let cut = begins_one text line' more' line more begins' begins in
      one (length history) told' told line few (subst (λ (l : List ℕ). Tells (length history) told' l) cut.line_is tells') tells

  -- an entry that isn't right doesn't follow
  stops_at : (history : List Entry) (text line more line' more' : List ℕ) (told told' : Told) (op op' : Op) → length history < 2 ^ 64
      → Begins text line more → Tells (length history) told line → IsNextRequest clients history told op
      → (IsAnswered answers (entry_of (length history) (tree_after start history) told op) → IsAllowed (tree_after start history) history (entry_of (length history) (tree_after start history) told op) → ⊥)
      → Begins text line' more' → IsNextEntry start clients answers history line' told' op' → ⊥
  stops_at history text line more line' more' told told' op op' few begins tells next bad begins' next' =
      let told_is = same_told history text line more line' more' told told' few begins tells begins' next'.tells in
      let op_is = one_op clients history told op' op (subst (λ (t : Told). IsNextRequest clients history t op') told_is next'.next) next in
      bad
      (subst (λ (o : Op). IsAnswered answers (entry_of (length history) (tree_after start history) told o)) op_is
      (subst (λ (t : Told). IsAnswered answers (entry_of (length history) (tree_after start history) t op')) told_is next'.answered))
      (subst (λ (o : Op). IsAllowed (tree_after start history) history (entry_of (length history) (tree_after start history) told o)) op_is
      (subst (λ (t : Told). IsAllowed (tree_after start history) history (entry_of (length history) (tree_after start history) t op')) told_is next'.allowed))

  -- where this is wrong, no entry follows
  pub stops : (cause : Wrong) (history : List Entry) (text : List ℕ) → length history < 2 ^ 64 → IsWrong start clients answers cause history text
      → (line more : List ℕ) (told : Told) (op : Op) → Begins text line more → IsNextEntry start clients answers history line told op → ⊥
  stops wrong.Text history text few (inl nothing) line more told op begins next = nothing.0 line more told begins next.tells
  stops wrong.Text history text few (inr goes) line more told op begins next = none_next clients history told op goes.0 next.next
  stops wrong.Order history text few w line more told op begins next =
      let a : TellsNext history text w.0 = w.1 in
      let same = same_told history text a.0 a.1 line more w.0 told few a.2 a.3 begins next.tells in
      w.3 op (subst (λ (t : Told). IsNextRequest clients history t op) same next.next)
  stops wrong.Reply history text few w line more told op begins next =
      let a : TellsNext history text w.0 = w.2 in
      stops_at history text a.0 a.1 line more w.0 told w.1 op few a.2 a.3 w.3 (λ answered allowed. w.4 answered) begins next
  stops wrong.Excuse history text few w line more told op begins next =
      let a : TellsNext history text w.0 = w.2 in
      stops_at history text a.0 a.1 line more w.0 told w.1 op few a.2 a.3 w.3 (λ answered allowed. w.5 allowed) begins next

  -- nor is it whole
  pub not_whole : (cause : Wrong) (history : List Entry) (text : List ℕ) → IsWrong start clients answers cause history text → IsWhole clients answers history text → ⊥
  not_whole wrong.Text history text (inl nothing) whole = nothing.1 whole
  not_whole wrong.Text history text (inr goes) whole = goes.1 whole.0
  not_whole wrong.Order history text w whole = w.2 whole.1
  not_whole wrong.Reply history text w whole = let a : TellsNext history text w.0 = w.2 in not_nil text a.0 a.1 a.2 whole.0
  not_whole wrong.Excuse history text w whole = let a : TellsNext history text w.0 = w.2 in not_nil text a.0 a.1 a.2 whole.0

  or_more : (n m : ℕ) → (n < m) ⊎ ((k : ℕ) × (n ≡ m + k))
  or_more n zero = inr (n, omega arith)
  or_more zero (suc m) = inl (omega arith)
  or_more (suc n) (suc m) = elim (or_more n m) [
    | inl less ↦ inl (omega arith)
    | inr w ↦ let e = w.1 in inr (w.0, omega (arith, e))
  ]

  -- a run that stops at something wrong
  pub illegal : (trace rest : List ℕ) (ticket : ℕ) (history : List Entry) (cause : Wrong) → ticket < 2 ^ 64 → IsRun start clients answers trace ticket history rest → IsWrong start clients answers cause history rest
      → IsTraceVerdict start clients answers trace (verdict.Illegal ticket cause)
  illegal trace rest ticket history cause few run is =
      let long = run.long in
      let few_entries : length history < 2 ^ 64 = omega (arith, long, few) in (
        λ n whole. elim (or_more n ticket) [
          | inl less ↦ run.short n less whole
          | inr w ↦ at_end w.0 few_entries (run.back (Some None) w.0 (subst (λ (m : ℕ). Reaches start clients answers (IsWhole clients answers) m [] trace) w.1 whole))
        ],
        λ reaches. let r = run.back None 1 reaches in stops cause history rest few_entries is r.0 r.1 r.2 r.3 r.4 r.5,
        subst (λ (m : ℕ). Reaches start clients answers (IsWrong start clients answers cause) m [] trace) (omega arith) (run.on (Some (Some cause)) 0 is),
      )
    where
      at_end : (n : ℕ) → length history < 2 ^ 64 → Reaches start clients answers (IsWhole clients answers) n history rest → ⊥
      at_end zero few whole = not_whole cause history rest is whole
      at_end (suc n) few r = stops cause history rest few is r.0 r.1 r.2 r.3 r.4 r.5

  -- a run to the end
  pub legal : (trace : List ℕ) (ticket : ℕ) (history : List Entry) → IsRun start clients answers trace ticket history [] → IsComplete clients history
      → IsTraceVerdict start clients answers trace (verdict.Legal ticket)
  legal trace ticket history run complete =
      subst (λ (m : ℕ). Reaches start clients answers (IsWhole clients answers) m [] trace) (omega arith) (run.on (Some None) 0 (refl, complete))

  -- a run to an end that comes early
  pub early : (history : List Entry) → (IsComplete clients history → ⊥) → IsWrong start clients answers wrong.Text history []
  early history incomplete = inl ((λ line more told begins tells. not_nil [] line more begins refl), (λ whole. incomplete whole.1))

-- ---- the numbers

total_at_most : (counts : List ℕ) → AllByRecursion (λ n. n ≤ 65536) counts → total counts ≤ 65536 * length counts
total_at_most [] all = omega arith
total_at_most (n ∷ ns) all =
    let rest = total_at_most ns all.1 in
    let first = all.0 in
    omega (arith, rest, first)

-- how far an audit has come
pub record IsFollowed (start : PosixTree) (clients : List (List Op)) (answers : List (List (List ℕ))) (trace : List ℕ) (ticket : ℕ) (history : List Entry) (rest : List ℕ) (tree : PosixTree) (counts faults : List ℕ) : Type 0 where
  pub run : IsRun start clients answers trace ticket history rest
  pub stands : Stands start clients history tree counts faults

pub few_entries : (start : PosixTree) (clients : List (List Op)) (history : List Entry) (tree : PosixTree) (counts faults : List ℕ)
    → Stands start clients history tree counts faults → length clients ≤ 16 → length history ≤ 1048576
few_entries start clients history tree counts faults stands few =
    let sum = stands.total_is in
    let most = total_at_most counts stands.small in
    let many = stands.many in
    omega (arith, sum, most, many, few)
