-- A legal text is what is printed of a history.
use Rattle.std.proofs.Common.{◌≡◌, ◌≢◌, ℕ, ◌+◌, ◌<◌, ◌≤◌, List, [], ◌∷◌, ◌++◌, Option, Some, None, length, map, take, arith, refl, zero, suc, sym, ap, subst, ◌∙◌, inl, inr, ◌⊎◌, unwrap_or, false, true, Bool, cond, eqb}
use Rattle.std.specs.Prelude.{codes, slice_get, ◌==◌}
use Rattle.std.specs.List.{AllByRecursion, flat_map, range_with_len}
use Rattle.std.specs.Fmt.{decimal}
use Rattle.std.proofs.lemmas.Bool.{eqb-true, cases_lt}
use Rattle.std.proofs.lemmas.List.{length-append, length-map, append_assoc, append-nil, map-append}
use Rattle.ufs_model.specs.PosixTree.{PosixTree}
use Rattle.ufs_model.specs.Posix.{posix}
use Rattle.ufs_model.specs.History.{IsLegal, IsInOrder, IsComplete, is_excused, tree_after, entries_of, requests_of}
use Rattle.ufs_model.specs.declared.data.Actor.{Actor}
use Rattle.ufs_model.specs.declared.data.Op.{Op}
use Rattle.ufs_model.specs.declared.data.Entry.{Entry}
use Rattle.ufs_model.specs.declared.data.Excuse.{Excuse}
use Rattle.ufs_model.specs.declared.data.Reply.{Reply}
use Rattle.ufs_model.specs.declared.data.Reply.TheVariants as reply
use Rattle.ufs_model.proofs.Facts.Histories.{legal-push, order-push, order_none, all-push, take-push}
use Rattle.ufs_model.proofs.PosixReplyLemmas.{posix_plain, plain_unexcused}
use Rattle.ufs_script.specs.Output.{actor_text, via_text, why_text, line_text, lines_of, output_of, trace_text, excuse_words}
use Rattle.ufs_lines.specs.Trace.{Tells, told_text, end_text, excuse_told}
use Rattle.ufs_audit.specs.Audit.{Begins, AreAnswersOf, AreAnswersFrom, AreAnswers, Reaches, IsAny, IsWhole, IsNextEntry, IsAnswered, answer_to, reply_with, text_of, entry_of}
use Rattle.ufs_audit.specs.Laws.{IsHistory, IsFront, Transcript, LegalTextsArePrinted, LegalFrontsArePrinted, entries_in, traces_of, printed_of, front_of}
use Rattle.ufs_lines.specs.declared.told.Told.{Told}
use Rattle.ufs_lines.specs.declared.told.Why.{Why}
use Rattle.ufs_lines.specs.declared.told.Why.TheVariants as why
use Rattle.ufs_audit.proofs.AnswerLemmas.{flat-push}

-- ---- the line of an entry

no_why : (r : Reply) → is_excused r ≡ false → why_text r ≡ []
no_why reply.Done h = refl
no_why (reply.Fd n) h = refl
no_why (reply.Count n) h = refl
no_why (reply.At n) h = refl
no_why (reply.Got bytes) h = refl
no_why (reply.IsFile size) h = refl
no_why (reply.IsDir entries) h = refl
no_why (reply.Names names) h = refl
no_why (reply.Refused e) h = refl
no_why (reply.Excused x) h = cc

-- the end of an entry's line is that of what is told
why_is : (tree : PosixTree) (told : Told) (op : Op) → why_text (reply_with (excuse_told told.why) (posix tree told.client op).1) ≡ end_text (excuse_told told.why)
why_is tree told op = at (excuse_told told.why)
  where
    at : (x : Option Excuse) → why_text (reply_with x (posix tree told.client op).1) ≡ end_text x
    at None = no_why (posix tree told.client op).1 (plain_unexcused (posix tree told.client op).1 (posix_plain tree told.client op))
    at (Some x) = refl

-- what stands before the excuse
abbrev front_text : ℕ → Told → List Actor → List ℕ
front_text ticket told via = codes "# " ++ decimal ticket ++ 32 ∷ decimal told.client ++ 46 ∷ decimal told.seq ++ codes " by " ++ actor_text told.by ++ via_text via

pub trace_is : (ticket : ℕ) (tree : PosixTree) (told : Told) (op : Op) (via : List Actor) → trace_text (entry_of ticket tree told op) via ≡ told_text ticket told via ++ 10 ∷ []
trace_is ticket tree told op via = ap (λ (l : List ℕ). (front_text ticket told via ++ l) ++ 10 ∷ []) (why_is tree told op)

-- ---- what a trace reaches is a history

-- each entry has its line of a reply
abbrev AreAnswered : List (List (List ℕ)) → List Entry → Type 0
AreAnswered answers history = AllByRecursion (IsAnswered answers) history

record IsReached (start : PosixTree) (clients : List (List Op)) (answers : List (List (List ℕ))) (Ends : List Entry → List ℕ → Type 0) (n : ℕ) (h : List Entry) (trace : List ℕ) (rest : Transcript)
    (more : List ℕ) : Type 0 where
  front : IsFront start clients answers (length h + n) (h ++ entries_in rest)
  printed : trace ≡ traces_of rest ++ more
  ends : Ends (h ++ entries_in rest) more

reached : (start : PosixTree) (clients : List (List Op)) (answers : List (List (List ℕ))) (Ends : List Entry → List ℕ → Type 0) (n : ℕ) (h : List Entry) (trace : List ℕ) → IsLegal start h → IsInOrder clients h
    → AreAnswered answers h → Reaches start clients answers Ends n h trace → (rest : Transcript) × (more : List ℕ) × IsReached start clients answers Ends n h trace rest more
reached start clients answers Ends zero h trace legal ordered answered ends = (
  [],
  trace,
  record {
    front = subst (λ (l : List Entry). IsFront start clients answers (length h + 0) l) (sym (append-nil h)) record { long = omega arith; legal = legal; ordered = ordered; answered = answered };
    printed = refl;
    ends = subst (λ (l : List Entry). Ends l trace) (sym (append-nil h)) ends;
  },
)
reached start clients answers Ends (suc n) h trace legal ordered answered r =
    let next : IsNextEntry start clients answers h r.0 r.2 r.3 = r.5 in
    let begins : Begins trace r.0 r.1 = r.4 in
    let e = entry_of (length h) (tree_after start h) r.2 r.3 in
    let longer = length-append h (e ∷ []) in
    let rest = reached start clients answers Ends n (h ++ e ∷ []) r.1
    (legal-push start h e legal record { numbered = refl; replied = next.allowed.0 } next.allowed.1)
    (order-push clients h e ordered record { numbered = next.next.numbered; asked = next.next.asked })
    (all-push (IsAnswered answers) h e answered next.answered) r.6 in
    let via = next.tells.0 in
    let count : length (h ++ e ∷ []) + n ≡ length h + suc n = omega (arith, longer) in
    let joined = append_assoc h (e ∷ []) (entries_in rest.0) in (
      (e, via) ∷ rest.0,
      rest.1,
      record {
        front = subst (λ (l : List Entry). IsFront start clients answers (length h + suc n) l) joined
            (subst (λ (m : ℕ). IsFront start clients answers m ((h ++ e ∷ []) ++ entries_in rest.0)) count rest.2.front);
        printed = begins.1 ∙ (λ i. next.tells.3 i ++ 10 ∷ rest.2.printed i) ∙ sym (append_assoc (told_text (length h) r.2 via) (10 ∷ []) (traces_of rest.0 ++ rest.1))
            ∙ ap (λ (l : List ℕ). l ++ (traces_of rest.0 ++ rest.1)) (sym (trace_is (length h) (tree_after start h) r.2 r.3 via))
            ∙ sym (append_assoc (trace_text e via) (traces_of rest.0) rest.1);
        ends = subst (λ (l : List Entry). Ends l rest.1) joined rest.2.ends;
      },
    )

-- ---- the lines of the replies

-- of one client: the lines that its entries have, from a number on
own_lines : (k n : ℕ) (es : List Entry) (ls : List (List ℕ)) → AllByRecursion (λ e. (i : ℕ) → e.seq ≡ n + i → slice_get ls i ≡ Some (line_text k e.seq e.reply)) es → AllByRecursion (λ e. e.client ≡ k) es
    → map (λ e. e.seq) es ≡ range_with_len n (length es) → length ls ≡ length es → text_of ls ≡ lines_of es
own_lines k n [] [] all own is same = refl
own_lines k n [] (l ∷ ls) all own is same = absurd (omega (arith, same))
own_lines k n (e ∷ es) [] all own is same = absurd (omega (arith, same))
own_lines k n (e ∷ es) (l ∷ ls) all own is same =
    let first : e.seq ≡ n = cc in
    let tail : map (λ e. e.seq) es ≡ range_with_len (n + 1) (length es) = cc in
    let there : Some l ≡ Some (line_text k e.seq e.reply) = all.0 0 (omega (arith, first)) in
    let line : l ≡ line_text k e.seq e.reply = cc in
    let rest = own_lines k (n + 1) es ls (less es all.1) own.1 tail (omega (arith, same)) in
    (λ i. line i ++ rest i) ∙ ap (λ (c : ℕ). line_text c e.seq e.reply ++ lines_of es) (sym own.0)
  where
    less : (es : List Entry) → AllByRecursion (λ e. (i : ℕ) → e.seq ≡ n + i → slice_get (l ∷ ls) i ≡ Some (line_text k e.seq e.reply)) es
        → AllByRecursion (λ e. (i : ℕ) → e.seq ≡ (n + 1) + i → slice_get ls i ≡ Some (line_text k e.seq e.reply)) es
    less [] all = tt
    less (e ∷ es) all = ((λ i is. all.0 (suc i) (omega (arith, is))), less es all.1)

-- the entries of a client are its own
pub own_entries : (k : ℕ) (h : List Entry) → AllByRecursion (λ e. e.client ≡ k) (entries_of k h)
own_entries k [] = tt
own_entries k (e ∷ h) = at (own_entries k h) (e.client == k) refl
  where
    at : AllByRecursion (λ e. e.client ≡ k) (entries_of k h) → (B : Bool) → (e.client == k) ≡ B → AllByRecursion (λ e. e.client ≡ k) (cond B (e ∷ entries_of k h) (entries_of k h))
    at rest true is = (eqb-true e.client k is, rest)
    at rest false is = rest

-- and have their lines
answered_own : (answers : List (List (List ℕ))) (k : ℕ) (h : List Entry) → AreAnswered answers h
    → AllByRecursion (λ e. (i : ℕ) → e.seq ≡ 0 + i → slice_get (unwrap_or (slice_get answers k) []) i ≡ Some (line_text k e.seq e.reply)) (entries_of k h)
answered_own answers k [] all = tt
answered_own answers k (e ∷ h) all = at (answered_own answers k h all.1) (e.client == k) refl
  where
    at : AllByRecursion (λ e. (i : ℕ) → e.seq ≡ 0 + i → slice_get (unwrap_or (slice_get answers k) []) i ≡ Some (line_text k e.seq e.reply)) (entries_of k h) → (B : Bool) → (e.client == k) ≡ B
        → AllByRecursion (λ e. (i : ℕ) → e.seq ≡ 0 + i → slice_get (unwrap_or (slice_get answers k) []) i ≡ Some (line_text k e.seq e.reply)) (cond B (e ∷ entries_of k h) (entries_of k h))
    at rest true is = (
      (λ i same.
          let here = eqb-true e.client k is in
          let seq : e.seq ≡ i = omega (arith, same) in
          subst (λ (c : ℕ). slice_get (unwrap_or (slice_get answers c) []) i ≡ Some (line_text c e.seq e.reply)) here
          (ap (λ (j : ℕ). slice_get (unwrap_or (slice_get answers e.client) []) j) (sym seq) ∙ all.0)),
      rest,
    )
    at rest false is = rest

answers_at : (client : ℕ) (clients : List (List Op)) (answers : List (List (List ℕ))) → AreAnswersFrom client clients answers → (k : ℕ) → k < length clients
    → (lines : List (List ℕ)) × (slice_get answers k ≡ Some lines) × (length lines ≡ length (requests_of clients k))
answers_at client [] [] are k less = absurd (omega (arith, less))
answers_at client [] (l ∷ answers) are k less = absurd are
answers_at client (r ∷ clients) [] are k less = absurd are
answers_at client (r ∷ clients) (l ∷ answers) are zero less = (l, refl, are.0.each)
answers_at client (r ∷ clients) (l ∷ answers) are (suc k) less = answers_at (client + 1) clients answers are.1 k (omega (arith, less))

pub as_many : (client : ℕ) (clients : List (List Op)) (answers : List (List (List ℕ))) → AreAnswersFrom client clients answers → length answers ≡ length clients
as_many client [] [] are = refl
as_many client [] (l ∷ answers) are = absurd are
as_many client (r ∷ clients) [] are = absurd are
as_many client (r ∷ clients) (l ∷ answers) are = ap suc (as_many (client + 1) clients answers are.1)

-- the lines of so many clients
some_lines : (clients : List (List Op)) (answers : List (List (List ℕ))) (h : List Entry) → AreAnswers clients answers → AreAnswered answers h → IsInOrder clients h → IsComplete clients h
    → (m : ℕ) → m ≤ length clients → flat_map text_of (take m answers) ≡ output_of m h
some_lines clients answers h are answered ordered complete zero few = none answers
  where
    none : (answers : List (List (List ℕ))) → flat_map text_of (take 0 answers) ≡ []
    none [] = refl
    none (l ∷ answers) = refl
some_lines clients answers h are answered ordered complete (suc m) few =
    let l = answers_at 0 clients answers are m (omega (arith, few)) in
    let count = l.2 in
    let whole = complete m in
    let same : unwrap_or (slice_get answers m) [] ≡ l.0 = ap (λ (o : Option (List (List ℕ))). unwrap_or o []) l.1 in
    let own = own_lines m 0 (entries_of m h) (unwrap_or (slice_get answers m) []) (answered_own answers m h answered) (own_entries m h) (ordered.numbers m)
    (let s = ap length same in omega (arith, s, count, whole)) in
    ap (flat_map text_of) (take-push answers m l.0 l.1) ∙ flat-push (take m answers) l.0
    ∙ (λ i. some_lines clients answers h are answered ordered complete m (omega (arith, few)) i ++ (ap text_of (sym same) ∙ own) i)

take_all : (n : ℕ) (xs : List (List (List ℕ))) → length xs ≡ n → take n xs ≡ xs
take_all zero [] e = refl
take_all zero (x ∷ xs) e = absurd (omega (arith, e))
take_all (suc n) [] e = refl
take_all (suc n) (x ∷ xs) e = ap (λ (l : List (List (List ℕ))). x ∷ l) (take_all n xs (omega (arith, e)))

pub legal_printed : LegalTextsArePrinted
legal_printed start clients entries text is =
    let answers : List (List (List ℕ)) = is.0 in
    let found = reached start clients answers (IsWhole clients answers) entries [] is.1 record { entries = tt; faults = tt } (order_none clients) tt is.3 in
    let front = found.2.front in
    let whole : IsWhole clients answers (entries_in found.0) found.1 = found.2.ends in
    let long = front.long in
    let many = as_many 0 clients answers is.2.0 in
    let replies = ap (flat_map text_of) (sym (take_all (length clients) answers many))
    ∙ some_lines clients answers (entries_in found.0) is.2.0 front.answered front.ordered whole.1 (length clients) (omega arith) in
    let trace = found.2.printed ∙ ap (λ (l : List ℕ). traces_of found.0 ++ l) whole.0 ∙ append-nil (traces_of found.0) in (
      found.0,
      record { long = omega (arith, long); legal = front.legal; ordered = front.ordered; complete = whole.1 },
      is.2.1 ∙ (λ i. replies i ++ trace i),
    )

pub front_printed : LegalFrontsArePrinted
front_printed start clients entries text is =
    let answers : List (List (List ℕ)) = is.0 in
    let found = reached start clients answers (IsAny answers) entries [] is.1 record { entries = tt; faults = tt } (order_none clients) tt is.3 in
    let front = found.2.front in
    let long = front.long in (
      answers,
      found.0,
      found.1,
      is.2.0,
      record { long = omega (arith, long); legal = front.legal; ordered = front.ordered; answered = front.answered },
      is.2.1 ∙ ap (λ (l : List ℕ). flat_map text_of answers ++ l) found.2.printed,
    )
