-- What is printed of a legal history is a legal text.
use Rattle.std.proofs.Common.{◌≡◌, ◌≢◌, ℕ, ◌+◌, ◌^◌, ◌<◌, ◌≤◌, List, [], ◌∷◌, ◌++◌, Option, Some, None, length, map, take, filter, arith, refl, zero, suc, sym, ap, subst, ◌∙◌, inl, inr, ◌⊎◌, unwrap_or, false, true, Bool, cond, eqb}
use Rattle.std.specs.Prelude.{codes, slice_get, ◌==◌}
use Rattle.std.specs.List.{AllByRecursion, flat_map, range_with_len}
use Rattle.std.specs.Fmt.{decimal}
use Rattle.std.proofs.lemmas.Bool.{eqb-true, ne_eqb, cases_lt, cases_eq}
use Rattle.std.proofs.lemmas.List.{length-append, length-map, append_assoc, append-nil}
use Rattle.ufs_model.specs.PosixTree.{PosixTree}
use Rattle.ufs_model.specs.Posix.{posix}
use Rattle.ufs_model.specs.History.{IsLegal, IsLegalFrom, IsLegalEntry, IsReplyTo, AreFaultsOnce, TellsNewFault, IsInOrder, IsComplete, share_fault, goes_on, tree_after, entries_of, requests_of}
use Rattle.ufs_model.specs.declared.data.Actor.{Actor}
use Rattle.ufs_model.specs.declared.data.Op.{Op}
use Rattle.ufs_model.specs.declared.data.Entry.{Entry}
use Rattle.ufs_model.specs.declared.data.Excuse.{Excuse}
use Rattle.ufs_model.specs.declared.data.Excuse.TheVariants as excuse
use Rattle.ufs_model.specs.declared.data.Reply.{Reply}
use Rattle.ufs_model.specs.declared.data.Reply.TheVariants as reply
use Rattle.ufs_model.proofs.Facts.Histories.{tree_after-push}
use Rattle.ufs_script.specs.Output.{actor_text, more_actors, via_text, why_text, excuse_words, reply_text, line_text, lines_of, output_of, trace_text}
use Rattle.ufs_lines.specs.Trace.{IsFree, IsActor, IsExcuse, IsWhy, IsTold, Tells, told_text, end_text, excuse_told}
use Rattle.ufs_lines.specs.Replies.{FitsReply, IsReplyLine}
use Rattle.ufs_audit.specs.Audit.{IsLine, IsEnded, AreAnswersOf, AreAnswersFrom, AreAnswers, Reaches, IsAny, IsWhole, IsNextEntry, IsNextRequest, IsAnswered, answer_to, reply_with, text_of, entry_of}
use Rattle.ufs_audit.specs.Laws.{IsHistory, IsFront, Transcript, FitsEntry, PrintedTextsAreLegal, PrintedFrontsAreLegal, entries_in, traces_of, printed_of, front_of}
use Rattle.ufs_lines.specs.declared.told.Told.{Told}
use Rattle.ufs_lines.specs.declared.told.Why.{Why}
use Rattle.ufs_lines.specs.declared.told.Why.TheVariants as why
use Rattle.ufs_lines.proofs.CutLemmas.{free_append}
use Rattle.ufs_lines.proofs.WordLemmas.{decimal_free, actor_free}
use Rattle.ufs_audit.proofs.StepLemmas.{there}
use Rattle.ufs_audit.proofs.HistoryLemmas.{trace_is, own_entries}

-- ---- what an entry tells

abbrev why_of_excuse : Excuse → Why
why_of_excuse excuse.Memory = why.Starved
why_of_excuse (excuse.Device f) = why.Excused (excuse.Device f)
why_of_excuse (excuse.Stopped f) = why.Excused (excuse.Stopped f)
why_of_excuse (excuse.Blocks n h) = why.Excused (excuse.Blocks n h)
why_of_excuse excuse.Inodes = why.Excused excuse.Inodes
why_of_excuse (excuse.Extents n) = why.Excused (excuse.Extents n)

excuse_back : (x : Excuse) → excuse_told (why_of_excuse x) ≡ Some x
excuse_back excuse.Memory = refl
excuse_back (excuse.Device f) = refl
excuse_back (excuse.Stopped f) = refl
excuse_back (excuse.Blocks n h) = refl
excuse_back excuse.Inodes = refl
excuse_back (excuse.Extents n) = refl

excuse_is_why : (x : Excuse) → IsExcuse x → IsWhy (why_of_excuse x)
excuse_is_why excuse.Memory h = tt
excuse_is_why (excuse.Device f) h = (h, refl)
excuse_is_why (excuse.Stopped f) h = (h, refl)
excuse_is_why (excuse.Blocks n k) h = (h, refl)
excuse_is_why excuse.Inodes h = (tt, refl)
excuse_is_why (excuse.Extents n) h = (h, refl)

abbrev why_of : Reply → Why
why_of (reply.Excused x) = why_of_excuse x
why_of _ = why.Served

why_fits : (r : Reply) → ((x : Excuse) → r ≡ reply.Excused x → IsExcuse x) → IsWhy (why_of r)
why_fits (reply.Excused x) h = excuse_is_why x (h x refl)
why_fits reply.Done h = tt
why_fits (reply.Fd n) h = tt
why_fits (reply.Count n) h = tt
why_fits (reply.At n) h = tt
why_fits (reply.Got bytes) h = tt
why_fits (reply.IsFile size) h = tt
why_fits (reply.IsDir entries) h = tt
why_fits (reply.Names names) h = tt
why_fits (reply.Refused e) h = tt

abbrev told_of : Entry → Told
told_of e = record { client = e.client; seq = e.seq; by = e.by; why = why_of e.reply }

-- the reply is what POSIX gives, or the excuse
reply_back : (tree : PosixTree) (client : ℕ) (op : Op) (r : Reply) → (r ≡ (posix tree client op).1) ⊎ Rattle.ufs_model.specs.History.IsExcused tree client op r
    → reply_with (excuse_told (why_of r)) (posix tree client op).1 ≡ r
reply_back tree client op (reply.Excused x) h = ap (λ o. reply_with o (posix tree client op).1) (excuse_back x)
reply_back tree client op reply.Done (inl is) = sym is
reply_back tree client op (reply.Fd n) (inl is) = sym is
reply_back tree client op (reply.Count n) (inl is) = sym is
reply_back tree client op (reply.At n) (inl is) = sym is
reply_back tree client op (reply.Got bytes) (inl is) = sym is
reply_back tree client op (reply.IsFile size) (inl is) = sym is
reply_back tree client op (reply.IsDir entries) (inl is) = sym is
reply_back tree client op (reply.Names names) (inl is) = sym is
reply_back tree client op (reply.Refused e) (inl is) = sym is
reply_back tree client op reply.Done (inr x) = absurd x
reply_back tree client op (reply.Fd n) (inr x) = absurd x
reply_back tree client op (reply.Count n) (inr x) = absurd x
reply_back tree client op (reply.At n) (inr x) = absurd x
reply_back tree client op (reply.Got bytes) (inr x) = absurd x
reply_back tree client op (reply.IsFile size) (inr x) = absurd x
reply_back tree client op (reply.IsDir entries) (inr x) = absurd x
reply_back tree client op (reply.Names names) (inr x) = absurd x
reply_back tree client op (reply.Refused e) (inr x) = absurd x

entry_back : (ticket : ℕ) (tree : PosixTree) (e : Entry) → IsLegalEntry ticket tree e → entry_of ticket tree (told_of e) e.op ≡ e
entry_back ticket tree e legal =
    let r = reply_back tree e.client e.op e.reply legal.replied in
    λ i. record { ticket = sym legal.numbered i; client = e.client; seq = e.seq; by = e.by; op = e.op; reply = r i }

-- ---- its line

words_free : (x : Excuse) → IsExcuse x → IsFree 10 (excuse_words x)
words_free excuse.Memory h = grind arith
words_free (excuse.Device f) h = free_append 10 (codes "device ") (decimal f) (grind arith) (decimal_free 10 f (omega arith) h)
words_free (excuse.Stopped f) h = free_append 10 (codes "stopped ") (decimal f) (grind arith) (decimal_free 10 f (omega arith) h)
words_free (excuse.Blocks n k) h =
    let a = h.0 in
    let b = h.1 in
    free_append 10 ((codes "blocks " ++ decimal n) ++ codes " ") (decimal k)
    (free_append 10 (codes "blocks " ++ decimal n) (codes " ") (free_append 10 (codes "blocks ") (decimal n) (grind arith) (decimal_free 10 n (omega arith) (omega (arith, a)))) (grind arith))
    (decimal_free 10 k (omega arith) (omega (arith, b)))
words_free excuse.Inodes h = grind arith
words_free (excuse.Extents n) h =
    free_append 10 (codes "extents " ++ decimal n) (codes " 56") (free_append 10 (codes "extents ") (decimal n) (grind arith) (decimal_free 10 n (omega arith) (omega (arith, h)))) (grind arith)

end_free : (w : Why) → IsWhy w → IsFree 10 (end_text (excuse_told w))
end_free why.Served h = tt
end_free why.Starved h = free_append 10 (codes " excuse ") (codes "memory") (grind arith) (grind arith)
end_free (why.Excused x) h = free_append 10 (codes " excuse ") (excuse_words x) (grind arith) (words_free x h.0)

more_free : (actors : List Actor) → AllByRecursion IsActor actors → IsFree 10 (more_actors actors)
more_free [] all = tt
more_free (a ∷ actors) all = ((λ same. omega (arith, same)), free_append 10 (actor_text a) (more_actors actors) (actor_free 10 a (omega arith) all.0) (more_free actors all.1))

via_free : (via : List Actor) → AllByRecursion IsActor via → IsFree 10 (via_text via)
via_free [] all = tt
via_free (a ∷ via) all = free_append 10 (codes " via " ++ actor_text a) (more_actors via) (free_append 10 (codes " via ") (actor_text a) (grind arith) (actor_free 10 a (omega arith) all.0)) (more_free via all.1)

told_free : (ticket : ℕ) (told : Told) (via : List Actor) → ticket < 2 ^ 64 → IsTold told → AllByRecursion IsActor via → IsLine (told_text ticket told via)
told_free ticket told via few is all =
    let c = is.client in
    let s = is.seq in
    let a = free_append 10 (codes "# ") (decimal ticket) (grind arith) (decimal_free 10 ticket (omega arith) few) in
    let b = free_append 10 (codes "# " ++ decimal ticket) (32 ∷ decimal told.client) a ((λ same. omega (arith, same)), decimal_free 10 told.client (omega arith) (omega (arith, c))) in
    let d = free_append 10 (codes "# " ++ decimal ticket ++ 32 ∷ decimal told.client) (46 ∷ decimal told.seq) b ((λ same. omega (arith, same)), decimal_free 10 told.seq (omega arith) (omega (arith, s))) in
    let e = free_append 10 (codes "# " ++ decimal ticket ++ 32 ∷ decimal told.client ++ 46 ∷ decimal told.seq) (codes " by ") d (grind arith) in
    let f = free_append 10 (codes "# " ++ decimal ticket ++ 32 ∷ decimal told.client ++ 46 ∷ decimal told.seq ++ codes " by ") (actor_text told.by) e (actor_free 10 told.by (omega arith) is.by) in
    let g = free_append 10 (codes "# " ++ decimal ticket ++ 32 ∷ decimal told.client ++ 46 ∷ decimal told.seq ++ codes " by " ++ actor_text told.by) (via_text via) f (via_free via all) in
    free_append 10 (codes "# " ++ decimal ticket ++ 32 ∷ decimal told.client ++ 46 ∷ decimal told.seq ++ codes " by " ++ actor_text told.by ++ via_text via) (end_text (excuse_told told.why)) g (end_free told.why is.why)

reply_free : (client seq : ℕ) (r : Reply) → client < 2 ^ 8 → seq < 2 ^ 32 → IsLine (reply_text r) → IsEnded (line_text client seq r)
reply_free client seq r c s free = (
  (decimal client ++ 46 ∷ decimal seq) ++ 32 ∷ reply_text r,
  free_append 10 (decimal client ++ 46 ∷ decimal seq) (32 ∷ reply_text r)
      (free_append 10 (decimal client) (46 ∷ decimal seq) (decimal_free 10 client (omega arith) (omega (arith, c))) ((λ same. omega (arith, same)), decimal_free 10 seq (omega arith) (omega (arith, s))))
      ((λ same. omega (arith, same)), free),
  refl,
)

-- ---- the order

entries_append : (c : ℕ) (h g : List Entry) → entries_of c (h ++ g) ≡ entries_of c h ++ entries_of c g
entries_append c [] g = refl
entries_append c (e ∷ h) g = at (entries_append c h g) (e.client == c)
  where
    at : entries_of c (h ++ g) ≡ entries_of c h ++ entries_of c g → (B : Bool) → cond B (e ∷ entries_of c (h ++ g)) (entries_of c (h ++ g)) ≡ cond B (e ∷ entries_of c h) (entries_of c h) ++ entries_of c g
    at rest true = ap (λ (l : List Entry). e ∷ l) rest
    at rest false = rest

own_first : (e : Entry) (g : List Entry) → entries_of e.client (e ∷ g) ≡ e ∷ entries_of e.client g
own_first e g = ap (λ (b : Bool). cond b (e ∷ entries_of e.client g) (entries_of e.client g)) (Rattle.std.proofs.lemmas.Bool.eq-eqb e.client e.client refl)

nth_number : (a : ℕ) (es : List Entry) (e : Entry) (gs : List Entry) (n : ℕ) → map (λ e. e.seq) (es ++ e ∷ gs) ≡ range_with_len a n → e.seq ≡ a + length es
nth_number a [] e gs zero is = cc
nth_number a [] e gs (suc n) is = let first : e.seq ≡ a = cc in omega (arith, first)
nth_number a (f ∷ es) e gs zero is = cc
nth_number a (f ∷ es) e gs (suc n) is =
    let rest : map (λ e. e.seq) (es ++ e ∷ gs) ≡ range_with_len (a + 1) n = cc in
    let r = nth_number (a + 1) es e gs n rest in
    omega (arith, r)

nth_op : (es : List Entry) (e : Entry) (gs : List Entry) (n : ℕ) (ops : List Op) → map (λ e. e.op) (es ++ e ∷ gs) ≡ take n ops → slice_get ops (length es) ≡ Some e.op
nth_op es e gs n [] is = absurd (none n es is)
  where
    none : (n : ℕ) (es : List Entry) → map (λ e. e.op) (es ++ e ∷ gs) ≡ take n [] → ⊥
    none zero [] is = cc
    none zero (f ∷ es) is = cc
    none (suc n) [] is = cc
    none (suc n) (f ∷ es) is = cc
nth_op [] e gs zero (o ∷ ops) is = cc
nth_op (f ∷ es) e gs zero (o ∷ ops) is = cc
nth_op [] e gs (suc n) (o ∷ ops) is = let first : e.op ≡ o = cc in ap Some (sym first)
nth_op (f ∷ es) e gs (suc n) (o ∷ ops) is = let rest : map (λ e. e.op) (es ++ e ∷ gs) ≡ take n ops = cc in nth_op es e gs n ops rest

next_request : (clients : List (List Op)) (h : List Entry) (e : Entry) (g : List Entry) → IsInOrder clients (h ++ e ∷ g) → IsNextRequest clients h (told_of e) e.op
next_request clients h e g ordered =
    let split : entries_of e.client (h ++ e ∷ g) ≡ entries_of e.client h ++ e ∷ entries_of e.client g = entries_append e.client h (e ∷ g) ∙ ap (λ (l : List Entry). entries_of e.client h ++ l) (own_first e g) in
    let number = nth_number 0 (entries_of e.client h) e (entries_of e.client g) (length (entries_of e.client (h ++ e ∷ g))) (ap (map (λ e. e.seq)) (sym split) ∙ ordered.numbers e.client) in
    let asked = nth_op (entries_of e.client h) e (entries_of e.client g) (length (entries_of e.client (h ++ e ∷ g))) (requests_of clients e.client) (ap (map (λ e. e.op)) (sym split) ∙ ordered.requests e.client) in
    let numbered : e.seq ≡ length (entries_of e.client h) = omega (arith, number) in
    record { numbered = numbered; asked = ap (slice_get (requests_of clients e.client)) numbered ∙ asked }

-- ---- faults

first_all : {X : Type 0} (P : X → Type 0) (xs : List X) (x : X) (ys : List X) → AllByRecursion P (xs ++ x ∷ ys) → P x
first_all P [] x ys all = all.0
first_all P (z ∷ xs) x ys all = first_all P xs x ys all.1

new_fault : (h : List Entry) (e : Entry) (g : List Entry) → AreFaultsOnce (h ++ e ∷ g) → TellsNewFault h e
new_fault [] e g once = tt
new_fault (o ∷ h) e g once = (first_all (λ later. share_fault o.reply later.reply ≡ false) h e g once.0, new_fault h e g once.1)

-- ---- the trace

module _ (start : PosixTree) (clients : List (List Op)) (answers : List (List (List ℕ))) (Ends : List Entry → List ℕ → Type 0) (end : List ℕ) where
  reaches : (h : List Entry) (rest : Transcript) → IsLegalFrom (length h) (tree_after start h) (entries_in rest) → AreFaultsOnce (h ++ entries_in rest) → IsInOrder clients (h ++ entries_in rest)
      → Ends (h ++ entries_in rest) end → AllByRecursion FitsEntry rest → AllByRecursion (IsAnswered answers) (entries_in rest) → length (h ++ entries_in rest) < 2 ^ 64
      → Reaches start clients answers Ends (length rest) h (traces_of rest ++ end)
  reaches h [] legal once ordered ends fits answered few = subst (λ (l : List Entry). Ends l end) (append-nil h) ends
  reaches h (p ∷ rest) legal once ordered ends fits answered few =
      let e = p.0 in
      let told = told_of e in
      let tree = tree_after start h in
      let f = fits.0 in
      let back = entry_back (length h) tree e legal.0 in
      let is_told : IsTold told = record { client = f.client; seq = f.seq; by = f.by; why = why_fits e.reply f.excuse_fits } in
      let line = told_text (length h) told p.1 in
      let longer = length-append h (e ∷ entries_in rest) in
      let short : length h < 2 ^ 64 = omega (arith, longer, few) in
      let printed : trace_text e p.1 ≡ line ++ 10 ∷ [] = ap (λ (e : Entry). trace_text e p.1) (sym back) ∙ trace_is (length h) tree told e.op p.1 in
      let more = append_assoc h (e ∷ []) (entries_in rest) in
      let one_longer = length-append h (e ∷ []) in
      let count : length h + 1 ≡ length (h ++ e ∷ []) = omega (arith, one_longer) in
      let legal_rest : IsLegalFrom (length (h ++ e ∷ [])) (tree_after start (h ++ e ∷ [])) (entries_in rest) =
      subst (λ (n : ℕ). IsLegalFrom n (tree_after start (h ++ e ∷ [])) (entries_in rest)) count
      (subst (λ (t : PosixTree). IsLegalFrom (length h + 1) t (entries_in rest)) (sym (tree_after-push start h e)) legal.1) in
      let rest_reaches = reaches (h ++ e ∷ []) rest legal_rest (subst AreFaultsOnce (sym more) once) (subst (IsInOrder clients) (sym more) ordered)
      (subst (λ (l : List Entry). Ends l end) (sym more) ends) fits.1 answered.1
      (subst (λ (l : List Entry). length l < 2 ^ 64) (sym more) few) in (
        line,
        traces_of rest ++ end,
        told,
        e.op,
        (
          told_free (length h) told p.1 short is_told f.via,
          ap (λ (l : List ℕ). (l ++ traces_of rest) ++ end) printed ∙ append_assoc (line ++ 10 ∷ []) (traces_of rest) end ∙ append_assoc line (10 ∷ []) (traces_of rest ++ end),
        ),
        record {
          tells = (p.1, f.via, is_told, refl);
          next = next_request clients h e (entries_in rest) ordered;
          answered = subst (IsAnswered answers) (sym back) answered.0;
          allowed = subst (λ (e : Entry). IsReplyTo tree e × TellsNewFault h e) (sym back) (legal.0.replied, new_fault h e (entries_in rest) once);
        },
        subst (λ (x : Entry). Reaches start clients answers Ends (length rest) (h ++ x ∷ []) (traces_of rest ++ end)) (sym back) rest_reaches,
      )

-- ---- the lines of the replies

-- the lines of some entries
abbrev lines : List Entry → List (List ℕ)
lines es = map (λ (e : Entry). line_text e.client e.seq e.reply) es

lines_join : (es : List Entry) → text_of (lines es) ≡ lines_of es
lines_join [] = refl
lines_join (e ∷ es) = ap (λ (l : List ℕ). line_text e.client e.seq e.reply ++ l) (lines_join es)

-- those of so many clients from one on
abbrev answers_from : ℕ → ℕ → List Entry → List (List (List ℕ))
answers_from client zero h = []
answers_from client (suc n) h = lines (entries_of client h) ∷ answers_from (client + 1) n h

abbrev FitsLine : Entry → Type 0
FitsLine e = (e.client < 2 ^ 8) × (e.seq < 2 ^ 32) × FitsReply e.reply × IsLine (reply_text e.reply)

lines_fit : (told : Transcript) → AllByRecursion FitsEntry told → AllByRecursion FitsLine (entries_in told)
lines_fit [] all = tt
lines_fit (p ∷ told) all = ((all.0.client, all.0.seq, all.0.reply_fits, all.0.line), lines_fit told all.1)

own_fit : (k : ℕ) (h : List Entry) → AllByRecursion FitsLine h → AllByRecursion FitsLine (entries_of k h)
own_fit k [] all = tt
own_fit k (e ∷ h) all = at (own_fit k h all.1) (e.client == k)
  where
    at : AllByRecursion FitsLine (entries_of k h) → (B : Bool) → AllByRecursion FitsLine (cond B (e ∷ entries_of k h) (entries_of k h))
    at rest true = (all.0, rest)
    at rest false = rest

lines_ended : (es : List Entry) → AllByRecursion FitsLine es → AllByRecursion IsEnded (lines es)
lines_ended [] all = tt
lines_ended (e ∷ es) all = (reply_free e.client e.seq e.reply all.0.0 all.0.1 all.0.3, lines_ended es all.1)

lines_told : (k n : ℕ) (es : List Entry) → AllByRecursion FitsLine es → AllByRecursion (λ e. e.client ≡ k) es → map (λ e. e.seq) es ≡ range_with_len n (length es)
    → (i : ℕ) (line : List ℕ) → slice_get (lines es) i ≡ Some line → IsReplyLine k (n + i) line
lines_told k n [] all own numbers i line is = cc
lines_told k n (e ∷ es) all own numbers zero line is =
    let same : line_text e.client e.seq e.reply ≡ line = cc in
    let first : e.seq ≡ n = cc in
    let seq : e.seq ≡ n + 0 = omega (arith, first) in
    (e.reply, all.0.2, sym same ∙ (λ i. line_text (own.0 i) (seq i) e.reply))
lines_told k n (e ∷ es) all own numbers (suc i) line is =
    let rest : map (λ e. e.seq) es ≡ range_with_len (n + 1) (length es) = cc in
    let e : (n + 1) + i ≡ n + suc i = omega arith in
    subst (λ (m : ℕ). IsReplyLine k m line) e (lines_told k (n + 1) es all.1 own.1 rest i line is)

answers_are : (clients : List (List Op)) (all : List (List Op)) (client : ℕ) (h : List Entry) → AllByRecursion FitsLine h → IsInOrder all h
    → ((i : ℕ) → length (entries_of (client + i) h) ≡ length (requests_of clients i)) → AreAnswersFrom client clients (answers_from client (length clients) h)
answers_are [] all client h fits ordered each = tt
answers_are (r ∷ clients) all client h fits ordered each =
    let none : client ≡ client + 0 = omega arith in
    let count : length (entries_of client h) ≡ length r = ap (λ (c : ℕ). length (entries_of c h)) none ∙ each 0 in (
      record {
        ended = lines_ended (entries_of client h) (own_fit client h fits);
        each = length-map (entries_of client h) (λ (e : Entry). line_text e.client e.seq e.reply) ∙ count;
        told = λ i line is.
            let e : 0 + i ≡ i = omega arith in
            subst (λ (m : ℕ). IsReplyLine client m line) e (lines_told client 0 (entries_of client h) (own_fit client h fits) (own_entries client h) (ordered.numbers client) i line is);
      },
      answers_are clients all (client + 1) h fits ordered (λ i. let e : (client + 1) + i ≡ client + suc i = omega arith in ap (λ (c : ℕ). length (entries_of c h)) e ∙ each (suc i)),
    )

answers_print : (client n : ℕ) (h : List Entry) → output_of client h ++ flat_map text_of (answers_from client n h) ≡ output_of (client + n) h
answers_print client zero h = let e : client ≡ client + 0 = omega arith in append-nil (output_of client h) ∙ ap (λ (c : ℕ). output_of c h) e
answers_print client (suc n) h =
    let e : (client + 1) + n ≡ client + suc n = omega arith in
    sym (append_assoc (output_of client h) (text_of (lines (entries_of client h))) (flat_map text_of (answers_from (client + 1) n h)))
    ∙ ap (λ (l : List ℕ). (output_of client h ++ l) ++ flat_map text_of (answers_from (client + 1) n h)) (lines_join (entries_of client h))
    ∙ ap (λ (l : List ℕ). l ++ flat_map text_of (answers_from (client + 1) n h)) (one_more client) ∙ answers_print (client + 1) n h ∙ ap (λ (c : ℕ). output_of c h) e
  where
    one_more : (c : ℕ) → output_of c h ++ lines_of (entries_of c h) ≡ output_of (c + 1) h
    one_more c = let e : suc c ≡ c + 1 = omega arith in ap (λ (k : ℕ). output_of k h) e

-- the line of a client
answers_nth : (client n : ℕ) (h : List Entry) (i : ℕ) → i < n → slice_get (answers_from client n h) i ≡ Some (lines (entries_of (client + i) h))
answers_nth client zero h i less = absurd (omega (arith, less))
answers_nth client (suc n) h zero less = let e : client ≡ client + 0 = omega arith in ap (λ (c : ℕ). Some (lines (entries_of c h))) e
answers_nth client (suc n) h (suc i) less =
    let e : (client + 1) + i ≡ client + suc i = omega arith in
    answers_nth (client + 1) n h i (omega (arith, less)) ∙ ap (λ (c : ℕ). Some (lines (entries_of c h))) e

nth_line : (es : List Entry) (e : Entry) (gs : List Entry) → slice_get (lines (es ++ e ∷ gs)) (length es) ≡ Some (line_text e.client e.seq e.reply)
nth_line [] e gs = refl
nth_line (f ∷ es) e gs = nth_line es e gs

all_answered : (clients : List (List Op)) (h : List Entry) (before after : List Entry) → before ++ after ≡ h → IsInOrder clients h → AllByRecursion (IsAnswered (answers_from 0 (length clients) h)) after
all_answered clients h before [] is ordered = tt
all_answered clients h before (e ∷ after) is ordered =
    let next = next_request clients before e after (subst (IsInOrder clients) (sym is) ordered) in
    let client = there clients e.client e.seq e.op next.asked in
    let same : 0 + e.client ≡ e.client = omega arith in
    let split : entries_of e.client h ≡ entries_of e.client before ++ e ∷ entries_of e.client after =
    ap (entries_of e.client) (sym is) ∙ entries_append e.client before (e ∷ after) ∙ ap (λ (l : List Entry). entries_of e.client before ++ l) (own_first e after) in (
      ap (λ (o : Option (List (List ℕ))). slice_get (unwrap_or o []) e.seq) (answers_nth 0 (length clients) h e.client client ∙ ap (λ (c : ℕ). Some (lines (entries_of c h))) same)
          ∙ (λ i. slice_get (lines (split i)) (next.numbered i)) ∙ nth_line (entries_of e.client before) e (entries_of e.client after),
      all_answered clients h (before ++ e ∷ []) after (append_assoc before (e ∷ []) after ∙ is) ordered,
    )

pub printed_legal : PrintedTextsAreLegal
printed_legal start clients entries transcript few history fits =
    let h = entries_in transcript in
    let line = lines_fit transcript fits in
    let answers = answers_from 0 (length clients) h in
    let long = history.long in
    let all : output_of (0 + length clients) h ≡ output_of (length clients) h = let e : 0 + length clients ≡ length clients = omega arith in ap (λ (c : ℕ). output_of c h) e in
    let many = length-map transcript (λ (p : Entry × List Actor). p.0) in
    let count : length transcript ≡ entries = omega (arith, long, many) in (
      answers,
      traces_of transcript,
      (
        answers_are clients clients 0 h line history.ordered (λ i. let e : 0 + i ≡ i = omega arith in ap (λ (c : ℕ). length (entries_of c h)) e ∙ history.complete i),
        ap (λ (l : List ℕ). l ++ traces_of transcript) (sym (answers_print 0 (length clients) h ∙ all)),
      ),
      subst (λ (n : ℕ). Reaches start clients answers (IsWhole clients answers) n [] (traces_of transcript)) count
          (subst (λ (l : List ℕ). Reaches start clients answers (IsWhole clients answers) (length transcript) [] l) (append-nil (traces_of transcript))
          (reaches start clients answers (IsWhole clients answers) [] [] transcript history.legal.entries history.legal.faults history.ordered (refl, history.complete) fits
          (all_answered clients h [] h refl history.ordered) (omega (arith, long, few)))),
    )

pub printed_front : PrintedFrontsAreLegal
printed_front start clients entries answers transcript more few are front fits =
    let long = front.long in
    let many = length-map transcript (λ (p : Entry × List Actor). p.0) in
    let count : length transcript ≡ entries = omega (arith, long, many) in (
      answers,
      traces_of transcript ++ more,
      (are, refl),
      subst (λ (n : ℕ). Reaches start clients answers (IsAny answers) n [] (traces_of transcript ++ more)) count
          (reaches start clients answers (IsAny answers) more [] transcript front.legal.entries front.legal.faults front.ordered tt fits front.answered (omega (arith, long, few))),
    )
