-- What is said of a trace while its source is read, whatever follows.
use Rattle.std.proofs.Common.{◌≡◌, ◌≢◌, ℕ, ◌+◌, ◌^◌, ◌<◌, ◌≤◌, List, [], ◌∷◌, ◌++◌, Option, Some, None, ap, sym, refl, subst, ◌∙◌, length, arith, ◌⊎◌, inl, inr, true, false}
use Rattle.std.proofs.lemmas.List.{length-append, append_assoc, append-nil}
use Rattle.std.specs.List.{flat_map}
use Rattle.ufs_model.specs.PosixTree.{PosixTree}
use Rattle.ufs_model.specs.History.{tree_after, IsComplete}
use Rattle.ufs_model.specs.declared.data.Op.{Op}
use Rattle.ufs_model.specs.declared.data.Entry.{Entry}
use Rattle.ufs_lines.specs.Trace.{TellOne, Tells}
use Rattle.ufs_audit.specs.Audit.{IsLine, IsEnded, Begins, IsWrong, IsWhole, IsVerdict, AreAnswers, LacksAnswers, text_of, entry_of}
use Rattle.ufs_audit.specs.Following.{Stands, Follows, IsStep, IsTraceVerdict}
use Rattle.ufs_audit.specs.Sources.{Gives}
use Rattle.ufs_audit.specs.Ends.{IsLast, Reads, TextLine, Settles, IsEndOf, TraceVerdict, SoFarVerdict, ReadsRest, TextVerdict}
use Rattle.ufs_audit.specs.declared.verdict.Verdict.{Verdict}
use Rattle.ufs_audit.specs.declared.verdict.Verdict.TheVariants as verdict
use Rattle.ufs_audit.specs.declared.verdict.Wrong.{Wrong}
use Rattle.ufs_audit.specs.declared.verdict.Wrong.TheVariants as wrong
use Rattle.ufs_lines.proofs.CutLemmas.{free_last, one_last}
use Rattle.ufs_audit.proofs.ReadLemmas.{reads_on, reads_as, reads_none, gives_on, settle}
use Rattle.ufs_audit.proofs.AnswerLemmas.{no_ended}
use Rattle.ufs_audit.proofs.FollowLemmas.{IsRun, begins_run, one_more, illegal, legal, few_entries}
use Rattle.ufs_audit.proofs.VerdictLemmas.{whole_verdict, lacks_verdict}

pub record IsStreamed (start : PosixTree) (clients : List (List Op)) (answers : List (List (List ℕ))) (old cur : Option (List ℕ)) (ahead ahead' : List ℕ) (room room' ticket : ℕ) (line : List ℕ)
    (tree : PosixTree) (counts faults : List ℕ) : Type 0 where
  pub history : List Entry
  pub seen : List ℕ
  pub reads : Reads old cur ahead ahead' room room' (seen ++ line)
  pub stops : IsEnded line ⊎ (IsLine line × IsLast cur ahead')
  pub run : (future : List ℕ) → IsRun start clients answers (seen ++ (line ++ future)) ticket history (line ++ future)
  pub stands : Stands start clients history tree counts faults

-- the front of a line that ends
pub front_is : (new : Option (List ℕ)) (ahead line front : List ℕ) → (IsEnded line ⊎ (IsLine line × IsLast new ahead)) → line ≡ front ++ 10 ∷ [] → IsLine front
front_is new ahead line front (inl ended) is = subst IsLine (one_last 10 ended.0 front (sym ended.2 ∙ is)) ended.1
front_is new ahead line front (inr last) is = absurd (free_last 10 front (subst IsLine is last.0))

pub begins_with : (line front future : List ℕ) → IsLine front → line ≡ front ++ 10 ∷ [] → Begins (line ++ future) front future
begins_with line front future free is = (free, ap (λ (l : List ℕ). l ++ future) is ∙ append_assoc front (10 ∷ []) future)

module _ (one : TellOne) (start : PosixTree) (clients : List (List Op)) (answers : List (List (List ℕ))) (few : length clients ≤ 16) (old cur : Option (List ℕ)) (ahead ahead' : List ℕ) (room room' : ℕ) where
  pub streamed_begins : (line : List ℕ) (tree : PosixTree) (counts faults : List ℕ) → TextLine old cur ahead ahead' room room' line → Stands start clients [] tree counts faults
      → IsStreamed start clients answers old cur ahead ahead' room room' 0 line tree counts faults
  streamed_begins line tree counts faults text stands = record {
    history = [];
    seen = [];
    reads = text.reads;
    stops = text.stops;
    run = λ future. begins_run start clients answers (line ++ future);
    stands = stands;
  }

  module _ (ticket : ℕ) (line : List ℕ) (tree : PosixTree) (counts faults : List ℕ) (s : IsStreamed start clients answers old cur ahead ahead' room room' ticket line tree counts faults) where
    pub ticket_is : ticket ≡ length s.history
    ticket_is = sym (s.run []).long

    pub ticket_few : ticket ≤ 1048576
    ticket_few = let l = ticket_is in let f = few_entries start clients s.history tree counts faults s.stands few in omega (arith, l, f)

    pub streamed_more : (front : List ℕ) (new : Option (List ℕ)) (ahead'' : List ℕ) (room'' : ℕ) (line' : List ℕ) (tree' : PosixTree) (counts' faults' : List ℕ) → line ≡ front ++ 10 ∷ []
        → IsStep start clients answers s.history front tree' counts' faults' None → TextLine cur new ahead' ahead'' room' room'' line'
        → IsStreamed start clients answers old new ahead ahead'' room room'' (ticket + 1) line' tree' counts' faults'
    streamed_more front new ahead'' room'' line' tree' counts' faults' is step text =
        let free = front_is cur ahead' line front s.stops is in
        let fewer = ticket_few in
        record {
          history = s.history ++ entry_of (length s.history) (tree_after start s.history) step.0 step.1 ∷ [];
          seen = s.seen ++ line;
          reads = reads_on old cur new ahead ahead' ahead'' room room' room'' (s.seen ++ line) line' s.reads text.reads;
          stops = text.stops;
          run = λ future.
              subst (λ (l : List ℕ). IsRun start clients answers l (ticket + 1) (s.history ++ entry_of (length s.history) (tree_after start s.history) step.0 step.1 ∷ []) (line' ++ future)) (sym (append_assoc s.seen line (line' ++ future)))
              (one_more one start clients answers (s.seen ++ (line ++ (line' ++ future))) (line ++ (line' ++ future)) front (line' ++ future) ticket s.history step.0 step.1 (omega (arith, fewer)) (s.run (line' ++ future))
              record { begins = begins_with line front (line' ++ future) free is; next = step.2 });
          stands = step.3;
        }

    pub streamed_wrong : (front : List ℕ) (cause : Wrong) (tree' : PosixTree) (counts' faults' : List ℕ) → line ≡ front ++ 10 ∷ []
        → IsStep start clients answers s.history front tree' counts' faults' (Some cause)
        → TraceVerdict start clients answers old cur ahead ahead' room room' (verdict.Illegal ticket cause)
    streamed_wrong front cause tree' counts' faults' is wrong =
        let free = front_is cur ahead' line front s.stops is in
        let fewer = ticket_few in (
          s.seen ++ line,
          s.reads,
          inl (λ future.
              subst (λ (l : List ℕ). IsTraceVerdict start clients answers l (verdict.Illegal ticket cause)) (sym (append_assoc s.seen line future))
              (illegal one start clients answers (s.seen ++ (line ++ future)) (line ++ future) ticket s.history cause (omega (arith, fewer)) (s.run future)
              (wrong (line ++ future) future (begins_with line front future free is)))),
        )

    -- all that is left
    last_run : IsRun start clients answers (s.seen ++ line) ticket s.history line
    last_run =
        subst (λ (l : List ℕ). IsRun start clients answers (s.seen ++ l) ticket s.history l) (append-nil line) (s.run [])

    pub streamed_ends : (v : Verdict) → ((front : List ℕ) → line ≡ front ++ 10 ∷ [] → ⊥) → IsEndOf clients s.history ticket line v → TraceVerdict start clients answers old cur ahead ahead' room room' v
    streamed_ends v none ends = (s.seen ++ line, s.reads, inr ((at s.stops).1, of v ends))
      where
        at : (IsEnded line ⊎ (IsLine line × IsLast cur ahead')) → IsLine line × IsLast cur ahead'
        at (inl ended) = absurd (none ended.0 ended.2)
        at (inr last) = last

        of : (v : Verdict) → IsEndOf clients s.history ticket line v → IsTraceVerdict start clients answers (s.seen ++ line) v
        of (verdict.Legal entries) e =
            subst (λ (n : ℕ). IsTraceVerdict start clients answers (s.seen ++ line) (verdict.Legal n)) (sym e.0)
            (legal one start clients answers (s.seen ++ line) ticket s.history (subst (λ (l : List ℕ). IsRun start clients answers (s.seen ++ line) ticket s.history l) e.1 last_run) e.2)
        of (verdict.Illegal t cause) e =
            let fewer = ticket_few in
            let free = (at s.stops).0 in
            subst (λ (n : ℕ). IsTraceVerdict start clients answers (s.seen ++ line) (verdict.Illegal n cause)) (sym e.0)
            (subst (λ (w : Wrong). IsTraceVerdict start clients answers (s.seen ++ line) (verdict.Illegal ticket w)) (sym e.1)
            (illegal one start clients answers (s.seen ++ line) line ticket s.history wrong.Text (omega (arith, fewer)) last_run
            (inl (
              (λ l more told begins tells. no_ended line (l ++ 10 ∷ []) more free (l, begins.0, refl) (begins.1 ∙ sym (append_assoc l (10 ∷ []) more))),
              (λ whole. e.2 whole.0 whole.1),
            ))))

-- ---- the whole text

-- a verdict on the trace is one on the text
pub front_verdict : (start : PosixTree) (clients : List (List Op)) (answers : List (List (List ℕ))) (old cur new : Option (List ℕ)) (ahead ahead' ahead'' : List ℕ) (room room' room'' : ℕ) (v : Verdict)
    → Reads old cur ahead ahead' room room' (flat_map text_of answers) → AreAnswers clients answers
    → TraceVerdict start clients answers cur new ahead' ahead'' room' room'' v → SoFarVerdict start clients old new ahead ahead'' room room'' v
front_verdict start clients answers old cur new ahead ahead' ahead'' room room' room'' v reads are trace = (
  flat_map text_of answers ++ trace.0,
  reads_on old cur new ahead ahead' ahead'' room room' room'' (flat_map text_of answers) trace.0 reads trace.1,
  at trace.2,
)
  where
    at : Settles new ahead'' (λ text. IsTraceVerdict start clients answers text v) trace.0 → Settles new ahead'' (λ text. IsVerdict start clients text v) (flat_map text_of answers ++ trace.0)
    at (inl any) = inl (λ future. whole_verdict start clients ((flat_map text_of answers ++ trace.0) ++ future) answers (trace.0 ++ future) (are, append_assoc (flat_map text_of answers) trace.0 future) v (any future))
    at (inr last) = inr (last.0, whole_verdict start clients (flat_map text_of answers ++ trace.0) answers trace.0 (are, refl) v last.1)

pub lacks_so_far : (start : PosixTree) (clients : List (List Op)) (old cur : Option (List ℕ)) (ahead ahead' : List ℕ) (room room' : ℕ) (text : List ℕ)
    → Reads old cur ahead ahead' room room' text → Settles cur ahead' (LacksAnswers clients) text → SoFarVerdict start clients old cur ahead ahead' room room' (verdict.Illegal 0 wrong.Text)
lacks_so_far start clients old cur ahead ahead' room room' text reads (inl any) = (text, reads, inl (λ future. lacks_verdict start clients (text ++ future) (any future)))
lacks_so_far start clients old cur ahead ahead' room room' text reads (inr last) = (text, reads, inr (last.0, lacks_verdict start clients text last.1))

-- and with what is left it is one on all
pub text_verdict : (start : PosixTree) (clients : List (List Op)) (old cur new : Option (List ℕ)) (ahead ahead' ahead'' : List ℕ) (room room' room'' : ℕ) (v : Verdict)
    → SoFarVerdict start clients old cur ahead ahead' room room' v → ReadsRest cur new ahead' ahead'' room' room'' → TextVerdict start clients old new ahead ahead'' room v
text_verdict start clients old cur new ahead ahead' ahead'' room room' room'' v front rest =
    let s = settle cur new ahead' ahead'' (λ text. IsVerdict start clients text v) front.0 rest.0 front.2 rest.1.gives rest.2 in
    let u = front.1.counted in
    let w = rest.1.counted in
    let fewer = s.2 in
    let l = length-append front.0 s.0 in
    (front.0 ++ s.0, gives_on old cur new ahead ahead' ahead'' front.0 s.0 front.1.gives s.1, rest.2, omega (arith, u, w, fewer, l), s.3)
