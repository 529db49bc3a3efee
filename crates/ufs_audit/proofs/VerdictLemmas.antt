-- A verdict on the trace is one on the whole text, since a text has one cut between replies and trace.
use Rattle.std.proofs.Common.{◌≡◌, ℕ, ◌+◌, List, [], ◌∷◌, ◌++◌, ap, sym, refl, subst, ◌∙◌, length, arith, inl, inr, zero, suc}
use Rattle.std.specs.List.{AllByRecursion, flat_map}
use Rattle.std.proofs.lemmas.List.{append_assoc}
use Rattle.ufs_model.specs.PosixTree.{PosixTree}
use Rattle.ufs_model.specs.declared.data.Op.{Op}
use Rattle.ufs_model.specs.declared.data.Entry.{Entry}
use Rattle.ufs_audit.specs.Audit.{IsEnded, AreAnswersOf, AreAnswersFrom, AreAnswers, HasAnswers, LacksAnswers, Reaches, IsWhole, IsAny, IsWrong, IsVerdict, text_of}
use Rattle.ufs_audit.specs.Following.{IsTraceVerdict}
use Rattle.ufs_audit.specs.declared.verdict.Verdict.{Verdict}
use Rattle.ufs_audit.specs.declared.verdict.Verdict.TheVariants as verdict
use Rattle.ufs_audit.specs.declared.verdict.Wrong.TheVariants as wrong
use Rattle.ufs_audit.proofs.AnswerLemmas.{one_ended}

record AreSameLines (lines others : List (List ℕ)) (more more' : List ℕ) : Type 0 where
  lines_are : lines ≡ others
  more_is : more ≡ more'

one_lines : (lines others : List (List ℕ)) (more more' : List ℕ) → length lines ≡ length others → AllByRecursion IsEnded lines → AllByRecursion IsEnded others
    → text_of lines ++ more ≡ text_of others ++ more' → AreSameLines lines others more more'
one_lines [] [] more more' same all all' is = record { lines_are = refl; more_is = is }
one_lines [] (l ∷ others) more more' same all all' is = absurd (omega (arith, same))
one_lines (l ∷ lines) [] more more' same all all' is = absurd (omega (arith, same))
one_lines (l ∷ lines) (k ∷ others) more more' same all all' is =
    let cut = one_ended l k (text_of lines ++ more) (text_of others ++ more') all.0 all'.0 (sym (append_assoc l (text_of lines) more) ∙ is ∙ append_assoc k (text_of others) more') in
    let rest = one_lines lines others more more' (omega (arith, same)) all.1 all'.1 cut.more_is in
    record { lines_are = (λ i. cut.line_is i ∷ rest.lines_are i); more_is = rest.more_is }

record AreSameAnswers (answers others : List (List (List ℕ))) (trace trace' : List ℕ) : Type 0 where
  answers_are : answers ≡ others
  trace_is : trace ≡ trace'

one_answers : (client : ℕ) (clients : List (List Op)) (answers others : List (List (List ℕ))) (trace trace' : List ℕ) → AreAnswersFrom client clients answers → AreAnswersFrom client clients others
    → flat_map text_of answers ++ trace ≡ flat_map text_of others ++ trace' → AreSameAnswers answers others trace trace'
one_answers client [] [] [] trace trace' a b is = record { answers_are = refl; trace_is = is }
one_answers client [] [] (l ∷ others) trace trace' a b is = absurd b
one_answers client [] (l ∷ answers) others trace trace' a b is = absurd a
one_answers client (r ∷ clients) [] others trace trace' a b is = absurd a
one_answers client (r ∷ clients) (l ∷ answers) [] trace trace' a b is = absurd b
one_answers client (r ∷ clients) (l ∷ answers) (k ∷ others) trace trace' a b is =
    let first = one_lines l k (flat_map text_of answers ++ trace) (flat_map text_of others ++ trace') (a.0.each ∙ sym b.0.each) a.0.ended b.0.ended
    (sym (append_assoc (text_of l) (flat_map text_of answers) trace) ∙ is ∙ append_assoc (text_of k) (flat_map text_of others) trace') in
    let rest = one_answers (client + 1) clients answers others trace trace' a.1 b.1 first.more_is in
    record { answers_are = (λ i. first.lines_are i ∷ rest.answers_are i); trace_is = rest.trace_is }

module _ (start : PosixTree) (clients : List (List Op)) (text : List ℕ) (answers : List (List (List ℕ))) (trace : List ℕ) (has : HasAnswers clients text answers trace) where
  reaches_own : (Ends : List (List (List ℕ)) → List Entry → List ℕ → Type 0) (n : ℕ) (others : List (List (List ℕ))) (trace' : List ℕ) → HasAnswers clients text others trace'
      → Reaches start clients others (Ends others) n [] trace' → Reaches start clients answers (Ends answers) n [] trace
  reaches_own Ends n others trace' has' reaches =
      let same = one_answers 0 clients others answers trace' trace has'.0 has.0 (sym has'.1 ∙ has.1) in
      subst (λ (l : List (List (List ℕ))). Reaches start clients l (Ends l) n [] trace) same.answers_are
      (subst (λ (t : List ℕ). Reaches start clients others (Ends others) n [] t) same.trace_is reaches)

  pub whole_verdict : (v : Verdict) → IsTraceVerdict start clients answers trace v → IsVerdict start clients text v
  whole_verdict (verdict.Legal entries) is = (answers, trace, has, is)
  whole_verdict (verdict.Illegal ticket cause) is = record {
    illegal = λ entries legal. is.0 entries (reaches_own (IsWhole clients) entries legal.0 legal.1 legal.2 legal.3);
    ends = λ to. is.1 (reaches_own IsAny (ticket + 1) to.0 to.1 to.2 to.3);
    stands = inl (answers, trace, has, is.2);
  }

-- a text that lacks lines of replies
pub lacks_verdict : (start : PosixTree) (clients : List (List Op)) (text : List ℕ) → LacksAnswers clients text → IsVerdict start clients text (verdict.Illegal 0 wrong.Text)
lacks_verdict start clients text lacks = record {
  illegal = λ entries legal. lacks legal.0 legal.1 legal.2;
  ends = λ to. lacks to.0 to.1 to.2;
  stands = inr (refl, refl, lacks);
}
