-- The lines of the entries so far, and those to come.
use Rattle.std.proofs.Common.{◌≡◌, inr, ℕ, ◌+◌, ◌<◌, ◌≤◌, List, [], ◌∷◌, ◌++◌, ap, sym, refl, ◌∙◌, length, take, drop, get_or, append_assoc, zero, suc, arith}
use Rattle.std.proofs.lemmas.List.{append-nil, take_more}
use Rattle.ufs_model.specs.History.{joined}
use Rattle.ufs_model.specs.declared.data.Entry.{Entry}
use Rattle.std.specs.Fmt.{decimal}
use Rattle.std.specs.Prelude.{Bool, true, codes}
use Rattle.ufs_script.specs.Output.{lines_of, reply_text, actor_text, via_text, why_text}
use Rattle.ufs_print.specs.declared.transcripts.LineKind.{LineKind}
use Rattle.ufs_print.specs.declared.transcripts.LineKind.TheVariants as kind
use Rattle.ufs_print.specs.Printed.{entry_line, entry_lines}
use Rattle.ufs_print.specs.Printed.{session_lines, trace_lines, trace_part}
use Rattle.ufs_print.proofs.ListLines.{all_ended, lines-append, split_at, taken_more}
use Rattle.ufs_print.proofs.WriteLemmas.{IsEnded}

pub joined-append : (xs ys : List (List Entry)) → joined (xs ++ ys) ≡ joined xs ++ joined ys
joined-append [] ys = refl
joined-append (x ∷ xs) ys = ap (λ rest. x ++ rest) (joined-append xs ys) ∙ sym (append_assoc x (joined xs) (joined ys))

-- the reply lines of entries, by the line of each
pub lines_are : (h : List Entry) → lines_of h ≡ entry_lines kind.Reply h
lines_are [] = refl
lines_are (e ∷ h) = ap (λ rest. entry_line kind.Reply e ++ rest) (lines_are h)

pub lines_of-append : (xs ys : List Entry) → lines_of (xs ++ ys) ≡ lines_of xs ++ lines_of ys
lines_of-append xs ys = lines_are (xs ++ ys) ∙ lines-append (entry_line kind.Reply) xs ys ∙ (λ i. sym (lines_are xs) i ++ sym (lines_are ys) i)

module _ (which : LineKind) where
  -- a transcript adds its lines
  module _ (told : List (List Entry)) (i : ℕ) (list : List Entry) (below : i < length told) (is : list ≡ get_or told i list) where
    pub with_list : entry_lines which (joined (take (i + 1) told)) ≡ entry_lines which (joined (take i told)) ++ entry_lines which list
    with_list = ap (λ l. entry_lines which (joined l)) (taken_more told i list below is)
        ∙ ap (entry_lines which) (joined-append (take i told) (list ∷ []) ∙ ap (λ r. joined (take i told) ++ r) (append-nil list)) ∙ lines-append (entry_line which) (joined (take i told)) list

    pub all_lists : entry_lines which (joined told) ≡ (entry_lines which (joined (take i told)) ++ entry_lines which list) ++ entry_lines which (joined (drop (suc i) told))
    all_lists = ap (λ l. entry_lines which (joined l)) (split_at told i list below is)
        ∙ ap (entry_lines which) (joined-append (take i told) (list ∷ drop (suc i) told)) ∙ lines-append (entry_line which) (joined (take i told)) (list ++ joined (drop (suc i) told))
        ∙ ap (λ r. entry_lines which (joined (take i told)) ++ r) (lines-append (entry_line which) list (joined (drop (suc i) told)))
        ∙ sym (append_assoc (entry_lines which (joined (take i told))) (entry_lines which list) (entry_lines which (joined (drop (suc i) told))))

-- a line ends with a line end
pub entry_ended : (which : LineKind) (e : Entry) → IsEnded (entry_line which e)
entry_ended kind.Reply e = inr (decimal e.client ++ 46 ∷ decimal e.seq ++ 32 ∷ reply_text e.reply, refl)
entry_ended kind.Trace e = inr (codes "# " ++ decimal e.ticket ++ 32 ∷ decimal e.client ++ 46 ∷ decimal e.seq ++ codes " by " ++ actor_text e.by ++ via_text [] ++ why_text e.reply, refl)

pub entries_ended : (which : LineKind) (h : List Entry) → IsEnded (entry_lines which h)
entries_ended which h = all_ended (entry_line which) (entry_ended which) h

-- ---- the reply lines, and the trace behind them

-- the reply lines are the first of what a session prints
pub first_lines : (trace : Bool) (h : List Entry) → session_lines trace h ≡ entry_lines kind.Reply h ++ trace_part trace h
first_lines trace h = ap (λ l. l ++ trace_part trace h) (lines_are h)

-- with a trace its lines come behind them
pub traced : (trace : Bool) (h : List Entry) → trace ≡ true → session_lines trace h ≡ entry_lines kind.Reply h ++ entry_lines kind.Trace h
traced trace h is = ap (λ b. session_lines b h) is ∙ ap (λ l. l ++ trace_lines h) (lines_are h)
