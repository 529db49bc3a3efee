-- Words and lines one after the other: what is refused stays refused.
use Rattle.std.proofs.Common.{◌≡◌, ℕ, ◌<◌, suc, List, [], ◌∷◌, ◌++◌, length, length-append, take, drop, get_or, drop-cons, map, refl, cond, Some, None, Ok, Err, Bor, ◌∙◌, sym, ap, inl, inr, arith}
use Rattle.std.specs.List.{fold}
use Rattle.std.proofs.lemmas.List.Sums.{fold-append}
use Rattle.ufs_script.specs.declared.draft.Draft.{Draft}
use Rattle.ufs_script.specs.declared.fault.ScriptFault.{ScriptFault}
use Rattle.ufs_script.specs.declared.request.Flags.{Flags}
use Rattle.ufs_script.specs.Requests.{with_flag}
use Rattle.ufs_script.specs.Script.{after_line, draft_of, no_lines, finished, passed, placed_of, max_script, IsFaultOf}
use Rattle.ufs_script.specs.Lines.{ended_lines, lines_in}
use Rattle.ufs_script.specs.Reading.{LongerIsAlike}
use Rattle.std.proofs.lemmas.Bool.{lt-leb}
use Rattle.std.proofs.lemmas.List.{take-append-le}

-- ---- flags

none_stays : (words : List (List ℕ)) → fold with_flag None words ≡ None
none_stays [] = refl
none_stays (word ∷ words) = none_stays words

-- a refused flag refuses all
pub flag_refused : (words : List (Bor (List ℕ))) (i : ℕ) (d : Bor (List ℕ)) (flags : Flags) → i < length words → with_flag (Some flags) (get_or words i d).now ≡ None → fold with_flag (Some flags) (map (λ w. w.now) (drop i words)) ≡ None
flag_refused words i d flags h refused =
    ap (λ ws. fold with_flag (Some flags) (map (λ (w : Bor (List ℕ)). w.now) ws)) (drop-cons words i d h)
    ∙ ap (λ given. fold with_flag given (map (λ (w : Bor (List ℕ)). w.now) (drop (suc i) words))) refused
    ∙ none_stays (map (λ (w : Bor (List ℕ)). w.now) (drop (suc i) words))

-- ---- lines

pub fault_stays : (f : ScriptFault) (lines : List (List ℕ)) → fold after_line (Err f) lines ≡ Err f
fault_stays f [] = refl
fault_stays f (line ∷ lines) = fault_stays f lines

-- the first break counts, whatever lines follow
pub first_break : (draft : Draft) (line : List ℕ) (lines : List (List ℕ)) (f : ScriptFault) → IsFaultOf (after_line (Ok draft) line) f → IsFaultOf (fold after_line (Ok draft) (line ∷ lines)) f
first_break draft line lines f (inl memory) = inl memory
first_break draft line lines f (inr here) = inr (ap (λ r. fold after_line r lines) here ∙ fault_stays f lines)

pub break_before : (lines more : List (List ℕ)) (f : ScriptFault) → IsFaultOf (draft_of lines) f → IsFaultOf (draft_of (lines ++ more)) f
break_before lines more f (inl memory) = inl memory
break_before lines more f (inr here) = inr (fold-append after_line (Ok no_lines) lines more ∙ ap (λ r. fold after_line r more) here ∙ fault_stays f more)

-- ---- texts that are too long

passed_alike : (text : List ℕ) → max_script < length text → placed_of text ≡ passed (draft_of (ended_lines (take max_script text)))
passed_alike text long = ap (λ b. cond b (finished (draft_of (lines_in text))) (passed (draft_of (ended_lines (take max_script text))))) (lt-leb (length text) max_script long)

-- only the bytes within the greatest length count
pub longer_alike : LongerIsAlike
longer_alike text more long =
    let longer : max_script < length (text ++ more) = omega (arith, length-append text more) in
    passed_alike (text ++ more) longer
    ∙ ap (λ front. passed (draft_of (ended_lines front))) (take-append-le max_script text more (omega arith))
    ∙ sym (passed_alike text long)
