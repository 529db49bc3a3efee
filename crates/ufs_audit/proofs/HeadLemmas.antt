-- The script at the front of a source.
use Rattle.std.proofs.Common.{◌≡◌, ◌≢◌, ℕ, ◌+◌, ◌<◌, ◌≤◌, List, [], ◌∷◌, ◌++◌, Option, Some, None, Ok, Err, Result, Bool, true, false, cond, ap, sym, refl, subst, ◌∙◌, length, arith, ◌⊎◌, inl, inr}
use Rattle.std.specs.Prelude.{codes, nat_le}
use Rattle.std.specs.List.{AllByRecursion}
use Rattle.std.specs.Io.KnownBytes.{Consumes, IsAtEnd}
use Rattle.std.proofs.lemmas.Bool.{cases_lt, leb-true}
use Rattle.std.proofs.KnownBytes.{Consumes-trans}
use Rattle.ufs_model.specs.PosixTree.{PosixTree}
use Rattle.ufs_model.specs.declared.data.Op.{Op}
use Rattle.ufs_audit.specs.declared.verdict.Verdict.{Verdict}
use Rattle.std.proofs.lemmas.List.{length-append, append_assoc, append-nil, append_cancel_left}
use Rattle.ufs_model.proofs.Facts.Histories.{all-push}
use Rattle.ufs_base.specs.declared.memory.Memory.{Memory}
use Rattle.ufs_script.specs.Script.{script_of, passed, unplaced, draft_of, max_script, IsOutside}
use Rattle.ufs_script.specs.Lines.{ended_lines}
use Rattle.ufs_script.specs.Reading.{HasRead, ReadsScript, ReadsBreak, LongerIsAlike}
use Rattle.ufs_script.specs.declared.draft.Draft.{Draft}
use Rattle.ufs_script.specs.declared.script.Script.{Script}
use Rattle.ufs_script.specs.declared.fault.ScriptFault.{ScriptFault}
use Rattle.ufs_script.specs.declared.fault.ScriptFault.TheVariants as script_fault
use Rattle.ufs_audit.specs.Audit.{IsLine, IsEnded, IsVerdict, text_of}
use Rattle.ufs_audit.specs.Sources.{IsBlank, AreBlanks, IsEndWord, IsEndLine, IsOther, IsOpen, IsClosed, IsSplit, Gives, HasScript, HasBrokenScript, HasVerdict, HasLongText, max_text}
use Rattle.ufs_audit.specs.Ends.{IsLast, NextLine, NoBlankFirst, IsFrontCut, Stops, HasHead, HasScriptHead, Passes, TextVerdict}
use Rattle.ufs_lines.proofs.CutLemmas.{free_last, one_last}
use Rattle.ufs_audit.proofs.AnswerLemmas.{text_of-push}
use Rattle.ufs_audit.proofs.ReadLemmas.{gives_on, gives_none}

-- ---- blanks

pub blanks_more : (text blanks rest : List ℕ) (b : ℕ) (more : List ℕ) → AreBlanks blanks → text ≡ blanks ++ rest → rest ≡ b ∷ more → IsBlank b → (all : List ℕ) × AreBlanks all × (text ≡ all ++ more)
blanks_more text blanks rest b more are is first blank = (
  blanks ++ b ∷ [],
  all-push IsBlank blanks b are blank,
  is ∙ ap (λ (l : List ℕ). blanks ++ l) first ∙ sym (append_assoc blanks (b ∷ []) more),
)

pub one_blanks : (a b x y : List ℕ) → AreBlanks a → AreBlanks b → NoBlankFirst x → NoBlankFirst y → a ++ x ≡ b ++ y → x ≡ y
one_blanks [] [] x y p q u v e = e
one_blanks [] (c ∷ b) [] y p q u v e = cc
one_blanks [] (c ∷ b) (d ∷ x) y p q u v e = let same : d ≡ c = cc in absurd (u (subst IsBlank (sym same) q.0))
one_blanks (c ∷ a) [] x [] p q u v e = cc
one_blanks (c ∷ a) [] x (d ∷ y) p q u v e = let same : c ≡ d = cc in absurd (v (subst IsBlank same p.0))
one_blanks (c ∷ a) (d ∷ b) x y p q u v e = let rest : a ++ x ≡ b ++ y = cc in one_blanks a b x y p.1 q.1 u v rest

pub end_word : (line rest after behind : List ℕ) → IsFrontCut line rest → rest ≡ codes "end" ++ after → IsFrontCut after behind → behind ≡ [] → IsEndWord line
end_word line rest after behind cut is last none =
    (cut.blanks, last.blanks, cut.are, last.are, cut.is ∙ ap (λ (l : List ℕ). cut.blanks ++ l) (is ∙ ap (λ (l : List ℕ). codes "end" ++ l) (last.is ∙ ap (λ (l : List ℕ). last.blanks ++ l) none ∙ append-nil last.blanks)))

no_blank_e : (after : List ℕ) → NoBlankFirst (codes "end" ++ after)
no_blank_e after (inl e) = omega (arith, e)
no_blank_e after (inr e) = omega (arith, e)

pub word_rest : (line rest : List ℕ) → IsFrontCut line rest → (w : IsEndWord line) → rest ≡ codes "end" ++ w.1
word_rest line rest cut w =
    one_blanks cut.blanks w.0 rest (codes "end" ++ w.1) cut.are w.2 cut.starts (no_blank_e w.1) (sym cut.is ∙ w.4)

pub word_tail : (line rest after behind : List ℕ) → IsFrontCut line rest → rest ≡ codes "end" ++ after → IsFrontCut after behind → IsEndWord line → behind ≡ []
word_tail line rest after behind cut is last w =
    let same = append_cancel_left (codes "end") after w.1 (sym is ∙ word_rest line rest cut w) in
    one_blanks last.blanks w.1 behind [] last.are w.3 last.starts tt (sym last.is ∙ same ∙ sym (append-nil w.1))

-- ---- the line `end`

pub no_end_line : (line : List ℕ) → ((front : List ℕ) → line ≡ front ++ 10 ∷ [] → ⊥) → IsEndLine line → ⊥
no_end_line line none e = at e.2
  where
    at : ((line ≡ e.0 ++ 10 ∷ []) ⊎ (line ≡ e.0 ++ 13 ∷ 10 ∷ [])) → ⊥
    at (inl is) = none e.0 is
    at (inr is) = none (e.0 ++ 13 ∷ []) (is ∙ sym (append_assoc e.0 (13 ∷ []) (10 ∷ [])))

pub end_line : (line front front' : List ℕ) → line ≡ front ++ 10 ∷ [] → front ≡ front' ++ 13 ∷ [] → IsEndWord front' → IsEndLine line
end_line line front front' is last word = (front', word, inr (is ∙ ap (λ (l : List ℕ). l ++ 10 ∷ []) last ∙ append_assoc front' (13 ∷ []) (10 ∷ [])))

pub other_end : (line front : List ℕ) → line ≡ front ++ 10 ∷ [] → (IsEndWord front → ⊥) → (e : IsEndLine line) → (front ≡ e.0 ++ 13 ∷ [])
other_end line front is none e = at e.2
  where
    at : ((line ≡ e.0 ++ 10 ∷ []) ⊎ (line ≡ e.0 ++ 13 ∷ 10 ∷ [])) → front ≡ e.0 ++ 13 ∷ []
    at (inl same) = absurd (none (subst IsEndWord (one_last 10 e.0 front (sym same ∙ is)) e.1))
    at (inr same) = one_last 10 front (e.0 ++ 13 ∷ []) (sym is ∙ same ∙ sym (append_assoc e.0 (13 ∷ []) (10 ∷ [])))

pub no_other_end : (line front : List ℕ) → line ≡ front ++ 10 ∷ [] → (IsEndWord front → ⊥) → ((front' : List ℕ) → front ≡ front' ++ 13 ∷ [] → ⊥) → IsEndLine line → ⊥
no_other_end line front is none last e = last e.0 (other_end line front is none e)

pub no_word_end : (line front front' : List ℕ) → line ≡ front ++ 10 ∷ [] → (IsEndWord front → ⊥) → front ≡ front' ++ 13 ∷ [] → (IsEndWord front' → ⊥) → IsEndLine line → ⊥
no_word_end line front front' is none last none' e = none' (subst IsEndWord (one_last 13 e.0 front' (sym (other_end line front is none e) ∙ last)) e.1)

-- ---- the lines through it

-- so far all lines are others
pub record IsHead (old cur : Option (List ℕ)) (ahead head : List ℕ) : Type 0 where
  pub lines : List (List ℕ)
  pub others : AllByRecursion IsOther lines
  pub is : head ≡ text_of lines
  pub gives : Gives old cur [] ahead head

pub head_begins : (a : Option (List ℕ)) (ahead : List ℕ) → ahead ≡ [] → IsHead a a ahead []
head_begins a ahead none = record { lines = []; others = tt; is = refl; gives = subst (λ (l : List ℕ). Gives a a [] l []) (sym none) (gives_none a []) }

taken_of : (a b : Option (List ℕ)) (ahead head : List ℕ) → Gives a b [] ahead head → Consumes a b (head ++ ahead)
taken_of a b ahead head g = subst (Consumes a b) g.2 g.1

module _ (a b c : Option (List ℕ)) (ahead ahead' head : List ℕ) (h : IsHead a b ahead head) where
  gives_line : (line : List ℕ) (most : ℕ) → NextLine b c ahead ahead' most line → Gives a c [] ahead' (head ++ line)
  gives_line line most n = gives_on a b c [] ahead ahead' head line h.gives n.gives

  pub head_more : (line front : List ℕ) (most : ℕ) → NextLine b c ahead ahead' most line → line ≡ front ++ 10 ∷ [] → (IsEndLine line → ⊥) → IsHead a c ahead' (head ++ line)
  head_more line front most n last other = record {
    lines = h.lines ++ line ∷ [];
    others = all-push IsOther h.lines line h.others (at n.stops, other);
    is = ap (λ (l : List ℕ). l ++ line) h.is ∙ sym (text_of-push h.lines line);
    gives = gives_line line most n;
  }
    where
      at : (IsEnded line ⊎ (IsLine line × IsAtEnd c × (ahead' ≡ [])) ⊎ (IsLine line × (most < length line))) → IsEnded line
      at (inl ended) = ended
      at (inr (inl free)) = absurd (free_last 10 front (subst IsLine last free.0))
      at (inr (inr free)) = absurd (free_last 10 front (subst IsLine last free.0))

  pub head_closed : (line : List ℕ) (most : ℕ) → NextLine b c ahead ahead' most line → IsEndLine line → HasHead a c ahead' (head ++ line) true
  head_closed line most n end = record {
    taken = taken_of a c ahead' (head ++ line) (gives_line line most n);
    stops = (h.lines, line, h.others, end, ap (λ (l : List ℕ). l ++ line) h.is);
  }

  pub head_open : (line : List ℕ) (most : ℕ) → NextLine b c ahead ahead' most line → most + length head ≡ 16777216 → ((front : List ℕ) → line ≡ front ++ 10 ∷ [] → ⊥) → HasHead a c ahead' (head ++ line) false
  head_open line most n room none = record {
    taken = taken_of a c ahead' (head ++ line) (gives_line line most n);
    stops = at n.stops;
  }
    where
      opened : IsLine line → IsOpen (head ++ line)
      opened free = (h.lines, line, h.others, free, ap (λ (l : List ℕ). l ++ line) h.is)

      at : (IsEnded line ⊎ (IsLine line × IsAtEnd c × (ahead' ≡ [])) ⊎ (IsLine line × (most < length line))) → Stops c ahead' (head ++ line) false
      at (inl ended) = absurd (none ended.0 ended.2)
      at (inr (inl last)) = (opened last.0, inl (last.1, last.2))
      at (inr (inr long)) = let l = length-append head line in let m = long.1 in (opened long.0, inr (omega (arith, l, m, room)))

pub head_long : (a b : Option (List ℕ)) (ahead head : List ℕ) → IsHead a b ahead head → 16777216 < length head → HasHead a b ahead head false
head_long a b ahead head h long = record {
  taken = taken_of a b ahead head h.gives;
  stops = ((h.lines, [], h.others, tt, h.is ∙ sym (append-nil (text_of h.lines))), inr long);
}

-- ---- the script of what was read

no_passed : (d : Result Draft ScriptFault) (s : Script) → unplaced (passed d) ≡ Ok s → ⊥
no_passed (Ok draft) s e = cc
no_passed (Err f) s e = cc

long_breaks : (text : List ℕ) (s : Script) → max_script < length text → script_of text ≡ Ok s → ⊥
long_breaks text s long is = at (nat_le (length text) max_script) refl is
  where
    at : (B : Bool) → nat_le (length text) max_script ≡ B → script_of text ≡ Ok s → ⊥
    at true e is = let l = leb-true (length text) max_script e in omega (arith, l, long)
    at false e is = no_passed (draft_of (ended_lines (Rattle.std.specs.Prelude.take max_script text))) s
        (sym (ap (λ (b : Bool). unplaced (cond b (Rattle.ufs_script.specs.Script.finished (draft_of (Rattle.ufs_script.specs.Lines.lines_in text))) (passed (draft_of (ended_lines (Rattle.std.specs.Prelude.take max_script text)))))) e) ∙ is)

short_script : (text : List ℕ) (s : Script) → script_of text ≡ Ok s → length text ≤ max_script
short_script text s is = elim (cases_lt max_script (length text)) [
  | inl long ↦ absurd (long_breaks text s long is)
  | inr short ↦ short
]

all_read : (text text' left : List ℕ) → text ≡ text' ++ left → left ≡ [] → text ≡ text'
all_read text text' left is none = is ∙ ap (λ (l : List ℕ). text' ++ l) none ∙ append-nil text'

pub read_ok : (text left : List ℕ) (s : Script) → ReadsScript (Some text) (Some left) s → (script_of text ≡ Ok s) × (length text ≤ max_script)
read_ok text left s r = at r.1.ended
  where
    at : (IsAtEnd (Some left) ⊎ (max_script < length r.0)) → (script_of text ≡ Ok s) × (length text ≤ max_script)
    at (inl none) =
        let whole = all_read text r.0 left r.1.taken none in
        let is = ap script_of whole ∙ r.2 in
        (is, short_script text s is)
    at (inr long) = absurd (long_breaks r.0 s long r.2)

pub read_err : LongerIsAlike → (text left : List ℕ) (f : ScriptFault) → ReadsBreak (Some text) (Some left) f → script_of text ≡ Err f
read_err longer text left f r = at r.1.ended
  where
    at : (IsAtEnd (Some left) ⊎ (max_script < length r.0)) → script_of text ≡ Err f
    at (inl none) = ap script_of (all_read text r.0 left r.1.taken none) ∙ r.2
    at (inr long) = ap script_of r.1.taken ∙ ap unplaced (longer r.0 left long) ∙ r.2

-- a fault that is neither the source's nor want of memory is the text's
pub inside : (f : ScriptFault) → ((m : Memory) → f ≡ script_fault.Memory m → ⊥) → (f ≡ script_fault.Source → ⊥) → IsOutside f → ⊥
inside script_fault.Source memory source out = source refl
inside (script_fault.Memory m) memory source out = memory m refl
inside (script_fault.NoClient line) memory source out = out
inside (script_fault.BadWord line) memory source out = out
inside (script_fault.BadNumber line) memory source out = out
inside (script_fault.BadData line) memory source out = out
inside (script_fault.TooMany line) memory source out = out
inside (script_fault.TooLong line) memory source out = out
inside (script_fault.NoEnd line) memory source out = out
inside (script_fault.AfterEnd line) memory source out = out
inside (script_fault.NotBuilt line) memory source out = out

-- ---- the source

stops_of : (b : Option (List ℕ)) (ahead head : List ℕ) (closed : Bool) → Stops b ahead head closed → IsClosed head ⊎ (IsOpen head × ((IsAtEnd b × (ahead ≡ [])) ⊎ (max_script < length head)))
stops_of b ahead head true s = inl s
stops_of b ahead head false s = inr s

pub broken_head : (a b : Option (List ℕ)) (ahead head : List ℕ) (closed : Bool) (f : ScriptFault) → HasHead a b ahead head closed → script_of head ≡ Err f → HasBrokenScript a b f
broken_head a b ahead head closed f h is = record { lines = head; more = ahead; taken = h.taken; stops = stops_of b ahead head closed h.stops; read = is }

-- ---- the whole source

-- what was read ahead and then of the source
taken_on : (a b c : Option (List ℕ)) (ahead ahead' head text : List ℕ) → Consumes a b (head ++ ahead) → Gives b c ahead ahead' text → Consumes a c (head ++ (text ++ ahead'))
taken_on a b c ahead ahead' head text first g =
    subst (Consumes a c) (append_assoc head ahead g.0 ∙ ap (λ (l : List ℕ). head ++ l) g.2) (Consumes-trans a b c (head ++ ahead) g.0 first g.1)

pub closed_verdict : (start : PosixTree) (a b c : Option (List ℕ)) (ahead ahead' : List ℕ) (s : Script) (v : Verdict) → HasScriptHead a b ahead s true → TextVerdict start s.clients b c ahead ahead' max_text v → HasVerdict start a c v
closed_verdict start a b c ahead ahead' s v h t = (
  s,
  t.0,
  record {
    lines = h.head;
    split = inl h.has.stops;
    read = h.read;
    taken = subst (λ (l : List ℕ). Consumes a c (h.head ++ l)) (ap (λ (l : List ℕ). t.0 ++ l) t.2.1 ∙ append-nil t.0) (taken_on a b c ahead ahead' h.head t.0 h.has.taken t.1);
  },
  t.2.0,
  t.3,
  t.4,
)

pub closed_long : (a b c : Option (List ℕ)) (ahead ahead' : List ℕ) (s : Script) → HasScriptHead a b ahead s true → Passes b c ahead ahead' max_text → HasLongText a c
closed_long a b c ahead ahead' s h p =
    let l = length-append p.0 ahead' in
    let m = p.2 in
    (s, p.0 ++ ahead', record { lines = h.head; split = inl h.has.stops; read = h.read; taken = taken_on a b c ahead ahead' h.head p.0 h.has.taken p.1 }, omega (arith, l, m))

pub open_verdict : (start : PosixTree) (a b : Option (List ℕ)) (ahead : List ℕ) (s : Script) (v : Verdict) → HasScriptHead a b ahead s false → IsVerdict start s.clients [] v → HasVerdict start a b v
open_verdict start a b ahead s v h is =
    let last = at h.has.stops in (
      s,
      [],
      record { lines = h.head; split = inr (last.0, refl); read = h.read; taken = subst (λ (l : List ℕ). Consumes a b (h.head ++ l)) last.1.1 h.has.taken },
      last.1.0,
      omega arith,
      is,
    )
  where
    at : Stops b ahead h.head false → IsOpen h.head × IsLast b ahead
    at (o, inl last) = (o, last)
    at (o, inr long) = let short = h.short in absurd (omega (arith, long, short))

-- where there is no text
pub no_text : (start : PosixTree) (clients : List (List Op)) (left ahead' : List ℕ) (room : ℕ) (v : Verdict) → TextVerdict start clients (Some []) (Some left) [] ahead' room v → IsVerdict start clients [] v
no_text start clients left ahead' room v t =
    let none = nil_left t.1.0 left (sym t.1.1) in
    subst (λ (l : List ℕ). IsVerdict start clients l v) (nil_left t.0 ahead' (sym t.1.2 ∙ none)) t.4
  where
    nil_left : (a b : List ℕ) → a ++ b ≡ [] → a ≡ []
    nil_left [] b e = refl
    nil_left (x ∷ a) b e = cc

pub no_long : (left ahead' : List ℕ) (room : ℕ) → Passes (Some []) (Some left) [] ahead' room → ⊥
no_long left ahead' room p =
    let none = nil_left p.1.0 left (sym p.1.1) in
    let text = ap length (nil_left p.0 ahead' (sym p.1.2 ∙ none)) in
    let long = p.2 in
    omega (arith, text, long)
  where
    nil_left : (a b : List ℕ) → a ++ b ≡ [] → a ≡ []
    nil_left [] b e = refl
    nil_left (x ∷ a) b e = cc

-- ---- what is read of a line

pub blanks_next : (text rest : List ℕ) → (b : (blanks : List ℕ) × AreBlanks blanks × (text ≡ blanks ++ rest)) → 1 ≤ length rest → IsBlank (Rattle.std.specs.Prelude.slice_index rest 0)
    → (blanks : List ℕ) × AreBlanks blanks × (text ≡ blanks ++ Rattle.std.specs.Prelude.drop 1 rest)
blanks_next text [] b some blank = absurd (omega (arith, some))
blanks_next text (c ∷ rest) b some blank = blanks_more text b.0 (c ∷ rest) c rest b.1 b.2 refl blank

pub other_word : (line front front' : List ℕ) → line ≡ front ++ 10 ∷ [] → (IsEndWord front → ⊥) → front ≡ front' ++ 13 ∷ [] → IsEndLine line → IsEndWord front'
other_word line front front' is none last e = subst IsEndWord (one_last 13 e.0 front' (sym (other_end line front is none e) ∙ last)) e.1
