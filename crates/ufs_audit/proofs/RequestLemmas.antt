-- Which request is a client's next one, and which line is its reply's, as the code looks them up.
use Rattle.std.proofs.Common.{◌≡◌, ℕ, ◌+◌, ◌<◌, ◌≤◌, List, [], ◌∷◌, ◌++◌, Option, Some, None, ap, sym, refl, subst, ◌∙◌, length, arith, zero, suc, ◌⊎◌, inl, inr, unwrap_or, false, true, Bool, IsTrue, Bor}
use Rattle.std.specs.Prelude.{slice_get, slice_index_or, ◌↔◌, ◌==◌, IfSome, is_some}
use Rattle.std.specs.List.{AllByRecursion, HoldsAt}
use Rattle.std.specs.Option.{MatchOption}
use Rattle.std.proofs.lemmas.Bool.{eqb-true, eq-eqb}
use Rattle.std.proofs.lemmas.Option.{slice_get_within, slice_get_past, slice_get_read}
use Rattle.ufs_model.specs.Bounds.{IsBounded}
use Rattle.ufs_model.specs.History.{requests_of}
use Rattle.ufs_model.specs.declared.data.Op.{Op}
use Rattle.ufs_audit.specs.Audit.{IsLine, IsEnded, answer_to}
use Rattle.ufs_audit.specs.Following.{IsCount}
use Rattle.ufs_lines.specs.declared.told.Told.{Told}
use Rattle.ufs_lines.proofs.CutLemmas.{free_last}
use Rattle.ufs_audit.proofs.StepLemmas.{there}

-- ---- an item that is there

pub got : {X : Type 0} (xs : List X) (i : ℕ) (x : X) → i < length xs → x ≡ slice_index_or xs i x → slice_get xs i ≡ Some x
got xs i x less is = slice_get_read xs (length xs) i x refl less is

-- ---- the next request

pub asked_by : (clients : List (List Op)) (counts : List ℕ) (told : Told) (op : Op) (requests : List Op) (count : ℕ) → slice_get clients told.client ≡ Some requests → slice_get counts told.client ≡ Some count
    → count ≡ told.seq → slice_get requests told.seq ≡ Some op → IsCount clients counts told op
asked_by clients counts told op requests count own counted numbered asked = record {
  numbered = counted ∙ ap (λ (n : ℕ). Some n) numbered;
  asked = ap (λ (l : Option (List Op)). slice_get (unwrap_or l []) told.seq) own ∙ asked;
}

-- a client that isn't there
pub no_client : (clients : List (List Op)) (counts : List ℕ) (told : Told) (op : Op) → length clients ≤ told.client → IsCount clients counts told op → ⊥
no_client clients counts told op past count = let within = there clients told.client told.seq op count.asked in omega (arith, within, past)

-- one without a count
pub no_count : (clients : List (List Op)) (counts : List ℕ) (told : Told) (op : Op) → length counts ≤ told.client → IsCount clients counts told op → ⊥
no_count clients counts told op past count = let within = slice_get_within counts told.client told.seq count.numbered in omega (arith, within, past)

pub other_count : (clients : List (List Op)) (counts : List ℕ) (told : Told) (op : Op) (count : ℕ) → slice_get counts told.client ≡ Some count → (count ≡ told.seq → ⊥) → IsCount clients counts told op → ⊥
other_count clients counts told op count counted apart is = let same : Some count ≡ Some told.seq = sym counted ∙ is.numbered in apart cc

-- one that asks for no more
pub no_more : (clients : List (List Op)) (counts : List ℕ) (told : Told) (op : Op) (requests : List Op) → slice_get clients told.client ≡ Some requests → length requests ≤ told.seq → IsCount clients counts told op → ⊥
no_more clients counts told op requests own past count =
    let asked : slice_get requests told.seq ≡ Some op = sym (ap (λ (l : Option (List Op)). slice_get (unwrap_or l []) told.seq) own) ∙ count.asked in
    let within = slice_get_within requests told.seq op asked in
    omega (arith, within, past)

pub bounded_at : (requests : List Op) (seq : ℕ) (op : Op) → AllByRecursion IsBounded requests → slice_get requests seq ≡ Some op → IsBounded op
bounded_at [] seq op all is = cc
bounded_at (r ∷ requests) zero op all is = let same : r ≡ op = cc in subst IsBounded same all.0
bounded_at (r ∷ requests) (suc seq) op all is = bounded_at requests seq op all.1 is

-- what is looked up last
abbrev pub Looked : {X : Type 0} → List X → ℕ → Option (Bor X) → Type 0
Looked xs i None = length xs ≤ i
Looked xs i (Some x) = (i < length xs) × (x.now ≡ slice_index_or xs i x.now)

pub looked : {X : Type 0} (xs : List X) (i : ℕ) (found : Option (Bor X)) → MatchOption found (length xs ≤ i) (λ x. (i < length xs) × HoldsAt (λ y. x.now ≡ y) xs i) → Looked xs i found
looked xs i None past = past
looked xs i (Some x) there = (there.0, there.1 x.now)

pub next_some : (clients : List (List Op)) (counts : List ℕ) (told : Told) (requests : List Op) (count : ℕ) (found : Option (Bor Op)) → slice_get clients told.client ≡ Some requests → slice_get counts told.client ≡ Some count
    → count ≡ told.seq → Looked requests told.seq found → IfSome found (λ op. IsCount clients counts told op.now)
next_some clients counts told requests count None own counted numbered looked = tt
next_some clients counts told requests count (Some op) own counted numbered looked = asked_by clients counts told op.now requests count own counted numbered (got requests told.seq op.now looked.0 looked.1)

pub next_none : (clients : List (List Op)) (counts : List ℕ) (told : Told) (requests : List Op) (found : Option (Bor Op)) → slice_get clients told.client ≡ Some requests → Looked requests told.seq found
    → found ≡ None → (op : Op) → IsCount clients counts told op → ⊥
next_none clients counts told requests None own looked none op count = no_more clients counts told op requests own looked count
next_none clients counts told requests (Some found) own looked none op count = let bad : Some found ≡ None = none in cc

pub next_bounded : (told : Told) (requests : List Op) (found : Option (Bor Op)) → AllByRecursion IsBounded requests → Looked requests told.seq found → IfSome found (λ op. IsBounded op.now)
next_bounded told requests None all looked = tt
next_bounded told requests (Some op) all looked = bounded_at requests told.seq op.now all (got requests told.seq op.now looked.0 looked.1)

pub next_few : (told : Told) (requests : List Op) (found : Option (Bor Op)) → length requests ≤ 65536 → Looked requests told.seq found → IfSome found (λ op. told.seq < 65536)
next_few told requests None few looked = tt
next_few told requests (Some op) few looked = let less = looked.0 in omega (arith, few, less)

pub next_within : (told : Told) (counts : List ℕ) (found : Option (Bor Op)) → told.client < length counts → IfSome found (λ op. told.client < length counts)
next_within told counts None less = tt
next_within told counts (Some op) less = less

-- ---- the line of its reply

pub answer_some : (answers : List (List (List ℕ))) (client seq : ℕ) (lines : List (List ℕ)) (line : List ℕ) → slice_get answers client ≡ Some lines → slice_get lines seq ≡ Some line → answer_to answers client seq ≡ Some line
answer_some answers client seq lines line own there = ap (λ (l : Option (List (List ℕ))). slice_get (unwrap_or l []) seq) own ∙ there

pub answer_none : (answers : List (List (List ℕ))) (client seq : ℕ) → slice_get answers client ≡ None → answer_to answers client seq ≡ None
answer_none answers client seq none = ap (λ (l : Option (List (List ℕ))). slice_get (unwrap_or l []) seq) none

pub answer_past : (answers : List (List (List ℕ))) (client seq : ℕ) (lines : List (List ℕ)) → slice_get answers client ≡ Some lines → slice_get lines seq ≡ None → answer_to answers client seq ≡ None
answer_past answers client seq lines own none = ap (λ (l : Option (List (List ℕ))). slice_get (unwrap_or l []) seq) own ∙ none

pub looked_some : (answers : List (List (List ℕ))) (client seq : ℕ) (lines : List (List ℕ)) (found : Option (Bor (List ℕ))) → slice_get answers client ≡ Some lines → Looked lines seq found
    → IfSome found (λ line. answer_to answers client seq ≡ Some line.now)
looked_some answers client seq lines None own looked = tt
looked_some answers client seq lines (Some line) own looked = answer_some answers client seq lines line.now own (got lines seq line.now looked.0 looked.1)

pub looked_none : (answers : List (List (List ℕ))) (client seq : ℕ) (lines : List (List ℕ)) (found : Option (Bor (List ℕ))) → slice_get answers client ≡ Some lines → Looked lines seq found
    → found ≡ None → answer_to answers client seq ≡ None
looked_none answers client seq lines None own looked none = answer_past answers client seq lines own (slice_get_past lines seq looked)
looked_none answers client seq lines (Some line) own looked none = let bad : Some line ≡ None = none in cc

-- ---- as many entries as requests

pub served_by : (clients : List (List Op)) (counts : List ℕ) (client count : ℕ) (requests : List Op) (told : Bool) → told ≡ (length requests == count) → slice_get clients client ≡ Some requests → slice_get counts client ≡ Some count
    → IsTrue told ↔ (slice_get counts client ≡ Some (length (requests_of clients client)))
served_by clients counts client count requests told is own counted =
    let mine : length (requests_of clients client) ≡ length requests = ap (λ (l : Option (List Op)). length (unwrap_or l [])) own in (
      (λ t. counted ∙ ap (λ (n : ℕ). Some n) (sym (mine ∙ eqb-true (length requests) count (sym is ∙ t)))),
      (λ e.
          let both : Some count ≡ Some (length (requests_of clients client)) = sym counted ∙ e in
          let same : count ≡ length (requests_of clients client) = cc in
          is ∙ eq-eqb (length requests) count (sym (same ∙ mine))),
    )

pub none_served : (clients : List (List Op)) (counts : List ℕ) (client : ℕ) → slice_get counts client ≡ None → slice_get counts client ≡ Some (length (requests_of clients client)) → ⊥
none_served clients counts client none is = let bad : None ≡ Some (length (requests_of clients client)) = sym none ∙ is in cc

-- ---- a line and its end

pub ended_front : (line : List ℕ) (found : Option (Bor (List ℕ))) → is_some found ≡ true → IfSome found (λ front. line ≡ front.now ++ 10 ∷ []) → (front : List ℕ) × (line ≡ front ++ 10 ∷ [])
ended_front line None some found = let bad : false ≡ true = some in cc
ended_front line (Some front) some found = (front.now, found)

pub no_front : (line : List ℕ) (found : Option (Bor (List ℕ))) → is_some found ≡ false → (found ≡ None → (front : List ℕ) → line ≡ front ++ 10 ∷ [] → ⊥) → (front : List ℕ) → line ≡ front ++ 10 ∷ [] → ⊥
no_front line None none nowhere = nowhere refl
no_front line (Some found) none nowhere = λ front is. let bad : true ≡ false = none in cc

-- what ends so is a line with its end
pub ended_by : (line front : List ℕ) → (IsEnded line ⊎ IsLine line) → line ≡ front ++ 10 ∷ [] → IsEnded line
ended_by line front (inl ended) is = ended
ended_by line front (inr free) is = absurd (free_last 10 front (subst IsLine is free))
