-- Hands that come to one, one after the other.
use Rattle.std.proofs.Common.{◌≡◌, ℕ, List, [], ◌∷◌, ◌++◌, append_assoc, Option, Some, None, inl, inr, ap, sym, refl, ◌∙◌}
use Rattle.std.proofs.lemmas.List.{append-nil}
use Rattle.ufs_held.specs.Held.{HasFileAlone}
use Rattle.ufs_held.specs.Together.{HasThemToo, under_numbers}
use Rattle.ufs_joint.specs.Cells.{FileCell, View, both_of}
use Rattle.ufs_hand_laws.specs.Owned.{Has}
use Rattle.ufs_hand_laws.specs.Parts.{either}
use Rattle.ufs_gathered.specs.Gathered.{all_in, with_all}

-- the last one
pub one_more : (v : View) (us : List View) (u : View) → with_all v (us ++ u ∷ []) ≡ both_of (with_all v us) u
one_more v [] u = refl
one_more v (x ∷ us) u = one_more (both_of v x) us u

module _ {A : Type 0} (part : View → List A) where
  -- what the hand has then of a kind that is joined as a list
  pub all_joined : ((v u : View) → part (both_of v u) ≡ part v ++ part u) → (v : View) (us : List View) → part (with_all v us) ≡ part v ++ all_in part us
  all_joined both v [] = sym (append-nil (part v))
  all_joined both v (u ∷ us) = all_joined both (both_of v u) us ∙ ap (λ xs. xs ++ all_in part us) (both v u) ∙ append_assoc (part v) (part u) (all_in part us)

-- ---- files

under_push : (cells : List FileCell) (c : FileCell) → under_numbers (cells ++ c ∷ []) ≡ under_numbers cells ++ (c.value.file.file, c) ∷ []
under_push [] c = refl
under_push (d ∷ cells) c = ap (λ ps. (d.value.file.file, d) ∷ ps) (under_push cells c)

either_first : (a b : Option ℕ) (fault : ℕ) → a ≡ Some fault → either a b ≡ Some fault
either_first (Some x) b fault is = is
either_first None b fault is = (let none : None ≡ Some fault = is in absurd cc)

pub one_back : (cells : List FileCell) (v w : View) (c : FileCell) (right : View) → HasThemToo cells v w → HasFileAlone c right → right.faults ≡ [] → HasThemToo (cells ++ c ∷ []) v (both_of w right)
one_back cells v w c right so alone calm = record {
  clients = (λ i. so.clients i ++ alone.clients i) ∙ append-nil v.clients;
  asked = (λ i. so.asked i ++ alone.asked i) ∙ append-nil v.asked;
  files = (λ i. so.files i ++ alone.files i) ∙ append_assoc v.files (under_numbers cells) ((c.value.file.file, c) ∷ []) ∙ ap (λ ps. v.files ++ ps) (sym (under_push cells c));
  pools = (λ i. so.pools i ++ alone.pools i) ∙ append-nil v.pools;
  names = (λ i. so.names i ++ alone.names i) ∙ append-nil v.names;
  store = (λ i. so.store i ++ alone.store i) ∙ append-nil v.store;
  faults = (λ i. so.faults i ++ calm i) ∙ append-nil v.faults;
  stop = λ fault told. either_first w.stop right.stop fault (so.stop fault told);
}

-- who stands under its number is one of them
pub numbered_in : (cells : List FileCell) (file : ℕ) (c : FileCell) → Has {A = ℕ × FileCell} (file, c) (under_numbers cells) → (file ≡ c.value.file.file) × Has c cells
numbered_in [] file c has = absurd has
numbered_in (d ∷ cells) file c (inl is) =
    let cell : c ≡ d = ap (λ (q : ℕ × FileCell). q.1) is in
    (ap (λ (q : ℕ × FileCell). q.0) is ∙ ap (λ (q : FileCell). q.value.file.file) (sym cell), inl cell)
numbered_in (d ∷ cells) file c (inr has) = let r = numbered_in cells file c has in (r.0, inr r.1)

pub in_numbered : (cells : List FileCell) (c : FileCell) → Has c cells → Has {A = ℕ × FileCell} (c.value.file.file, c) (under_numbers cells)
in_numbered [] c has = absurd has
in_numbered (d ∷ cells) c (inl is) = inl (ap (λ (q : FileCell). (q.value.file.file, q)) is)
in_numbered (d ∷ cells) c (inr has) = inr (in_numbered cells c has)
