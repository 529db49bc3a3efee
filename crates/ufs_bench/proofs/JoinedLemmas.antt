-- Histories, a transcript at a time.
use Rattle.std.proofs.Common.{◌≡◌, ◌+◌, ◌<◌, ◌++◌, ℕ, List, [], ◌∷◌, length, take, get_or, refl, ap, sym, ◌∙◌, append_assoc, append-nil}
use Rattle.std.proofs.lemmas.List.{take_more}
use Rattle.std.proofs.lemmas.List.Sums.{sum_by-append}
use Rattle.ufs_model.specs.History.{joined}
use Rattle.ufs_model.specs.declared.data.Entry.{Entry}
use Rattle.ufs_bench.specs.Summary.{count_in}
use Rattle.ufs_bench.specs.declared.replies.Kind.{Kind}

joined-append : (xs ys : List (List Entry)) → joined (xs ++ ys) ≡ joined xs ++ joined ys
joined-append [] ys = refl
joined-append (x ∷ xs) ys = ap (λ rest. x ++ rest) (joined-append xs ys) ∙ sym (append_assoc x (joined xs) (joined ys))

-- one transcript more
pub joined_more : (told : List (List Entry)) (i : ℕ) (list : List Entry) → i < length told → list ≡ get_or told i list → joined (take (i + 1) told) ≡ joined (take i told) ++ list
joined_more told i list below is =
    ap joined (take_more told i list below ∙ ap (λ l. take i told ++ l ∷ []) (sym is)) ∙ joined-append (take i told) (list ∷ []) ∙ ap (λ r. joined (take i told) ++ r) (append-nil list)

pub count-append : (kind : Kind) (xs ys : List Entry) → count_in kind (xs ++ ys) ≡ count_in kind xs + count_in kind ys
count-append kind xs ys = sum_by-append _ xs ys

-- seven texts, one behind another
pub seven : (a b c d e f g : List ℕ) → (((((a ++ b) ++ c) ++ d) ++ e) ++ f) ++ g ≡ a ++ b ++ c ++ d ++ e ++ f ++ g
seven a b c d e f g = simp append_assoc
