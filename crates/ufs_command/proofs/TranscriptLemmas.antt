-- The lines of the transcripts are those of the history.
use Rattle.std.proofs.Common.{◌≡◌, ℕ, ◌+◌, ◌<◌, ◌≤◌, List, [], ◌∷◌, ◌++◌, ap, sym, refl, ◌∙◌, length, take, get_or, zero, suc, arith}
use Rattle.std.proofs.lemmas.List.{append-nil, take_more}
use Rattle.ufs_client.specs.Played.{IsMerged, transcript}
use Rattle.ufs_model.specs.History.{joined}
use Rattle.ufs_model.specs.declared.data.Entry.{Entry}
use Rattle.ufs_script.specs.Output.{lines_of, output_of}
use Rattle.ufs_print.proofs.PrintLemmas.{joined-append, lines_of-append}

transcript_is : (told : List (List Entry)) (n : ℕ) → n < length told → take (n + 1) told ≡ take n told ++ transcript told n ∷ []
transcript_is told n below = take_more told n [] below ∙ ap (λ l. take n told ++ l ∷ []) (got told n below)
  where
    got : (told : List (List Entry)) (n : ℕ) → n < length told → get_or told n [] ≡ transcript told n
    got [] n h = absurd (omega arith)
    got (l ∷ told) zero h = refl
    got (l ∷ told) (suc n) h = got told n (omega (arith, h))

output_of_first : (told : List (List Entry)) (history : List Entry) → IsMerged told history → (n : ℕ) → n ≤ length told → output_of n history ≡ lines_of (joined (take n told))
output_of_first told history is zero h = ap (λ l. lines_of (joined l)) (sym (take_none told))
  where
    take_none : (l : List (List Entry)) → take 0 l ≡ []
    take_none [] = refl
    take_none (x ∷ l) = refl
output_of_first told history is (suc n) h =
    (λ i. output_of_first told history is n (omega (arith, h)) i ++ lines_of (is.each n i))
    ∙ sym (lines_of-append (joined (take n told)) (transcript told n))
    ∙ ap lines_of (ap (λ r. joined (take n told) ++ r) (sym (append-nil (transcript told n))) ∙ sym (joined-append (take n told) (transcript told n ∷ [])))
    ∙ ap (λ l. lines_of (joined l)) (sym (transcript_is told n (omega (arith, h))) ∙ ap (λ k. take k told) more)
  where
    more : n + 1 ≡ suc n
    more = omega arith

pub output_is : (told : List (List Entry)) (history : List Entry) (clients : ℕ) → IsMerged told history → length told ≡ clients → lines_of (joined told) ≡ output_of clients history
output_is told history clients is all =
    ap (λ l. lines_of (joined l)) (sym (take_all told)) ∙ sym (output_of_first told history is (length told) (omega arith)) ∙ ap (λ n. output_of n history) all
  where
    take_all : (l : List (List Entry)) → take (length l) l ≡ l
    take_all [] = refl
    take_all (x ∷ l) = ap (λ r. x ∷ r) (take_all l)
