-- Bytes that are written over others, which are lengthened with zeros first.
use Rattle.std.proofs.Common.{◌≡◌, ℕ, ◌+◌, ◌-◌, ◌≤◌, zero, suc, List, [], ◌∷◌, ◌++◌, length, take, drop, replicate, ap, sym, refl, ◌∙◌, arith}
use Rattle.std.proofs.lemmas.List.{take-replicate, drop_all, length-drop, append-nil, length-append, length-take, length-replicate}
use Rattle.std.proofs.Math.Seq.{take-length}
use Rattle.ufs_model.specs.FileBytes.{put_at}

-- how many zeros follow makes no difference before a place that they reach
zeros_before : (old : List ℕ) (at n m : ℕ) → at ≤ length old + n → at ≤ length old + m → take at (old ++ replicate n 0) ≡ take at (old ++ replicate m 0)
zeros_before [] at n m h k = take-replicate at n 0 (omega arith) ∙ sym (take-replicate at m 0 (omega arith))
zeros_before (x ∷ old) zero n m h k = refl
zeros_before (x ∷ old) (suc at) n m h k = ap (λ l. x ∷ l) (zeros_before old at n m (omega arith) (omega arith))

-- the zeros end at the place
zeros_after : (old : List ℕ) (end n : ℕ) → n ≡ end - length old → drop end (old ++ replicate n 0) ≡ drop end old
zeros_after [] end n e = drop_all end _ (omega (arith, length-replicate {A = ℕ} n 0)) ∙ sym (drop_all end [] (omega arith))
zeros_after (x ∷ old) zero n e =
    let none : n ≡ 0 = omega arith in
    ap (λ k. x ∷ (old ++ replicate k 0)) none ∙ ap (λ l. x ∷ l) (append-nil old)
zeros_after (x ∷ old) (suc end) n e = zeros_after old end n (omega arith)

-- a whole list, and nothing behind it
whole : (n : ℕ) (over items : List ℕ) → length over ≡ length items → n ≡ length items → take n (over ++ drop (length over) items) ≡ over
whole n over items same e =
    ap (λ l. take n (over ++ l)) (drop_all (length over) items (omega arith))
    ∙ ap (take n) (append-nil over)
    ∙ ap (λ k. take k over) (e ∙ sym same) ∙ take-length over

pub put_over_is : (old items over fresh : List ℕ) (at n : ℕ) → items ≡ old ++ replicate (at + length fresh - length old) 0 → over ≡ take at items ++ fresh ++ drop (at + length fresh) items → n ≡ length items
    → take n (over ++ drop (length over) items) ≡ put_at old at fresh
put_over_is old items over fresh at n grown is e =
    let end = at + length fresh in
    let more = end - length old in
    let size : length items ≡ length old + more = ap length grown ∙ length-append old _ ∙ ap (λ k. length old + k) (length-replicate more 0) in
    let parts : length over ≡ length (take at items) + length fresh + length (drop end items) =
    ap length is ∙ length-append (take at items ++ fresh) _ ∙ ap (λ k. k + length (drop end items)) (length-append (take at items) fresh) in
    let same : length over ≡ length items = omega (arith, length-take at items, length-drop end items) in
    whole n over items same e ∙ is ∙ ap (λ l. take at l ++ fresh ++ drop end l) grown
    ∙ (λ i. zeros_before old at more (at - length old) (omega arith) (omega arith) i ++ fresh ++ zeros_after old end more refl i)
