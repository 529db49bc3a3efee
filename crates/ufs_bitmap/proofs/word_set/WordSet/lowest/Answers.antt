use Rattle.std.proofs.Common.{◌≡◌, ◌≢◌, ℕ, ◌+◌, ◌*◌, ◌^◌, ◌<◌, List, length, get_or, ap, sym, subst, ◌∙◌, arith}
use Rattle.std.specs.Int.{trailing_zeros, w64}
use Rattle.std.specs.FinSet as set
use Rattle.std.proofs.lemmas.List.{get_or_read}
use Rattle.ufs_bitmap.specs.Words.{Members, members_of}
use Rattle.ufs_bitmap.proofs.WordLemmas.{members-zeros, zeros_below, has-lowest_bit, none_below, members-limit}
use Rattle.ufs_bitmap.proofs.word_set.WordSet.lowest.Goals as goal

pub returns-then-self-len-clause-none : goal.returns-then-self-len-clause-none
returns-then-self-len-clause-none c =
    let xs = c.self.inside.words.items in
    let first = c.first_word-self-inside in
    let zeros : (i : ℕ) → i < length xs → get_or xs i 0 ≡ 0 =
    zeros_below xs c.self.inside.low (length xs) c.self.invariant.3
    (λ i l h. ap (λ (ws : List ℕ). get_or ws i 0) (sym c.as_slice.ensures.value) ∙ first.ensures.passed i l (omega (arith, h, c.if-self-len.true, c.len.ensures))) in
    ap (λ (m : Members). m.blocks) (sym c.self.view_is) ∙ members-zeros xs zeros

pub returns-clause-held : goal.returns-clause-held
returns-clause-held c =
    let xs = c.self.inside.words.items in
    let first = c.first_word-self-inside in
    let same : (i : ℕ) → get_or xs i 0 ≡ get_or c.as_slice.result.now i 0 = λ i. ap (λ (ws : List ℕ). get_or ws i 0) (sym c.as_slice.ensures.value) in
    let zeros : (i : ℕ) → i < first.result → get_or xs i 0 ≡ 0 =
    zeros_below xs c.self.inside.low first.result c.self.invariant.3 (λ i l h. same i ∙ first.ensures.passed i l h) in
    let inside : first.result < length xs = omega (arith, c.if-self-len.false, c.len.ensures, first.ensures.within, ap (λ (ws : List ℕ). length ws) c.as_slice.ensures.value) in
    let read : c.index.result.now ≡ get_or xs first.result 0 = get_or_read xs first.result c.index.result.now inside c.index.ensures 0 in
    let fits : get_or xs first.result 0 < 2 ^ 64 = omega (arith, read) in
    let stops : first.result < length c.as_slice.result.now = omega (arith, inside, ap (λ (ws : List ℕ). length ws) c.as_slice.ensures.value) in
    let some : get_or xs first.result 0 ≢ 0 = λ e. first.ensures.stops stops (sym (same first.result) ∙ e) in
    ap (λ (m : Members). set.contains m.blocks (64 * first.result + trailing_zeros w64 c.index.result.now)) (sym c.self.view_is)
    ∙ ap (λ (w : ℕ). set.contains (members_of xs) (64 * first.result + trailing_zeros w64 w)) read
    ∙ has-lowest_bit xs first.result fits some zeros

pub returns-clause-lowest : goal.returns-clause-lowest
returns-clause-lowest c q h =
    let xs = c.self.inside.words.items in
    let first = c.first_word-self-inside in
    let same : (i : ℕ) → get_or xs i 0 ≡ get_or c.as_slice.result.now i 0 = λ i. ap (λ (ws : List ℕ). get_or ws i 0) (sym c.as_slice.ensures.value) in
    let zeros : (i : ℕ) → i < first.result → get_or xs i 0 ≡ 0 =
    zeros_below xs c.self.inside.low first.result c.self.invariant.3 (λ i l h. same i ∙ first.ensures.passed i l h) in
    let inside : first.result < length xs = omega (arith, c.if-self-len.false, c.len.ensures, first.ensures.within, ap (λ (ws : List ℕ). length ws) c.as_slice.ensures.value) in
    let read : c.index.result.now ≡ get_or xs first.result 0 = get_or_read xs first.result c.index.result.now inside c.index.ensures 0 in
    let fits : get_or xs first.result 0 < 2 ^ 64 = omega (arith, read) in
    let stops : first.result < length c.as_slice.result.now = omega (arith, inside, ap (λ (ws : List ℕ). length ws) c.as_slice.ensures.value) in
    let some : get_or xs first.result 0 ≢ 0 = λ e. first.ensures.stops stops (sym (same first.result) ∙ e) in
    let Below : ℕ → Type 0 = λ w. q < 64 * first.result + trailing_zeros w64 w in
    ap (λ (m : Members). set.contains m.blocks q) (sym c.self.view_is)
    ∙ none_below xs first.result fits some zeros q (subst Below read h)

pub returns-clause-small : goal.returns-clause-small
returns-clause-small c =
    let held = ap (λ (m : Members). set.contains m.blocks (64 * c.first_word-self-inside.result + trailing_zeros w64 c.index.result.now)) c.self.view_is ∙ returns-clause-held c in
    omega (arith, members-limit c.self.inside.words.items (64 * c.first_word-self-inside.result + trailing_zeros w64 c.index.result.now) held, c.self.invariant.1)
