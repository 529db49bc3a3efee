use Rattle.std.proofs.Common.{◌≡◌, ℕ, ◌+◌, ◌-◌, List, ◌++◌, length, take, drop, replicate, refl, sym, ap, ◌∙◌, subst, arith}
use Rattle.std.proofs.lemmas.List.{take_at, drop_at, drop-drop, length-append}
use Rattle.ufs_layout.specs.Words.{filled_to}
use Rattle.ufs_layout.proofs.superblock.lay.Goals as goal

-- The start and then the end are put into zeros.
laid : (start end zeros once twice : List ℕ) → length start ≡ 24 → length end ≡ 17 → zeros ≡ replicate 512 0
    → once ≡ take 0 zeros ++ start ++ drop (0 + length start) zeros → twice ≡ take 24 once ++ end ++ drop (24 + length end) once
    → twice ≡ filled_to 512 (start ++ end)
laid start end zeros once twice is_24 is_17 are_zeros is_once is_twice =
    is_twice ∙ (λ i. front i ++ end ++ rest i) ∙ sym filled
  where
    once_is : once ≡ start ++ replicate 488 0
    once_is = let all : 0 + length start ≡ 24 = omega (arith, is_24) in is_once ∙ (λ i. start ++ drop (all i) (are_zeros i))

    front : take 24 once ≡ start
    front = ap (take 24) once_is ∙ take_at start (replicate 488 0) 24 is_24

    rest : drop (24 + length end) once ≡ replicate 471 0
    rest = (λ i. drop (24 + is_17 i) (once_is i)) ∙ sym (drop-drop 17 24 (start ++ replicate 488 0)) ∙ ap (drop 17) (drop_at start (replicate 488 0) 24 is_24)

    forty_one : length (start ++ end) ≡ 41
    forty_one = omega (arith, length-append start end)

    filled : filled_to 512 (start ++ end) ≡ start ++ end ++ replicate 471 0
    filled = subst (λ n. filled_to 512 (start ++ end) ≡ start ++ end ++ replicate (512 - n) 0) forty_one refl

pub returns : goal.returns
returns c =
    laid c.args.start.now c.args.end.now c.clear.new.bytes c.put.new.bytes c.put-2.new.bytes c.requires.start c.requires.end
    (c.clear.ensures ∙ ap (λ n. replicate n 0) c.requires.sector) c.put.ensures c.put-2.ensures
