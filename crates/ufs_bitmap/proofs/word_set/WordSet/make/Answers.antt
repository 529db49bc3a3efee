use Rattle.std.proofs.Common.{◌≡◌, ℕ, List, length, get_or, ap, sym, ◌∙◌, arith}
use Rattle.std.proofs.lemmas.List.{length-replicate}
use Rattle.std.specs.Ordering.{nat_cmp}
use Rattle.std.specs.FinSet as set
use Rattle.ufs_bitmap.specs.Blocks.{BlockSet}
use Rattle.ufs_bitmap.proofs.WordLemmas.{members-zeros, get_or-zeros}
use Rattle.ufs_bitmap.proofs.word_set.WordSet.make.Goals as goal

pub returns-clause-blocks : goal.returns-clause-blocks
returns-clause-blocks c =
    let is = c.in_ok-vec.ensures.items_if_clones_equal (λ y e. e) in
    members-zeros c.in_ok-vec.field-0.items
    (λ i h. ap (λ (ws : List ℕ). get_or ws i 0) is ∙ get_or-zeros c.args.words i (omega (arith, h, ap (λ (ws : List ℕ). length ws) is, length-replicate {A = ℕ} c.args.words 0)))

pub invariant_of-result : goal.invariant_of-result
invariant_of-result c =
    let is = c.in_ok-vec.ensures.items_if_clones_equal (λ y e. e) in
    let many : length c.in_ok-vec.field-0.items ≡ c.args.words = ap (λ (ws : List ℕ). length ws) is ∙ length-replicate {A = ℕ} c.args.words 0 in (
      sym (ap (λ (s : BlockSet). set.len s) (returns-clause-blocks c) ∙ set.len-empty nat_cmp),
      omega (arith, many),
      omega (arith, many),
      λ i h. ap (λ (ws : List ℕ). get_or ws i 0) is ∙ get_or-zeros c.args.words i h,
    )
