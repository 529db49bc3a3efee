use Rattle.std.proofs.lemmas.List.{take_all}
use Rattle.std.proofs.Common.{◌≡◌, ◌≢◌, Some, ℕ, ◌+◌, ap, sym, ◌∙◌, List, length, take, arith, get_or}
use Rattle.ufs_extent.specs.declared.Run.{Run}
use Rattle.ufs_extent.specs.Runs.{next_block, appended}
use Rattle.ufs_extent.proofs.RunLemmas.{other_block, same_block, not-true, not-false, next_block-appended, length-appended_joins, length-appended_adds}
use Rattle.ufs_dir_tree.specs.Space.{one_block, extents_of}
use Rattle.ufs_dir_tree.proofs.SpaceLemmas.{extents-push}
use Rattle.ufs_dir_tree.proofs.GivenBlocks.{taken_next}
use Rattle.ufs_dir_tree.proofs.space.extents_with.Goals as goal
use Rattle.ufs_dir_tree.proofs.space.extents_with.Goals.{then-ne, else-ne}

pub loop-other-preserved : goal.loop-other-preserved
loop-other-preserved c =
    let i = c.loop-other.other-index in
    let blocks = c.args.blocks.now in
    let b = get_or blocks i 0 in
    let before : List Run = extents_of (take i blocks) in
    let step : extents_of (take (i + 1) blocks) ≡ appended before (one_block b) = ap extents_of (taken_next blocks i c.loop-other-test.true) ∙ extents-push (take i blocks) b in
    record {
      so_far = elim c.if-ne.branch [
        | then-ne w ↦
            let apart : next_block before ≢ Some b =
            λ e. other_block c.loop-other.next b (not-true _ (sym w.if-ne.true ∙ c.ne.ensures)) (c.loop-other.invariant.next_is ∙ e) in
            w.count-is ∙ ap (λ (n : ℕ). n + 1) c.loop-other.invariant.so_far ∙ sym (ap (λ (zs : List Run). length zs) step ∙ length-appended_adds before (one_block b) apart)
        | else-ne w ↦
            let follows : next_block before ≡ Some b = sym c.loop-other.invariant.next_is ∙ same_block c.loop-other.next b (not-false _ (sym w.if-ne.false ∙ c.ne.ensures)) in
            w.count-is ∙ c.loop-other.invariant.so_far ∙ sym (ap (λ (zs : List Run). length zs) step ∙ length-appended_joins before (one_block b) follows)
      ];
      next_is = sym (ap next_block step ∙ next_block-appended before (one_block b));
      small = elim c.if-ne.branch [ then-ne w ↦ omega arith | else-ne w ↦ omega arith ];
    }

pub returns-then-ne-2-clause-count : goal.returns-then-ne-2-clause-count
returns-then-ne-2-clause-count c =
    let blocks = c.args.blocks.now in
    let whole = take_all c.loop-other.other-index blocks c.loop-other-test.false in
    let before : List Run = extents_of blocks in
    let apart : next_block before ≢ Some c.args.block =
    λ e. other_block c.loop-other.next c.args.block (not-true _ (sym c.if-ne-2.true ∙ c.ne-2.ensures)) (c.loop-other.invariant.next_is ∙ ap (λ (l : List ℕ). next_block (extents_of l)) whole ∙ e) in
    ap (λ (n : ℕ). n + 1) (c.loop-other.invariant.so_far ∙ ap (λ (l : List ℕ). length (extents_of l)) whole)
    ∙ sym (ap (λ (zs : List Run). length zs) (extents-push blocks c.args.block) ∙ length-appended_adds before (one_block c.args.block) apart)

pub returns-else-ne-2-clause-count : goal.returns-else-ne-2-clause-count
returns-else-ne-2-clause-count c =
    let blocks = c.args.blocks.now in
    let whole = take_all c.loop-other.other-index blocks c.loop-other-test.false in
    let before : List Run = extents_of blocks in
    let follows : next_block before ≡ Some c.args.block =
    sym (c.loop-other.invariant.next_is ∙ ap (λ (l : List ℕ). next_block (extents_of l)) whole) ∙ same_block c.loop-other.next c.args.block (not-false _ (sym c.if-ne-2.false ∙ c.ne-2.ensures)) in
    c.loop-other.invariant.so_far ∙ ap (λ (l : List ℕ). length (extents_of l)) whole
    ∙ sym (ap (λ (zs : List Run). length zs) (extents-push blocks c.args.block) ∙ length-appended_joins before (one_block c.args.block) follows)
