use Rattle.std.proofs.Common.{◌≡◌, ◌≢◌, Some, ℕ, ◌+◌, ap, sym, ◌∙◌, List, length, take, arith, get_or}
use Rattle.ufs_extent.specs.declared.Run.{Run}
use Rattle.ufs_extent.specs.Runs.{next_block, appended, appended_all}
use Rattle.ufs_extent.proofs.RunLemmas.{other_block, same_block, not-true, not-false, appended_all_more, next_block-appended, length-appended_joins, length-appended_adds}
use Rattle.ufs_extent.proofs.file_runs.Extents.count_with.Goals as goal
use Rattle.ufs_extent.proofs.file_runs.Extents.count_with.Goals.{then-ne, else-ne}

pub loop-run-preserved : goal.loop-run-preserved
loop-run-preserved c =
    let i = c.loop-run.run-index in
    let before : List Run = appended_all c.args.self.now (take i c.args.runs.now) in
    let run : Run = get_or c.args.runs.now i (record { start = 0; length = 0 }) in
    let step : appended_all c.args.self.now (take (i + 1) c.args.runs.now) ≡ appended before run = appended_all_more c.args.self.now c.args.runs.now i (record { start = 0; length = 0 }) c.loop-run-test.true in
    record {
      so_far = elim c.if-ne.branch [
        | then-ne w ↦
            let apart : next_block before ≢ Some run.start =
            λ e. other_block c.loop-run.next run.start (not-true _ (sym w.if-ne.true ∙ c.ne.ensures)) (c.loop-run.invariant.next_is ∙ e) in
            w.count-is
            ∙ ap (λ (n : ℕ). n + 1) c.loop-run.invariant.so_far
            ∙ sym (ap (λ (zs : List Run). length zs) step ∙ length-appended_adds before run apart)
        | else-ne w ↦
            let follows : next_block before ≡ Some run.start =
            sym c.loop-run.invariant.next_is ∙ same_block c.loop-run.next run.start (not-false _ (sym w.if-ne.false ∙ c.ne.ensures)) in
            w.count-is
            ∙ c.loop-run.invariant.so_far
            ∙ sym (ap (λ (zs : List Run). length zs) step ∙ length-appended_joins before run follows)
      ];
      next_is = sym (ap next_block step ∙ next_block-appended before run);
      small = elim c.if-ne.branch [ then-ne w ↦ omega arith | else-ne w ↦ omega arith ];
    }
