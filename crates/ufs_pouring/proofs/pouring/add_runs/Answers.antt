use Rattle.std.proofs.Common.{◌≡◌, ◌+◌, ◌≤◌, ◌∷◌, drop, get_or, ap, sym, ◌∙◌, ℕ, List, length}
use Rattle.std.specs.FinSet as set
use Rattle.std.proofs.lemmas.List.{drop_more, drop_all}
use Rattle.ufs_extent.specs.declared.Run.{Run}
use Rattle.ufs_bitmap.specs.Blocks.{BlockSet}
use Rattle.ufs_bitmap.specs.Taking.{set_of}
use Rattle.ufs_bitmap.proofs.TakingLemmas.{union_rest, union_end}
use Rattle.ufs_pouring.proofs.pouring.add_runs.Goals as goal

pub loop-run-preserved : goal.loop-run-preserved
loop-run-preserved c =
    let runs : List Run = c.args.runs.now in
    let i : ℕ = c.loop-run.run-index in
    let r : Run = get_or runs i (record { start = 0; length = 0 }) in
    let rest : List Run = drop (i + 1) runs in
    let is : drop i runs ≡ r ∷ rest = drop_more runs i (record { start = 0; length = 0 }) c.loop-run-test.true in
    record {
      so_far = ap (λ (s : BlockSet). set.union s (set_of rest)) c.add_run.ensures ∙ union_rest c.loop-run.pool r rest
          ∙ ap (λ (l : List Run). set.union c.loop-run.pool (set_of l)) (sym is) ∙ c.loop-run.invariant.so_far;
    }

pub returns : goal.returns
returns c =
    let runs : List Run = c.args.runs.now in
    let past : length runs ≤ c.loop-run.run-index = c.loop-run-test.false in
    sym (union_end c.loop-run.pool) ∙ ap (λ (l : List Run). set.union c.loop-run.pool (set_of l)) (sym (drop_all c.loop-run.run-index runs past)) ∙ c.loop-run.invariant.so_far
