use Rattle.std.proofs.Common.{◌≡◌, ◌+◌, ◌≤◌, ◌∷◌, drop, get_or, ap, sym, ◌∙◌, ℕ, List, subst, length}
use Rattle.std.specs.FinSet as set
use Rattle.std.proofs.lemmas.List.{drop_more, drop_all}
use Rattle.ufs_extent.specs.declared.Run.{Run}
use Rattle.ufs_extent.specs.Runs.{blocks_of}
use Rattle.ufs_bitmap.specs.Blocks.{BlockSet}
use Rattle.ufs_bitmap.specs.Taking.{IsApart, set_of}
use Rattle.ufs_bitmap.proofs.TakingLemmas.{none_held, apart_rest, union_rest, union_end}
use Rattle.ufs_bitmap.proofs.taking.give_runs.Goals as goal

pub give-requires-clause-apart : goal.give-requires-clause-apart
give-requires-clause-apart c =
    let runs : List Run = c.args.runs.now in
    let i : ℕ = c.loop-run.run-index in
    let r : Run = get_or runs i (record { start = 0; length = 0 }) in
    let is : drop i runs ≡ r ∷ drop (i + 1) runs = drop_more runs i (record { start = 0; length = 0 }) c.loop-run-test.true in
    none_held c.loop-run.pool r (drop (i + 1) runs) (subst (λ (l : List Run). IsApart c.loop-run.pool (blocks_of l)) is c.loop-run.invariant.apart)

pub loop-run-preserved : goal.loop-run-preserved
loop-run-preserved c =
    let runs : List Run = c.args.runs.now in
    let i : ℕ = c.loop-run.run-index in
    let r : Run = get_or runs i (record { start = 0; length = 0 }) in
    let rest : List Run = drop (i + 1) runs in
    let is : drop i runs ≡ r ∷ rest = drop_more runs i (record { start = 0; length = 0 }) c.loop-run-test.true in
    record {
      apart = subst (λ (s : BlockSet). IsApart s (blocks_of rest)) (sym c.give.ensures)
          (apart_rest c.loop-run.pool r rest (subst (λ (l : List Run). IsApart c.loop-run.pool (blocks_of l)) is c.loop-run.invariant.apart));
      so_far = ap (λ (s : BlockSet). set.union s (set_of rest)) c.give.ensures ∙ union_rest c.loop-run.pool r rest
          ∙ ap (λ (l : List Run). set.union c.loop-run.pool (set_of l)) (sym is) ∙ c.loop-run.invariant.so_far;
    }

pub returns : goal.returns
returns c =
    let runs : List Run = c.args.runs.now in
    let past : length runs ≤ c.loop-run.run-index = c.loop-run-test.false in
    sym (union_end c.loop-run.pool) ∙ ap (λ (l : List Run). set.union c.loop-run.pool (set_of l)) (sym (drop_all c.loop-run.run-index runs past)) ∙ c.loop-run.invariant.so_far
