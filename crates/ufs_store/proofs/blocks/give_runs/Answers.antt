use Rattle.std.proofs.Common.{◌≡◌, ◌+◌, ◌≤◌, ◌∷◌, drop, get_or, ap, sym, ◌∙◌, ℕ, List, subst, length}
use Rattle.std.specs.FinSet as set
use Rattle.std.proofs.lemmas.List.{drop_more, drop_all}
use Rattle.ufs_extent.specs.declared.Run.{Run}
use Rattle.ufs_extent.specs.Runs.{blocks_of}
use Rattle.ufs_bitmap.specs.Blocks.{BlockSet, run_set}
use Rattle.ufs_bitmap.specs.Space.{Space}
use Rattle.ufs_bitmap.specs.Taking.{IsApart, set_of}
use Rattle.ufs_bitmap.proofs.TakingLemmas.{none_held, apart_rest, union_rest, union_end}
use Rattle.ufs_store.proofs.Moves.{ranged}
use Rattle.ufs_store.proofs.blocks.give_runs.Goals as goal

pub give-requires-clause-used : goal.give-requires-clause-used
give-requires-clause-used c =
    let runs : List Run = c.as_slice-run-items.result.now in
    let i : ℕ = c.loop-run.run-index in
    let r : Run = get_or runs i (record { start = 0; length = 0 }) in
    let is : drop i runs ≡ r ∷ drop (i + 1) runs = drop_more runs i (record { start = 0; length = 0 }) c.loop-run-test.true in
    none_held c.loop-run.to.free r (drop (i + 1) runs) (subst (λ (l : List Run). IsApart c.loop-run.to.free (blocks_of l)) is c.loop-run.invariant.apart)

pub loop-run-preserved : goal.loop-run-preserved
loop-run-preserved c =
    let runs : List Run = c.as_slice-run-items.result.now in
    let i : ℕ = c.loop-run.run-index in
    let r : Run = get_or runs i (record { start = 0; length = 0 }) in
    let rest : List Run = drop (i + 1) runs in
    let free : BlockSet = c.loop-run.to.free in
    let is : drop i runs ≡ r ∷ rest = drop_more runs i (record { start = 0; length = 0 }) c.loop-run-test.true in
    let more : c.give.new.self.free ≡ set.union free (run_set r) = ap (λ (s : Space). s.free) c.give.ensures in
    record {
      range = ranged c.args.to.now c.loop-run.to c.give.new.self (set.union free (run_set r)) c.loop-run.invariant.range c.give.ensures;
      apart = subst (λ (s : BlockSet). IsApart s (blocks_of rest)) (sym more)
          (apart_rest free r rest (subst (λ (l : List Run). IsApart free (blocks_of l)) is c.loop-run.invariant.apart));
      so_far = ap (λ (s : BlockSet). set.union s (set_of rest)) more ∙ union_rest free r rest ∙ ap (λ (l : List Run). set.union free (set_of l)) (sym is) ∙ c.loop-run.invariant.so_far;
    }

pub returns : goal.returns
returns c =
    let runs : List Run = c.as_slice-run-items.result.now in
    let past : length runs ≤ c.loop-run.run-index = c.loop-run-test.false in
    let free : BlockSet = c.loop-run.to.free in
    let old : Space = c.args.to.now in
    let all : free ≡ set.union old.free (set_of c.args.runs.now) =
    sym (union_end free) ∙ ap (λ (l : List Run). set.union free (set_of l)) (sym (drop_all c.loop-run.run-index runs past)) ∙ c.loop-run.invariant.so_far
    ∙ ap (λ (l : List Run). set.union old.free (set_of l)) c.as_slice-run-items.ensures.items in
    c.loop-run.invariant.range ∙ (λ i. record { first = old.first; blocks = old.blocks; free = all i })
