use Rattle.std.proofs.Common.{◌≡◌, ℕ, zero, suc, ◌+◌, eqb, length, List, [], ◌∷◌, ap, sym, subst, ◌∙◌, arith}
use Rattle.std.specs.Prelude.{slice_get, Some}
use Rattle.ufs_joint.specs.FirstHand.{each_of, pool_of}
use Rattle.ufs_gathered.specs.Gathered.{HasPoolsAlone}
use Rattle.ufs_joint.specs.Cells.{View}
use Rattle.ufs_joint.specs.Whole.{no_blocks}
use Rattle.ufs_hand_laws.specs.Owned.{count}
use Rattle.ufs_worker.specs.Worker.{WorkerState}
use Rattle.ufs_rounds.proofs.Places.{no_items}
use Rattle.ufs_rounds.proofs.Together.{pool_more, pools_alone}
use Rattle.ufs_rounds.proofs.gathering.gather_pools.Goals as goal

pub loop-worker-init : goal.loop-worker-init
loop-worker-init g c =
    let gives = c.into_iter-worker-iterator.ensures.into_iter_gives.0 in
    let few = ap length gives in (
      1,
      λ place w at. c.requires.numbers place w (subst (λ (ws : List WorkerState). slice_get ws place ≡ Some w) gives at),
      c.requires.alone,
      c.requires.first,
      omega (arith, few),
    )

pub loop-worker-preserved : goal.loop-worker-preserved
loop-worker-preserved g c =
    let l = c.loop-worker in
    let worker : WorkerState = c.in-Some.worker in
    let next = c.in-Some.ensures.steps.0 in
    let k = l.invariant.0 in
    let numbers = l.invariant.1 in
    let fewer = ap length next in
    let all = l.invariant.4 in
    let its = c.into_hand.ensures in
    let number : worker.number ≡ k = (let is = numbers zero worker (ap (λ (ws : List WorkerState). slice_get ws zero) next) in omega (arith, is)) in (
      suc k,
      λ place w at. let is = numbers (suc place) w (ap (λ (ws : List WorkerState). slice_get ws (suc place)) next ∙ at) in omega (arith, is),
      subst HasPoolsAlone (sym c.join.ensures) (pools_alone (pool_of worker.number) its.0 l.pools c.into_hand.result l.invariant.2 its.1),
      λ n. ap (λ (v : View). count eqb n v.pools) c.join.ensures ∙ pool_more k its.0 l.pools c.into_hand.result (its.1.pools ∙ (λ i. (pool_of (number i), its.0) ∷ [])) l.invariant.3 n,
      omega (arith, fewer, all),
    )

pub returns-clause-alone : goal.returns-clause-alone
returns-clause-alone g c = c.loop-worker.invariant.2

pub returns-clause-all : goal.returns-clause-all
returns-clause-all g c n =
    let l = c.loop-worker in
    let rest = l.worker-iterator.rest in
    let none = ap length (no_items rest.items (sym rest.ok.0 ∙ c.in-None.ensures.steps.0)) in
    let all = l.invariant.4 in
    let same : l.invariant.0 ≡ 1 + length c.args.workers.items = omega (arith, all, none) in
    l.invariant.3 n ∙ ap (λ (k : ℕ). count eqb n (each_of pool_of no_blocks k)) same
