use Rattle.std.proofs.Common.{◌≡◌, ℕ, suc, ◌+◌, eqb, length, List, ap, refl, sym, subst, ◌∙◌, arith}
use Rattle.ufs_bitmap.specs.Blocks.{BlockSet}
use Rattle.ufs_hand_laws.specs.Owned.{without}
use Rattle.ufs_joint.specs.Cells.{View}
use Rattle.ufs_joint.specs.FirstHand.{pool_of}
use Rattle.ufs_rounds.specs.Dealing.{AreBare, ArePoolsFrom}
use Rattle.ufs_rounds.specs.Numbers.{AreWorkers}
use Rattle.ufs_worker.specs.Worker.{WorkerState}
use Rattle.ufs_rounds.proofs.Dealt.{none_numbered, numbers_push, pools_further}
use Rattle.ufs_rounds.proofs.Places.{no_items}
use Rattle.ufs_rounds.proofs.Together.{length_push}
use Rattle.ufs_rounds.proofs.dealing.deal_workers.Goals as goal

pub loop-pool-init : goal.loop-pool-init
loop-pool-init g c =
    let gives = c.into_iter-pool-iterator.ensures.into_iter_gives.0 in
    let few = ap length gives in
    let none = ap length c.requires.none in
    let room = c.requires.room in
    record {
      numbers = subst AreWorkers (sym c.requires.none) (none_numbered (λ (w : WorkerState). w.number) (λ i. i + 1));
      all = omega (arith, few, none);
      bare = subst AreBare (sym gives) c.requires.bare;
      room = omega (arith, few, none, room);
      has = subst (λ (n : ℕ). ArePoolsFrom n (length c.args.pools.items) c.args.hand.now) (omega (arith, none)) c.requires.has;
      apart = c.requires.apart;
      rest = refl;
    }

pub deal_worker-worker-requires-clause-there : goal.deal_worker-worker-requires-clause-there
deal_worker-worker-requires-clause-there g c =
    let l = c.loop-pool in
    let long = c.len.ensures in
    let count = l.workers.ok.0 in
    let fewer = ap length c.in-Some.ensures.steps.0 in
    let all = l.invariant.all in
    let every = c.requires.all in
    (omega arith, omega (arith, long, count, fewer, all, every))

pub deal_worker-worker-requires-clause-bare : goal.deal_worker-worker-requires-clause-bare
deal_worker-worker-requires-clause-bare g c = (subst AreBare c.in-Some.ensures.steps.0 c.loop-pool.invariant.bare).0

pub deal_worker-worker-requires-clause-has : goal.deal_worker-worker-requires-clause-has
deal_worker-worker-requires-clause-has g c =
    let l = c.loop-pool in
    let long = c.len.ensures in
    let count = l.workers.ok.0 in
    let fewer = ap length c.in-Some.ensures.steps.0 in
    let all = l.invariant.all in
    l.invariant.has (c.len.result + 1) (omega (arith, long, count)) (omega (arith, long, count, fewer, all))

pub loop-pool-preserved : goal.loop-pool-preserved
loop-pool-preserved g c =
    let l = c.loop-pool in
    let w : WorkerState = c.deal_worker-worker.result in
    let rest : List BlockSet = c.next.new.self.rest.items in
    let next = c.in-Some.ensures.steps.0 in
    let left = c.deal_worker-worker.ensures.left in
    let items = c.push_reserved.ensures.items in
    let long = ap length items ∙ length_push l.workers.items w in
    let fewer = ap length next in
    let all = l.invariant.all in
    let room = l.invariant.room in
    let wide = c.push_reserved.ensures.capacity in
    let few = c.requires.few in
    let count = l.workers.ok.0 in
    let len = c.len.ensures in
    let number : c.len.result + 1 ≡ length l.workers.items + 1 = omega (arith, len, count) in
    record {
      numbers = subst AreWorkers (sym items) (numbers_push (λ (x : WorkerState). x.number) (λ i. i + 1) l.workers.items w l.invariant.numbers (ap (λ (x : WorkerState). x.number) c.deal_worker-worker.ensures.worker ∙ number));
      all = omega (arith, long, fewer, all);
      bare = (subst AreBare next l.invariant.bare).1;
      room = omega (arith, long, fewer, room, wide);
      has = subst (λ (x : ℕ × View). ArePoolsFrom x.0 (length c.args.pools.items) x.1) (λ i. ((ap suc number ∙ (let e : suc (length l.workers.items + 1) ≡ length c.push_reserved.new.self.items + 1 = omega (arith, long) in e)) i, sym left i))
          (pools_further (c.len.result + 1) (length c.args.pools.items) l.hand few (omega (arith, number, fewer, all)) (subst (λ (n : ℕ). ArePoolsFrom n (length c.args.pools.items) l.hand) (sym number) l.invariant.has));
      apart = c.deal_worker-worker.ensures.apart;
      rest = left ∙ ap (λ (v : View). record v { pools = without (eqb (pool_of (c.len.result + 1))) l.hand.pools }) l.invariant.rest ∙ (λ i. record c.args.hand.now { pools = ap (λ (v : View). v.pools) (sym left) i });
    }

pub returns-clause-all : goal.returns-clause-all
returns-clause-all g c =
    let rest = c.loop-pool.pool-iterator.rest in
    let none = ap length (no_items rest.items (sym rest.ok.0 ∙ c.in-None.ensures.steps.0)) in
    let all = c.loop-pool.invariant.all in
    omega (arith, none, all)
