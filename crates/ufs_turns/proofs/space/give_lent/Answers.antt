use Rattle.std.proofs.Common.{◌≡◌, ◌≤◌, ◌<◌, ◌+◌, ℕ, List, ◌∷◌, [], Result, Ok, Err, inl, inr, ◌⊎◌, ◌||◌, sym, subst, refl, ap, ◌∙◌}
use Rattle.std.specs.Prelude.{IfErr, OnErr, OnOk}
use Rattle.std.specs.FinSet as set
use Rattle.std.proofs.lemmas.Bool.{cases_lt}
use Rattle.ufs_bitmap.specs.Blocks.{BlockSet}
use Rattle.ufs_joint.specs.Cells.{StoreCell, View}
use Rattle.ufs_joint.specs.Disks.{cell_of}
use Rattle.ufs_joint.specs.Moves.{MayMoveBlocks}
use Rattle.ufs_store.specs.Blocks.{AreApart, MovesLowest}
use Rattle.ufs_store.specs.State.{StoreState}
use Rattle.ufs_store.specs.declared.fault.StoreFault.{StoreFault}
use Rattle.ufs_store.specs.declared.fault.StoreFault.TheVariants as refusal
use Rattle.ufs_turns.specs.Lent.{GainsBlocks, LacksBlocks}
use Rattle.ufs_turns.proofs.FreeBlocks.{none_raised}
use Rattle.ufs_turns.proofs.Pools.{beside_then, given_apart, given_same, may_move, pool_apart, pools_then, store_then}
use Rattle.ufs_turns.proofs.space.give_lent.Goals as goal

pub give_pool-given-requires : goal.give_pool-given-requires
give_pool-given-requires g c =
    let home = c.requires.store in
    record { apart = pool_apart g.N.Naming.start c.look.result c.args.hand.now c.look.ensures.knows (cell_of home.stamp home.past (g.D.Door.store c.args.store.now)) home.has c.requires.pool.0 c.args.pool.now c.requires.pool.1 }

moves : (r : Result (Unit {0}) StoreFault) (want : ℕ) (v : View) (was : StoreCell) (name : ℕ) (had pool : BlockSet) (s t : StoreState) → was.unassigned.free ≡ s.unassigned.free → v.store ≡ (tt, was) ∷ [] → v.pools ≡ (name, had) ∷ [] → AreApart had s.unassigned.free
    → OnOk r (MovesLowest want s.unassigned.free t.unassigned.free had pool) → OnErr r ((t ≡ s) × (pool ≡ had)) → MayMoveBlocks v was ((name, pool) ∷ []) t.unassigned.free
moves (Ok x) want v was name had pool s t free store pools apart ok err =
    may_move v was name had pool t.unassigned.free store pools (λ b. given_same want s.unassigned.free t.unassigned.free had pool ok b ∙ ap (λ (q : BlockSet). set.contains q b || set.contains had b) (sym free)) (given_apart want s.unassigned.free t.unassigned.free had pool ok apart)
moves (Err x) want v was name had pool s t free store pools apart ok err =
    may_move v was name had pool t.unassigned.free store pools
    (λ b. (λ i. set.contains (err.0 i).unassigned.free b || set.contains (err.1 i) b) ∙ ap (λ (q : BlockSet). set.contains q b || set.contains had b) (sym free))
    (λ b is. ap (λ (q : StoreState). set.contains q.unassigned.free b) err.0 ∙ apart b (sym (ap (λ (q : BlockSet). set.contains q b) err.1) ∙ is))

pub move_blocks-requires-clause-may : goal.move_blocks-requires-clause-may
move_blocks-requires-clause-may g c =
    let home = c.requires.store in
    let s = g.D.Door.store c.args.store.now in
    let t = g.D.Door.store c.give_pool-given.new.self in
    let was = cell_of home.stamp home.past s in
    let pools = ap (λ (q : View). q.pools) c.look.ensures.cells ∙ c.requires.pool.1 in
    let store = ap (λ (q : View). q.store) c.look.ensures.cells ∙ home.has in (
      c.requires.pool.0,
      was,
      c.args.pool.now,
      pools,
      moves c.give_pool-given.result (c.args.missing + 64) c.look.new.self was c.requires.pool.0 c.args.pool.now c.give_pool-given.new.pool s t refl store pools (pool_apart g.N.Naming.start c.look.result c.args.hand.now c.look.ensures.knows (cell_of c.requires.store.stamp c.requires.store.past (g.D.Door.store c.args.store.now)) c.requires.store.has c.requires.pool.0 c.args.pool.now c.requires.pool.1) c.give_pool-given.ensures.ok c.give_pool-given.ensures.kept,
    )

pub returns-clause-store : goal.returns-clause-store
returns-clause-store g c = store_then g.N.Naming.start g.N.Naming.origin g.D.Door.visible g.D.Door.keeps c.look.result c.args.hand.now c.look.new.self c.move_blocks.new.hand (g.D.Door.store c.args.store.now) (g.D.Door.store c.give_pool-given.new.self) c.requires.store c.look.ensures.cells c.requires.pool.0 c.args.pool.now c.give_pool-given.new.pool c.requires.pool.1 c.give_pool-given.ensures.rest c.move_blocks.ensures

pub returns-clause-pool : goal.returns-clause-pool
returns-clause-pool g c name pools = pools_then g.N.Naming.start g.N.Naming.origin g.D.Door.visible g.D.Door.keeps c.look.result c.args.hand.now c.look.new.self c.move_blocks.new.hand (g.D.Door.store c.args.store.now) (g.D.Door.store c.give_pool-given.new.self) c.requires.store c.look.ensures.cells name c.args.pool.now c.give_pool-given.new.pool pools c.give_pool-given.ensures.rest c.move_blocks.ensures

pub returns-clause-beside : goal.returns-clause-beside
returns-clause-beside g c = beside_then g.N.Naming.start g.N.Naming.origin g.D.Door.visible g.D.Door.keeps c.look.result c.args.hand.now c.look.new.self c.move_blocks.new.hand (g.D.Door.store c.args.store.now) (g.D.Door.store c.give_pool-given.new.self) c.requires.store c.look.ensures.cells c.requires.pool.0 c.args.pool.now c.give_pool-given.new.pool c.requires.pool.1 c.give_pool-given.ensures.rest c.move_blocks.ensures c.look.ensures.later

gains : (r : Result (Unit {0}) StoreFault) (missing had : ℕ) (old new from left : BlockSet) → set.len from ≡ had → AreApart old from → ((had < missing) → r ≡ Err (refusal.NoSpace missing had)) → OnOk r (MovesLowest (missing + 64) from left old new) → OnOk r (GainsBlocks missing from left old new)
gains (Err x) missing had old new from left is apart lacks ok = tt
gains (Ok x) missing had old new from left is apart lacks ok = record { apart = apart; enough = by (cases_lt had missing); moved = ok }
  where
    by : (had < missing) ⊎ (missing ≤ had) → missing ≤ set.len from
    by (inl less) = (let clash = lacks less in absurd cc)
    by (inr enough) = subst (λ (n : ℕ). missing ≤ n) (sym is) enough

pub returns-clause-given : goal.returns-clause-given
returns-clause-given g c =
    let s = g.D.Door.store c.args.store.now in
    let t = g.D.Door.store c.give_pool-given.new.self in
    gains c.give_pool-given.result c.args.missing (set.len s.unassigned.free) c.args.pool.now c.give_pool-given.new.pool s.unassigned.free t.unassigned.free refl (pool_apart g.N.Naming.start c.look.result c.args.hand.now c.look.ensures.knows (cell_of c.requires.store.stamp c.requires.store.past (g.D.Door.store c.args.store.now)) c.requires.store.has c.requires.pool.0 c.args.pool.now c.requires.pool.1) c.give_pool-given.ensures.no_space.0 c.give_pool-given.ensures.ok

lacking : (r : Result (Unit {0}) StoreFault) (missing had : ℕ) → (r ≡ Err (refusal.NoSpace missing had) → had < missing) → IfErr r (λ fault. fault ≡ refusal.NoSpace missing had) → IfErr r (LacksBlocks missing had)
lacking (Ok x) missing had fewer told = tt
lacking (Err x) missing had fewer told = record { fewer = fewer (ap Err told); told = told }

pub returns-clause-lacks : goal.returns-clause-lacks
returns-clause-lacks g c = lacking c.give_pool-given.result c.args.missing (set.len (g.D.Door.store c.args.store.now).unassigned.free) c.give_pool-given.ensures.no_space.1 c.give_pool-given.ensures.told

unmoved : (r : Result (Unit {0}) StoreFault) (s t : StoreState) (old new : BlockSet) → OnErr r ((t ≡ s) × (new ≡ old)) → OnErr r (t.unassigned.free ≡ s.unassigned.free)
unmoved (Ok x) s t old new kept = tt
unmoved (Err x) s t old new kept = ap (λ (q : StoreState). q.unassigned.free) kept.0

pub returns-clause-same : goal.returns-clause-same
returns-clause-same g c = unmoved c.give_pool-given.result (g.D.Door.store c.args.store.now) (g.D.Door.store c.give_pool-given.new.self) c.args.pool.now c.give_pool-given.new.pool c.give_pool-given.ensures.kept

pub returns-clause-ran : goal.returns-clause-ran
returns-clause-ran g c =
    let s = g.D.Door.store c.args.store.now in
    let t = g.D.Door.store c.give_pool-given.new.self in
    let is = c.give_pool-given.ensures.rest in
    record { count = ap (λ (q : StoreState). q.faults) is; raised = none_raised s t (ap (λ (q : StoreState). q.superblock) is) (ap (λ (q : StoreState). q.journal) is) }

pub returns-clause-rests : goal.returns-clause-rests
returns-clause-rests g c = ap (λ (q : StoreState). q.stop) c.give_pool-given.ensures.rest
