use Rattle.std.proofs.Common.{◌≡◌, ◌||◌, ℕ, ◌∷◌, [], sym, refl, ap, ◌∙◌}
use Rattle.std.specs.FinSet as set
use Rattle.ufs_bitmap.specs.Blocks.{BlockSet}
use Rattle.ufs_layout.specs.Areas.{first_of_data}
use Rattle.ufs_layout.specs.declared.geometry.Geometry.{Geometry}
use Rattle.ufs_joint.specs.Cells.{View}
use Rattle.ufs_joint.specs.Disks.{cell_of}
use Rattle.ufs_store.specs.State.{StoreState}
use Rattle.ufs_turns.proofs.FreeBlocks.{none_raised}
use Rattle.ufs_turns.proofs.Pools.{back_same, beside_then, may_move, none_there, pool_apart, pool_inside, pools_then, store_then}
use Rattle.ufs_turns.proofs.space.take_lent.Goals as goal

pub take_back-requires-clause-inside : goal.take_back-requires-clause-inside
take_back-requires-clause-inside g c =
    let home = c.requires.store in
    let s = g.D.Door.store c.args.store.now in
    let is = c.geometry-geometry.ensures in
    let same : c.geometry-geometry.result ≡ g.N.Naming.start.geometry = is.is ∙ home.formed in
    pool_inside g.N.Naming.start c.look.result c.args.hand.now c.look.ensures.knows (cell_of home.stamp home.past s) home.has c.requires.pool.0 c.args.pool.now c.requires.pool.1 s.unassigned (is.first ∙ ap first_of_data same) (is.blocks ∙ ap (λ (k : Geometry). k.blocks) same)

pub take_back-requires-clause-apart : goal.take_back-requires-clause-apart
take_back-requires-clause-apart g c =
    let home = c.requires.store in
    pool_apart g.N.Naming.start c.look.result c.args.hand.now c.look.ensures.knows (cell_of home.stamp home.past (g.D.Door.store c.args.store.now)) home.has c.requires.pool.0 c.args.pool.now c.requires.pool.1

rest : (s t : StoreState) (free : BlockSet) → t ≡ record s { unassigned = record (s.unassigned) { free = free } } → t ≡ record s { unassigned = record (s.unassigned) { free = t.unassigned.free } }
rest s t free is = is ∙ (λ i. record s { unassigned = record (s.unassigned) { free = sym (ap (λ (q : StoreState). q.unassigned.free) is) i } })

pub move_blocks-requires-clause-may : goal.move_blocks-requires-clause-may
move_blocks-requires-clause-may g c =
    let home = c.requires.store in
    let s = g.D.Door.store c.args.store.now in
    let t = g.D.Door.store c.take_back.new.self in
    let was = cell_of home.stamp home.past s in
    let pools = ap (λ (q : View). q.pools) c.look.ensures.cells ∙ c.requires.pool.1 in
    let store = ap (λ (q : View). q.store) c.look.ensures.cells ∙ home.has in
    let free = ap (λ (q : StoreState). q.unassigned.free) c.take_back.ensures.back in
    let none = c.take_back.ensures.none in (
      c.requires.pool.0,
      was,
      c.args.pool.now,
      pools,
      may_move c.look.new.self was c.requires.pool.0 c.args.pool.now c.take_back.new.pool t.unassigned.free store pools
          (λ b. (λ i. set.contains (free i) b || set.contains (none i) b) ∙ back_same s.unassigned.free c.args.pool.now b)
          (λ b is. none_there b (set.contains t.unassigned.free b) (sym (ap (λ (q : BlockSet). set.contains q b) none) ∙ is)),
    )

pub returns-clause-store : goal.returns-clause-store
returns-clause-store g c =
    let s = g.D.Door.store c.args.store.now in
    let t = g.D.Door.store c.take_back.new.self in
    store_then g.N.Naming.start g.N.Naming.origin g.D.Door.visible g.D.Door.keeps c.look.result c.args.hand.now c.look.new.self c.move_blocks.new.hand s t c.requires.store c.look.ensures.cells c.requires.pool.0 c.args.pool.now c.take_back.new.pool c.requires.pool.1 (rest s t (set.union s.unassigned.free c.args.pool.now) c.take_back.ensures.back) c.move_blocks.ensures

pub returns-clause-pool : goal.returns-clause-pool
returns-clause-pool g c name pools =
    let s = g.D.Door.store c.args.store.now in
    let t = g.D.Door.store c.take_back.new.self in
    pools_then g.N.Naming.start g.N.Naming.origin g.D.Door.visible g.D.Door.keeps c.look.result c.args.hand.now c.look.new.self c.move_blocks.new.hand s t c.requires.store c.look.ensures.cells name c.args.pool.now c.take_back.new.pool pools (rest s t (set.union s.unassigned.free c.args.pool.now) c.take_back.ensures.back) c.move_blocks.ensures

pub returns-clause-beside : goal.returns-clause-beside
returns-clause-beside g c =
    let s = g.D.Door.store c.args.store.now in
    let t = g.D.Door.store c.take_back.new.self in
    beside_then g.N.Naming.start g.N.Naming.origin g.D.Door.visible g.D.Door.keeps c.look.result c.args.hand.now c.look.new.self c.move_blocks.new.hand s t c.requires.store c.look.ensures.cells c.requires.pool.0 c.args.pool.now c.take_back.new.pool c.requires.pool.1 (rest s t (set.union s.unassigned.free c.args.pool.now) c.take_back.ensures.back) c.move_blocks.ensures c.look.ensures.later

pub returns-clause-back : goal.returns-clause-back
returns-clause-back g c = ap (λ (q : StoreState). q.unassigned.free) c.take_back.ensures.back

pub returns-clause-ran : goal.returns-clause-ran
returns-clause-ran g c =
    let s = g.D.Door.store c.args.store.now in
    let t = g.D.Door.store c.take_back.new.self in
    let is = c.take_back.ensures.back in
    record { count = ap (λ (q : StoreState). q.faults) is; raised = none_raised s t (ap (λ (q : StoreState). q.superblock) is) (ap (λ (q : StoreState). q.journal) is) }

pub returns-clause-rests : goal.returns-clause-rests
returns-clause-rests g c = ap (λ (q : StoreState). q.stop) c.take_back.ensures.back
