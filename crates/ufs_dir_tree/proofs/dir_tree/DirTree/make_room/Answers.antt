use Rattle.std.specs.Prelude.{IfOk}
use Rattle.std.proofs.Common.{◌<◌, length, OnOk, sym, subst, ◌∙◌, arith}
use Rattle.ufs_dir_tree.specs.DirTable.{DirTable, IsDirTable, IsMet, IsUsed}
use Rattle.ufs_dir_tree.specs.DirCalls.{IsApart}
use Rattle.ufs_dir_tree.specs.DirEdits.{KeepsPlaces}
use Rattle.ufs_dir_tree.specs.Steps.{GoesBy, growing}
use Rattle.ufs_dir_tree.proofs.GrownSteps.{room_steps, room_places}
use Rattle.ufs_dir_tree.specs.declared.found.Found.TheVariants.{Dir}
use Rattle.ufs_dir_tree.proofs.GotRoom.{either_kept, either_apart}
use Rattle.ufs_dir_tree.proofs.SameWalks.{rooms_table}
use Rattle.ufs_dir_tree.proofs.WalkedTables.{whole_one}
use Rattle.ufs_dir_tree.proofs.dir_tree.DirTree.make_room.Goals as goal
use Rattle.ufs_dir_tree.proofs.dir_tree.DirTree.make_room.Goals.{After-give_room_at}

pub give_room_at-requires-clause-there : goal.give_room_at-requires-clause-there
give_room_at-requires-clause-there c =
    let t : DirTable = record { dirs = c.self.inside.dirs.items; free = c.self.inside.free.free } in
    let met = subst (λ (t : DirTable). IsMet t c.args.dir) (sym c.self.view_is) c.requires.met in
    let used : IsUsed t c.args.dir = c.self.invariant.0.met met.0 (Dir c.args.dir) met.1 in
    used.within

abbrev before : After-give_room_at → DirTable
before c = record { dirs = c.self.inside.dirs.items; free = c.self.inside.free.free }

abbrev behind : After-give_room_at → DirTable
behind c = record { dirs = c.give_room_at.new.dirs.items; free = c.self.inside.free.free }

apart : (c : After-give_room_at) → IsApart (before c) c.args.pool.now
apart c = subst (λ (t : DirTable). IsApart t c.args.pool.now) (sym c.self.view_is) c.requires.apart

table : (c : After-give_room_at) → IsDirTable (behind c)
table c =
    let e = c.give_room_at.ensures in
    let met = subst (λ (t : DirTable). IsMet t c.args.dir) (sym c.self.view_is) c.requires.met in
    rooms_table (before c) c.give_room_at.new.dirs.items c.args.dir e.same c.self.invariant.0 met.0 met.1
    (either_kept (before c) (behind c) c.args.dir c.args.pool.now c.give_room_at.new.pool e.same.one (apart c) c.self.invariant.0 e.few c.give_room_at.result e.gets e.err)
    (whole_one (before c) (behind c) c.args.dir e.same.one c.self.invariant.0.whole e.whole)

pub invariant_of-self : goal.invariant_of-self
invariant_of-self c =
    let one = c.give_room_at.ensures.same.one in
    (table c, c.self.invariant.1, c.self.invariant.2 ∙ sym one.counted, omega (arith, one.counted, c.self.invariant.3))

pub returns-clause-apart : goal.returns-clause-apart
returns-clause-apart c =
    let e = c.give_room_at.ensures in
    either_apart (before c) (behind c) c.args.dir c.args.pool.now c.give_room_at.new.pool e.same.one (apart c) c.self.invariant.0 e.few c.give_room_at.result e.gets e.err e.err_pool

pub returns-clause-table : goal.returns-clause-table
returns-clause-table c = table c

there : (c : After-give_room_at) → c.args.dir < length c.self.inside.dirs.items
there c =
    let met = subst (λ (t : DirTable). IsMet t c.args.dir) (sym c.self.view_is) c.requires.met in
    let used : IsUsed (before c) c.args.dir = c.self.invariant.0.met met.0 (Dir c.args.dir) met.1 in
    used.within

pub returns-clause-steps : goal.returns-clause-steps
returns-clause-steps c =
    let e = c.give_room_at.ensures in
    let met = subst (λ (t : DirTable). IsMet t c.args.dir) (sym c.self.view_is) c.requires.met in
    subst (λ (t : DirTable). IfOk c.give_room_at.result (λ g. GoesBy t (behind c) c.args.pool.now c.give_room_at.new.pool (growing c.args.dir g))) c.self.view_is
    (room_steps c.self.inside.dirs.items c.give_room_at.new.dirs.items c.self.inside.free.free c.args.dir (there c) c.args.pool.now c.give_room_at.new.pool met e.few c.give_room_at.result e.kept e.pool_kept e.grown e.taken)

pub returns-clause-places : goal.returns-clause-places
returns-clause-places c =
    let e = c.give_room_at.ensures in
    subst (λ (t : DirTable). OnOk c.give_room_at.result (KeepsPlaces t.dirs c.give_room_at.new.dirs.items)) c.self.view_is
    (room_places c.self.inside.dirs.items c.give_room_at.new.dirs.items c.self.inside.free.free c.args.dir (there c) e.same.one e.sized c.give_room_at.result e.kept e.grown)
