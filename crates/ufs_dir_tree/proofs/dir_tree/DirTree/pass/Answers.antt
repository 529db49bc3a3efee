use Rattle.std.proofs.Common.{◌≡◌, ℕ, List, [], ◌∷◌, ◌++◌, length, Some, None, ap, sym, subst, ◌∙◌, arith}
use Rattle.std.specs.Prelude.{slice_set}
use Rattle.ufs_bitmap.specs.Blocks.{BlockSet}
use Rattle.ufs_layout.specs.DentryForm.{DentryForm}
use Rattle.ufs_dirs.specs.Changes.{entry_in, with_entry}
use Rattle.ufs_dirs.specs.Directory.{Directory, entry_of}
use Rattle.ufs_dir_tree.specs.DirTable.{DirTable, IsDirTable, IsUsed, dir_at, found_of, found_at}
use Rattle.ufs_dir_tree.specs.DirCalls.{MovesFounds, names_above, last_name}
use Rattle.ufs_dir_tree.specs.DirEdits.{SetsEntry, dir_in}
use Rattle.ufs_dir_tree.specs.Steps.{GoesBy, moving}
use Rattle.ufs_dir_tree.specs.declared.found.Found.TheVariants.{Dir}
use Rattle.ufs_dir_tree.proofs.FoundEdits.{last_is, entry_stands}
use Rattle.ufs_dir_tree.proofs.StepLemmas.{name_moves, some_same}
use Rattle.ufs_dir_tree.proofs.MadeSteps.{named_form, clear_made, put_made}
use Rattle.ufs_dir_tree.proofs.PassedNames.{MayPass, passed_target, passed_absent, passed_founds, passed_table}
use Rattle.ufs_dir_tree.proofs.dir_tree.DirTree.pass.Goals as goal
use Rattle.ufs_dir_tree.proofs.dir_tree.DirTree.pass.Goals.{After-put_at}

pub take_out_at-entry-requires-clause-there : goal.take_out_at-entry-requires-clause-there
take_out_at-entry-requires-clause-there c =
    let t : DirTable = record { dirs = c.self.inside.dirs.items; free = c.self.inside.free.free } in
    let above = names_above c.args.from.now in
    let met = subst (λ (t : DirTable). found_at t above ≡ Some (Dir c.args.from_dir)) (sym c.self.view_is) c.requires.from_dir in
    let used : IsUsed t c.args.from_dir = c.self.invariant.0.met above (Dir c.args.from_dir) met in
    used.within

pub take_out_at-entry-requires-clause-stands : goal.take_out_at-entry-requires-clause-stands
take_out_at-entry-requires-clause-stands c =
    let t : DirTable = record { dirs = c.self.inside.dirs.items; free = c.self.inside.free.free } in
    let from = c.args.from.now in
    let passes = subst (λ (t : DirTable). MayPass t c.args.from_dir c.args.to_dir from c.args.to.now) (sym c.self.view_is) (record { source = c.requires.from_dir; target = c.requires.to_dir; may = c.requires.may_move; absent = c.requires.absent }) in
    entry_stands t from (names_above from) c.last.result.now c.args.from_dir c.last.ensures.value passes.source passes.may.stands

pub put_at-requires-clause-absent : goal.put_at-requires-clause-absent
put_at-requires-clause-absent c =
    let t : DirTable = record { dirs = c.self.inside.dirs.items; free = c.self.inside.free.free } in
    let from = c.args.from.now in
    let to = c.args.to.now in
    let left = c.take_out_at-entry.new.dirs.items in
    let passes = subst (λ (t : DirTable). MayPass t c.args.from_dir c.args.to_dir from to) (sym c.self.view_is) (record { source = c.requires.from_dir; target = c.requires.to_dir; may = c.requires.may_move; absent = c.requires.absent }) in
    ap (λ (e : DentryForm). entry_of (dir_in left c.args.to_dir).slots e.name) c.from_name-moved.ensures
    ∙ passed_absent t c.args.from_dir c.args.to_dir from to passes c.self.invariant.0 c.last.result.now c.last-2.result.now c.last.ensures.value c.last-2.ensures.value left c.take_out_at-entry.ensures.entries

abbrev before : After-put_at → DirTable
before c = record { dirs = c.self.inside.dirs.items; free = c.self.inside.free.free }

abbrev behind : After-put_at → DirTable
behind c = record { dirs = c.put_at.new.dirs.items; free = c.self.inside.free.free }

abbrev named : After-put_at → DentryForm
named c = record { inode = c.entry.inside.inode; kind = c.entry.inside.kind; name = c.last-2.result.now }

passes : (c : After-put_at) → MayPass (before c) c.args.from_dir c.args.to_dir c.args.from.now c.args.to.now
passes c = subst (λ (t : DirTable). MayPass t c.args.from_dir c.args.to_dir c.args.from.now c.args.to.now) (sym c.self.view_is) (record { source = c.requires.from_dir; target = c.requires.to_dir; may = c.requires.may_move; absent = c.requires.absent })

gives : (c : After-put_at) → SetsEntry c.take_out_at-entry.new.dirs.items c.put_at.new.dirs.items c.args.to_dir c.last-2.result.now (Some (named c))
gives c = subst (λ (e : DentryForm). SetsEntry c.take_out_at-entry.new.dirs.items c.put_at.new.dirs.items c.args.to_dir e.name (Some e)) c.from_name-moved.ensures c.put_at.ensures.entries

table : (c : After-put_at) → IsDirTable (behind c)
table c =
    let out = c.take_out_at-entry in
    passed_table (before c) c.args.from_dir c.args.to_dir c.args.from.now c.args.to.now (passes c) c.self.invariant.0 c.last.result.now c.last-2.result.now c.last.ensures.value c.last-2.ensures.value out.new.dirs.items out.ensures.entries
    out.result.entry (named c) out.ensures.was (ap (λ (e : DentryForm). found_of e) (sym c.entry.view_is)) c.put_at.new.dirs.items (gives c) c.last-2.ensures.name out.ensures.whole c.put_at.ensures.whole

pub invariant_of-self : goal.invariant_of-self
invariant_of-self c =
    let taken = c.take_out_at-entry.ensures.entries in
    let given = gives c in
    (table c, c.self.invariant.1, c.self.invariant.2 ∙ sym taken.one.counted ∙ sym given.one.counted, omega (arith, taken.one.counted, given.one.counted, c.self.invariant.3))

pub returns-clause-table : goal.returns-clause-table
returns-clause-table c = table c

pub returns-clause-moved : goal.returns-clause-moved
returns-clause-moved c =
    let out = c.take_out_at-entry in
    subst (λ (t : DirTable). MovesFounds (found_at t) (found_at (behind c)) c.args.from.now c.args.to.now) c.self.view_is
    (passed_founds (before c) c.args.from_dir c.args.to_dir c.args.from.now c.args.to.now (passes c) c.self.invariant.0 c.last.result.now c.last-2.result.now c.last.ensures.value c.last-2.ensures.value out.new.dirs.items out.ensures.entries
    out.result.entry (named c) out.ensures.was (ap (λ (e : DentryForm). found_of e) (sym c.entry.view_is)) c.put_at.new.dirs.items (gives c))

steps : (c : After-put_at) (pool : BlockSet) → GoesBy (before c) (behind c) pool pool (moving c.args.from_dir c.take_out_at-entry.result.slot c.args.to_dir c.put_at.result (record (entry_in (dir_at (before c) c.args.from_dir) c.take_out_at-entry.result.slot) { name = last_name c.args.to.now }))
steps c pool =
    let t = before c in
    let i = c.args.from_dir in
    let j = c.args.to_dir in
    let from = c.args.from.now in
    let to = c.args.to.now in
    let y = c.last-2.result.now in
    let out = c.take_out_at-entry in
    let left = out.new.dirs.items in
    let mid : DirTable = record { dirs = left; free = t.free } in
    let pass = passes c in
    let stands = out.ensures.slot in
    let cleared = clear_made t mid i out.result.slot (names_above from, pass.source) stands.place.slot (ap (λ (ds : List Directory). record { dirs = ds; free = t.free }) out.ensures.freed) pool in
    let placed = c.put_at.ensures.placed ∙ ap (λ (e : DentryForm). slice_set left j (with_entry (dir_in left j) c.put_at.result e)) c.from_name-moved.ensures in
    let met = passed_target t i j from to pass c.self.invariant.0 c.last.result.now y c.last.ensures.value c.last-2.ensures.value left out.ensures.entries in
    let absent = passed_absent t i j from to pass c.self.invariant.0 c.last.result.now y c.last.ensures.value c.last-2.ensures.value left out.ensures.entries in
    let put = put_made mid (behind c) j c.put_at.result (named c) (names_above to, met) (named_form (named c) c.last-2.ensures.name) c.last-2.ensures.name absent c.put_at.ensures.free (ap (λ (ds : List Directory). record { dirs = ds; free = t.free }) placed) pool in
    let e = c.entry.view_is ∙ some_same out.result.entry (entry_in (dir_at t i) out.result.slot) (sym out.ensures.was ∙ stands.entry) in
    let inode = ap (λ (e : DentryForm). e.inode) e in
    let kind = ap (λ (e : DentryForm). e.kind) e in
    let name = sym (last_is to (names_above to) y c.last-2.ensures.value) in
    name_moves t mid (behind c) pool i out.result.slot j c.put_at.result (named c) (record (entry_in (dir_at t i) out.result.slot) { name = last_name to })
    (λ k. record { inode = inode k; kind = kind k; name = name k }) cleared put

pub returns-clause-steps : goal.returns-clause-steps
returns-clause-steps c pool =
    subst (λ (t : DirTable). GoesBy t (behind c) pool pool (moving c.args.from_dir c.take_out_at-entry.result.slot c.args.to_dir c.put_at.result (record (entry_in (dir_at t c.args.from_dir) c.take_out_at-entry.result.slot) { name = last_name c.args.to.now }))) c.self.view_is (steps c pool)
