use Rattle.std.proofs.Common.{◌≡◌, ℕ, List, Option, Some, None, IsSome, ap, sym, refl, subst, ◌∙◌}
use Rattle.std.specs.Option.{option_map}
use Rattle.std.proofs.lemmas.Option.{slice_get-get_or}
use Rattle.ufs_layout.specs.DentryForm.{DentryForm, free_slot}
use Rattle.ufs_dirs.specs.Directory.{entry_of}
use Rattle.ufs_dirs.specs.Changes.{entry_in, place_of}
use Rattle.ufs_dirs.specs.declared.Slot.{Slot}
use Rattle.ufs_dir_tree.specs.DirTable.{DirTable, dir_at, slots_at, found_at, found_of}
use Rattle.ufs_dir_tree.specs.DirCalls.{names_above, last_name}
use Rattle.ufs_dir_tree.specs.declared.found.Found.TheVariants.{Dir}
use Rattle.ufs_dir_tree.proofs.FoundEdits.{last_is, path_met, entry_stands}
use Rattle.ufs_name_tree.specs.Nodes.{MovesNodes}
use Rattle.ufs_name_tree.specs.NameTable.{NameTable, IsNameTable, node_at}
use Rattle.ufs_name_tree.specs.Notes.{GoesByNotes}
use Rattle.ufs_name_tree.proofs.EditNotes.{relost, rename_noted, met_inode, if_some, if_none}
use Rattle.ufs_name_tree.proofs.NoteLost.{tells_or_loses}
use Rattle.ufs_name_tree.proofs.Founds.{was_moved}
use Rattle.ufs_name_tree.proofs.NodeMaps.{moves_nodes}
use Rattle.ufs_name_tree.proofs.NoteChains.{one_inode, notes_same}
use Rattle.ufs_name_tree.proofs.TableEdits.{renamed}
use Rattle.ufs_name_tree.proofs.name_tree.NameTree.rename.Goals as goal

no_entry : {X : Type 0} (o : Option X) → o ≡ None → IsSome o → ⊥
no_entry o none some = let no = subst (λ (o : Option _). IsSome o) none some in absurd cc

pub unreachable-requires : goal.unreachable-requires
unreachable-requires c =
    let t : NameTable = record { dirs = c.self.inside.dirs; files = c.self.inside.files.items; noted = c.self.inside.notes; lost = c.self.inside.lost } in
    let from = c.args.from.now in
    let met : found_at t.dirs (names_above from) ≡ Some (Dir c.args.from_dir) = ap (λ (x : NameTable). found_at x.dirs (names_above from)) c.self.view_is ∙ c.requires.from_dir in
    let stands : IsSome (found_at t.dirs from) = subst (λ (x : NameTable). IsSome (found_at x.dirs from)) (sym c.self.view_is) c.requires.may_move.stands in
    no_entry (entry_of (slots_at t.dirs c.args.from_dir) c.last-2.result.now) (sym c.dentry.ensures ∙ c.in_default.is) (entry_stands t.dirs from (names_above from) c.last-2.result.now c.args.from_dir c.last-2.ensures.value met stands)

pub invariant_of-self : goal.invariant_of-self
invariant_of-self c = subst (λ (dirs : DirTable). IsNameTable (record { dirs = dirs; files = c.self.inside.files.items; noted = c.self.inside.notes; lost = c.self.inside.lost })) (sym c.in-Err.ensures.err) c.self.invariant

pub invariant_of-self-2 : goal.invariant_of-self-2
invariant_of-self-2 c =
    let t : NameTable = record { dirs = c.self.inside.dirs; files = c.self.inside.files.items; noted = c.self.inside.notes; lost = c.self.inside.lost } in
    let is = c.in-Ok.ensures in
    relost (record t { dirs = c.rename.new.self }) c.note_moved-noted.new.notes c.keep_lack.new.lost
    (renamed t c.rename.new.self c.self.invariant is.table is.inodes c.args.from.now c.args.to.now (names_above c.args.to.now) c.args.pool.now c.rename.new.pool is.ok is.replaced is.block is.free)

pub returns-clause-table : goal.returns-clause-table
returns-clause-table c = invariant_of-self-2 c

pub returns-clause-ok : goal.returns-clause-ok
returns-clause-ok c =
    let t : NameTable = record { dirs = c.self.inside.dirs; files = c.self.inside.files.items; noted = c.self.inside.notes; lost = c.self.inside.lost } in
    let u : NameTable = record { dirs = c.rename.new.self; files = c.self.inside.files.items; noted = c.note_moved-noted.new.notes; lost = c.keep_lack.new.lost } in
    subst (λ (before : NameTable). MovesNodes (node_at before) (node_at u) c.args.from.now c.args.to.now) c.self.view_is (moves_nodes t u (λ names i at. refl) c.args.from.now c.args.to.now c.in-Ok.ensures.ok)

pub returns-in-Err-clause-noted : goal.returns-in-Err-clause-noted
returns-in-Err-clause-noted c =
    let t : NameTable = record { dirs = c.self.inside.dirs; files = c.self.inside.files.items; noted = c.self.inside.notes; lost = c.self.inside.lost } in
    notes_same c.args.self.now (record t { dirs = c.rename.new.self }) c.args.pool.now (one_inode t c.self.invariant c.args.self.now c.self.view_is) (ap (λ (dirs : DirTable). record t { dirs = dirs }) c.in-Err.ensures.err ∙ c.self.view_is)

pub returns-clause-noted : goal.returns-clause-noted
returns-clause-noted c =
    let t : NameTable = record { dirs = c.self.inside.dirs; files = c.self.inside.files.items; noted = c.self.inside.notes; lost = c.self.inside.lost } in
    let u : NameTable = record { dirs = c.rename.new.self; files = c.self.inside.files.items; noted = c.note_moved-noted.new.notes; lost = c.keep_lack.new.lost } in
    let is = c.in-Ok.ensures in
    let from = c.args.from.now in
    let to = c.args.to.now in
    let moved = c.in-Ok.moved in
    let from_met : found_at t.dirs (names_above from) ≡ Some (Dir c.args.from_dir) = ap (λ (x : NameTable). found_at x.dirs (names_above from)) c.self.view_is ∙ c.requires.from_dir in
    let to_met : found_at t.dirs (names_above to) ≡ Some (Dir c.args.to_dir) = ap (λ (x : NameTable). found_at x.dirs (names_above to)) c.self.view_is ∙ c.requires.to_dir in
    let left : DentryForm = entry_in (dir_at t.dirs c.args.from_dir) moved.left in
    let d : DentryForm = record left { name = last_name to } in
    let from_name = last_is from (names_above from) c.last-2.result.now c.last-2.ensures.value in
    let stood : Some c.in-Some.old ≡ Some left = sym c.in-Some.is ∙ c.dentry.ensures ∙ ap (entry_of (slots_at t.dirs c.args.from_dir)) (sym from_name) ∙ is.left.entry in
    let old : c.in-Some.old ≡ left = cc in
    let same : c.from_name-dentry.result ≡ d = c.from_name-dentry.ensures ∙ ap (λ (x : DentryForm). record x { name = c.last-3.result.now }) (c.old.view_is ∙ old) ∙ ap (λ (x : List ℕ). record left { name = x }) (sym (last_is to (names_above to) c.last-3.result.now c.last-3.ensures.value)) in
    let found : c.entry-found.result ≡ found_at t.dirs to = c.entry-found.ensures ∙ sym (path_met t.dirs to (names_above to) c.last.result.now c.args.to_dir c.last.ensures.value to_met) in
    let met_from : found_at t.dirs from ≡ Some (found_of left) =
    path_met t.dirs from (names_above from) c.last-2.result.now c.args.from_dir c.last-2.ensures.value from_met ∙ ap (option_map found_of) (ap (entry_of (slots_at t.dirs c.args.from_dir)) (sym from_name) ∙ is.left.entry) in
    subst (λ (x : NameTable). GoesByNotes x u c.args.pool.now) c.self.view_is
    (rename_noted t u c.self.invariant c.args.pool.now c.rename.new.pool c.args.from_dir c.args.to_dir (names_above from) (names_above to) from_met to_met c.blocks-from_blocks.ensures.whole c.blocks-to_blocks.ensures.whole moved.left moved.taken
    to moved.dropped (found_at t.dirs to) c.entry-found.result moved.grown d c.from_name-dentry.result (met_inode t.dirs from left c.self.invariant.table met_from)
    (λ has. has c.args.from_dir (place_of (dir_at t.dirs c.args.from_dir).blocks moved.left) left (slice_get-get_or (slots_at t.dirs c.args.from_dir) (place_of (dir_at t.dirs c.args.from_dir).blocks moved.left) free_slot is.left.place.slot.in_blocks) is.left.place.used) same found refl
    (λ slot at. if_some (λ (s : Slot). moved.grown ≡ None) moved.dropped slot is.not_grown at) (λ none. if_none (found_at t.dirs to ≡ None) moved.dropped is.not_dropped none)
    is.steps (λ j at. was_moved t.dirs u.dirs from to at.0 (Dir j) is.ok at.1) refl is.unmet is.replaced is.free (tells_or_loses t u _ c.note_moved-noted.result c.note_moved-noted.ensures.whole c.note_moved-noted.ensures.lack c.note_moved-noted.ensures.none c.keep_lack.ensures.kept c.keep_lack.ensures.lack))
