use Rattle.std.proofs.Common.{◌≡◌, Some, IsSome, ap, sym, refl, subst, ◌∙◌}
use Rattle.ufs_dir_tree.specs.DirTable.{found_at}
use Rattle.ufs_dir_tree.specs.DirCalls.{names_above}
use Rattle.ufs_dir_tree.specs.declared.found.Found.TheVariants.{Dir}
use Rattle.ufs_dir_tree.proofs.FoundEdits.{path_met}
use Rattle.ufs_name_tree.specs.NameTable.{NameTable}
use Rattle.ufs_name_tree.specs.Notes.{GoesByNotes}
use Rattle.ufs_name_tree.proofs.Founds.{was_left}
use Rattle.ufs_name_tree.proofs.TableEdits.{removed}
use Rattle.ufs_name_tree.proofs.EditNotes.{relost, remove_noted}
use Rattle.ufs_name_tree.proofs.NoteLost.{tells_or_loses}
use Rattle.ufs_name_tree.proofs.name_tree.NameTree.remove.Goals as goal

pub invariant_of-self : goal.invariant_of-self
invariant_of-self c =
    let t : NameTable = record { dirs = c.self.inside.dirs; files = c.self.inside.files.items; noted = c.self.inside.notes; lost = c.self.inside.lost } in
    let is = c.remove-slot.ensures in
    relost (record t { dirs = c.remove-slot.new.self }) c.note_removed-noted.new.notes c.keep_lack.new.lost (removed t c.remove-slot.new.self c.self.invariant is.table is.inodes c.args.path.now c.args.pool.now c.remove-slot.new.pool is.found is.freed)

pub returns-clause-noted : goal.returns-clause-noted
returns-clause-noted c =
    let t : NameTable = record { dirs = c.self.inside.dirs; files = c.self.inside.files.items; noted = c.self.inside.notes; lost = c.self.inside.lost } in
    let u : NameTable = record { dirs = c.remove-slot.new.self; files = c.self.inside.files.items; noted = c.note_removed-noted.new.notes; lost = c.keep_lack.new.lost } in
    let is = c.remove-slot.ensures in
    let path = c.args.path.now in
    let met : found_at t.dirs (names_above path) ≡ Some (Dir c.args.dir) = ap (λ (x : NameTable). found_at x.dirs (names_above path)) c.self.view_is ∙ c.requires.dir in
    let stands : IsSome (found_at t.dirs path) = subst (λ (x : NameTable). IsSome (found_at x.dirs path)) (sym c.self.view_is) c.requires.stands in
    let same : c.entry-found.result ≡ found_at t.dirs path = c.entry-found.ensures ∙ sym (path_met t.dirs path (names_above path) c.last.result.now c.args.dir c.last.ensures.value met) in
    subst (λ (x : NameTable). GoesByNotes x u c.args.pool.now) c.self.view_is
    (remove_noted t u c.self.invariant c.args.pool.now c.remove-slot.new.pool c.args.dir (names_above path) met c.blocks-blocks.ensures.whole c.remove-slot.result path (found_at t.dirs path) c.entry-found.result same refl is.steps
    (λ j at. was_left t.dirs u.dirs path at.0 (Dir j) is.found at.1) refl is.unmet is.freed stands (tells_or_loses t u _ c.note_removed-noted.result c.note_removed-noted.ensures.whole c.note_removed-noted.ensures.lack c.note_removed-noted.ensures.none c.keep_lack.ensures.kept c.keep_lack.ensures.lack))

pub returns-clause-table : goal.returns-clause-table
returns-clause-table c = invariant_of-self c
