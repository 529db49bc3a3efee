use Rattle.std.proofs.Common.{◌≡◌, ℕ, List, Some, ap, sym, refl, subst, ◌∙◌}
use Rattle.ufs_layout.specs.DentryForm.{DentryForm}
use Rattle.ufs_dir_tree.specs.DirTable.{DirTable, found_at}
use Rattle.ufs_dir_tree.specs.DirCalls.{names_above, last_name}
use Rattle.ufs_dir_tree.specs.declared.found.Found.TheVariants.{Dir}
use Rattle.ufs_dir_tree.proofs.FoundEdits.{last_is}
use Rattle.ufs_name_tree.specs.NameTable.{NameTable, IsNameTable}
use Rattle.ufs_name_tree.specs.Notes.{GoesByNotes}
use Rattle.ufs_name_tree.proofs.EditNotes.{relost, add_noted}
use Rattle.ufs_name_tree.proofs.NoteLost.{tells_or_loses}
use Rattle.ufs_name_tree.proofs.NoteChains.{one_inode, notes_same}
use Rattle.ufs_name_tree.proofs.NoteFiles.{dir_comes}
use Rattle.ufs_name_tree.proofs.NoteKinds.{kinds_of_dir}
use Rattle.ufs_name_tree.proofs.TableEdits.{added_dir}
use Rattle.ufs_name_tree.proofs.name_tree.NameTree.add_dir.Goals as goal

pub invariant_of-self : goal.invariant_of-self
invariant_of-self c = subst (λ (dirs : DirTable). IsNameTable (record { dirs = dirs; files = c.self.inside.files.items; noted = c.self.inside.notes; lost = c.self.inside.lost })) (sym c.in-Err.ensures.err) c.self.invariant

pub invariant_of-self-2 : goal.invariant_of-self-2
invariant_of-self-2 c =
    let t : NameTable = record { dirs = c.self.inside.dirs; files = c.self.inside.files.items; noted = c.self.inside.notes; lost = c.self.inside.lost } in
    let is = c.in-Ok.ensures in
    relost (record t { dirs = c.add.new.self }) c.note_added-noted.new.notes c.keep_lack.new.lost
    (added_dir t c.add.new.self c.self.invariant is.table is.inodes c.args.path.now (names_above c.args.path.now) c.args.pool.now c.add.new.pool c.in-Ok.added.inode is.inode is.block is.ok)

pub returns-clause-table : goal.returns-clause-table
returns-clause-table c = invariant_of-self-2 c

pub returns-in-Err-clause-noted : goal.returns-in-Err-clause-noted
returns-in-Err-clause-noted c =
    let t : NameTable = record { dirs = c.self.inside.dirs; files = c.self.inside.files.items; noted = c.self.inside.notes; lost = c.self.inside.lost } in
    notes_same c.args.self.now (record t { dirs = c.add.new.self }) c.args.pool.now (one_inode t c.self.invariant c.args.self.now c.self.view_is) (ap (λ (dirs : DirTable). record t { dirs = dirs }) c.in-Err.ensures.err ∙ c.self.view_is)

pub returns-clause-noted : goal.returns-clause-noted
returns-clause-noted c =
    let t : NameTable = record { dirs = c.self.inside.dirs; files = c.self.inside.files.items; noted = c.self.inside.notes; lost = c.self.inside.lost } in
    let u : NameTable = record { dirs = c.add.new.self; files = c.self.inside.files.items; noted = c.note_added-noted.new.notes; lost = c.keep_lack.new.lost } in
    let is = c.in-Ok.ensures in
    let path = c.args.path.now in
    let added = c.in-Ok.added in
    let met : found_at t.dirs (names_above path) ≡ Some (Dir c.args.dir) = ap (λ (x : NameTable). found_at x.dirs (names_above path)) c.self.view_is ∙ c.requires.dir in
    let d : DentryForm = record { inode = added.inode; kind = 2; name = last_name path } in
    let same : c.from_name-dentry.result ≡ d = c.from_name-dentry.ensures ∙ ap (λ (x : List ℕ). record d { name = x }) (sym (last_is path (names_above path) c.last.result.now c.last.ensures.value)) in
    subst (λ (x : NameTable). GoesByNotes x u c.args.pool.now) c.self.view_is
    (add_noted t u c.self.invariant c.args.pool.now c.add.new.pool c.args.dir (names_above path) met c.blocks-blocks.ensures.whole added.slot added.grown d c.from_name-dentry.result same is.steps
    (λ s at. kinds_of_dir t u s.kinds c.self.invariant at.kinds added.inode is.inode path is.ok refl)
    (dir_comes t c.self.invariant c.args.pool.now c.args.dir (names_above path) met added.slot d added.grown is.steps.may u refl) (tells_or_loses t u _ c.note_added-noted.result c.note_added-noted.ensures.whole c.note_added-noted.ensures.lack c.note_added-noted.ensures.none c.keep_lack.ensures.kept c.keep_lack.ensures.lack))
