use Rattle.std.proofs.Common.{◌≡◌, ◌≢◌, ℕ, List, Some, ap, sym, subst, ◌∙◌}
use Rattle.ufs_layout.specs.DentryForm.{DentryForm}
use Rattle.ufs_dir_tree.specs.DirTable.{DirTable, found_at}
use Rattle.ufs_dir_tree.specs.DirCalls.{names_above, last_name}
use Rattle.ufs_dir_tree.specs.declared.found.Found.TheVariants.{Dir}
use Rattle.ufs_dir_tree.proofs.FoundEdits.{last_is}
use Rattle.ufs_name_tree.specs.NameTable.{NameTable, IsNameTable, file_at}
use Rattle.ufs_name_tree.specs.Notes.{GoesByNotes}
use Rattle.ufs_name_tree.proofs.EditNotes.{relost, add_noted}
use Rattle.ufs_name_tree.proofs.NoteLost.{tells_or_loses}
use Rattle.ufs_name_tree.proofs.NoteChains.{one_inode, notes_same}
use Rattle.ufs_name_tree.proofs.NoteFiles.{file_comes}
use Rattle.ufs_name_tree.proofs.NoteKinds.{kinds_of_file}
use Rattle.ufs_name_tree.proofs.NumberEdits.{added_file, file_added, new_number, other_number, numbered}
use Rattle.ufs_name_tree.proofs.name_tree.NameTree.add_file.Goals as goal

pub invariant_of-self : goal.invariant_of-self
invariant_of-self c = subst (λ (dirs : DirTable). IsNameTable (record { dirs = dirs; files = c.self.inside.files.items; noted = c.self.inside.notes; lost = c.self.inside.lost })) (sym c.in-Err.ensures.err) c.self.invariant

pub invariant_of-self-2 : goal.invariant_of-self-2
invariant_of-self-2 c =
    let t : NameTable = record { dirs = c.self.inside.dirs; files = c.self.inside.files.items; noted = c.self.inside.notes; lost = c.self.inside.lost } in
    let is = c.in-Ok.ensures in
    relost (numbered t c.add.new.self c.in-Ok.added.inode (Some c.args.file)) c.note_added-noted.new.notes c.keep_lack.new.lost
    (added_file t c.add.new.self c.self.invariant is.table is.inodes c.in-Ok.added.inode c.args.file is.inode c.args.path.now (names_above c.args.path.now) c.args.pool.now c.add.new.pool is.block is.ok
    (λ j at. c.requires.fresh j (ap (λ (t : NameTable). file_at t j) (sym c.self.view_is) ∙ at)))

pub returns-clause-table : goal.returns-clause-table
returns-clause-table c = invariant_of-self-2 c

pub returns-clause-ok : goal.returns-clause-ok
returns-clause-ok c =
    let t : NameTable = record { dirs = c.self.inside.dirs; files = c.self.inside.files.items; noted = c.self.inside.notes; lost = c.self.inside.lost } in
    let is = c.in-Ok.ensures in
    file_added t c.add.new.self c.self.invariant is.table is.inodes c.in-Ok.added.inode c.args.file is.inode c.args.path.now (names_above c.args.path.now) c.args.pool.now c.add.new.pool is.block is.ok c.args.self.now c.self.view_is

pub returns-in-Err-clause-noted : goal.returns-in-Err-clause-noted
returns-in-Err-clause-noted c =
    let t : NameTable = record { dirs = c.self.inside.dirs; files = c.self.inside.files.items; noted = c.self.inside.notes; lost = c.self.inside.lost } in
    notes_same c.args.self.now (record t { dirs = c.add.new.self }) c.args.pool.now (one_inode t c.self.invariant c.args.self.now c.self.view_is) (ap (λ (dirs : DirTable). record t { dirs = dirs }) c.in-Err.ensures.err ∙ c.self.view_is)

pub returns-clause-noted : goal.returns-clause-noted
returns-clause-noted c =
    let t : NameTable = record { dirs = c.self.inside.dirs; files = c.self.inside.files.items; noted = c.self.inside.notes; lost = c.self.inside.lost } in
    let is = c.in-Ok.ensures in
    let path = c.args.path.now in
    let added = c.in-Ok.added in
    let u : NameTable = record (numbered t c.add.new.self added.inode (Some c.args.file)) { noted = c.note_added-noted.new.notes; lost = c.keep_lack.new.lost } in
    let met : found_at t.dirs (names_above path) ≡ Some (Dir c.args.dir) = ap (λ (x : NameTable). found_at x.dirs (names_above path)) c.self.view_is ∙ c.requires.dir in
    let d : DentryForm = record { inode = added.inode; kind = 1; name = last_name path } in
    let same : c.from_name-dentry.result ≡ d = c.from_name-dentry.ensures ∙ ap (λ (x : List ℕ). record d { name = x }) (sym (last_is path (names_above path) c.last.result.now c.last.ensures.value)) in
    let here : file_at u added.inode ≡ Some c.args.file = new_number t c.add.new.self c.self.invariant is.table is.inodes added.inode c.args.file is.inode path (names_above path) c.args.pool.now c.add.new.pool is.block is.ok in
    let others : (j : ℕ) → j ≢ added.inode → file_at u j ≡ file_at t j = other_number t c.add.new.self added.inode (Some c.args.file) in
    let fresh : (j : ℕ) → file_at t j ≢ Some c.args.file = λ j at. c.requires.fresh j (ap (λ (x : NameTable). file_at x j) (sym c.self.view_is) ∙ at) in
    subst (λ (x : NameTable). GoesByNotes x u c.args.pool.now) c.self.view_is
    (add_noted t u c.self.invariant c.args.pool.now c.add.new.pool c.args.dir (names_above path) met c.blocks-blocks.ensures.whole added.slot added.grown d c.from_name-dentry.result same is.steps
    (λ s at. kinds_of_file t u s.kinds c.self.invariant at.kinds added.inode is.inode path c.args.file is.ok here others)
    (file_comes t c.self.invariant c.args.pool.now c.args.dir (names_above path) met added.slot d added.grown is.steps.may u c.args.file fresh here others) (tells_or_loses t u _ c.note_added-noted.result c.note_added-noted.ensures.whole c.note_added-noted.ensures.lack c.note_added-noted.ensures.none c.keep_lack.ensures.kept c.keep_lack.ensures.lack))
