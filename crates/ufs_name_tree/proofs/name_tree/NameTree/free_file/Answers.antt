use Rattle.std.proofs.Common.{◌≡◌, ◌≢◌, ℕ, List, Some, None, IsSome, ap, sym, subst, ◌∙◌}
use Rattle.ufs_dir_tree.specs.DirTable.{found_at}
use Rattle.std.specs.FinSet as set
use Rattle.ufs_dir_tree.specs.declared.found.Found.TheVariants.{File}
use Rattle.ufs_name_tree.specs.NameTable.{NameTable, file_at}
use Rattle.ufs_name_tree.proofs.NumberEdits.{freed_file, pool_same, numbered, other_number}
use Rattle.ufs_name_tree.specs.Notes.{GoesByNotes}
use Rattle.ufs_name_tree.proofs.EditNotes.{relost, unset, free_noted}
use Rattle.ufs_name_tree.proofs.NoteLost.{tells_or_loses}
use Rattle.ufs_name_tree.proofs.name_tree.NameTree.free_file.Goals as goal

some : (t old : NameTable) (i : ℕ) → t ≡ old → IsSome (file_at old i) → IsSome (file_at t i)
some t old i same file = subst (λ (t : NameTable). IsSome (file_at t i)) (sym same) file

unmet : (t old : NameTable) (i : ℕ) → t ≡ old → ((names : List (List ℕ)) → found_at old.dirs names ≢ Some (File i)) → (names : List (List ℕ)) → found_at t.dirs names ≢ Some (File i)
unmet t old i same none names at = none names (ap (λ (t : NameTable). found_at t.dirs names) (sym same) ∙ at)

pub invariant_of-self : goal.invariant_of-self
invariant_of-self c =
    let t : NameTable = record { dirs = c.self.inside.dirs; files = c.self.inside.files.items; noted = c.self.inside.notes; lost = c.self.inside.lost } in
    let one = c.free_inode.ensures.one in
    relost (numbered t c.free_inode.new.self c.args.inode None) c.note_freed-noted.new.notes c.keep_lack.new.lost (freed_file t c.free_inode.new.self c.self.invariant c.free_inode.ensures.table c.args.inode (some t c.args.self.now c.args.inode c.self.view_is c.requires.file) c.args.pool.now c.free_inode.new.pool c.free_inode.ensures.freed
    (unmet t c.args.self.now c.args.inode c.self.view_is c.requires.unmet) c.free_inode.ensures.found one.counted)

pub returns-clause-pool : goal.returns-clause-pool
returns-clause-pool c =
    let t : NameTable = record { dirs = c.self.inside.dirs; files = c.self.inside.files.items; noted = c.self.inside.notes; lost = c.self.inside.lost } in
    pool_same t c.free_inode.new.self c.self.invariant c.free_inode.ensures.table c.args.inode (some t c.args.self.now c.args.inode c.self.view_is c.requires.file) c.args.pool.now c.free_inode.new.pool c.free_inode.ensures.freed
    (unmet t c.args.self.now c.args.inode c.self.view_is c.requires.unmet) c.free_inode.ensures.found

pub returns-clause-table : goal.returns-clause-table
returns-clause-table c = invariant_of-self c

pub returns-clause-noted : goal.returns-clause-noted
returns-clause-noted c =
    let t : NameTable = record { dirs = c.self.inside.dirs; files = c.self.inside.files.items; noted = c.self.inside.notes; lost = c.self.inside.lost } in
    let u : NameTable = record (numbered t c.free_inode.new.self c.args.inode None) { noted = c.note_freed-noted.new.notes; lost = c.keep_lack.new.lost } in
    let freed = c.free_inode.ensures.freed in
    subst (λ (x : NameTable). GoesByNotes x u set.empty) c.self.view_is
    (free_noted t u c.self.invariant c.args.pool.now c.free_inode.new.pool c.args.inode (some t c.args.self.now c.args.inode c.self.view_is c.requires.file) c.free_inode.ensures.steps
    (λ j at. (at.0, sym (c.free_inode.ensures.found at.0) ∙ at.1)) freed.free (unset c.self.inside.files.items c.args.inode) (other_number t c.free_inode.new.self c.args.inode None) (tells_or_loses t u _ c.note_freed-noted.result c.note_freed-noted.ensures.whole c.note_freed-noted.ensures.lack c.note_freed-noted.ensures.none c.keep_lack.ensures.kept c.keep_lack.ensures.lack))
