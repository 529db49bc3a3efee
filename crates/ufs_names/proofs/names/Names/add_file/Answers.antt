use Rattle.std.proofs.Common.{length, ap, subst, ◌∙◌}
use Rattle.std.specs.FinMap as map
use Rattle.ufs_name_tree.specs.NameTable.{NameTable}
use Rattle.ufs_dir_tree.specs.DirCalls.{names_above, SpendsBlock}
use Rattle.ufs_names.specs.NamesPart.{NamesPart}
use Rattle.ufs_names.specs.declared.holding.Holding.{Holding}
use Rattle.ufs_names.proofs.AddLemmas.{fresh_number, new_is_here, new_is_apart, pool_undone}
use Rattle.ufs_names.proofs.KeepsSpaceLemmas.{keeps_made}
use Rattle.ufs_names.proofs.SpaceLemmas.{block_spent}
use Rattle.ufs_names.proofs.UndoneLemmas.{same_part, undone}
use Rattle.ufs_names.proofs.names.Names.add_file.Goals as goal

pub add_file-requires-clause-fresh : goal.add_file-requires-clause-fresh
add_file-requires-clause-fresh c = fresh_number c.args.self.now c.requires.inodes c.requires.unheld c.next_inode.new.self (c.in-Some.ensures.same ∙ ap (λ (n : NamesPart). n.tree) c.self.view_is) c.self.inside.next (ap (λ (n : NamesPart). n.next) c.self.view_is)

pub remove-requires-in-Err-add_file-clause-here : goal.remove-requires-in-Err-add_file-clause-here
remove-requires-in-Err-add_file-clause-here c = new_is_here c.args.files.now c.make.new.self c.self.inside.next c.in-Some.inode c.in_default-make.ensures.ok

pub remove-requires-in-Err-add_file-clause-apart : goal.remove-requires-in-Err-add_file-clause-apart
remove-requires-in-Err-add_file-clause-apart c = new_is_apart c.args.files.now c.make.new.self c.self.inside.next c.in-Some.inode c.in_default-make.ensures.ok c.add_file.new.pool

pub returns-in-Ok-clause-space : goal.returns-in-Ok-clause-space
returns-in-Ok-clause-space c =
    let n = c.args.self.now in
    let next = ap (λ (n : NamesPart). n.next) c.self.view_is in
    let tree = c.in-Some.ensures.same ∙ ap (λ (n : NamesPart). n.tree) c.self.view_is in
    let spent = block_spent n.tree.dirs c.add_file.new.self.dirs c.args.pool.now c.add_file.new.pool _ c.args.dir c.requires.parent
    (subst (λ (t : NameTable). SpendsBlock t.dirs c.add_file.new.self.dirs c.args.pool.now c.add_file.new.pool (names_above c.args.path.now)) tree c.in-Ok.ensures.block) c.add_file.ensures.apart in
    keeps_made n _ c.args.files.now c.make.new.self c.args.pool.now c.add_file.new.pool c.requires.apart c.self.inside.next c.in-Some.inode c.with.result
    (ap (map.get n.held) next ∙ c.requires.unheld) (ap (map.get c.args.files.now) next ∙ c.requires.no_file) (ap (λ (h : Holding). h.inode) c.with.ensures) spent (c.add_file.ensures.inodes ∙ ap (λ (t : NameTable). length t.dirs.dirs) tree)
    (c.in_default-put.ensures.ok ∙ ap (λ (n : NamesPart). map.insert n.held c.self.inside.next c.with.result) c.self.view_is)
    c.in_default-make.ensures.ok

pub returns-in-Err-add_file-clause-err : goal.returns-in-Err-add_file-clause-err
returns-in-Err-add_file-clause-err c =
    let unheld = ap (λ (n : NamesPart). map.get n.held n.next) c.self.view_is ∙ c.requires.unheld in
    let held = undone _ _ _ _ _ unheld c.in_default-put.ensures.ok c.remove-in-Err-add_file-2.ensures in
    same_part _ _ _ _ _ (c.in-Err-add_file.ensures.err ∙ c.in-Some.ensures.same) held ∙ c.self.view_is

pub returns-in-Err-add_file-clause-err_files : goal.returns-in-Err-add_file-clause-err_files
returns-in-Err-add_file-clause-err_files c =
    undone _ _ _ _ _ (ap (map.get c.args.files.now) (ap (λ (n : NamesPart). n.next) c.self.view_is) ∙ c.requires.no_file) c.in_default-make.ensures.ok c.remove-in-Err-add_file.ensures.gone

pub returns-in-Err-add_file-clause-err_pool : goal.returns-in-Err-add_file-clause-err_pool
returns-in-Err-add_file-clause-err_pool c =
    pool_undone c.args.files.now c.make.new.self c.self.inside.next c.in-Some.inode c.in_default-make.ensures.ok c.add_file.new.pool c.remove-in-Err-add_file.new.pool c.remove-in-Err-add_file.ensures.pool
    ∙ c.in-Err-add_file.ensures.err_pool

pub returns-in-Err-make-clause-err : goal.returns-in-Err-make-clause-err
returns-in-Err-make-clause-err c =
    let unheld = ap (λ (n : NamesPart). map.get n.held n.next) c.self.view_is ∙ c.requires.unheld in
    let held = undone _ _ _ _ _ unheld c.in_default-put.ensures.ok c.remove.ensures in
    same_part _ _ _ _ _ c.in-Some.ensures.same held ∙ c.self.view_is
