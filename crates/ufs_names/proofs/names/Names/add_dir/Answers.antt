use Rattle.std.proofs.Common.{length, refl, ap, subst, ◌∙◌}
use Rattle.ufs_dir_tree.specs.DirCalls.{names_above, SpendsBlock}
use Rattle.ufs_name_tree.specs.NameTable.{NameTable}
use Rattle.ufs_names.specs.NamesPart.{NamesPart}
use Rattle.ufs_names.proofs.KeepsSpaceLemmas.{keeps_dirs}
use Rattle.ufs_names.proofs.SpaceLemmas.{block_spent}
use Rattle.ufs_names.proofs.names.Names.add_dir.Goals as goal

pub returns-clause-space : goal.returns-clause-space
returns-clause-space c =
    let n = c.args.self.now in
    let spent = block_spent n.tree.dirs c.add_dir.new.self.dirs c.args.pool.now c.add_dir.new.pool _ c.args.dir c.requires.dir
    (subst (λ (t : NameTable). SpendsBlock t.dirs c.add_dir.new.self.dirs c.args.pool.now c.add_dir.new.pool (names_above c.args.path.now)) (ap (λ (n : NamesPart). n.tree) c.self.view_is) c.in_ok-add_dir.ensures.block) c.add_dir.ensures.apart in
    keeps_dirs n _ c.args.files.now c.args.files.now c.args.pool.now c.add_dir.new.pool c.requires.apart spent (c.add_dir.ensures.inodes ∙ ap (λ (n : NamesPart). length n.tree.dirs.dirs) c.self.view_is) (ap (λ (n : NamesPart). n.held) c.self.view_is) refl
