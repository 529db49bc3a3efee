use Rattle.ufs_name_tree.proofs.NoteChains.{one_inode, notes_same}
use Rattle.std.specs.FinSet as set
use Rattle.std.proofs.Common.{length, ap, refl, sym, subst, ◌∙◌}
use Rattle.std.specs.FinMap as map
use Rattle.ufs_dir_tree.specs.DirTable.{DirTable, blocks_at}
use Rattle.ufs_names.specs.NamesPart.{NamesPart}
use Rattle.ufs_names.specs.Space.{AreApart}
use Rattle.ufs_names.proofs.KeepsSpaceLemmas.{goes_apart, keeps_gone, keeps_known}
use Rattle.ufs_names.proofs.names.Names.settle.Goals as goal

pub free_file-requires-clause-apart : goal.free_file-requires-clause-apart
free_file-requires-clause-apart c =
    let apart = subst (λ (d : DirTable). AreApart d c.args.files.now c.args.pool.now) (ap (λ (n : NamesPart). n.tree.dirs) (sym c.self.view_is)) c.requires.apart in
    goes_apart c.self.inside.tree.dirs c.args.files.now c.remove-then-not-is_kept.new.self c.args.pool.now c.remove-then-not-is_kept.new.pool c.args.file
    c.remove-then-not-is_kept.ensures.gone c.remove-then-not-is_kept.ensures.pool apart

pub returns-then-not-is_kept-clause-space : goal.returns-then-not-is_kept-clause-space
returns-then-not-is_kept-clause-space c =
    keeps_gone c.args.self.now _ c.args.files.now c.remove-then-not-is_kept.new.self c.args.pool.now c.free_file.new.pool c.requires.apart c.args.file
    (λ i. c.free_file.ensures.blocks i ∙ ap (λ (n : NamesPart). blocks_at n.tree.dirs i) c.self.view_is)
    (c.free_file.ensures.inodes ∙ ap (λ (n : NamesPart). length n.tree.dirs.dirs) c.self.view_is)
    (c.remove.ensures ∙ ap (λ (n : NamesPart). map.remove n.held c.args.file) c.self.view_is)
    c.remove-then-not-is_kept.ensures.gone
    (c.free_file.ensures.pool ∙ c.remove-then-not-is_kept.ensures.pool)

pub returns-clause-space : goal.returns-clause-space
returns-clause-space c =
    keeps_known c.args.self.now _ c.args.files.now c.args.files.now c.args.pool.now c.args.pool.now c.requires.apart c.args.file c.args.holding c.requires.held c.requires.inode
    (ap (λ (n : NamesPart). n.tree) c.self.view_is)
    (c.in-Ok.ensures.ok ∙ ap (λ (n : NamesPart). map.insert n.held c.args.file c.args.holding) c.self.view_is)
    refl refl

pub returns-clause-noted : goal.returns-clause-noted
returns-clause-noted c = notes_same c.args.self.now.tree c.self.inside.tree set.empty (one_inode c.self.inside.tree c.is_table.ensures c.args.self.now.tree (ap (λ (n : NamesPart). n.tree) c.self.view_is)) (ap (λ (n : NamesPart). n.tree) c.self.view_is)
