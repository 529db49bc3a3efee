use Rattle.std.proofs.Common.{Some, ap, sym, ◌∙◌}
use Rattle.ufs_dir_tree.specs.declared.found.Found.{Found}
use Rattle.ufs_dir_tree_tests.proofs.Used.{still_used}
use Rattle.ufs_dir_tree_tests.proofs.trees.drop_path.Goals as goal

pub free_inode-requires-clause-used : goal.free_inode-requires-clause-used
free_inode-requires-clause-used c =
    still_used c.args.tree.now c.remove.new.self c.args.pool.now c.remove.new.pool c.in-Ok.path c.in-File.inode c.in-Ok-look.ensures.table
    (sym c.in-Ok-look.ensures.found ∙ c.in-Some.is ∙ ap (λ (f : Found). Some f) c.in-File.is) c.remove.ensures.freed c.remove.ensures.inodes
