use Rattle.ufs_names.proofs.ClosedLemmas.{none_closed, next_closed}
use Rattle.ufs_names.proofs.closed.closed_files.Goals as goal

pub loop-inode-init : goal.loop-inode-init
loop-inode-init c = none_closed c.args.tree.now c.new-held.result c.new-held.ensures

pub loop-inode-preserved : goal.loop-inode-preserved
loop-inode-preserved c = next_closed c.args.tree.now c.is_table.ensures c.loop-inode.inode c.loop-inode.held c.loop-inode.invariant c.file.result c.put_closed.new.held c.file.ensures c.in_ok-put_closed.ensures
