use Rattle.ufs_damage.proofs.Marked.{dir_marks}
use Rattle.ufs_damage.proofs.names.mark_dir.Goals as goal

pub returns : goal.returns
returns c held are = dir_marks c.mark_names_of.new.marks held c.args.dir.now c.inode.result c.slots.result.now c.inode.ensures c.slots.ensures (c.mark_names_of.ensures held are)
