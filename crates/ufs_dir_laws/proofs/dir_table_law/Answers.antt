use Rattle.ufs_image.proofs.Depth.{has_root}
use Rattle.ufs_dir_laws.proofs.Made.{has_table}
use Rattle.ufs_dir_laws.proofs.Tables.{is_dir_table}
use Rattle.ufs_dir_laws.proofs.WholeDirs.{whole_dirs}
use Rattle.ufs_dir_laws.proofs.dir_table_law.Goals as goal

pub returns-clause-table : goal.returns-clause-table
returns-clause-table c image cat t is sound of reached =
    let g = c.args.geometry.now in
    let root = has_root g c.requires in
    is_dir_table g image cat t root is sound of (whole_dirs g image cat t root c.requires.most_blocks is sound of) reached

pub returns-clause-made : goal.returns-clause-made
returns-clause-made c = has_table c.args.geometry.now
