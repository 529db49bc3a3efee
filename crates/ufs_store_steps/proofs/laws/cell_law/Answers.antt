use Rattle.ufs_store_steps.proofs.Cells.{cells_are_there}
use Rattle.ufs_store_steps.proofs.Quiet.{blocks_read, stored_has_files}
use Rattle.ufs_store_steps.proofs.laws.cell_law.Goals as goal

pub returns-clause-cells : goal.returns-clause-cells
returns-clause-cells c = cells_are_there

pub returns-clause-blocks : goal.returns-clause-blocks
returns-clause-blocks c = blocks_read

pub returns-clause-files : goal.returns-clause-files
returns-clause-files c = stored_has_files c.args.geometry.now
