-- A session of one client and two workers.
use Rattle.std.specs.Prelude.{[], ◌∷◌}
use Rattle.ufs_hand_laws.specs.Whole.{idle_client}
use Rattle.ufs_joint.specs.Cells.{Start, spent}
use Rattle.ufs_joint.specs.Rule.{no_start}
use Rattle.ufs_joint.specs.Whole.{no_blocks}

abbrev pub two_workers : Start
two_workers = record no_start { view = record spent { clients = (0, idle_client) ∷ []; pools = (0, no_blocks) ∷ (1, no_blocks) ∷ (2, no_blocks) ∷ [] } }
