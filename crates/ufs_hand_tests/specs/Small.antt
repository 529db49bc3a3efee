-- A session of one client over a disk that isn't visible.
use Rattle.std.specs.Prelude.{ℕ, []}
use Rattle.ufs_layout.specs.declared.geometry.Geometry.{Geometry}
use Rattle.ufs_model.specs.declared.data.Op.TheVariants.{Sync}
use Rattle.ufs_hand_laws.specs.Parts.{Start, View}
use Rattle.ufs_hand_laws.specs.Marks.{asking}
use Rattle.ufs_hand_laws.specs.Whole.{idle_client}
use Rattle.ufs_hand_laws.specs.First.{new_view, blind_start}

abbrev pub least : Geometry
least = record { blocks = 64; inodes = 16; journal = 64 }

abbrev pub small : Start
small = blind_start 1 least []

-- the client has asked
abbrev pub asked : ℕ → View
asked tickets = asking tickets 0 Sync [] idle_client (new_view 1 least [])
