-- The hand of the pool looks at the files, before a turn with all of them.
use Rattle.std.proofs.Common.{◌<◌, ◌^◌, ℕ, List, ◌∙◌, arith}
use Rattle.ufs_bitmap.specs.Blocks.{BlockSet}
use Rattle.ufs_hand_laws.specs.Owned.{Has}
use Rattle.ufs_held.specs.Births.{HasStill}
use Rattle.ufs_held.specs.Together.{AreApartFrom}
use Rattle.ufs_held_names.specs.SyncAll.{AreAllLive}
use Rattle.ufs_joint.specs.Cells.{FileCell, View}
use Rattle.ufs_joint.specs.FirstHand.{HasPoolAlone, pool_of}
use Rattle.ufs_names.specs.NamesPart.{NamesPart}
use Rattle.ufs_serving.proofs.Lacking.{off_pool}
use Rattle.ufs_at_primary.proofs.AllTold.{none_under}
use Rattle.ufs_at_primary.proofs.Rooms.{apart_from}

pub pool_still : (n : ℕ) (pool : BlockSet) (v w : View) → HasPoolAlone n pool v → HasStill v w → HasPoolAlone n pool w
pool_still n pool v w has still = record {
  clients = still.clients ∙ has.clients;
  asked = still.asked ∙ has.asked;
  files = still.files ∙ has.files;
  pools = still.pools ∙ has.pools;
  names = still.names ∙ has.names;
  store = still.store ∙ has.store;
}

-- none of them has its pool's number
pub apart_here : (pool : BlockSet) (v : View) (names : NamesPart) (cells : List FileCell) → HasPoolAlone (pool_of 0) pool v → AreAllLive names cells → ((c : FileCell) → Has c cells → c.value.file.file < 2 ^ 31) → AreApartFrom v cells
apart_here pool v names cells has all low = apart_from v 4294967295 pool cells has.files has.pools (none_under 4294967295 cells (λ d mine. off_pool 0 d.value.file.file (omega arith) (low d mine))) all.once
