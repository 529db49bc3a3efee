-- A session of one client over the root alone, whose store's disk contracts say nothing of.
use Rattle.std.specs.Prelude.{ℕ, ◌-◌, ◌≡◌, false, List, [], ◌∷◌, None}
use Rattle.std.specs.FinMap as fin
use Rattle.std.specs.FinSet as set
use Rattle.ufs_bitmap.specs.Blocks.{BlockSet}
use Rattle.ufs_bitmap.specs.Space.{Space}
use Rattle.ufs_extent.specs.Runs.{blocks_from}
use Rattle.ufs_layout.specs.declared.geometry.Geometry.{Geometry}
use Rattle.ufs_model.specs.PosixTree.{root_alone}
use Rattle.ufs_model.specs.declared.data.Actor.TheVariants.{Primary}
use Rattle.ufs_model.specs.declared.data.Excuse.TheVariants.{Memory}
use Rattle.ufs_model.specs.declared.data.Op.TheVariants.{Sync}
use Rattle.ufs_model.specs.declared.data.PartName.TheVariants.{Client}
use Rattle.ufs_model.specs.declared.data.Reply.TheVariants.{Excused}
use Rattle.ufs_names.specs.NamesPart.{NamesPart}
use Rattle.ufs_hand_laws.specs.Whole.{idle_asked, idle_client}
use Rattle.ufs_hand_laws.specs.declared.fresh.Fresh.{Fresh}
use Rattle.ufs_store.specs.State.{StoreState}
use Rattle.ufs_joint.specs.Cells.{NamesCell, Start, View, both_of, given_of, kept_of}
use Rattle.ufs_joint.specs.Disks.{cell_of}
use Rattle.ufs_joint.specs.Draws.{Leaves, drawn}
use Rattle.ufs_joint.specs.Marks.{asking}
use Rattle.ufs_joint.specs.Rule.{looked_at}
use Rattle.ufs_joint.specs.Turns.{turn_begun}
use Rattle.ufs_joint.specs.Whole.{no_blocks}

abbrev pub small : Geometry
small = record { blocks = 256; inodes = 32; journal = 64 }

-- each block of the data area is free
abbrev pub all_free : Space
all_free = record { first = 14; blocks = 256; free = set.from_list (blocks_from 14 (256 - 14)) }

abbrev pub names_cell : NamesPart → NamesCell
names_cell n = record { value = n; fresh = []; dropped = set.empty; named = set.empty; changed = 0; known = 0 }

-- no pool has a block
abbrev pub small_pools : List (ℕ × BlockSet)
small_pools = (0, no_blocks) ∷ (1, no_blocks) ∷ (2, no_blocks) ∷ (3, no_blocks) ∷ []

-- one client, four pools, the names and the store
abbrev pub small_view : NamesPart → StoreState → View
small_view n s = record {
  clients = (0, idle_client) ∷ [];
  asked = (0, idle_asked) ∷ [];
  files = [];
  pools = small_pools;
  names = (tt, names_cell n) ∷ [];
  store = (tt, cell_of 0 [] s) ∷ [];
  seen = 0;
  faults = [];
  stop = None;
}

abbrev pub small_start : NamesPart → StoreState → Start
small_start n s = record { tree = root_alone; geometry = small; view = small_view n s; is_visible = false }

-- The client asks for a `sync`,
abbrev pub asked : NamesPart → StoreState → ℕ → View
asked n s tickets = asking tickets 0 Sync idle_client (small_view n s)

-- is split off, and joined again,
abbrev pub back : NamesPart → StoreState → ℕ → View
back n s tickets = both_of (kept_of (Client 0) (asked n s tickets)) (given_of (Client 0) (asked n s tickets))

-- and is excused for want of memory, which leaves all;
abbrev pub excused : Fresh
excused = record { client = 0; seq = 0; by = Primary; op = Sync; reply = Excused Memory }

abbrev pub all_left : NamesPart → Leaves
all_left n = record { fds = fin.empty; files = []; pools = small_pools; names = (tt, names_cell n) ∷ [] }

abbrev pub answered : NamesPart → StoreState → ℕ → ℕ → View
answered n s tickets ticket = drawn ticket excused (all_left n) (back n s tickets)

-- then a turn of the store begins.
abbrev pub begun : NamesPart → StoreState → ℕ → ℕ → ℕ → View
begun n s tickets ticket at = turn_begun at (cell_of 0 [] s) (answered n s tickets ticket)

abbrev pub at_end : NamesPart → StoreState → ℕ → ℕ → ℕ → ℕ → View
at_end n s tickets ticket at last = looked_at (begun n s tickets ticket at) last
