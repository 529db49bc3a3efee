-- A session of one client over a disk that has one file and isn't visible: it opens the file, gets a lease on it, and reads
-- under the lease.
use Rattle.std.specs.Prelude.{ℕ, false, [], ◌∷◌, None}
use Rattle.std.specs.FinMap as fin
use Rattle.ufs_model.specs.declared.data.Actor.TheVariants.{Client}
use Rattle.ufs_model.specs.declared.data.Fact.TheVariants.{Holds}
use Rattle.ufs_model.specs.declared.data.Lease.{Lease}
use Rattle.ufs_model.specs.declared.data.Op.{Op}
use Rattle.ufs_model.specs.declared.data.Op.TheVariants as op
use Rattle.ufs_model.specs.declared.data.PartName.TheVariants as part
use Rattle.ufs_model.specs.declared.data.Reply.TheVariants as reply
use Rattle.ufs_hand_laws.specs.declared.fresh.Fresh.{Fresh}
use Rattle.ufs_hand_laws.specs.Draws.{Leaves, drawn, entry_of}
use Rattle.ufs_hand_laws.specs.FileSession as session
use Rattle.ufs_hand_laws.specs.FileSession.{small_disk}
use Rattle.ufs_hand_laws.specs.Leasing.{granting}
use Rattle.ufs_hand_laws.specs.Marks.{asking}
use Rattle.ufs_hand_laws.specs.Opened.{opened_tree}
use Rattle.ufs_hand_laws.specs.Parts.{ClientPart, Start, View}
use Rattle.ufs_hand_laws.specs.Whole.{idle_client}

abbrev pub one_file : Start
one_file = record { tree = opened_tree (session.disk small_disk); view = session.opened small_disk; is_visible = false }

abbrev pub open_asked : ℕ → View
open_asked tickets = asking tickets 0 (session.open_request small_disk) [] idle_client (session.opened small_disk)

abbrev pub opens : Fresh
opens = session.opens small_disk

abbrev pub lease : Lease
lease = record { client = 0; part = part.File 0; until = 5; fact = Holds 0 0 [] }

abbrev pub read_request : Op
read_request = op.Pread 3 4 0

abbrev pub reads : Fresh
reads = record { client = 0; seq = 1; by = Client 0; op = read_request; reply = reply.Got [] }

module _ (asked ticket : ℕ) where
  abbrev pub opened_by : View
  opened_by = drawn ticket opens (session.open_leaves small_disk) (open_asked asked)

  abbrev pub granted : ℕ → View
  granted tickets = granting tickets lease opened_by

  -- the client, which has opened the file, and then has the lease
  abbrev pub client_then : ClientPart
  client_then = record { entries = entry_of ticket opens ∷ []; fds = fin.insert fin.empty 3 (session.desc small_disk); copies = []; asked = None }

  abbrev pub holding : ClientPart
  holding = record client_then { copies = lease ∷ [] }

  abbrev pub read_asked : ℕ → View
  read_asked tickets = asking tickets 0 read_request (lease ∷ []) holding (granted 0)

-- a read changes nothing but the client's entries
abbrev pub read_leaves : Leaves
read_leaves = record { fds = fin.insert fin.empty 3 (session.desc small_disk); files = (granted 0 0 0).files; names = (granted 0 0 0).names }
