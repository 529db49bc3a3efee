-- A short session over a disk with one file: its client opens it, its blocks are read, and it is written, committed and
-- synced.
use Rattle.std.specs.Prelude.{ℕ, Bool, ◌≡◌, true, false, eqb, List, [], ◌∷◌, length, Some, None}
use Rattle.std.specs.List.{range_with_len}
use Rattle.std.specs.Ordering.{nat_cmp}
use Rattle.std.specs.FinMap as fin
use Rattle.ufs_model.specs.FileBytes.{is_past}
use Rattle.ufs_model.specs.Paths.{text_refusal}
use Rattle.ufs_model.specs.PosixTree.{root}
use Rattle.ufs_model.specs.Start.{PathNodes}
use Rattle.ufs_model.specs.Walk.{walk_refusal, node_at}
use Rattle.ufs_model.specs.declared.data.Actor.TheVariants.{Primary}
use Rattle.ufs_model.specs.declared.data.Desc.{Desc}
use Rattle.ufs_model.specs.declared.data.Node.TheVariants.{File}
use Rattle.ufs_model.specs.declared.data.PathNode.TheVariants as path_node
use Rattle.ufs_model.specs.declared.data.Op.{Op}
use Rattle.ufs_model.specs.declared.data.Op.TheVariants as op
use Rattle.ufs_model.specs.declared.data.PartName.TheVariants as part
use Rattle.ufs_model.specs.declared.data.Reply.TheVariants as reply
use Rattle.ufs_hand_laws.specs.declared.fresh.Fresh.{Fresh}
use Rattle.ufs_hand_laws.specs.Parts.{Cells, ClientPart, AskedPart, FilePart, NamesPart, View, kept_of, given_of}
use Rattle.ufs_hand_laws.specs.ByImages.{by_images}
use Rattle.ufs_hand_laws.specs.Draws.{Leaves, drawn, entry_of}
use Rattle.ufs_hand_laws.specs.Events.{Moved, moved, MayCommitFile}
use Rattle.ufs_hand_laws.specs.Marks.{asking}
use Rattle.ufs_hand_laws.specs.Opened.{OpenedDisk, opened_tree, opened_file, opened_names, opened_store, opened_view, opened_start, CanBeOpened}
use Rattle.ufs_hand_laws.specs.Session.{at_word}
use Rattle.ufs_hand_laws.specs.Sound.{IsSound}
use Rattle.ufs_hand_laws.specs.Synced.{Writing, write_drawn, written_part, IsSynced}
use Rattle.ufs_hand_laws.specs.Whole.{idle_client}

-- a disk for one client, which has one file at the path
pub record FileDisk : Type 0 where
  pub nodes : PathNodes
  pub cells : Cells
  pub extents : fin.FinMap nat_cmp (List ℕ)
  pub dirs : List ℕ
  pub unassigned : List ℕ
  pub path : List ℕ
  pub is_visible : Bool

-- what is written, and what the disk goes through while the file is committed
pub record Written : Type 0 where
  pub at : ℕ
  pub bytes : List ℕ
  pub through : List Cells
  pub state : Cells

module _ (d : FileDisk) where
  abbrev pub disk : OpenedDisk
  disk = record { nodes = d.nodes; cells = d.cells; extents = d.extents; dirs = d.dirs; unassigned = d.unassigned; pools = []; clients = 1; is_visible = d.is_visible }

  pub record HasOneFile : Type 0 where
    pub can : CanBeOpened disk
    pub one_file : (opened_tree disk).next ≡ 1
    pub text : text_refusal d.path ≡ None
    pub walk : walk_refusal (opened_tree disk).paths d.path ≡ None
    pub node : node_at (opened_tree disk).paths d.path ≡ Some (File 0)

  abbrev pub opened : View
  opened = record (opened_view disk) { files = (0, opened_file disk 0) ∷ [] }

  abbrev pub open_request : Op
  open_request = op.OpenFile d.path true true false false false false

  abbrev pub open_asked : View
  open_asked = asking 0 0 open_request [] idle_client opened

  abbrev pub opens : Fresh
  opens = record { client = 0; seq = 0; by = Primary; op = open_request; reply = reply.Fd 3 }

  abbrev pub desc : Desc
  desc = record { file = Some 0; at = 0; read = true; write = true; append = false }

  abbrev pub names_held : NamesPart
  names_held = record (opened_names disk) { holds = (0, 0) ∷ [] }

  abbrev pub open_leaves : Leaves
  open_leaves = record { fds = fin.insert fin.empty 3 desc; files = (0, opened_file disk 0) ∷ []; names = (tt, names_held) ∷ [] }

  abbrev pub open_drawn : View
  open_drawn = drawn 0 opens open_leaves open_asked

  -- the names go to a hand of their own
  abbrev pub server : View
  server = kept_of part.Names open_drawn

  abbrev pub names_hand : View
  names_hand = given_of part.Names open_drawn

  -- the file's blocks are read into memory
  abbrev pub read_file : FilePart
  read_file = record (opened_file disk 0) { loaded = range_with_len 0 (length (opened_file disk 0).blocks) }

  abbrev pub blocks_read : Moved
  blocks_read = record { files = (0, read_file) ∷ []; pools = []; names = []; store = (tt, opened_store disk) ∷ [] }

  abbrev pub loaded : View
  loaded = moved 1 blocks_read server

  abbrev pub client_then : ClientPart
  client_then = record idle_client { entries = entry_of 0 opens ∷ []; fds = fin.insert fin.empty 3 desc }

  abbrev pub asked_then : AskedPart
  asked_then = record { entries = []; fds = fin.empty; copies = []; asked = Some open_request; tickets = 0 }

  abbrev pub writing : Written → Writing
  writing w = record { self = client_then; before = asked_then; file = 0; part = read_file; store = opened_store disk; seen = 1; clock = 0; fd = 3; at = w.at; bytes = w.bytes; through = w.through; state = w.state }

  -- Some bytes are written, and the disk goes on so that the file may be committed.
  pub record MayBeWritten (w : Written) : Type 0 where
    pub some' : eqb (length w.bytes) 0 ≡ false
    pub fits : is_past w.at w.bytes ≡ false
    pub commit : MayCommitFile by_images (opened_start disk) 2 (write_drawn (writing w) 1) 0 (written_part (writing w) 1) (opened_store disk) w.through w.state

  -- Each state is sound, to the one with the acknowledged `fsync`.
  pub record IsFileSession : Type 0 where
    pub after_begin : IsSound by_images (opened_start disk) (at_word 0 0) (opened ∷ [])
    pub after_ask : IsSound by_images (opened_start disk) (at_word 0 0) (open_asked ∷ [])
    pub after_open : IsSound by_images (opened_start disk) (at_word 1 0) (open_drawn ∷ [])
    pub after_split : IsSound by_images (opened_start disk) (at_word 1 0) (server ∷ names_hand ∷ [])
    pub after_read : IsSound by_images (opened_start disk) (at_word 1 0) (loaded ∷ names_hand ∷ [])
    pub synced : (w : Written) → MayBeWritten w → IsSynced by_images (opened_start disk) (at_word 1 0) (loaded ∷ names_hand ∷ []) 0 (writing w)

abbrev pub FilesAreServed : Type 0
FilesAreServed = (d : FileDisk) → HasOneFile d → IsFileSession d

-- On a disk that isn't visible, any bytes may be written.
abbrev pub BlindFilesMayBeWritten : Type 0
BlindFilesMayBeWritten = (d : FileDisk) (at : ℕ) (bytes : List ℕ) → d.is_visible ≡ false → eqb (length bytes) 0 ≡ false → is_past at bytes ≡ false
    → MayBeWritten d (record { at = at; bytes = bytes; through = []; state = d.cells })

-- ---- a disk with one file

abbrev pub small_path : List ℕ
small_path = 47 ∷ 97 ∷ []

-- the root and one file with no bytes, on a disk that isn't visible
abbrev pub small_disk : FileDisk
small_disk = record {
  nodes = fin.from_entries ((root, path_node.Dir) ∷ (small_path, path_node.File []) ∷ []);
  cells = [];
  extents = fin.empty;
  dirs = [];
  unassigned = [];
  path = small_path;
  is_visible = false;
}
