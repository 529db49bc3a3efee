-- A short session over a new disk, which is visible: a step of each kind but those of leases, and what each hand has
-- after it.
use Rattle.std.specs.Prelude.{ℕ, ◌≤◌, [], ◌∷◌, take, drop}
use Rattle.std.specs.FinMap as fin
use Rattle.ufs_base.specs.Images.{Image}
use Rattle.ufs_layout.specs.Areas.{sector_count}
use Rattle.ufs_layout.specs.declared.geometry.Geometry.{Geometry}
use Rattle.ufs_image.specs.Formatted.{IsFormatted}
use Rattle.ufs_model.specs.declared.data.Actor.TheVariants as actor
use Rattle.ufs_model.specs.declared.data.Errno.TheVariants as errno
use Rattle.ufs_model.specs.declared.data.Op.TheVariants as op
use Rattle.ufs_model.specs.declared.data.PartName.TheVariants as part
use Rattle.ufs_model.specs.declared.data.Reply.TheVariants as reply
use Rattle.ufs_hand_laws.specs.declared.fresh.Fresh.{Fresh}
use Rattle.ufs_hand_laws.specs.Parts.{Cells, NamesPart, Shortage, StorePart, View, Word, Start, kept_of, given_of, both_of, spent}
use Rattle.ufs_hand_laws.specs.Sound.{IsSound}
use Rattle.ufs_hand_laws.specs.Visible.{IsDiskVisible}
use Rattle.ufs_hand_laws.specs.Draws.{Leaves, drawn}
use Rattle.ufs_hand_laws.specs.Marks.{asking}
use Rattle.ufs_hand_laws.specs.Clock.{looked, at_clock, ticked}
use Rattle.ufs_hand_laws.specs.Events as event
use Rattle.ufs_hand_laws.specs.Events.{Moved, moved, turn_begun, turning, Passage, passed, passing, NamesCommit, names_committed, committed_names, naming, Failure, failed, failing, Checkpoint, checkpointed, freed_names, checkpointing, answering}
use Rattle.ufs_hand_laws.specs.Whole.{IsWhole, idle_client}
use Rattle.ufs_hand_laws.specs.ByImages.{by_images}
use Rattle.ufs_hand_laws.specs.First.{settled_cells, EndsAt, primary_pool, new_names, new_store, new_view, new_start}

-- the word after so many entries, at that clock
abbrev pub at_word : ℕ → ℕ → Word
at_word tickets clock = record { tickets = tickets; clock = clock }

-- The client asks for an `fsync` of a descriptor that it hasn't, and refuses it to itself.
abbrev pub refused : Fresh
refused = record { client = 0; seq = 0; by = actor.Client 0; op = op.Fsync 3; reply = reply.Refused errno.Ebadf }

abbrev pub no_files : Leaves
no_files = record { fds = fin.empty; files = []; names = [] }

module _ (g : Geometry) (cells : Cells) where
  abbrev pub opened : View
  opened = new_view 1 g cells

  abbrev pub asked : View
  asked = asking 0 0 (op.Fsync 3) [] idle_client opened

  -- the client's part goes to a hand of its own
  abbrev pub server : View
  server = kept_of (part.Client 0) asked

  abbrev pub client : View
  client = given_of (part.Client 0) asked

  abbrev pub answered : View
  answered = drawn 0 refused no_files client

  abbrev pub at_rest : View
  at_rest = looked (at_word 1 0) answered

  abbrev pub ticked_server : View
  ticked_server = ticked (at_word 1 0) 5 new_names server

  abbrev pub names_then : NamesPart
  names_then = at_clock 5 new_names

  -- two blocks go from the store to the pool
  abbrev pub blocks_moved : Moved
  blocks_moved = record {
    files = [];
    pools = (primary_pool, take 2 (new_store g cells).unassigned) ∷ [];
    names = (tt, names_then) ∷ [];
    store = (tt, record (new_store g cells) { unassigned = drop 2 (new_store g cells).unassigned }) ∷ [];
  }

  abbrev pub supplied : View
  supplied = moved 1 blocks_moved ticked_server

  abbrev pub store_then : StorePart
  store_then = record (new_store g cells) { unassigned = drop 2 (new_store g cells).unassigned }

  abbrev pub in_turn : View
  in_turn = turning 1 [] 0 store_then supplied

  -- nothing is left to be committed of the names
  abbrev pub nothing_new : NamesCommit
  nothing_new = record { extents = fin.empty; dirs = []; born = []; through = []; state = cells }

  abbrev pub committed_server : View
  committed_server = naming 1 names_then nothing_new (turn_begun 1 [] 0 store_then) in_turn

  -- a barrier passes
  abbrev pub store_committed : StorePart
  store_committed = names_committed 1 names_then nothing_new (turn_begun 1 [] 0 store_then)

  abbrev pub barrier : Passage
  barrier = record { through = cells ∷ []; state = cells }

  abbrev pub after_barrier : View
  after_barrier = passing 1 [] 0 barrier store_committed committed_server

  -- a checkpoint finds nothing to write home
  abbrev pub store_settled : StorePart
  store_settled = passed 1 [] 0 barrier store_committed

  abbrev pub nothing_freed : Checkpoint
  nothing_freed = record { dirs = []; blocks = []; freed = []; through = cells ∷ []; state = cells }

  abbrev pub checked_server : View
  checked_server = checkpointing 1 (committed_names names_then nothing_new) nothing_freed store_settled after_barrier

  -- the next commit fails, and the store stops
  abbrev pub store_emptied : StorePart
  store_emptied = checkpointed 1 (committed_names names_then nothing_new) nothing_freed store_settled

  abbrev pub device_fault : Failure
  device_fault = record { fault = 1; through = cells ∷ []; state = cells }

  abbrev pub stopped_server : View
  stopped_server = failing 1 device_fault store_emptied checked_server

  -- a read fails, and there are too few blocks
  abbrev pub store_stopped : StorePart
  store_stopped = failed 1 device_fault store_emptied

  abbrev pub too_few : Shortage
  too_few = record { need = 3; had = 0; pool = 2 }

  abbrev pub answered_server : View
  answered_server = answering 1 (2 ∷ []) (too_few ∷ []) store_stopped stopped_server

  abbrev pub together : View
  together = both_of answered_server at_rest

  abbrev pub last_names : NamesPart
  last_names = freed_names (committed_names names_then nothing_new) nothing_freed

  abbrev pub last_store : StorePart
  last_store = event.answered (2 ∷ []) (too_few ∷ []) store_stopped

-- The disk is visible, and was proper; each state is sound, and the last hand knows one whole history.
pub record IsShortSession (k : Start) (g : Geometry) (cells : Cells) : Type 0 where
  pub visible : IsDiskVisible k
  pub after_begin : IsSound by_images k (at_word 0 0) (opened g cells ∷ [])
  pub after_ask : IsSound by_images k (at_word 0 0) (asked g cells ∷ [])
  pub after_split : IsSound by_images k (at_word 0 0) (server g cells ∷ client g cells ∷ [])
  pub after_draw : IsSound by_images k (at_word 1 0) (server g cells ∷ answered g cells ∷ [])
  pub after_look : IsSound by_images k (at_word 1 0) (server g cells ∷ at_rest g cells ∷ [])
  pub after_tick : IsSound by_images k (at_word 1 5) (ticked_server g cells ∷ at_rest g cells ∷ [])
  pub after_move : IsSound by_images k (at_word 1 5) (supplied g cells ∷ at_rest g cells ∷ [])
  pub after_turn : IsSound by_images k (at_word 1 5) (in_turn g cells ∷ at_rest g cells ∷ [])
  pub after_commit : IsSound by_images k (at_word 1 5) (committed_server g cells ∷ at_rest g cells ∷ [])
  pub after_pass : IsSound by_images k (at_word 1 5) (after_barrier g cells ∷ at_rest g cells ∷ [])
  pub after_checkpoint : IsSound by_images k (at_word 1 5) (checked_server g cells ∷ at_rest g cells ∷ [])
  pub after_failure : IsSound by_images k (at_word 1 5) (stopped_server g cells ∷ at_rest g cells ∷ [])
  pub after_answer : IsSound by_images k (at_word 1 5) (answered_server g cells ∷ at_rest g cells ∷ [])
  pub after_join : IsSound by_images k (at_word 1 5) (together g cells ∷ spent ∷ [])
  pub at_end : IsWhole by_images k (at_word 1 5) (together g cells) (last_store g cells)

abbrev pub NewDiskServes : Geometry → Type 0
NewDiskServes g = (sectors : ℕ) (image : Image) → sector_count g ≤ sectors → IsFormatted g image → EndsAt sectors image
    → IsShortSession (new_start 1 g (settled_cells sectors image)) g (settled_cells sectors image)
