-- What the hand has after each of its steps.
use Rattle.std.specs.Prelude.{ℕ, ◌+◌, ◌≡◌, ◌≢◌, ◌≤◌, ◌<◌, ◌⊎◌, true, List, [], ◌∷◌, ◌++◌, length, Option, Some, None, is_some, cond}
use Rattle.std.specs.List.{filter_map}
use Rattle.std.specs.Option.{option_map}
use Rattle.std.specs.FinMap as fin
use Rattle.ufs_base.specs.declared.limits.TheConstants.{MAX_CLIENTS}
use Rattle.ufs_model.specs.Asks.{fd_told}
use Rattle.ufs_model.specs.FileBytes.{bytes_of}
use Rattle.ufs_model.specs.History.{IsReplyTo, tree_after, entries_of, goes_on}
use Rattle.ufs_model.specs.PosixTree.{PosixTree, Fds, desc_at}
use Rattle.ufs_model.specs.declared.data.Entry.{Entry}
use Rattle.ufs_model.specs.declared.data.Excuse.TheVariants as excuse
use Rattle.ufs_model.specs.declared.data.Op.{Op}
use Rattle.ufs_model.specs.declared.data.Reply.{Reply}
use Rattle.ufs_model.specs.declared.data.Reply.TheVariants as reply
use Rattle.ufs_crash_laws.specs.Changes.{asks_commit, change_of, names_by}
use Rattle.ufs_hand_laws.specs.Covers.{step_in}
use Rattle.ufs_hand_laws.specs.Draws.{Leaves, entry_of, new_file}
use Rattle.ufs_hand_laws.specs.Durable.{IsExplainedThroughout}
use Rattle.ufs_hand_laws.specs.Marks.{asking}
use Rattle.ufs_hand_laws.specs.Owned.{Has, each, times}
use Rattle.ufs_hand_laws.specs.Parts.{Cells, FilePart, NamesPart, OwnFds, Shortage, Start, StorePart, View}
use Rattle.ufs_hand_laws.specs.Shown.{ExplainsImages}
use Rattle.ufs_hand_laws.specs.Visible.{IsDiskVisible}
use Rattle.ufs_hand_laws.specs.declared.fresh.Fresh.{Fresh}
use Rattle.ufs_one_hand.specs.OneHand.{HasSession, IsCoveredIn, KnowsSynced, client_in, stamp_in, state_in}
use Rattle.ufs_one_hand.specs.Apart.{HasTouched}

-- ---- a client asks

abbrev pub asked_view : ℕ → Op → View → ℕ → View
asked_view client op v tickets = asking tickets client op [] (client_in client v) v

-- ---- a turn of the disk

-- it passed these states since the last stamp, and nothing is lent to the next turn
abbrev pub turned : ℕ → List Cells → StorePart → StorePart
turned tickets states s = record s { past = record { states = s.state ∷ states; from = s.mark; to = tickets } ∷ s.past; mark = tickets; lent = []; lent_names = 0; paths = None }

-- it begins
abbrev pub turned_view : View → ℕ → View
turned_view v tickets = record v { store = each (λ _ s. turned tickets [] s) v.store; seen = tickets }

-- ---- the disk was called

-- the call that failed, where one did: the store stopped at it
abbrev pub fault_met : Option ℕ → Option ℕ → List ℕ
fault_met None (Some fault) = fault ∷ []
fault_met _ _ = []

-- the calls that failed: a read at which the store didn't stop, and the call at which it did
abbrev pub faults_met : Option ℕ → Option ℕ → Option ℕ → List ℕ
faults_met None before stop = fault_met before stop
faults_met (Some fault) before stop = fault ∷ fault_met before stop

abbrev pub store_passed : ℕ → Option ℕ → Option ℕ → List Cells → Cells → List Shortage → Option ℕ → StorePart → StorePart
store_passed tickets failed stop states state shortages before s = record (turned tickets (states ++ state ∷ []) s) {
  state = state;
  faults = faults_met failed before stop ++ s.faults;
  shortages = shortages ++ s.shortages;
  stop = stop;
}

-- A read failed, or none did. The disk passed these states, and is in this one now; the store has stopped there, or hasn't;
-- and blocks were short so.
abbrev pub passed_view : Option ℕ → Option ℕ → List Cells → Cells → List Shortage → View → ℕ → View
passed_view failed stop states state shortages v tickets = record v {
  store = each (λ _ s. store_passed tickets failed stop states state shortages v.stop s) v.store;
  seen = tickets;
  faults = faults_met failed v.stop stop ++ v.faults;
  stop = stop;
  shortages = shortages ++ v.shortages;
}

-- The disk may go by these states to that one after a history: it was stamped behind the last entry, and whatever a crash
-- leaves in each of them is explained by the history.
pub record MayPass (k : Start) (history : List Entry) (asked : Option (ℕ × Op)) (states : List Cells) (state : Cells) (v : View) : Type 0 where
  pub session : HasSession k history asked v
  pub fresh : stamp_in v ≡ length history
  pub covered : IsCoveredIn k history v
  pub passed : IsDiskVisible k → (x : Cells) → Has x states → ExplainsImages k.tree history x
  pub explained : IsDiskVisible k → ExplainsImages k.tree history state

-- ---- what an entry acknowledges is committed

-- The entry answers what is asked after this history, in this tree, and acknowledges that changes are committed: whatever a
-- crash leaves of the disk is explained by the history with it.
pub record IsAcknowledged (k : Start) (history : List Entry) (t : PosixTree) (e : Entry) (v : View) : Type 0 where
  pub tree_is : t ≡ tree_after k.tree history
  pub session : HasSession k history (Some (e.client, e.op)) v
  pub covered : IsCoveredIn k (history ++ e ∷ []) v
  pub ticket : e.ticket ≡ length history
  pub replied : IsReplyTo t e
  pub done : e.reply ≡ reply.Done
  pub asks : asks_commit e.op ≡ true
  pub explained : IsDiskVisible k → ExplainsImages k.tree (history ++ e ∷ []) (state_in v)

-- ---- an entry is drawn

-- both are bytes that were read, as many
abbrev pub AreBothRead : Reply → Reply → Type 0
AreBothRead (reply.Got xs) (reply.Got ys) = length xs ≡ length ys
AreBothRead _ _ = ⊥

-- A reply that the history has is the one that was given. Over a disk that isn't visible the bytes that were read may be
-- others, and as many.
pub record IsReplyAlike (k : Start) (told given : Reply) : Type 0 where
  pub alike : (told ≡ given) ⊎ AreBothRead told given
  pub seen : IsDiskVisible k → told ≡ given

-- the entry with the reply that the history has
abbrev pub told_as : Reply → Fresh → Fresh
told_as told f = record f { reply = told }

-- The hand has the cause of an excuse.
pub record HasCauses (given : Reply) (v : View) : Type 0 where
  pub device : (n : ℕ) → given ≡ reply.Excused (excuse.Device n) → 1 ≤ times n v.faults
  pub stopped : (n : ℕ) → given ≡ reply.Excused (excuse.Stopped n) → v.stop ≡ Some n
  pub short : (need had : ℕ) → given ≡ reply.Excused (excuse.Blocks need had) → (x : Shortage) × Has x v.shortages × (had ≡ x.had + x.pool)

-- It answers what is asked after this history, in this tree, and leaves the client these descriptors. The hand has the files
-- that the request touches, but where want of memory excuses it.
pub record IsAnswer (k : Start) (history : List Entry) (t : PosixTree) (f : Fresh) (left : OwnFds) (v : View) : Type 0 where
  pub tree_is : t ≡ tree_after k.tree history
  pub session : HasSession k history (Some (f.client, f.op)) v
  pub low : f.client < MAX_CLIENTS
  pub seq : f.seq ≡ length (entries_of f.client history)
  pub replied : IsReplyTo t (entry_of 0 f)
  pub fds : (fd : ℕ) → fin.get left fd ≡ desc_at (goes_on t (entry_of 0 f)) f.client fd
  pub others : (fd : ℕ) → fd_told f.op f.reply ≢ Some fd → desc_at (goes_on t (entry_of 0 f)) f.client fd ≡ desc_at t f.client fd
  pub known : f.reply ≡ reply.Done → asks_commit f.op ≡ true → KnowsSynced (step_in t (entry_of 0 f)) v
  pub touched : (f.reply ≡ reply.Excused excuse.Memory → ⊥) → HasTouched t f.client f.op v
  pub causes : HasCauses f.reply v

-- who holds which file
abbrev pub holds_in : Fds → List (ℕ × ℕ)
holds_in fds = filter_map (λ e. option_map (λ file. (e.0.0, file)) e.1.file) (fin.entries fds)

module _ (t : PosixTree) (e : Entry) where
  abbrev pub file_drawn : ℕ → FilePart → FilePart
  file_drawn f p = record p { bytes = bytes_of (goes_on t e).bytes f; changes = p.changes ++ change_of f (step_in t e) }

  -- the files that are there still
  abbrev pub files_left : List (ℕ × FilePart) → List (ℕ × FilePart)
  files_left [] = []
  files_left (f ∷ fs) = cond (is_some (fin.get (goes_on t e).bytes f.0)) ((f.0, file_drawn f.0 f.1) ∷ files_left fs) (files_left fs)

  abbrev pub files_made : List (ℕ × FilePart)
  files_made = cond (is_some (fin.get (goes_on t e).bytes t.next)) ((t.next, new_file) ∷ []) []

  -- those that went, which have no block here
  abbrev pub files_gone : List (ℕ × FilePart) → List (ℕ × List ℕ)
  files_gone [] = []
  files_gone (f ∷ fs) = cond (is_some (fin.get (goes_on t e).bytes f.0)) (files_gone fs) ((f.0, []) ∷ files_gone fs)

  abbrev pub names_drawn : List (ℕ × FilePart) → NamesPart → NamesPart
  names_drawn files p = record p {
    paths = (goes_on t e).paths;
    next = (goes_on t e).next;
    holds = holds_in (goes_on t e).fds;
    changes = p.changes ++ names_by (step_in t e);
    dropped = p.dropped ++ files_gone files;
  }

  abbrev pub leaves_after : OwnFds → View → Leaves
  leaves_after fds v = record { fds = fds; files = files_left v.files ++ files_made; names = each (λ _ p. names_drawn v.files p) v.names }

-- ---- the end

-- Whatever a crash leaves in this state is explained by the first entries, for each number of them from one stamp to another.
abbrev pub IsExplainedAtStamps : PosixTree → List Entry → Cells → Type 0
IsExplainedAtStamps start history cells = (from to : ℕ) × (from ≤ to) × (to ≤ length history) × IsExplainedThroughout start history from to cells
