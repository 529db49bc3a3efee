-- What is known of a session on hands that has ended.
use Rattle.std.specs.Prelude.{ℕ, ◌≡◌, ◌≤◌, ◌<◌, ◌-◌, ◌^◌, ◌⊎◌, ◌++◌, eqb, Bool, IsTrue, true, List, [], ◌∷◌, length, map, take, Some, None, IsSome, sum_by}
use Rattle.std.specs.FinMap as fin
use Rattle.ufs_client.specs.Played.{IsMerged, transcript}
use Rattle.ufs_disk.specs.Disk.{Leaves, State}
use Rattle.ufs_disk.specs.Moments.{Moments, all}
use Rattle.ufs_promise_laws.specs.Last.{StandsForTree}
use Rattle.ufs_model.specs.History.{IsComplete, IsInOrder, IsLegal, requests_of, tree_after}
use Rattle.ufs_model.specs.PosixTree.{PosixTree}
use Rattle.ufs_model.specs.declared.data.Entry.{Entry}
use Rattle.ufs_model.specs.declared.data.Excuse.TheVariants as excuse
use Rattle.ufs_model.specs.declared.data.Op.{Op}
use Rattle.ufs_model.specs.declared.data.Reply.TheVariants as reply
use Rattle.ufs_crash_laws.specs.Changes.{asks_commit}
use Rattle.ufs_hand_laws.specs.FaultsOnce.{told}
use Rattle.ufs_hand_laws.specs.Owned.{Has, count}
use Rattle.ufs_hand_laws.specs.Parts.{Cells}
use Rattle.ufs_ledger.specs.Ledger.{Ledger}
use Rattle.ufs_store.specs.Ledgers.{HasLedger}
use Rattle.ufs_store.specs.State.{StoreState}
use Rattle.ufs_held.specs.Together.{under_numbers}
use Rattle.ufs_promise_laws.specs.OnDisk.{IsExplainedImage}
use Rattle.ufs_promise_laws.specs.Parts.{Parts}
use Rattle.ufs_promise_laws.specs.Stored.{ArePartsOf}
use Rattle.ufs_joint.specs.Cells.{FileCell, NamesCell, Start}
use Rattle.ufs_joint.specs.Disks.{states_behind}
use Rattle.ufs_joint.specs.Faults.{IsStopSince, faults_in, stop_first}
use Rattle.ufs_joint.specs.NamesTurns.{live_files}
use Rattle.ufs_joint.specs.Picks.{Pick}
use Rattle.ufs_joint.specs.Servers.{AreServedSo}
use Rattle.ufs_joint.specs.Sound.{IsExplainedState, MayHaveBegun}
use Rattle.ufs_joint.specs.Whole.{HasFileCell, HasNamesCell}
use Rattle.ufs_told.specs.Sizes.{total_size}
use Rattle.ufs_turns.specs.HeldStore.{counted_in, sectors_in, state_in}

-- ---- scripts

-- Each client's transcript answers the first requests of its script,
abbrev pub AnswerFirst : List (List Op) → List (List Entry) → Type 0
AnswerFirst scripts lists = (client : ℕ) → map (λ e. e.op) (transcript lists client) ≡ take (length (transcript lists client)) (requests_of scripts client)

-- or all of them.
abbrev pub AnswerAll : List (List Op) → List (List Entry) → Type 0
AnswerAll scripts lists = (client : ℕ) → length (transcript lists client) ≡ length (requests_of scripts client)

-- ---- the disk

-- A fault of the device since its count was that, by this count. The last number of the count is no fault's.
pub record IsFaultSince (before now fault : ℕ) : Type 0 where
  pub later : before < fault
  pub counted : fault ≤ now
  pub below : fault < 2 ^ 64 - 1

-- Whatever a crash leaves of a disk in this state is explained by the first entries, for each number of them from one stamp to another,
-- and is proper.
pub record IsExplainedAtStamps (sectors : ℕ) (start : PosixTree) (history : List Entry) (state : Cells) : Type 0 where
  pub from : ℕ
  pub to : ℕ
  pub rises : from ≤ to
  pub within : to ≤ length history
  pub each : (i : ℕ) → from ≤ i → i ≤ to → IsExplainedState sectors start (take i history) state

-- The states, in the order of time: whatever a crash leaves of each is explained by the first entries, for each number of them from the
-- one up to which the state before it was explained so to another, and is proper.
abbrev pub AreExplainedAlong : ℕ → PosixTree → List Entry → ℕ → List Cells → ℕ → Type 0
AreExplainedAlong sectors start history from [] to = from ≡ to
AreExplainedAlong sectors start history from (state ∷ states) to =
    (upto : ℕ) × (from ≤ upto) × ((i : ℕ) → from ≤ i → i ≤ upto → IsExplainedState sectors start (take i history) state) × AreExplainedAlong sectors start history upto states to

-- how large the file of a cell is
abbrev pub size_of_cell : FileCell → ℕ
size_of_cell c = length c.value.file.content.bytes

-- All that changed of names and files is known as committed, and so is the birth of each live file.
pub record AreAllKnown (names : NamesCell) (files : List FileCell) : Type 0 where
  pub names_known : names.changed ≤ names.known
  pub named : names.named ≡ live_files names.value
  pub files_known : (c : FileCell) → Has c files → c.changed ≤ c.known

-- ---- the whole

-- The transcripts are those of one history, with all tickets, in which a tree with which the session may have begun gives each reply, or
-- the reply is an excuse that fits and leaves the tree; each client's requests are in its order. Each entry was served by its client,
-- where that answers it itself, and else by a server. Names and files are those of the tree to which it leads. A fault that excuses an
-- entry is one of the session, and whoever is told that the store stopped is told where: by that, or where a request asks for a commit,
-- by the fault itself. No other request is told a stop. It stopped at a fault of the session, if it hadn't before. The disk has as many
-- sectors as at the beginning.
pub record HasEnded (k : Start) (origin : Moments) (keeps : Bool) (tickets : ℕ) (lists : List (List Entry)) (names : NamesCell) (files : List FileCell) (s : StoreState) : Type 0 where
  pub start : PosixTree
  pub picks : List Pick
  pub begun : MayHaveBegun k picks start
  pub history : List Entry
  pub drawn : length history ≡ tickets
  pub legal : IsLegal start history
  pub merged : IsMerged lists history
  pub served : AreServedSo start history
  pub ordered : (scripts : List (List Op)) → AnswerFirst scripts lists → IsInOrder scripts history
  pub complete : (scripts : List (List Op)) → AnswerAll scripts lists → IsComplete scripts history
  pub faults : (fault : ℕ) → 1 ≤ told fault history → IsFaultSince (faults_in k.view.store) s.faults fault
  pub stopped : (e : Entry) (fault : ℕ) → Has e history → e.reply ≡ reply.Excused (excuse.Stopped fault) → s.stop ≡ Some fault
  pub halts : (fault : ℕ) → s.stop ≡ Some fault → (stop_first k.view.store ≡ Some fault) ⊎ IsStopSince (faults_in k.view.store) s.faults fault
  pub committed : (e : Entry) (fault : ℕ) → Has e history → asks_commit e.op ≡ true → e.reply ≡ reply.Excused (excuse.Device fault) → s.stop ≡ Some fault
  pub asked : (e : Entry) (fault : ℕ) → Has e history → e.reply ≡ reply.Excused (excuse.Stopped fault) → asks_commit e.op ≡ true
  pub size : s.sectors ≡ sectors_in k.view.store
  -- a visible disk that keeps its moments went on from the states in which it had been as the session began
  pub grown : k.is_visible ≡ true → IsTrue keeps → (inside : List State) × (all s.moments ≡ all origin ++ inside)
  pub parts : Parts
  pub are : ArePartsOf parts (tree_after start history)
  pub has_names : HasNamesCell parts names
  pub has_files : (c : FileCell) → Has c files → HasFileCell parts c.value.file.file c
  pub all_files : (file : ℕ) → IsSome (fin.get parts.files file) → (c : FileCell) × Has c files × (c.value.file.file ≡ file)
  pub once : (file : ℕ) → count eqb file (under_numbers files) ≤ 1
  -- they are no more than the image's inodes, and together as large as all files of the tree
  pub few : length files ≤ k.geometry.inodes
  pub bytes : sum_by size_of_cell files ≡ total_size (tree_after start history)
  -- over a visible disk: where the store goes on it knows its ledger;
  pub ledger : k.is_visible ≡ true → s.stop ≡ None → (l : Ledger) × HasLedger s l
  -- what a crash leaves now is explained by the whole history, and proper;
  pub crash : k.is_visible ≡ true → Leaves (IsExplainedImage s.sectors start history) s.moments.state
  -- so it is with each state that the disk was in since the session began, by the first entries, where it keeps its moments;
  pub stamped : k.is_visible ≡ true → IsTrue keeps → (state : Cells) → Has state (states_behind (counted_in k.view.store) s) → IsExplainedAtStamps s.sectors start history state
  -- they are so in the order of time, from the state at the beginning on, and by all entries at the end;
  pub throughout : k.is_visible ≡ true → IsTrue keeps → AreExplainedAlong s.sectors start history 0 (state_in k.view.store ++ states_behind (counted_in k.view.store) s) (length history)
  -- so it is with some states in that order, also where the disk doesn't keep its moments;
  pub noted : k.is_visible ≡ true → (states : List Cells) × AreExplainedAlong s.sectors start history 0 states (length history)
  -- and once everything is committed, and the store goes on, it stands for the last tree.
  pub last : k.is_visible ≡ true → s.stop ≡ None → AreAllKnown names files → Leaves (StandsForTree s.sectors (tree_after start history)) s.moments.state
