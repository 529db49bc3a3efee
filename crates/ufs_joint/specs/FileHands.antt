-- A hand with a client, a file and a pool alone draws a request on the file, and one with the store and a file commits the file or reads
-- blocks of it.
use Rattle.std.specs.Prelude.{ℕ, suc, ◌≡◌, ◌≢◌, ◌<◌, ◌≤◌, ◌⊎◌, Bool, true, false, IsTrue, cond, List, [], ◌∷◌, ◌++◌, length, Option, Some, None}
use Rattle.std.specs.FinMap as fin
use Rattle.std.specs.List.{slice_get}
use Rattle.std.specs.FinSet as set
use Rattle.ufs_bitmap.specs.Blocks.{BlockSet}
use Rattle.ufs_bitmap.specs.Taking.{set_of}
use Rattle.ufs_disk.specs.Disk.{State}
use Rattle.ufs_disk.specs.Moments.{all}
use Rattle.ufs_file_commits.specs.Committing.{FitsInode}
use Rattle.ufs_file_commits.specs.Serving.{IsApplied}
use Rattle.ufs_file_commits.specs.State.{DurableState, file_committed}
use Rattle.ufs_layout.specs.declared.geometry.Geometry.{Geometry}
use Rattle.ufs_file.specs.Content.{IsContentOf}
use Rattle.ufs_file.specs.Hand.{FileState, IsFileOf}
use Rattle.ufs_model.specs.Asks.{IsAsk, fd_named}
use Rattle.ufs_model.specs.Excuses.{ExcuseFits}
use Rattle.ufs_model.specs.PosixTree.{PosixTree}
use Rattle.ufs_model.specs.declared.data.Excuse.{Excuse}
use Rattle.ufs_model.specs.declared.data.Excuse.TheVariants as excuse
use Rattle.ufs_model.specs.FileCalls.{is_on_file}
use Rattle.ufs_model.specs.History.{is_excused}
use Rattle.ufs_model.specs.declared.data.Actor.{Actor}
use Rattle.ufs_model.specs.declared.data.Ask.{Ask}
use Rattle.ufs_model.specs.declared.data.Desc.{Desc}
use Rattle.ufs_model.specs.declared.data.Op.TheVariants as op
use Rattle.ufs_model.specs.declared.data.Reply.TheVariants as reply
use Rattle.ufs_promise_laws.specs.Fetches.{IsFetched}
use Rattle.ufs_promise_laws.specs.Syncs.{HasFailed, HasSynced, HasWritten, LeavesStages}
use Rattle.ufs_crash_laws.specs.Changes.{asks_commit}
use Rattle.ufs_hand_laws.specs.Draws.{entry_of}
use Rattle.ufs_hand_laws.specs.Owned.{times}
use Rattle.ufs_hand_laws.specs.Parts.{Cells, ClientPart, OwnFds}
use Rattle.ufs_hand_laws.specs.declared.fresh.Fresh.{Fresh}
use Rattle.ufs_model.specs.declared.data.Entry.{Entry}
use Rattle.ufs_store.specs.State.{StoreState, geometry_of_store}
use Rattle.ufs_promise_laws.specs.Parts.{Parts}
use Rattle.ufs_promise_laws.specs.Known.{IsDiskKept, Known}
use Rattle.ufs_joint.specs.Whole.{HasCells, KnowsCells}
use Rattle.ufs_joint.specs.Cells.{FileCell, StoreCell, View, store_of, store_since}
use Rattle.ufs_joint.specs.Disks.{states_behind}
use Rattle.ufs_joint.specs.Draws.{Leaves, MayDraw}
use Rattle.ufs_joint.specs.Picks.{picks_from}
use Rattle.ufs_joint.specs.Servers.{IsAlwaysServedSo}
use Rattle.ufs_joint.specs.Turns.{AreFaultsTold, MayEndTurn, Turn}

-- The hand has the client, the file, whose number is its own, and the pool, and not the names.
pub record IsFileHand (v : View) (client : ℕ) (part : ClientPart) (file : ℕ) (cell : FileCell) (n : ℕ) (pool : BlockSet) : Type 0 where
  pub clients : v.clients ≡ (client, part) ∷ []
  pub files : v.files ≡ (file, cell) ∷ []
  pub pools : v.pools ≡ (n, pool) ∷ []
  pub names : v.names ≡ []
  pub number : cell.value.file.file ≡ file

-- what a client's descriptor stands for
abbrev pub own_desc : OwnFds → Option ℕ → Option Desc
own_desc fds None = None
own_desc fds (Some fd) = fin.get fds fd

-- What a server was told with the request, and how it applied it to the file: this is then the file's value, and that its pool.
pub record ServesFile (client : ℕ) (part : ClientPart) (file : ℕ) (cell : FileCell) (pool left : BlockSet) (f : Fresh) (ticket : ℕ) (ask : Ask) (server : Actor) (d : Desc) (next : DurableState) (desc : Option Desc) (fds : OwnFds) : Type 0 where
  pub low : client < 16
  pub by_client : f.client ≡ client
  pub asked : part.asked ≡ Some f.op
  pub seq : f.seq ≡ length part.entries
  pub ask_client : ask.client ≡ client
  pub told : ask.desc ≡ own_desc part.fds (fd_named ask.op)
  pub no_fd : ask.fd ≡ 0
  pub not_last : ask.last ≡ false
  pub on_file : is_on_file ask.op ≡ true
  pub no_commit : asks_commit f.op ≡ false
  pub is : ask.desc ≡ Some d
  pub of : d.file ≡ Some file
  pub applied : IsApplied cell.value next pool left ask server ticket (entry_of ticket f) desc
  pub served : is_excused f.reply ≡ false
  pub same_file : next.file.file ≡ file
  pub fewer : (block : ℕ) → set.contains left block ≡ true → set.contains pool block ≡ true
  -- the client's descriptors afterwards
  pub this_fd : (fd : ℕ) → fd_named ask.op ≡ Some fd → fin.get fds fd ≡ desc
  pub other_fds : (fd : ℕ) → fd_named ask.op ≢ Some fd → fin.get fds fd ≡ fin.get part.fds fd

abbrev pub served_leaves : OwnFds → ℕ → FileCell → DurableState → ℕ → ℕ → BlockSet → Leaves
served_leaves fds file cell next ticket n left = record { fds = fds; files = (file, record cell { value = next; changed = suc ticket }) ∷ []; pools = (n, left) ∷ []; names = [] }

-- So it may be drawn.
abbrev pub FileRequestsMayDraw : Type 0
FileRequestsMayDraw = (g : Geometry) (visible : Bool) (v : View) (client : ℕ) (part : ClientPart) (file : ℕ) (cell : FileCell) (n : ℕ) (pool left : BlockSet) (f : Fresh) (ticket : ℕ) (ask : Ask) (server : Actor) (d : Desc) (next : DurableState) (desc : Option Desc) (fds : OwnFds)
    → IsFileHand v client part file cell n pool → ServesFile client part file cell pool left f ticket ask server d next desc fds → IsAlwaysServedSo part.fds f → MayDraw g visible v f (served_leaves fds file cell next ticket n left) ticket

-- ---- an acknowledgement

-- The client asks for an `fsync` of the file, which is done: what changed of the file is known as committed, and so is its birth. The
-- store is elsewhere, and may have stopped.
pub record MayAcknowledge (visible : Bool) (client : ℕ) (part : ClientPart) (file : ℕ) (cell : FileCell) (f : Fresh) (fd : ℕ) (d : Desc) : Type 0 where
  pub low : client < 16
  pub by_client : f.client ≡ client
  pub asked : part.asked ≡ Some f.op
  pub seq : f.seq ≡ length part.entries
  pub op_is : f.op ≡ op.Fsync fd
  pub done : f.reply ≡ reply.Done
  pub is : fin.get part.fds fd ≡ Some d
  pub of : d.file ≡ Some file
  pub known : visible ≡ true → cell.changed ≤ cell.known
  pub born : cell.born ≡ true

-- all stays
abbrev pub same_leaves : ClientPart → ℕ → FileCell → ℕ → BlockSet → Leaves
same_leaves part file cell n pool = record { fds = part.fds; files = (file, cell) ∷ []; pools = (n, pool) ∷ []; names = [] }

abbrev pub AcknowledgementsMayDraw : Type 0
AcknowledgementsMayDraw = (g : Geometry) (visible : Bool) (v : View) (client : ℕ) (part : ClientPart) (file : ℕ) (cell : FileCell) (n : ℕ) (pool : BlockSet) (f : Fresh) (ticket fd : ℕ) (d : Desc)
    → IsFileHand v client part file cell n pool → MayAcknowledge visible client part file cell f fd d → IsAlwaysServedSo part.fds f → MayDraw g visible v f (same_leaves part file cell n pool) ticket

-- ---- an excuse

-- The request is excused by a cause that fits it on whichever tree has the file. The hand was told the fault, or that the store stopped:
-- where the request asks for a commit, at that fault.
pub record MayExcuse (v : View) (client : ℕ) (part : ClientPart) (file : ℕ) (cell : FileCell) (f : Fresh) (ask : Ask) (x : Excuse) : Type 0 where
  pub low : client < 16
  pub by_client : f.client ≡ client
  pub asked : part.asked ≡ Some f.op
  pub seq : f.seq ≡ length part.entries
  pub ask_client : ask.client ≡ client
  pub same_op : f.op ≡ ask.op
  pub told : ask.desc ≡ own_desc part.fds (fd_named ask.op)
  pub no_fd : ask.fd ≡ 0
  pub not_last : ask.last ≡ false
  pub on_file : is_on_file ask.op ≡ true
  pub replied : f.reply ≡ reply.Excused x
  pub device : (fault : ℕ) → x ≡ excuse.Device fault → 1 ≤ times fault v.faults
  pub stopped : (fault : ℕ) → x ≡ excuse.Stopped fault → v.stop ≡ Some fault
  pub committed : (fault : ℕ) → asks_commit f.op ≡ true → x ≡ excuse.Device fault → v.stop ≡ Some fault
  pub asks : (fault : ℕ) → x ≡ excuse.Stopped fault → asks_commit f.op ≡ true
  pub fits : (t : PosixTree) → IsFileOf cell.value.file t → IsAsk t ask → ExcuseFits t ask.client ask.op x

abbrev pub ExcusesMayDraw : Type 0
ExcusesMayDraw = (g : Geometry) (visible : Bool) (v : View) (client : ℕ) (part : ClientPart) (file : ℕ) (cell : FileCell) (n : ℕ) (pool : BlockSet) (f : Fresh) (ticket : ℕ) (ask : Ask) (x : Excuse)
    → IsFileHand v client part file cell n pool → MayExcuse v client part file cell f ask x → IsAlwaysServedSo part.fds f → MayDraw g visible v f (same_leaves part file cell n pool) ticket

-- ---- a commit

-- The hand has the store and the file, whose birth it knows as committed, and which didn't change since the turn began.
pub record IsSyncHand (visible : Bool) (v : View) (file : ℕ) (cell : FileCell) (was : StoreCell) : Type 0 where
  pub files : v.files ≡ (file, cell) ∷ []
  pub names : v.names ≡ []
  pub store : v.store ≡ (tt, was) ∷ []
  pub number : cell.value.file.file ≡ file
  pub changed : visible ≡ true → cell.changed ≤ was.stamp
  pub known : visible ≡ true → cell.known ≤ was.stamp
  pub born : cell.born ≡ true

-- What `fsync` of the file tells of the store, whose disk was in other states before and passed these, and the faults that it told. Of a
-- disk that doesn't keep its moments no state is noted that it passed.
pub record LeavesStore (keeps visible : Bool) (was left : StoreCell) (earlier later : List State) (passed : List Cells) (told : List ℕ) : Type 0 where
  pub went : visible ≡ true → passed ≡ cond keeps (states_behind (length (all (store_since earlier was).moments)) (store_since later left)) []
  pub geometry : geometry_of_store (store_of left) ≡ geometry_of_store (store_of was)
  pub sectors : left.sectors ≡ was.sectors
  pub stamp : left.stamp ≡ was.stamp
  pub past : left.past ≡ was.past
  pub told_so : AreFaultsTold was left told

-- Where it passes the store went on.
pub record CommitsFile (keeps visible : Bool) (was left : StoreCell) (x : DurableState) (passed : List Cells) : Type 0 where
  pub earlier : List State
  pub later : List State
  pub going : was.stop ≡ None
  pub fits : FitsInode x.file
  pub synced : visible ≡ true → HasSynced (store_since earlier was) (store_since later left) x
  pub stages : visible ≡ true → LeavesStages keeps (store_since earlier was) (store_since later left) x
  pub freed : left.unassigned.free ≡ set.union was.unassigned.free (set_of x.dropped)
  pub left_so : LeavesStore keeps visible was left earlier later passed []

abbrev pub committed_turn : ℕ → FileCell → StoreCell → StoreCell → List Cells → Turn
committed_turn file cell was left passed = record { files = (file, record cell { value = file_committed cell.value; known = was.stamp }) ∷ []; names = []; store = left; passed = passed; picks = []; told = [] }

-- So the turn may end.
abbrev pub FileCommitsMayEnd : Geometry → Type 0
FileCommitsMayEnd g = (keeps visible : Bool) (v : View) (file : ℕ) (cell : FileCell) (was left : StoreCell) (passed : List Cells) → geometry_of_store (store_of was) ≡ g
    → IsSyncHand visible v file cell was → CommitsFile keeps visible was left cell.value passed → MayEndTurn g visible v (committed_turn file cell was left passed)

-- Where it fails, memory ran out before the commit, or the disk failed and the store has stopped; or it had stopped before, and did
-- nothing.
pub record FailsFile (keeps visible : Bool) (was left : StoreCell) (x : DurableState) (passed : List Cells) (told : List ℕ) : Type 0 where
  pub earlier : List State
  pub later : List State
  pub fits : FitsInode x.file
  pub failed : visible ≡ true → ((store_since later left ≡ store_since earlier was)) ⊎ ((was.stop ≡ None) × (HasWritten (store_since earlier was) (store_since later left) x ⊎ HasFailed (store_since earlier was) (store_since later left) x))
  pub stages : visible ≡ true → LeavesStages keeps (store_since earlier was) (store_since later left) x
  pub unfreed : left.unassigned.free ≡ was.unassigned.free
  pub left_so : LeavesStore keeps visible was left earlier later passed told

abbrev pub failed_turn : ℕ → FileCell → StoreCell → List Cells → List ℕ → Turn
failed_turn file cell left passed told = record { files = (file, cell) ∷ []; names = []; store = left; passed = passed; picks = []; told = told }

-- The turn may end then too.
abbrev pub FileFailuresMayEnd : Geometry → Type 0
FileFailuresMayEnd g = (keeps visible : Bool) (v : View) (file : ℕ) (cell : FileCell) (was left : StoreCell) (passed : List Cells) (told : List ℕ) → geometry_of_store (store_of was) ≡ g
    → IsSyncHand visible v file cell was → FailsFile keeps visible was left cell.value passed told → MayEndTurn g visible v (failed_turn file cell left passed told)

-- ---- a fetch

-- The hand has the store and the file, which didn't change since the turn began.
pub record IsFetchHand (visible : Bool) (v : View) (file : ℕ) (cell : FileCell) (was : StoreCell) : Type 0 where
  pub files : v.files ≡ (file, cell) ∷ []
  pub names : v.names ≡ []
  pub store : v.store ≡ (tt, was) ∷ []
  pub number : cell.value.file.file ≡ file
  pub changed : visible ≡ true → cell.changed ≤ was.stamp
  pub known : visible ≡ true → cell.known ≤ was.stamp

-- The file was read further: it has as many bytes, what was in memory still is, and there are fewer bytes that it may have.
pub record IsFurther (f read : FileState) : Type 0 where
  pub still : length read.content.bytes ≡ length f.content.bytes
  pub marks : length read.content.there ≡ length f.content.there
  pub kept : (place : ℕ) → slice_get f.content.there place ≡ Some true → slice_get read.content.there place ≡ Some true
  pub fewer : (bytes : List ℕ) → IsContentOf read.content bytes → IsContentOf f.content bytes

-- Blocks of the file were read: this is then the file.
pub record FetchesFile (sees keeps visible : Bool) (was left : StoreCell) (f read : FileState) (passed : List Cells) (told : List ℕ) : Type 0 where
  pub earlier : List State
  pub later : List State
  pub seen : visible ≡ true → IsTrue sees
  pub fetched : IsFetched sees keeps (store_since earlier was) (store_since later left) f read
  pub further : IsFurther f read
  pub left_so : LeavesStore keeps visible was left earlier later passed told

abbrev pub fetched_turn : ℕ → FileCell → FileState → StoreCell → List Cells → List ℕ → Turn
fetched_turn file cell read left passed told = record {
  files = (file, record cell { value = record (cell.value) { file = read } }) ∷ [];
  names = [];
  store = left;
  passed = passed;
  picks = picks_from file read.content.bytes cell.value.file.content.there read.content.there 0;
  told = told;
}

-- So the turn may end.
abbrev pub FileFetchesMayEnd : Geometry → Type 0
FileFetchesMayEnd g = (sees keeps visible : Bool) (v : View) (file : ℕ) (cell : FileCell) (read : FileState) (was left : StoreCell) (passed : List Cells) (told : List ℕ) → geometry_of_store (store_of was) ≡ g
    → IsFetchHand visible v file cell was → FetchesFile sees keeps visible was left cell.value.file read passed told → MayEndTurn g visible v (fetched_turn file cell read left passed told)

-- ---- which states the disk passed

-- As the turn began, some history, with some parts of a whole server, had the hand's cells and stood on the disk.
pub record IsAsBegun (v : View) (was : StoreCell) (start : PosixTree) (history : List Entry) (p : Parts) (known : Known) : Type 0 where
  pub cells : HasCells v p
  pub knows : KnowsCells start history v known
  pub kept : IsDiskKept (store_of was) start history p known

-- The disk was in these states behind the others.
abbrev pub WentOn : StoreState → StoreState → Type 0
WentOn old new = (inside : List State) × (all new.moments ≡ all old.moments ++ inside)

-- So it went on by the commit, and where that failed.
abbrev pub FileCommitsGoOn : Geometry → Type 0
FileCommitsGoOn g = (keeps visible : Bool) (v : View) (file : ℕ) (cell : FileCell) (was left : StoreCell) (passed : List Cells) → geometry_of_store (store_of was) ≡ g
    → IsSyncHand visible v file cell was → (c : CommitsFile keeps visible was left cell.value passed) → visible ≡ true → IsTrue keeps → (start : PosixTree) (history : List Entry) (p : Parts) (known : Known) → IsAsBegun v was start history p known
    → WentOn (store_since c.earlier was) (store_since c.later left)

abbrev pub FileFailuresGoOn : Geometry → Type 0
FileFailuresGoOn g = (keeps visible : Bool) (v : View) (file : ℕ) (cell : FileCell) (was left : StoreCell) (passed : List Cells) (told : List ℕ) → geometry_of_store (store_of was) ≡ g
    → IsSyncHand visible v file cell was → (c : FailsFile keeps visible was left cell.value passed told) → visible ≡ true → IsTrue keeps → (start : PosixTree) (history : List Entry) (p : Parts) (known : Known) → IsAsBegun v was start history p known
    → WentOn (store_since c.earlier was) (store_since c.later left)

-- So it does by a fetch.
abbrev pub FileFetchesGoOn : Geometry → Type 0
FileFetchesGoOn g = (sees keeps visible : Bool) (v : View) (file : ℕ) (cell : FileCell) (read : FileState) (was left : StoreCell) (passed : List Cells) (told : List ℕ) → geometry_of_store (store_of was) ≡ g
    → IsFetchHand visible v file cell was → (c : FetchesFile sees keeps visible was left cell.value.file read passed told) → visible ≡ true → IsTrue keeps → (start : PosixTree) (history : List Entry) (p : Parts) (known : Known) → IsAsBegun v was start history p known
    → WentOn (store_since c.earlier was) (store_since c.later left)
