-- A hand with a client, the names, a pool and the files that a request of the names touches draws that request, and acknowledges what
-- is known as committed of names, or of all.
use Rattle.std.specs.Prelude.{ℕ, suc, ◌≡◌, ◌≢◌, ◌<◌, ◌≤◌, ◌⊎◌, Bool, true, false, List, [], ◌∷◌, length, eqb, IsSome, Option, Some, None}
use Rattle.std.specs.FinMap as fin
use Rattle.std.specs.FinSet as set
use Rattle.ufs_bitmap.specs.Blocks.{BlockSet}
use Rattle.ufs_files.specs.Files.{Files}
use Rattle.ufs_layout.specs.declared.geometry.Geometry.{Geometry}
use Rattle.ufs_model.specs.Asks.{IsAsk, fd_told}
use Rattle.ufs_model.specs.Excuses.{ExcuseFits}
use Rattle.ufs_model.specs.History.{is_excused}
use Rattle.ufs_model.specs.PosixTree.{PosixTree, desc_at}
use Rattle.ufs_model.specs.declared.data.Ask.{Ask}
use Rattle.ufs_model.specs.declared.data.Desc.{Desc}
use Rattle.ufs_model.specs.declared.data.Excuse.{Excuse}
use Rattle.ufs_model.specs.declared.data.Excuse.TheVariants as excuse
use Rattle.ufs_model.specs.declared.data.Op.TheVariants as op
use Rattle.ufs_model.specs.declared.data.Reply.TheVariants as reply
use Rattle.ufs_names.specs.Calls.{AreGathered, IsAsked, KeepInodes}
use Rattle.ufs_names.specs.NamesPart.{IsNamesPart}
use Rattle.ufs_promise_laws.specs.Serving.{HasServed}
use Rattle.ufs_crash_laws.specs.Changes.{asks_commit}
use Rattle.ufs_hand_laws.specs.Owned.{Has, count, times}
use Rattle.ufs_hand_laws.specs.Parts.{ClientPart, OwnFds}
use Rattle.ufs_hand_laws.specs.declared.fresh.Fresh.{Fresh}
use Rattle.ufs_promise_laws.specs.Parts.{Commits, Parts, durable_in}
use Rattle.ufs_joint.specs.Cells.{FileCell, NamesCell, View}
use Rattle.ufs_joint.specs.Draws.{Leaves, MayDraw}
use Rattle.ufs_joint.specs.Servers.{IsAlwaysServedSo}

-- Each of these cells stands under its file's number, once.
pub record AreNumberedOnce (cells : List (ℕ × FileCell)) : Type 0 where
  pub once : (file : ℕ) → count eqb file cells ≤ 1
  pub number : (file : ℕ) (c : FileCell) → Has (file, c) cells → c.value.file.file ≡ file

-- The hand has the client, the names and a pool, and each of its files once.
pub record IsNamesHand (v : View) (client : ℕ) (part : ClientPart) (names : NamesCell) (n : ℕ) (pool : BlockSet) : Type 0 where
  pub clients : v.clients ≡ (client, part) ∷ []
  pub pools : v.pools ≡ (n, pool) ∷ []
  pub names_are : v.names ≡ (tt, names) ∷ []
  pub files : AreNumberedOnce v.files

-- The client asked for this request, which is its next entry.
pub record IsNextOf (client : ℕ) (part : ClientPart) (f : Fresh) : Type 0 where
  pub low : client < 16
  pub by_client : f.client ≡ client
  pub asked : part.asked ≡ Some f.op
  pub seq : f.seq ≡ length part.entries

-- ---- acknowledgements

-- all stays
abbrev pub still_leaves : ClientPart → View → Leaves
still_leaves part v = record { fds = part.fds; files = v.files; pools = v.pools; names = v.names }

-- An `fsync` of a directory is done: what changed of names is known as committed.
pub record MayAcknowledgeDir (visible : Bool) (part : ClientPart) (names : NamesCell) (f : Fresh) (fd : ℕ) (d : Desc) : Type 0 where
  pub op_is : f.op ≡ op.Fsync fd
  pub done : f.reply ≡ reply.Done
  pub is : fin.get part.fds fd ≡ Some d
  pub of : d.file ≡ None
  pub known : visible ≡ true → names.changed ≤ names.known

abbrev pub DirAcknowledgementsMayDraw : Type 0
DirAcknowledgementsMayDraw = (g : Geometry) (visible : Bool) (v : View) (client : ℕ) (part : ClientPart) (names : NamesCell) (n : ℕ) (pool : BlockSet) (f : Fresh) (ticket fd : ℕ) (d : Desc)
    → IsNamesHand v client part names n pool → IsNextOf client part f → MayAcknowledgeDir visible part names f fd d → IsAlwaysServedSo part.fds f → MayDraw g visible v f (still_leaves part v) ticket

-- A `sync` is done: so is what changed of each live file, which the hand has.
pub record MayAcknowledgeAll (visible : Bool) (v : View) (names : NamesCell) (f : Fresh) : Type 0 where
  pub op_is : f.op ≡ op.Sync
  pub done : f.reply ≡ reply.Done
  pub known : visible ≡ true → names.changed ≤ names.known
  pub each : visible ≡ true → (file : ℕ) → IsSome (fin.get names.value.held file) → (c : FileCell) × Has (file, c) v.files × (c.changed ≤ c.known)

abbrev pub SyncsMayDraw : Geometry → Type 0
SyncsMayDraw g = (visible : Bool) (v : View) (client : ℕ) (part : ClientPart) (names : NamesCell) (n : ℕ) (pool : BlockSet) (f : Fresh) (ticket : ℕ)
    → IsNamesHand v client part names n pool → IsNextOf client part f → MayAcknowledgeAll visible v names f → IsAlwaysServedSo part.fds f → MayDraw g visible v f (still_leaves part v) ticket

-- ---- a request of the names

-- These are the files of the cells, with what is known of their commits.
pub record AreFilesOfCells (cells : List (ℕ × FileCell)) (files : Files) (commits : Commits) : Type 0 where
  pub here : (file : ℕ) (c : FileCell) → Has (file, c) cells → (fin.get files file ≡ Some c.value.file) × (durable_in commits c.value.file ≡ c.value)
  pub back : (file : ℕ) → IsSome (fin.get files file) → (c : FileCell) × Has (file, c) cells
  pub told : (file : ℕ) → IsSome (fin.get commits file) → IsSome (fin.get files file)

-- What a server of the names has for a request: the names, the files that it touches, and a pool.
pub record Serving : Type 0 where
  pub names : NamesCell
  pub files : Files
  pub commits : Commits
  pub pool : BlockSet

-- the parts of a server that has these alone
abbrev pub own_parts : Serving → Parts
own_parts s = record { names = s.names.value; files = s.files; commits = s.commits; pool = s.pool; fresh = s.names.fresh; dropped = s.names.dropped }

-- A file's cell afterwards is as it was, where the request doesn't touch the file; or as it was but for its value and this ticket; or
-- that of the new file, of which nothing is known.
pub data IsNextCell (before : List (ℕ × FileCell)) (next ticket : ℕ) (touched : Option ℕ) (file : ℕ) (c : FileCell) : Type 0 where
  Stays : Has (file, c) before → touched ≢ Some file → IsNextCell before next ticket touched file c
  Changes : (was : FileCell) → Has (file, was) before → c ≡ record was { value = c.value; changed = suc ticket } → IsNextCell before next ticket touched file c
  IsNew : count eqb file before ≡ 0 → file ≡ next → c ≡ record { value = c.value; changed = suc ticket; known = 0; born = false } → IsNextCell before next ticket touched file c

-- What a server was told with the request, and how it served it with the names, the files of these cells and a pool, on whichever tree
-- has them. Afterwards it has those.
pub record ServesNames (part : ClientPart) (f : Fresh) (ticket : ℕ) (ask : Ask) (desc : Option Desc) (fds : OwnFds) (before after : List (ℕ × FileCell)) (was left : Serving) : Type 0 where
  pub ask_client : f.client ≡ ask.client
  pub same_op : f.op ≡ ask.op
  pub no_commit : asks_commit f.op ≡ false
  pub served : is_excused f.reply ≡ false
  -- what was told is so of each tree with the client's descriptors, and the files that it touches are here
  pub told : (t : PosixTree) → ((fd : ℕ) → fin.get part.fds fd ≡ desc_at t f.client fd) → IsAsk t ask
  pub gathered : (t : PosixTree) → IsNamesPart was.names.value t → IsAsk t ask → AreGathered t ask was.files
  pub files : AreFilesOfCells before was.files was.commits
  pub left_files : AreFilesOfCells after left.files left.commits
  pub left_once : AreNumberedOnce after
  -- so it was served, with these blocks of the pool for directories, of which those were left
  pub lent : BlockSet
  pub given_back : BlockSet
  pub touched : Option ℕ
  pub applied : (t : PosixTree) → IsAsked t was.names.value ask was.files → HasServed t ask (own_parts was) (own_parts left) lent given_back touched f.reply desc
  pub stay : KeepInodes was.names.value.held left.names.value.held
  pub fewer : (block : ℕ) → set.contains left.pool block ≡ true → set.contains was.pool block ≡ true
  pub unlent : (block : ℕ) → set.contains was.pool block ≡ true → (set.contains lent block ≡ true) ⊎ (set.contains left.pool block ≡ true)
  -- the cells afterwards
  pub cells : (file : ℕ) (c : FileCell) → Has (file, c) after → IsNextCell before was.names.value.next ticket touched file c
  pub names_is : left.names ≡ record (was.names) { value = left.names.value; fresh = left.names.fresh; dropped = left.names.dropped; changed = suc ticket }
  -- the client's descriptors afterwards
  pub this_fd : (fd : ℕ) → fd_told f.op f.reply ≡ Some fd → fin.get fds fd ≡ desc
  pub other_fds : (fd : ℕ) → fd_told f.op f.reply ≢ Some fd → fin.get fds fd ≡ fin.get part.fds fd

abbrev pub names_leaves : OwnFds → List (ℕ × FileCell) → ℕ → Serving → Leaves
names_leaves fds after n left = record { fds = fds; files = after; pools = (n, left.pool) ∷ []; names = (tt, left.names) ∷ [] }

-- So it may be drawn.
abbrev pub NamesRequestsMayDraw : Geometry → Type 0
NamesRequestsMayDraw g = (visible : Bool) (v : View) (client : ℕ) (part : ClientPart) (n : ℕ) (f : Fresh) (ticket : ℕ) (ask : Ask) (desc : Option Desc) (fds : OwnFds) (after : List (ℕ × FileCell)) (was left : Serving)
    → IsNamesHand v client part was.names n was.pool → IsNextOf client part f → ServesNames part f ticket ask desc fds v.files after was left → IsAlwaysServedSo part.fds f → MayDraw g visible v f (names_leaves fds after n left) ticket

-- ---- an excuse

-- The request is excused by a cause that fits it on whichever tree has the names and these files, which are those that it touches. The
-- hand was told the fault, or that the store stopped: where the request asks for a commit, at that fault.
pub record MayExcuseNames (v : View) (part : ClientPart) (names : NamesCell) (gotten : Files) (commits : Commits) (f : Fresh) (ask : Ask) (x : Excuse) : Type 0 where
  pub ask_client : f.client ≡ ask.client
  pub same_op : f.op ≡ ask.op
  pub replied : f.reply ≡ reply.Excused x
  pub told : (t : PosixTree) → ((fd : ℕ) → fin.get part.fds fd ≡ desc_at t f.client fd) → IsAsk t ask
  pub gathered : (t : PosixTree) → IsNamesPart names.value t → IsAsk t ask → AreGathered t ask gotten
  pub files : AreFilesOfCells v.files gotten commits
  pub device : (fault : ℕ) → x ≡ excuse.Device fault → 1 ≤ times fault v.faults
  pub stopped : (fault : ℕ) → x ≡ excuse.Stopped fault → v.stop ≡ Some fault
  pub committed : (fault : ℕ) → asks_commit f.op ≡ true → x ≡ excuse.Device fault → v.stop ≡ Some fault
  pub asks : (fault : ℕ) → x ≡ excuse.Stopped fault → asks_commit f.op ≡ true
  pub fits : (t : PosixTree) → IsAsked t names.value ask gotten → ExcuseFits t ask.client ask.op x

abbrev pub NamesExcusesMayDraw : Type 0
NamesExcusesMayDraw = (g : Geometry) (visible : Bool) (v : View) (client : ℕ) (part : ClientPart) (names : NamesCell) (n : ℕ) (pool : BlockSet) (files : Files) (commits : Commits) (f : Fresh) (ticket : ℕ) (ask : Ask) (x : Excuse)
    → IsNamesHand v client part names n pool → IsNextOf client part f → MayExcuseNames v part names files commits f ask x → IsAlwaysServedSo part.fds f → MayDraw g visible v f (still_leaves part v) ticket
