-- How a server on a disk goes on by requests on its files, also once its store has stopped.
use Rattle.std.specs.Prelude.{◌≡◌, ℕ, List, [], ◌∷◌, ◌++◌, Option, Some, true, false}
use Rattle.std.specs.FinMap as map
use Rattle.ufs_bitmap.specs.Blocks.{BlockSet}
use Rattle.ufs_file.specs.Hand.{FileState}
use Rattle.ufs_files.specs.Files.{AreNumbered}
use Rattle.ufs_layout.specs.declared.geometry.Geometry.{Geometry}
use Rattle.ufs_model.specs.Asks.{IsAsk}
use Rattle.ufs_model.specs.FileCalls.{is_on_file}
use Rattle.ufs_model.specs.History.{IsLegal, is_excused, tree_after}
use Rattle.ufs_model.specs.Posix.{posix}
use Rattle.ufs_model.specs.PosixTree.{PosixTree}
use Rattle.ufs_model.specs.declared.data.Actor.{Actor}
use Rattle.ufs_model.specs.declared.data.Ask.{Ask}
use Rattle.ufs_model.specs.declared.data.Desc.{Desc}
use Rattle.ufs_model.specs.declared.data.Entry.{Entry}
use Rattle.ufs_crash_laws.specs.Changes.{asks_commit}
use Rattle.ufs_file_commits.specs.Serving.{IsApplied}
use Rattle.ufs_file_commits.specs.State.{DurableState}
use Rattle.ufs_store.specs.State.{StoreState, geometry_of_store}
use Rattle.ufs_promise_laws.specs.Laws.{MovesBlocks}
use Rattle.ufs_promise_laws.specs.OnDisk.{IsOnDisk}
use Rattle.ufs_promise_laws.specs.Parts.{Parts, durable_in, with_file}
use Rattle.ufs_promise_laws.specs.Sound.{IsSoundServer}
use Rattle.ufs_promise_laws.specs.Stored.{ArePartsOf}

-- ---- free blocks

-- the store with these unassigned
abbrev pub with_free : BlockSet → StoreState → StoreState
with_free free s = record s { unassigned = record (s.unassigned) { free = free } }

-- Free blocks go between the server's pool and the store.
abbrev pub FreeBlocksGoOn : Type 0
FreeBlocksGoOn = (s : StoreState) (start : PosixTree) (history : List Entry) (p : Parts) (pool rest : BlockSet) → MovesBlocks p.pool s.unassigned.free pool rest
    → IsOnDisk s start history p → IsOnDisk (with_free rest s) start history (record p { pool = pool })

abbrev pub SoundByFreeBlocks : Type 0
SoundByFreeBlocks = (g : Geometry) (unassigned : BlockSet) (p : Parts) (pool rest : BlockSet) → MovesBlocks p.pool unassigned pool rest → IsSoundServer g unassigned p → IsSoundServer g rest (record p { pool = pool })

-- ---- requests

-- One that went by what a file here tells of it. The file goes on, and the pool has what it left.
abbrev pub FileRequestsGoOn : Type 0
FileRequestsGoOn = (s : StoreState) (start : PosixTree) (history : List Entry) (entry : Entry) (p : Parts) (f : FileState) (next : DurableState) (pool : BlockSet)
    (ask : Ask) (server : Actor) (ticket : ℕ) (desc : Option Desc) (d : Desc) → IsLegal start (history ++ entry ∷ []) → asks_commit entry.op ≡ false
    → map.get p.files f.file ≡ Some f → is_on_file ask.op ≡ true → IsAsk (tree_after start history) ask → ask.desc ≡ Some d → d.file ≡ Some f.file
    → IsApplied (durable_in p.commits f) next p.pool pool ask server ticket entry desc → IsSoundServer (geometry_of_store s) s.unassigned.free p
    → IsOnDisk s start history p → IsOnDisk s start (history ++ entry ∷ []) (with_file next pool p)

abbrev pub SoundByFileRequests : Type 0
SoundByFileRequests = (g : Geometry) (unassigned : BlockSet) (entry : Entry) (p : Parts) (f : FileState) (next : DurableState) (pool : BlockSet) (ask : Ask) (server : Actor) (ticket : ℕ) (desc : Option Desc) (d : Desc)
    → AreNumbered p.files → map.get p.files f.file ≡ Some f → ask.desc ≡ Some d → IsApplied (durable_in p.commits f) next p.pool pool ask server ticket entry desc
    → IsSoundServer g unassigned p → IsSoundServer g unassigned (with_file next pool p)

-- The parts go on with the tree that the request makes,
abbrev pub PartsByFileRequests : Type 0
PartsByFileRequests = (g : Geometry) (unassigned : BlockSet) (t : PosixTree) (entry : Entry) (p : Parts) (f : FileState) (next : DurableState) (pool : BlockSet) (ask : Ask) (server : Actor) (ticket : ℕ) (desc : Option Desc) (d : Desc)
    → map.get p.files f.file ≡ Some f → is_on_file ask.op ≡ true → IsAsk t ask → ask.desc ≡ Some d → d.file ≡ Some f.file → IsApplied (durable_in p.commits f) next p.pool pool ask server ticket entry desc
    → IsSoundServer g unassigned p → is_excused entry.reply ≡ false → ArePartsOf p t → ArePartsOf (with_file next pool p) (posix t ask.client ask.op).0

-- or with the one that was, where it is excused.
abbrev pub PartsByExcuses : Type 0
PartsByExcuses = (t : PosixTree) (entry : Entry) (p : Parts) (f : FileState) (next : DurableState) (pool : BlockSet) (ask : Ask) (server : Actor) (ticket : ℕ) (desc : Option Desc)
    → map.get p.files f.file ≡ Some f → IsApplied (durable_in p.commits f) next p.pool pool ask server ticket entry desc → is_excused entry.reply ≡ true → ArePartsOf p t → ArePartsOf (with_file next pool p) t
