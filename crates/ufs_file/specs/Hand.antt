-- One file, as a server holds it.
use Rattle.std.specs.Prelude.{ℕ, ◌+◌, ◌-◌, ◌*◌, ◌/◌, ◌≡◌, ◌<◌, ◌≤◌, ◌⊎◌, ⊤, true, min, List, length, replicate, slice_get, Option, Some, None, ◌==◌, nat_lt, if◌then◌else◌}
use Rattle.std.specs.FinSet as set
use Rattle.std.specs.FinMap as map
use Rattle.ufs_base.specs.declared.sizes.TheConstants.{BLOCK, MAX_EXTENTS}
use Rattle.ufs_model.specs.PosixTree.{PosixTree}
use Rattle.ufs_model.specs.FileBytes.{place_of}
use Rattle.ufs_model.specs.Asks.{IsDescAfter, fd_named}
use Rattle.ufs_model.specs.Posix.{posix}
use Rattle.ufs_model.specs.declared.data.Op.{Op}
use Rattle.ufs_model.specs.declared.data.Op.TheVariants as op
use Rattle.ufs_model.specs.declared.data.Desc.{Desc}
use Rattle.ufs_model.specs.declared.data.Ask.{Ask}
use Rattle.ufs_model.specs.declared.data.Errno.{Errno}
use Rattle.ufs_model.specs.declared.data.Actor.{Actor}
use Rattle.ufs_model.specs.declared.data.Entry.{Entry}
use Rattle.ufs_model.specs.declared.data.Reply.{Reply}
use Rattle.ufs_model.specs.declared.data.Excuse.{Excuse}
use Rattle.ufs_model.specs.declared.data.Excuse.TheVariants as excuse
use Rattle.ufs_extent.specs.declared.Run.{Run}
use Rattle.ufs_extent.specs.Runs.{blocks_of, appended_all, first_runs, last_runs}
use Rattle.ufs_bitmap.specs.Blocks.{BlockSet}
use Rattle.ufs_file.specs.Content.{Content, IsContentOf, block_count, grown, written_over, shortened}
use Rattle.ufs_bitmap.specs.Taking.{Takes, set_of}
use Rattle.ufs_model.specs.FileCalls.{IsFileIn, file_refusal, file_step}

pub record FileState : Type 0 where
  -- its number, and its inode's
  pub file : ℕ
  pub inode : ℕ
  -- where its blocks lie
  pub extents : List Run
  pub content : Content

-- the file with these bytes, all of them in memory
abbrev pub whole_as : List ℕ → FileState → FileState
whole_as bytes f = record f { content = record { bytes = bytes; dirty = f.content.dirty; there = replicate (length f.content.dirty) true } }

-- ---- which blocks a request needs in memory, by the file's size: of those from one place on, below another

-- that in which a read begins; behind the last block it needs none
abbrev pub read_from : ℕ → ℕ → ℕ
read_from size at = min (at / BLOCK) (block_count size)

-- up to where a read or a write ends, or the file
abbrev pub end_within : ℕ → ℕ → ℕ → ℕ
end_within size at count = block_count (min (at + count) size)

-- where a `write` begins
abbrev pub write_place : Desc → ℕ → ℕ
write_place d size = if d.append then size else d.at

-- A write needs blocks of the file in which it lies, and one behind the end the block in which that lies.
abbrev pub write_from : ℕ → ℕ → ℕ
write_from size at = min at size / BLOCK

abbrev pub write_end : ℕ → ℕ → ℕ → ℕ
write_end size at count = if count == 0 then write_from size at else end_within size at count

abbrev pub needed_from : ℕ → Desc → Op → ℕ
needed_from size d (op.Read fd n) = read_from size d.at
needed_from size d (op.Pread fd n at) = read_from size at
needed_from size d (op.Write fd fresh) = write_from size (write_place d size)
needed_from size d (op.Pwrite fd fresh at) = write_from size at
needed_from size d (op.Trunc fd size') = min size' size / BLOCK
needed_from size d _ = 0

-- A cut between two blocks needs none.
abbrev pub needed_end : ℕ → Desc → Op → ℕ
needed_end size d (op.Read fd n) = end_within size d.at n
needed_end size d (op.Pread fd n at) = end_within size at n
needed_end size d (op.Write fd fresh) = write_end size (write_place d size) (length fresh)
needed_end size d (op.Pwrite fd fresh at) = write_end size at (length fresh)
needed_end size d (op.Trunc fd size') = block_count (min size' size)
needed_end size d _ = 0

-- Of the block at this place some byte of the file stays beside what is written: one before it, or one behind it.
abbrev pub IsCutBy : ℕ → ℕ → ℕ → ℕ → Type 0
IsCutBy size at count place = (BLOCK * place < min at size) ⊎ (at + count < min size (BLOCK * (place + 1)))

-- The request has a use for what the block has: a write for that of one that it cuts, another for that of each.
abbrev pub IsUsed : ℕ → Desc → Op → ℕ → Type 0
IsUsed size d (op.Write fd fresh) place = IsCutBy size (write_place d size) (length fresh) place
IsUsed size d (op.Pwrite fd fresh at) place = IsCutBy size at (length fresh) place
IsUsed size d _ place = ⊤

-- The request needs the block at this place in memory.
pub record IsNeeded (size : ℕ) (d : Desc) (request : Op) (place : ℕ) : Type 0 where
  pub from : needed_from size d request ≤ place
  pub below : place < needed_end size d request
  pub used : IsUsed size d request place

-- The blocks that a request needs are in memory.
abbrev pub HasNeeded : Content → Desc → Op → Type 0
HasNeeded c d request = (place : ℕ) → IsNeeded (length c.bytes) d request place → slice_get c.there place ≡ Some true

-- those that a write of so many bytes needs
abbrev pub HasForWrite : Content → ℕ → ℕ → Type 0
HasForWrite c at count = (place : ℕ) → write_from (length c.bytes) at ≤ place → place < write_end (length c.bytes) at count → IsCutBy (length c.bytes) at count place
    → slice_get c.there place ≡ Some true

-- ---- what a request leaves in memory

-- long enough for so many bytes
abbrev pub lengthened : Content → ℕ → Content
lengthened c size = if nat_lt (length c.bytes) size then grown c size else c

abbrev pub content_put : Content → ℕ → List ℕ → Content
content_put c at fresh = if length fresh == 0 then c else written_over (lengthened c (at + length fresh)) at fresh

abbrev pub content_sized : Content → ℕ → Content
content_sized c size = if nat_lt size (length c.bytes) then shortened c size else lengthened c size

abbrev pub content_after : Content → Desc → Op → Content
content_after c d (op.Write fd fresh) = content_put c (place_of d c.bytes) fresh
content_after c d (op.Pwrite fd fresh at) = content_put c at fresh
content_after c d (op.Trunc fd size) = content_sized c size
content_after c d _ = c

-- a refused request leaves it
abbrev pub content_by : Content → Desc → Op → Option Errno → Content
content_by c d request (Some e) = c
content_by c d request None = content_after c d request

-- ---- blocks

-- The file took so many blocks, which are the runs that the pool gives in turn, behind those that it had.
pub record TakesBlocks (old new : List Run) (before after : BlockSet) (count : ℕ) : Type 0 where
  pub runs : List Run
  pub in_turn : Takes before count runs after 0
  pub extents : new ≡ appended_all old runs

-- The file kept so many blocks, and the others are the pool's.
pub record KeepsBlocks (old new : List Run) (before after : BlockSet) (count : ℕ) : Type 0 where
  pub extents : new ≡ first_runs old count
  pub pool : after ≡ set.union before (set_of (last_runs old count))

-- The file has so many blocks afterwards.
pub record HasBlocks (old new : List Run) (before after : BlockSet) (count : ℕ) : Type 0 where
  pub more : length (blocks_of old) ≤ count → TakesBlocks old new before after (count - length (blocks_of old))
  pub fewer : count < length (blocks_of old) → KeepsBlocks old new before after count

-- ---- what a request comes to

-- the blocks by which a request would lengthen the file
abbrev pub missing : FileState → Desc → Op → ℕ
missing f d request = block_count (length (content_after f.content d request).bytes) - length (blocks_of f.extents)

-- The pool has fewer blocks than are wanted.
pub record LacksBlocks (wanted : ℕ) (pool : BlockSet) (need had : ℕ) : Type 0 where
  pub needed : need ≡ wanted
  pub counted : had ≡ set.len pool
  pub fewer : had < need

-- With the runs that the pool gives in turn the file would have so many extents, more than an inode has room for.
pub record LacksExtents (extents : List Run) (wanted : ℕ) (pool : BlockSet) (need : ℕ) : Type 0 where
  pub left : BlockSet
  pub runs : List Run
  pub in_turn : Takes pool wanted runs left 0
  pub counted : need ≡ length (appended_all extents runs)
  pub more : MAX_EXTENTS < need

-- the cause of an excuse, where so many blocks are wanted; there are no other excuses
abbrev pub IsCause : List Run → ℕ → BlockSet → Excuse → Type 0
IsCause extents wanted pool excuse.Memory = ⊤
IsCause extents wanted pool (excuse.Blocks need had) = LacksBlocks wanted pool need had
IsCause extents wanted pool (excuse.Extents need) = LacksExtents extents wanted pool need
IsCause extents wanted pool _ = ⊥

-- A request that isn't refused is excused for its cause.
pub record IsExcusedFor (f : FileState) (d : Desc) (request : Op) (pool : BlockSet) (x : Excuse) : Type 0 where
  pub allowed : file_refusal f.content.bytes d request ≡ None
  pub cause : IsCause f.extents (missing f d request) pool x

-- The file has this content and the blocks for it.
pub record IsChanged (old new : FileState) (before after : BlockSet) (content : Content) : Type 0 where
  pub same_file : new.file ≡ old.file
  pub same_inode : new.inode ≡ old.inode
  pub content_is : new.content ≡ content
  pub blocks : HasBlocks old.extents new.extents before after (block_count (length content.bytes))

-- The reply and the descriptor are those of the step of the file's bytes, the file goes on by it, and it has the blocks
-- for its new size.
pub record IsServedByFile (old new : FileState) (before after : BlockSet) (d : Desc) (request : Op) (reply : Reply) (desc : Option Desc) : Type 0 where
  pub replied : reply ≡ (file_step old.content.bytes d request).reply
  pub told : desc ≡ Some (file_step old.content.bytes d request).desc
  pub bytes : new.content.bytes ≡ (file_step old.content.bytes d request).bytes
  pub memory : new.content ≡ content_by old.content d request (file_refusal old.content.bytes d request)
  pub same_file : new.file ≡ old.file
  pub same_inode : new.inode ≡ old.inode
  pub blocks : HasBlocks old.extents new.extents before after (block_count (length new.content.bytes))

-- ---- an ask

-- the descriptor is open on the file
abbrev pub IsOf : Option Desc → ℕ → Type 0
IsOf None file = ⊥
IsOf (Some d) file = d.file ≡ Some file

-- the entry is that of the request
pub record IsEntryOf (ask : Ask) (by : Actor) (ticket : ℕ) (entry : Entry) : Type 0 where
  pub ticket_is : entry.ticket ≡ ticket
  pub client : entry.client ≡ ask.client
  pub seq : entry.seq ≡ ask.seq
  pub server : entry.by ≡ by
  pub asked : entry.op ≡ ask.op

-- The file may be this part of the tree: the tree has bytes for its number that may be the file's.
pub record IsFileOf (f : FileState) (t : PosixTree) : Type 0 where
  pub bytes : List ℕ
  pub has : IsFileIn t f.file bytes
  pub may : IsContentOf f.content bytes

-- POSIX's reply on the tree, which goes on with the file and the descriptor, whichever bytes it has for that, and is else as it was.
pub record IsPosix (t : PosixTree) (ask : Ask) (new : FileState) (reply : Reply) (desc : Option Desc) : Type 0 where
  pub replied : reply ≡ (posix t ask.client ask.op).1
  pub goes_on : IsFileOf new (posix t ask.client ask.op).0
  pub step : (d : Desc) (bytes : List ℕ) → ask.desc ≡ Some d → IsFileIn t new.file bytes → IsFileIn (posix t ask.client ask.op).0 new.file (file_step bytes d ask.op).bytes
  pub others : (f : ℕ) → (f ≡ new.file → ⊥) → map.get (posix t ask.client ask.op).0.bytes f ≡ map.get t.bytes f
  pub told : IsDescAfter t.fds (posix t ask.client ask.op).0.fds ask.client (fd_named ask.op) desc
  pub paths : (posix t ask.client ask.op).0.paths ≡ t.paths
  pub next : (posix t ask.client ask.op).0.next ≡ t.next
