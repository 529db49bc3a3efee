-- Requests on a file with what is known of its commits.
use Rattle.std.specs.Prelude.{ℕ, ◌≡◌, ◌-◌, ◌<◌, ◌≤◌, ◌++◌, List, length, Option, Some, false, true}
use Rattle.std.specs.List.{slice_get}
use Rattle.ufs_base.specs.declared.sizes.TheConstants.{MAX_EXTENTS}
use Rattle.ufs_bitmap.specs.Blocks.{BlockSet}
use Rattle.ufs_extent.specs.Runs.{blocks_of, first_runs, last_runs}
use Rattle.ufs_file.specs.Content.{Content, IsContentOf, block_count, own_bytes}
use Rattle.ufs_file.specs.Hand.{FileState, IsEntryOf, IsExcusedFor, IsFileOf, IsPosix, TakesBlocks, content_by, whole_as}
use Rattle.ufs_ilog.specs.Deltas.{FileLog}
use Rattle.ufs_model.specs.Asks.{IsAsk}
use Rattle.ufs_model.specs.Excuses.{ExcuseFits}
use Rattle.ufs_model.specs.FileCalls.{file_refusal, file_step}
use Rattle.ufs_model.specs.History.{is_excused}
use Rattle.ufs_model.specs.PosixTree.{PosixTree}
use Rattle.ufs_model.specs.declared.data.Actor.{Actor}
use Rattle.ufs_model.specs.declared.data.Ask.{Ask}
use Rattle.ufs_model.specs.declared.data.Desc.{Desc}
use Rattle.ufs_model.specs.declared.data.Entry.{Entry}
use Rattle.ufs_model.specs.declared.data.Excuse.{Excuse}
use Rattle.ufs_model.specs.declared.data.Op.{Op}
use Rattle.ufs_model.specs.declared.data.Reply.{Reply}
use Rattle.ufs_model.specs.declared.data.Reply.TheVariants as reply
use Rattle.ufs_file_commits.specs.State.{DurableState, whole_of}

-- The file took so many blocks from the pool, and dropped none.
pub record TakesOnly (f g : DurableState) (before after : BlockSet) (count : ℕ) : Type 0 where
  pub taken : TakesBlocks f.file.extents g.file.extents before after count
  pub dropped : g.dropped ≡ f.dropped

-- The file kept so many blocks, and dropped the others; the pool gets none.
pub record DropsOnly (f g : DurableState) (before after : BlockSet) (count : ℕ) : Type 0 where
  pub extents : g.file.extents ≡ first_runs f.file.extents count
  pub dropped : g.dropped ≡ f.dropped ++ last_runs f.file.extents count
  pub pool : after ≡ before

-- The file has so many blocks afterwards.
pub record TakesOrDrops (f g : DurableState) (before after : BlockSet) (count : ℕ) : Type 0 where
  pub more : length (blocks_of f.file.extents) ≤ count → TakesOnly f g before after (count - length (blocks_of f.file.extents))
  pub fewer : count < length (blocks_of f.file.extents) → DropsOnly f g before after count

-- the file's content behind a request
abbrev pub content_behind : FileState → Desc → Op → Content
content_behind f d request = content_by f.content d request (file_refusal f.content.bytes d request)

-- the log with the file's new state noted
abbrev pub noted_as : FileState → FileLog → FileLog
noted_as f log = record log { noted = record { runs = f.extents; size = length f.content.bytes } }

-- The reply and the descriptor are those of the step of the file's bytes, the file goes on by it, has the blocks for its new size,
-- and the log notes it.
pub record IsServedKept (f g : DurableState) (before after : BlockSet) (d : Desc) (request : Op) (reply : Reply) (desc : Option Desc) : Type 0 where
  pub replied : reply ≡ (file_step f.file.content.bytes d request).reply
  pub told : desc ≡ Some (file_step f.file.content.bytes d request).desc
  pub bytes : g.file.content.bytes ≡ (file_step f.file.content.bytes d request).bytes
  pub memory : g.file.content ≡ content_behind f.file d request
  pub same_file : g.file.file ≡ f.file.file
  pub same_inode : g.file.inode ≡ f.file.inode
  pub blocks : TakesOrDrops f g before after (block_count (length g.file.content.bytes))
  pub logged : g.log ≡ noted_as g.file f.log

-- What a request comes to, all together, whatever bytes the blocks have that aren't in memory.
pub record IsApplied (f g : DurableState) (before after : BlockSet) (ask : Ask) (server : Actor) (ticket : ℕ) (entry : Entry) (desc : Option Desc) : Type 0 where
  pub of_ask : IsEntryOf ask server ticket entry
  pub served : is_excused entry.reply ≡ false → (d : Desc) → ask.desc ≡ Some d → (bytes : List ℕ) → IsContentOf f.file.content bytes
      → IsServedKept (whole_of bytes f) (whole_of (file_step bytes d ask.op).bytes g) before after d ask.op entry.reply desc
  pub goes_on : is_excused entry.reply ≡ false → (d : Desc) → ask.desc ≡ Some d → (bytes : List ℕ) → IsContentOf f.file.content bytes → IsContentOf g.file.content (file_step bytes d ask.op).bytes
  pub excused : (x : Excuse) → entry.reply ≡ reply.Excused x → (d : Desc) → ask.desc ≡ Some d → (bytes : List ℕ) → IsContentOf f.file.content bytes → IsExcusedFor (whole_as bytes f.file) d ask.op before x
  pub posix : is_excused entry.reply ≡ false → (t : PosixTree) → IsFileOf f.file t → IsAsk t ask → IsPosix t ask g.file entry.reply desc
  pub fits : (x : Excuse) → entry.reply ≡ reply.Excused x → (t : PosixTree) → IsFileOf f.file t → IsAsk t ask → ExcuseFits t ask.client ask.op x
  pub few : length g.file.extents ≤ MAX_EXTENTS
  pub marks : length g.file.content.dirty ≡ length (blocks_of g.file.extents)
  pub held : length g.file.content.there ≡ length g.file.content.dirty
  pub written : (place : ℕ) → slice_get g.file.content.dirty place ≡ Some true → slice_get g.file.content.there place ≡ Some true
  -- a block that isn't in memory wasn't before, and keeps its bytes
  pub away : is_excused entry.reply ≡ false → (d : Desc) → ask.desc ≡ Some d → (bytes : List ℕ) → IsContentOf f.file.content bytes → (place : ℕ) → slice_get g.file.content.there place ≡ Some false
      → (slice_get f.file.content.there place ≡ Some false) × (own_bytes (file_step bytes d ask.op).bytes place ≡ own_bytes bytes place)
  pub kept : is_excused entry.reply ≡ true → g ≡ f
  pub pool : is_excused entry.reply ≡ true → after ≡ before
  pub same_desc : is_excused entry.reply ≡ true → desc ≡ ask.desc
