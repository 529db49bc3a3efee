-- What a server does with a request on a file that commits nothing: blocks that it needs are read, and it is applied or excused.
use Rattle.std.specs.Prelude.{ℕ, ◌≡◌, Bool, true, false, List, length, None, Some}
use Rattle.ufs_bitmap.specs.Blocks.{BlockSet}
use Rattle.ufs_file_commits.specs.Fetching.{IsReadOn}
use Rattle.ufs_file_commits.specs.State.{DurableState}
use Rattle.ufs_file.specs.Content.{IsContentOf}
use Rattle.ufs_file.specs.Hand.{FileState, HasNeeded, IsExcusedFor, whole_as}
use Rattle.ufs_model.specs.FileCalls.{file_refusal}
use Rattle.ufs_model.specs.declared.data.Desc.{Desc}
use Rattle.ufs_model.specs.declared.data.Errno.{Errno}
use Rattle.ufs_model.specs.declared.data.Excuse.{Excuse}
use Rattle.ufs_model.specs.declared.data.Excuse.TheVariants as excuse
use Rattle.ufs_model.specs.declared.data.Op.{Op}

-- the file as it was read, with what is known of its commits
abbrev pub read_as : FileState → DurableState → DurableState
read_as read x = record x { file = read }

-- Blocks of the file were read for the request: the file is as it was, but for its bytes and for which of its blocks are in memory, and
-- as long. Nothing was read for a request that is refused, or whose blocks were in memory.
pub record IsReadFor (f read : FileState) (d : Desc) (request : Op) : Type 0 where
  pub rest : IsReadOn f read
  pub still : length read.content.bytes ≡ length f.content.bytes
  pub nothing : HasNeeded f.content d request → read ≡ f
  pub refused : (e : Errno) → file_refusal f.content.bytes d request ≡ Some e → read ≡ f

-- the excuse is for what a read of blocks refused: a fault of the device, or want of memory
abbrev pub is_of_read : Excuse → Bool
is_of_read excuse.Memory = true
is_of_read (excuse.Device fault) = true
is_of_read _ = false

-- Why a request that isn't refused is excused. Either what it needs is in memory, and its cause is in the pool and the file's runs, or
-- memory was wanting, whichever bytes the file may have; or a block that it needs wasn't in memory, and couldn't be read.
pub data IsServeCause (f read : FileState) (pool : BlockSet) (d : Desc) (request : Op) (x : Excuse) : Type 0 where
  Applied : ((bytes : List ℕ) → IsContentOf read.content bytes → IsExcusedFor (whole_as bytes read) d request pool x) → IsServeCause f read pool d request x
  Unread : file_refusal f.content.bytes d request ≡ None → (HasNeeded f.content d request → ⊥) → is_of_read x ≡ true → IsServeCause f read pool d request x
