-- A file with what is known of its commits, as it is taken in and given back.
use Rattle.std.specs.Prelude.{◌≡◌, [], Option, Some, None}
use Rattle.std.specs.FinSet as set
use Rattle.ufs_bitmap.specs.Blocks.{BlockSet}
use Rattle.ufs_bitmap.specs.Taking.{set_of}
use Rattle.ufs_file_commits.specs.State.{CommitState}
use Rattle.ufs_file.specs.Hand.{FileState}
use Rattle.ufs_promise_laws.specs.Serving.{emptied_commits}
use Rattle.ufs_noted.specs.declared.known.KnownFile.{KnownFile}

abbrev pub file_in : Option KnownFile → Option FileState
file_in None = None
file_in (Some k) = Some k.hand

abbrev pub commits_in : Option KnownFile → Option CommitState
commits_in None = None
commits_in (Some k) = Some k.commits

-- What is known of the commits of the file behind a request: that it was emptied, where it has neither a block nor a byte.
pub record IsKnownThen (file : FileState) (was commits : CommitState) : Type 0 where
  pub emptied : file.extents ≡ [] → file.content.bytes ≡ [] → commits ≡ emptied_commits was
  pub kept : (file.extents ≡ [] → file.content.bytes ≡ [] → ⊥) → commits ≡ was

-- What is known of the file then, if it is still there; and where it isn't, all that it had dropped is dropped of the names.
abbrev pub IsSettledWith : CommitState → BlockSet → BlockSet → Option KnownFile → Type 0
IsSettledWith was before dropped None = dropped ≡ set.union before (set_of was.dropped)
IsSettledWith was before dropped (Some k) = (dropped ≡ before) × IsKnownThen k.hand was k.commits
