-- What the primary does with a request of the names.
use Rattle.std.specs.Prelude.{ℕ, ◌+◌, ◌≡◌, ◌≤◌, ◌⊎◌, IfSome, IsSome, cond, is_some, max, true, false, Option, Some, None}
use Rattle.std.specs.FinMap as fin
use Rattle.std.specs.FinSet as set
use Rattle.ufs_bitmap.specs.Blocks.{BlockSet}
use Rattle.ufs_client.specs.Played.{tells_fault}
use Rattle.ufs_file.specs.Hand.{IsEntryOf}
use Rattle.ufs_model.specs.Asks.{fd_told, file_in}
use Rattle.ufs_model.specs.History.{is_excused}
use Rattle.ufs_model.specs.declared.data.Actor.{Actor}
use Rattle.ufs_model.specs.declared.data.Actor.TheVariants as actor
use Rattle.ufs_model.specs.declared.data.Ask.{Ask}
use Rattle.ufs_model.specs.declared.data.Desc.{Desc}
use Rattle.ufs_model.specs.declared.data.Entry.{Entry}
use Rattle.ufs_model.specs.declared.data.Excuse.{Excuse}
use Rattle.ufs_model.specs.declared.data.Reply.TheVariants as reply
use Rattle.ufs_names.specs.Space.{IsCause}
use Rattle.ufs_owner.specs.Owners.{Files, owner_at}
use Rattle.ufs_noted.specs.Noted.{HasServedWith, MayLack}
use Rattle.ufs_joint.specs.Cells.{FileCell, NamesCell, View}
use Rattle.ufs_turns.specs.Lent.{AreTold}
use Rattle.ufs_held.specs.Stopping.{RestsByReply}
use Rattle.ufs_held_names.specs.Asked.{number_of}
use Rattle.ufs_held_names.specs.Come.{IsNewborn, IsStillThere, commits_of, files_of, files_then}
use Rattle.ufs_held_names.specs.Drawn.{names_then}
use Rattle.ufs_held_names.specs.HeldNames.{noted_in}
use Rattle.ufs_home.specs.Owning.{server_named}
use Rattle.ufs_msg.specs.Answers.{Told}
use Rattle.ufs_serving.specs.Pools.{HasAllFree, IsAtRest, IsWithin}

-- It was served or excused with its one file, if it touches one, by a pool that had at least the primary's blocks: then that file is still
-- there, or it is gone; or another one was made.
pub record IsDoneByNames (before after : Option View) (old new : NamesCell) (touched still young : Option FileCell) (pool behind : BlockSet) (ask : Ask) (e : Entry) (d : Option Desc) : Type 0 where
  -- the pool that the request found, and what it left
  pub found : BlockSet
  pub left : BlockSet
  pub own : IsWithin pool found
  -- a name wants one block at most, and it got no more than 64 besides
  pub spare : set.len found ≤ max (set.len pool) (1 + 64)
  pub rests : IsAtRest left behind
  -- where it found no block, none was unassigned
  pub short : found ≡ set.empty → HasAllFree before found
  pub served : is_excused e.reply ≡ false → HasServedWith ask (noted_in old) (noted_in new) (files_of touched) (files_then still young) (commits_of touched) (commits_of still) found left (number_of touched) e.reply d
  -- no block is lost: the names have those that the request took
  pub conserved : AreTold before after (λ had has. set.union had pool ≡ set.union (set.union has behind) (set.difference found left))
  pub telling : is_some after ≡ is_some before
  pub halts : RestsByReply before after e.reply
  -- its answer tells no fault of the device, and no stop
  pub calm : tells_fault e.reply ≡ false
  pub names : is_excused e.reply ≡ false → new ≡ names_then (noted_in new) e.ticket old
  pub file : is_excused e.reply ≡ false → IfSome still (IsStillThere e.ticket touched)
  pub made : IfSome young (IsNewborn old.value.next e.ticket)
  -- no file is made where the touched one is still there
  pub not_both : IsSome still → young ≡ None
  pub lives : (f : ℕ) → IsSome (fin.get new.value.held f) → IsSome (fin.get old.value.held f) ⊎ (number_of young ≡ Some f)
  -- the next file number is one more where a file was made
  pub next : new.value.next ≡ cond (is_some young) (old.value.next + 1) old.value.next
  pub gone : is_excused e.reply ≡ false → still ≡ None → IfSome touched (λ c. fin.get new.value.held c.value.file.file ≡ None)
  pub cause : (x : Excuse) → e.reply ≡ reply.Excused x → (lent : BlockSet) × MayLack found lent x × IsCause old.value.tree.dirs lent ask.op x
  pub kept : is_excused e.reply ≡ true → new ≡ old
  pub kept_file : is_excused e.reply ≡ true → still ≡ touched
  pub none_made : is_excused e.reply ≡ true → young ≡ None
  pub untaken : is_excused e.reply ≡ true → left ≡ found
  pub same_desc : is_excused e.reply ≡ true → d ≡ ask.desc
  -- a request without a descriptor is told none
  pub no_desc : fd_told e.op e.reply ≡ None → d ≡ None

-- ---- what is told

-- Who has the file that its descriptor stands for, or stood for before.
abbrev pub server_at : Files → Option ℕ → Option Actor
server_at owners None = None
server_at owners (Some file) = Some (server_named (owner_at owners file))

abbrev pub server_told : Files → Option ℕ → Option ℕ → Option Actor
server_told owners before None = server_at owners before
server_told owners before (Some file) = server_at owners (Some file)

-- The primary answers its entry of the request, and names the owner of its descriptor's file.
pub record IsNamesServed (before after : Option View) (owners : Files) (old new : NamesCell) (touched still young : Option FileCell) (pool behind : BlockSet) (ask : Ask) (told : Told) : Type 0 where
  pub of_ask : IsEntryOf ask actor.Primary told.entry.ticket told.entry
  pub done : IsDoneByNames before after old new touched still young pool behind ask told.entry told.desc
  pub owner : told.owner ≡ server_told owners (file_in ask.desc) (file_in told.desc)
  pub lease : told.lease ≡ None
