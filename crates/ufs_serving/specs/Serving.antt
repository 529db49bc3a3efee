-- What a server does with a request on a file that it has.
use Rattle.std.specs.Prelude.{ℕ, suc, ◌+◌, ◌≡◌, ◌≤◌, Bool, true, false, max, List, Option, Some, None}
use Rattle.std.specs.FinSet as set
use Rattle.ufs_bitmap.specs.Blocks.{BlockSet}
use Rattle.ufs_bitmap.specs.Taking.{set_of}
use Rattle.ufs_file_commits.specs.Serving.{IsServedKept}
use Rattle.ufs_file_commits.specs.State.{file_committed, whole_of}
use Rattle.ufs_file.specs.Content.{IsContentOf}
use Rattle.ufs_file.specs.Hand.{FileState, IsEntryOf, missing}
use Rattle.ufs_model.specs.FileCalls.{file_refusal, file_step}
use Rattle.ufs_model.specs.History.{is_excused}
use Rattle.ufs_model.specs.declared.data.Actor.{Actor}
use Rattle.ufs_model.specs.declared.data.Ask.{Ask}
use Rattle.ufs_model.specs.declared.data.Desc.{Desc}
use Rattle.ufs_model.specs.declared.data.Entry.{Entry}
use Rattle.ufs_model.specs.declared.data.Excuse.{Excuse}
use Rattle.ufs_model.specs.declared.data.Excuse.TheVariants as excuse
use Rattle.ufs_model.specs.declared.data.Reply.TheVariants as reply
use Rattle.ufs_crash_laws.specs.Changes.{asks_commit}
use Rattle.ufs_joint.specs.Cells.{FileCell, View}
use Rattle.ufs_turns.specs.Lent.{AreTold}
use Rattle.ufs_held.specs.Asking.{IsSyncReply}
use Rattle.ufs_held.specs.Serving.{IsReadFor, IsServeCause, read_as}
use Rattle.ufs_held.specs.Stopping.{ExcusesByStop, RestsByReply, StopsByReply}
use Rattle.ufs_msg.specs.Answers.{Told}
use Rattle.ufs_serving.specs.Pools.{HasAllFree, IsAtRest, IsWithin}

-- A request that commits nothing was applied or excused, by a pool that had at least the server's blocks; the file's cell goes on by it.
pub record IsServedAt (before after : Option View) (c d : FileCell) (pool behind : BlockSet) (ask : Ask) (entry : Entry) (desc : Option Desc) : Type 0 where
  -- the pool that the request found, and what it left
  pub found : BlockSet
  pub left : BlockSet
  pub own : IsWithin pool found
  -- it got no more than were wanting, and 64
  pub spare : (x : Desc) → ask.desc ≡ Some x → file_refusal c.value.file.content.bytes x ask.op ≡ None → set.len found ≤ max (set.len pool) (missing c.value.file x ask.op + 64)
  pub rests : IsAtRest left behind
  -- no block is lost: the file has those that the request took
  pub conserved : AreTold before after (λ had has. set.union had pool ≡ set.union (set.union has behind) (set.difference found left))
  pub halts : RestsByReply before after entry.reply
  pub served : is_excused entry.reply ≡ false → (x : Desc) → ask.desc ≡ Some x → (read : FileState) × IsReadFor c.value.file read x ask.op × ((bytes : List ℕ) → IsContentOf read.content bytes
      → IsServedKept (whole_of bytes (read_as read c.value)) (whole_of (file_step bytes x ask.op).bytes d.value) found left x ask.op entry.reply desc)
  pub cause : (x : Excuse) → entry.reply ≡ reply.Excused x → (e : Desc) → ask.desc ≡ Some e → IsServeCause c.value.file d.value.file found e ask.op x
  -- where blocks are wanting, it had all that were unassigned
  pub short : (need had : ℕ) → entry.reply ≡ reply.Excused (excuse.Blocks need had) → HasAllFree before found
  pub read : is_excused entry.reply ≡ true → (x : Desc) → ask.desc ≡ Some x → IsReadFor c.value.file d.value.file x ask.op
  pub kept : is_excused entry.reply ≡ true → d ≡ record c { value = read_as d.value.file c.value }
  pub untaken : is_excused entry.reply ≡ true → left ≡ found
  pub same_desc : is_excused entry.reply ≡ true → desc ≡ ask.desc
  pub changed : is_excused entry.reply ≡ false → d.changed ≡ suc entry.ticket
  pub known : d.known ≡ c.known

-- An `fsync` committed the file, or the store refused it. The pool is as it was.
pub record IsSyncedAt (visible : Bool) (before after : Option View) (c d : FileCell) (pool behind : BlockSet) (ask : Ask) (entry : Entry) (desc : Option Desc) : Type 0 where
  pub replied : IsSyncReply entry.reply
  pub committed : entry.reply ≡ reply.Done → d.value ≡ file_committed c.value
  pub known : entry.reply ≡ reply.Done → visible ≡ true → d.changed ≤ d.known
  pub kept : is_excused entry.reply ≡ true → d ≡ c
  pub rest : d ≡ record c { value = d.value; known = d.known }
  pub freed : entry.reply ≡ reply.Done → AreTold before after (λ had has. has ≡ set.union had (set_of c.value.dropped))
  pub unfreed : is_excused entry.reply ≡ true → AreTold before after (λ had has. has ≡ had)
  pub halts : StopsByReply before after 1 1 entry.reply
  pub halted : ExcusesByStop before entry.reply
  pub same_pool : behind ≡ pool
  pub same_desc : desc ≡ ask.desc

module _ (visible : Bool) (before after : Option View) (c d : FileCell) (pool behind : BlockSet) (ask : Ask) (entry : Entry) (desc : Option Desc) where
  abbrev pub IsDoneAt : Bool → Type 0
  IsDoneAt true = IsSyncedAt visible before after c d pool behind ask entry desc
  IsDoneAt false = IsServedAt before after c d pool behind ask entry desc

-- The server answers its entry of the request, and names itself as the file's owner.
pub record IsServedBy (visible : Bool) (before after : Option View) (by : Actor) (c d : FileCell) (pool behind : BlockSet) (ask : Ask) (told : Told) : Type 0 where
  pub of_ask : IsEntryOf ask by told.entry.ticket told.entry
  pub done : IsDoneAt visible before after c d pool behind ask told.entry told.desc (asks_commit ask.op)
  pub owner : told.owner ≡ Some by
  pub lease : told.lease ≡ None
  pub number : d.value.file.file ≡ c.value.file.file
  pub born : d.born ≡ c.born
