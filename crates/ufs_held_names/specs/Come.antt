-- What a request of the names comes to, at a server that holds them.
use Rattle.std.specs.Prelude.{ℕ, suc, ◌≡◌, ◌≤◌, ◌+◌, ◌⊎◌, cond, is_some, IfSome, IsSome, Option, Some, None, true, false}
use Rattle.std.specs.FinMap as map
use Rattle.ufs_bitmap.specs.Blocks.{BlockSet}
use Rattle.ufs_file.specs.Hand.{IsEntryOf}
use Rattle.ufs_files.specs.Files.{Files}
use Rattle.ufs_client.specs.Played.{tells_fault}
use Rattle.ufs_model.specs.Asks.{fd_told}
use Rattle.ufs_model.specs.History.{is_excused}
use Rattle.ufs_model.specs.declared.data.Actor.{Actor}
use Rattle.ufs_model.specs.declared.data.Ask.{Ask}
use Rattle.ufs_model.specs.declared.data.Desc.{Desc}
use Rattle.ufs_model.specs.declared.data.Entry.{Entry}
use Rattle.ufs_model.specs.declared.data.Excuse.{Excuse}
use Rattle.ufs_model.specs.declared.data.Reply.TheVariants as reply
use Rattle.ufs_names.specs.Calls.{no_bytes}
use Rattle.ufs_names.specs.Space.{IsCause}
use Rattle.ufs_promise_laws.specs.Parts.{Commits}
use Rattle.ufs_hand_laws.specs.Parts.{ClientPart}
use Rattle.ufs_joint.specs.Cells.{FileCell, NamesCell, View}
use Rattle.ufs_noted.specs.Noted.{HasServedWith, MayLack, one_file, one_known}
use Rattle.ufs_held.specs.Asking.{IsGuest}
use Rattle.ufs_held_names.specs.Asked.{IsNamedApart, number_of}
use Rattle.ufs_held_names.specs.Asking.{IsAnsweredNames}
use Rattle.ufs_held_names.specs.Drawn.{names_then, new_cell}
use Rattle.ufs_held_names.specs.HeldNames.{noted_in}

-- ---- files that are held

-- the one file, or none
abbrev pub files_of : Option FileCell → Files
files_of None = map.empty
files_of (Some c) = one_file c.value.file.file (Some c.value.file)

-- and what is known of its commits
abbrev pub commits_of : Option FileCell → Commits
commits_of None = map.empty
commits_of (Some c) = one_known c.value.file.file (Some (record { log = c.value.log; dropped = c.value.dropped }))

-- the touched file, if it is still there, or the one that was made
abbrev pub files_then : Option FileCell → Option FileCell → Files
files_then None made = files_of made
files_then (Some c) made = files_of (Some c)

-- The file is still there: its cell has another value, and changed by this ticket, and all else of it is as it was.
abbrev pub IsStillThere : ℕ → Option FileCell → FileCell → Type 0
IsStillThere ticket None c = ⊥
IsStillThere ticket (Some was) c = (c ≡ record was { value = c.value; changed = suc ticket }) × (c.value.file.file ≡ was.value.file.file)

-- The file is new: it has the next number and no byte, changed by this ticket, and of its commits nothing is known.
abbrev pub IsNewborn : ℕ → ℕ → FileCell → Type 0
IsNewborn next ticket c = c ≡ new_cell (no_bytes next c.value.file.inode) ticket

-- ---- the request

-- All that is told of it.
pub record HasCome (ask : Ask) (by : Actor) (was now : NamesCell) (old new : BlockSet) (touched still young : Option FileCell) (e : Entry) (d : Option Desc) (before back : View) : Type 0 where
  pub entry : IsEntryOf ask by e.ticket e
  pub guest : (part : ClientPart) (n : ℕ) → IsGuest ask.client part n old before → IsNamedApart n was.value.next touched → (after : ClientPart) × IsAnsweredNames part e d after × IsGuest ask.client after n new back
  pub served : is_excused e.reply ≡ false → HasServedWith ask (noted_in was) (noted_in now) (files_of touched) (files_then still young) (commits_of touched) (commits_of still) old new (number_of touched) e.reply d
  pub names : is_excused e.reply ≡ false → now ≡ names_then (noted_in now) e.ticket was
  pub file : is_excused e.reply ≡ false → IfSome still (IsStillThere e.ticket touched)
  pub made : IfSome young (IsNewborn was.value.next e.ticket)
  -- no file is made where the touched one is still there
  pub not_both : IsSome still → young ≡ None
  -- each live file was live before, or is the one that was made; and the touched one is live no more where it isn't still there
  pub lives : (f : ℕ) → IsSome (map.get now.value.held f) → IsSome (map.get was.value.held f) ⊎ (number_of young ≡ Some f)
  -- the next file number is one more where a file was made
  pub next : now.value.next ≡ cond (is_some young) (was.value.next + 1) was.value.next
  pub gone : is_excused e.reply ≡ false → still ≡ None → IfSome touched (λ c. map.get now.value.held c.value.file.file ≡ None)
  pub cause : (x : Excuse) → e.reply ≡ reply.Excused x → (lent : BlockSet) × MayLack old lent x × IsCause was.value.tree.dirs lent ask.op x
  pub kept : is_excused e.reply ≡ true → now ≡ was
  pub kept_file : is_excused e.reply ≡ true → still ≡ touched
  pub none_made : is_excused e.reply ≡ true → young ≡ None
  pub untaken : is_excused e.reply ≡ true → new ≡ old
  pub desc : is_excused e.reply ≡ true → d ≡ ask.desc
  -- a request without a descriptor is told none
  pub no_desc : fd_told e.op e.reply ≡ None → d ≡ None
  pub faultless : tells_fault e.reply ≡ false
  pub faults : back.faults ≡ before.faults
  pub later : before.seen ≤ e.ticket
  pub seen : back.seen ≡ suc e.ticket
