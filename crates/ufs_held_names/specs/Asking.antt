-- A client asks a request of the names, and is answered.
use Rattle.std.specs.Prelude.{ℕ, ◌≡◌, ◌≢◌, ◌<◌, true, false, [], ◌∷◌, ◌++◌, length, Option, Some, None}
use Rattle.std.specs.FinMap as fin
use Rattle.ufs_model.specs.Asks.{IsAsk, fd_told}
use Rattle.ufs_model.specs.History.{is_excused}
use Rattle.ufs_model.specs.PosixTree.{PosixTree, desc_at}
use Rattle.ufs_model.specs.declared.data.Ask.{Ask}
use Rattle.ufs_model.specs.declared.data.Desc.{Desc}
use Rattle.ufs_model.specs.declared.data.Entry.{Entry}
use Rattle.ufs_names.specs.Calls.{IsOfNames}
use Rattle.ufs_crash_laws.specs.Changes.{asks_commit}
use Rattle.ufs_hand_laws.specs.Parts.{ClientPart, OwnFds}
use Rattle.ufs_joint.specs.Servers.{NeedsServer}

-- What is told with the request is so in each tree that has the client's descriptors.
abbrev pub IsToldBy : ClientPart → Ask → Type 0
IsToldBy part ask = (t : PosixTree) → ((fd : ℕ) → fin.get part.fds fd ≡ desc_at t ask.client fd) → IsAsk t ask

-- The client asked the request, which is one of the names that commits nothing and which it doesn't answer itself; and what is told with
-- it is so.
pub record AsksNames (part : ClientPart) (ask : Ask) : Type 0 where
  pub low : ask.client < 16
  pub asked : part.asked ≡ Some ask.op
  pub seq : ask.seq ≡ length part.entries
  pub kind : IsOfNames ask
  pub no_commit : asks_commit ask.op ≡ false
  pub told : IsToldBy part ask
  pub needs : NeedsServer part.fds ask.client ask.op

-- It has one more entry, and asks nothing. An excuse leaves its descriptors as they were; else the one that the request names or opens is
-- that, or is gone, and the others are as they were.
pub record IsAnsweredNames (part : ClientPart) (entry : Entry) (desc : Option Desc) (after : ClientPart) : Type 0 where
  pub fds : OwnFds
  pub is : after ≡ record part { entries = part.entries ++ entry ∷ []; fds = fds; asked = None }
  pub stay : is_excused entry.reply ≡ true → fds ≡ part.fds
  pub this : is_excused entry.reply ≡ false → (fd : ℕ) → fd_told entry.op entry.reply ≡ Some fd → fin.get fds fd ≡ desc
  pub others : is_excused entry.reply ≡ false → (fd : ℕ) → fd_told entry.op entry.reply ≢ Some fd → fin.get fds fd ≡ fin.get part.fds fd
