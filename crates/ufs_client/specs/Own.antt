-- Which requests a client answers itself, and who serves a history.
use Rattle.std.specs.Prelude.{ℕ, ◌≡◌, ◌||◌, Bool, true, false, List, [], ◌∷◌, Option, is_some, if◌then◌else◌}
use Rattle.ufs_model.specs.Asks.{IsDescAfter, fd_told}
use Rattle.ufs_model.specs.History.{goes_on}
use Rattle.ufs_model.specs.Posix.{posix}
use Rattle.ufs_model.specs.PosixTree.{PosixTree}
use Rattle.ufs_model.specs.Refusals.{own_refusal}
use Rattle.ufs_model.specs.declared.data.Actor.{Actor}
use Rattle.ufs_model.specs.declared.data.Actor.TheVariants.{Client, Primary}
use Rattle.ufs_model.specs.declared.data.Desc.{Desc}
use Rattle.ufs_model.specs.declared.data.Entry.{Entry}
use Rattle.ufs_model.specs.declared.data.Op.{Op}
use Rattle.ufs_model.specs.declared.data.Op.TheVariants as op
use Rattle.ufs_model.specs.declared.data.Reply.{Reply}
use Rattle.ufs_model.specs.declared.data.Whence.{Whence}
use Rattle.ufs_model.specs.declared.data.Whence.TheVariants as whence

-- a place that doesn't hang on the file's size
abbrev pub is_known : Whence → Bool
is_known whence.Set = true
is_known whence.Cur = true
is_known whence.End = false

-- a `seek` from such a place
abbrev pub is_own_seek : Op → Bool
is_own_seek (op.Seek fd from by) = is_known from
is_own_seek _ = false

-- The client answers itself what is refused by flags, descriptor or text, and such a `seek`: it needs nothing but its descriptors.
abbrev pub is_own : PosixTree → ℕ → Op → Bool
is_own t client request = is_some (own_refusal t client request) || is_own_seek request

-- The reply is POSIX's. Of the tree no more changes than the client's own descriptor, which stands for this afterwards.
pub record IsOwnAnswer (t : PosixTree) (client : ℕ) (request : Op) (reply : Reply) (desc : Option Desc) : Type 0 where
  pub replied : reply ≡ (posix t client request).1
  pub tree : (posix t client request).0 ≡ record t { fds = (posix t client request).0.fds }
  pub told : IsDescAfter t.fds (posix t client request).0.fds client (fd_told request reply) desc

-- ---- a history

-- who serves a client's request
abbrev pub server_of : PosixTree → ℕ → Op → Actor
server_of t client request = if is_own t client request then Client client else Primary

-- Each entry was served by its client, where that answers it itself on the tree as it was then, and else by the primary server.
abbrev pub AreServedFrom : PosixTree → List Entry → Type 0
AreServedFrom t [] = Unit {0}
AreServedFrom t (entry ∷ history) = (entry.by ≡ server_of t entry.client entry.op) × AreServedFrom (goes_on t entry) history
