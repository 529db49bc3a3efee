-- A draw of an entry that the client makes itself.
use Rattle.std.specs.Prelude.{ℕ, ◌≡◌, Option, Some, None}
use Rattle.ufs_model.specs.declared.data.Actor.TheVariants.{Client}
use Rattle.ufs_model.specs.declared.data.Ask.{Ask}
use Rattle.ufs_model.specs.declared.data.Desc.{Desc}
use Rattle.ufs_model.specs.declared.data.Entry.{Entry}
use Rattle.ufs_model.specs.declared.data.Reply.{Reply}
use Rattle.ufs_joint.specs.Cells.{View}
use Rattle.ufs_joint.specs.Draws.{Leaves}
use Rattle.ufs_hand_laws.specs.Parts.{OwnFds}
use Rattle.ufs_hand_laws.specs.declared.fresh.Fresh.{Fresh}
use Rattle.std.specs.FinMap as fin
use Rattle.ufs_model.specs.Asks.{fd_told}
use Rattle.ufs_caller.specs.Hands.{self_in}

abbrev pub with_desc : OwnFds → Option ℕ → Option Desc → OwnFds
with_desc fds None desc = fds
with_desc fds (Some fd) None = fin.remove fds fd
with_desc fds (Some fd) (Some desc) = fin.insert fds fd desc

-- the draw leaves all as it is, but for the request's descriptor, whichever the ticket
abbrev pub left_by : Fresh → Option Desc → View → ℕ → Leaves
left_by f desc v ticket = record { fds = with_desc (self_in v.clients).fds (fd_told f.op f.reply) desc; files = v.files; pools = v.pools; names = v.names }

-- the client's own entry
pub record IsMadeBy (ask : Ask) (reply : Reply) (entry : Entry) : Type 0 where
  pub client : entry.client ≡ ask.client
  pub seq : entry.seq ≡ ask.seq
  pub by : entry.by ≡ Client ask.client
  pub asked : entry.op ≡ ask.op
  pub reply' : entry.reply ≡ reply
