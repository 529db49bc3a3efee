-- What a session has told its clients.
use Rattle.std.specs.Prelude.{ℕ, ◌≡◌, List, [], Bool, true, false, unwrap_or, slice_get}
use Rattle.ufs_model.specs.History.{DoTicketsRise, entries_of}
use Rattle.ufs_model.specs.declared.data.Entry.{Entry}
use Rattle.ufs_model.specs.declared.data.Excuse.TheVariants as excuse
use Rattle.ufs_model.specs.declared.data.Reply.{Reply}
use Rattle.ufs_model.specs.declared.data.Reply.TheVariants as reply

-- a client's transcript; one that isn't there has no entry
abbrev pub transcript : List (List Entry) → ℕ → List Entry
transcript told client = unwrap_or (slice_get told client) []

-- the reply tells a fault of a device, or that the server stopped for one
abbrev pub tells_fault : Reply → Bool
tells_fault (reply.Excused (excuse.Device fault)) = true
tells_fault (reply.Excused (excuse.Stopped fault)) = true
tells_fault _ = false

-- The history is the transcripts merged by ticket.
pub record IsMerged (told : List (List Entry)) (history : List Entry) : Type 0 where
  pub rising : DoTicketsRise history
  pub each : (client : ℕ) → entries_of client history ≡ transcript told client
