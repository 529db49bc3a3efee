-- A session of two clients over the root alone.
use Rattle.std.specs.Prelude.{ℕ, false, [], ◌∷◌, None}
use Rattle.ufs_joint.specs.Cells.{Start, View, given_of, kept_of}
use Rattle.ufs_joint.specs.Marks.{asking}
use Rattle.ufs_joint_tests.specs.Small.{small_start, small_view}
use Rattle.ufs_model.specs.declared.data.Ask.{Ask}
use Rattle.ufs_model.specs.declared.data.Op.TheVariants.{Sync}
use Rattle.ufs_model.specs.declared.data.PartName.TheVariants.{Client}
use Rattle.ufs_names.specs.NamesPart.{NamesPart}
use Rattle.ufs_hand_laws.specs.Whole.{idle_asked, idle_client}
use Rattle.ufs_store.specs.State.{StoreState}

abbrev pub two_view : NamesPart → StoreState → View
two_view n s = record (small_view n s) { clients = (0, idle_client) ∷ (1, idle_client) ∷ []; asked = (0, idle_asked) ∷ (1, idle_asked) ∷ [] }

abbrev pub two_start : NamesPart → StoreState → Start
two_start n s = record (small_start n s) { view = two_view n s }

-- a client's first request
abbrev pub sync_of : ℕ → Ask
sync_of client = record { client = client; seq = 0; op = Sync; desc = None; fd = 0; last = false }

-- Both have asked,
abbrev pub both_asked : NamesPart → StoreState → ℕ → ℕ → View
both_asked n s one other = asking other 1 Sync idle_client (asking one 0 Sync idle_client (two_view n s))

-- the first is split off,
abbrev pub second_left : NamesPart → StoreState → ℕ → ℕ → View
second_left n s one other = kept_of (Client 0) (both_asked n s one other)

-- and so is the second.
abbrev pub none_left : NamesPart → StoreState → ℕ → ℕ → View
none_left n s one other = kept_of (Client 1) (second_left n s one other)
