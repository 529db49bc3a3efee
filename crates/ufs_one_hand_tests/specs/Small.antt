-- A session that starts from the root alone, and four answers to a `sync`.
use Rattle.std.specs.Prelude.{ℕ}
use Rattle.ufs_model.specs.Start.{path_root}
use Rattle.ufs_model.specs.declared.data.Actor.TheVariants.{Primary}
use Rattle.ufs_model.specs.declared.data.Excuse.TheVariants.{Memory, Device}
use Rattle.ufs_model.specs.declared.data.Op.TheVariants.{Sync}
use Rattle.ufs_model.specs.declared.data.Reply.{Reply}
use Rattle.ufs_model.specs.declared.data.Reply.TheVariants.{Done, Excused}
use Rattle.ufs_one_hand.specs.OneHand.{start_with}
use Rattle.ufs_hand_laws.specs.Parts.{Start}
use Rattle.ufs_hand_laws.specs.declared.fresh.Fresh.{Fresh}

abbrev pub bare : Start
bare = start_with path_root

abbrev pub sync_of : ℕ → ℕ → Reply → Fresh
sync_of client seq reply = record { client = client; seq = seq; by = Primary; op = Sync; reply = reply }

abbrev pub excused_sync : Fresh
excused_sync = sync_of 0 0 (Excused Memory)

abbrev pub done_sync : Fresh
done_sync = sync_of 1 0 Done

abbrev pub unread_sync : Fresh
unread_sync = sync_of 1 1 (Excused (Device 5))

abbrev pub failed_sync : Fresh
failed_sync = sync_of 0 1 (Excused (Device 7))
