-- An `fsync` of a file leaves its number.
use Rattle.std.proofs.Common.{◌≡◌, ◌⊎◌, inl, inr, Bool, true, Option, ap}
use Rattle.ufs_bitmap.specs.Blocks.{BlockSet}
use Rattle.ufs_file_commits.specs.State.{DurableState}
use Rattle.ufs_held_names.specs.HeldNames.{AreCommitted}
use Rattle.ufs_joint.specs.Cells.{FileCell, NamesCell, View}
use Rattle.ufs_model.specs.History.{is_excused}
use Rattle.ufs_model.specs.declared.data.Ask.{Ask}
use Rattle.ufs_model.specs.declared.data.Desc.{Desc}
use Rattle.ufs_model.specs.declared.data.Entry.{Entry}
use Rattle.ufs_model.specs.declared.data.Reply.TheVariants as reply
use Rattle.ufs_at_primary.specs.Here.{IsSyncedHere}
use Rattle.ufs_at_primary.proofs.AllTold.{kind_of}

pub synced_number : (visible : Bool) (before after : Option View) (old new : NamesCell) (c d : FileCell) (pool behind : BlockSet) (ask : Ask) (entry : Entry) (desc : Option Desc) → IsSyncedHere visible before after old new c d pool behind ask entry desc
    → d.value.file.file ≡ c.value.file.file
synced_number visible before after old new c d pool behind ask entry desc done = by (kind_of entry.reply done.replied)
  where
    failed : ((new ≡ old) × (d ≡ c)) ⊎ (AreCommitted visible old new × (d ≡ record c { born = true })) → d.value.file.file ≡ c.value.file.file
    failed (inl same) = ap (λ (q : FileCell). q.value.file.file) same.1
    failed (inr told) = ap (λ (q : FileCell). q.value.file.file) told.1

    by : (entry.reply ≡ reply.Done) ⊎ (is_excused entry.reply ≡ true) → d.value.file.file ≡ c.value.file.file
    by (inl is) = ap (λ (q : DurableState). q.file.file) (done.committed is)
    by (inr is) = failed (done.short is)
