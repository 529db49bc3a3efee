-- Reads, one after the other.
use Rattle.std.proofs.Common.{refl, ◌∙◌, Bool}
use Rattle.ufs_disk.specs.Disk.{IsImage}
use Rattle.ufs_disk.specs.Moments.{Moments}
use Rattle.ufs_disk.proofs.Runs.{started, goes_on_quietly, still, still_joined}
use Rattle.ufs_metadata.specs.Reading.{IsReadOnly}

pub read_none : (keeps : Bool) (now : Moments) → IsReadOnly keeps now now
read_none keeps now = record { content = refl; crash = started keeps (IsImage now.state) now (λ image left. left); still = still keeps now }

pub read_more : (keeps : Bool) (first mid new : Moments) → IsReadOnly keeps first mid → IsReadOnly keeps mid new → IsReadOnly keeps first new
read_more keeps first mid new front back = record {
  content = back.content ∙ front.content;
  crash = goes_on_quietly keeps (IsImage first.state) first mid new front.crash back.crash;
  still = still_joined keeps first mid new front.still back.still;
}
