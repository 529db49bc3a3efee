-- What a disk holds that has only its first bytes.
use Rattle.std.specs.Prelude.{ℕ, ◌*◌, List}
use Rattle.ufs_front.specs.Padded.{padded}
use Rattle.ufs_front.specs.declared.front.FrontDisk.{FrontDisk}

-- all its bytes
abbrev pub bytes_of : FrontDisk → List ℕ
bytes_of d = padded (512 * d.sectors) d.held.items
