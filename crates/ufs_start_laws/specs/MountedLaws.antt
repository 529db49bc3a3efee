-- A server's start is what its image has.
use Rattle.std.specs.Prelude.{ℕ}
use Rattle.ufs_base.specs.Images.{Image}
use Rattle.ufs_start_laws.specs.Parts.{AllAreNamed, IsOpened}
use Rattle.ufs_start.specs.Begun.{IsBegun, volume_under}
use Rattle.ufs_start.specs.declared.parts.Start.{Start}

-- Its names, files and free blocks are those of the image under its superblock.
abbrev pub StartsAreOpened : Type 0
StartsAreOpened = (sectors : ℕ) (disk : Image) (s : Start) → IsBegun sectors disk s → IsOpened sectors disk (volume_under s.superblock disk) s.names s.files s.free.free

-- Each file of the image is one that its names tell.
abbrev pub StartsAreNamed : Type 0
StartsAreNamed = (sectors : ℕ) (disk : Image) (s : Start) → IsBegun sectors disk s → AllAreNamed (volume_under s.superblock disk) s.names
