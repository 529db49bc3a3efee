-- The geometry of the tests' images.
use Rattle.ufs_layout.specs.declared.geometry.Geometry.{Geometry}

abbrev pub small : Geometry
small = record { blocks = 256; inodes = 32; journal = 64 }
