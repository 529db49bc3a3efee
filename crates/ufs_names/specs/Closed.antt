-- What a server knows of files that a path names and no client has open.
use Rattle.std.specs.Prelude.{ℕ, ◌≡◌, Option, Some, None, true, false, replicate}
use Rattle.std.specs.FinMap as map
use Rattle.ufs_name_tree.specs.NameTable.{NameTable, file_at}
use Rattle.ufs_names.specs.NamesPart.{Holdings}
use Rattle.ufs_names.specs.declared.holding.Holding.{Holding}

-- what is known of a file that a path names and no client has open
abbrev pub closed_file : ℕ → Holding
closed_file inode = record { inode = inode; linked = true; clients = replicate 16 false }

-- This is known of just the files that have numbers.
pub record AreClosed (n : NameTable) (held : Holdings) : Type 0 where
  pub each : (inode file : ℕ) → file_at n inode ≡ Some file → map.get held file ≡ Some (closed_file inode)
  pub only : (file : ℕ) (h : Holding) → map.get held file ≡ Some h → file_at n h.inode ≡ Some file

-- with the inode's file among them, if it is one
abbrev pub with_closed : Holdings → Option ℕ → ℕ → Holdings
with_closed held None inode = held
with_closed held (Some file) inode = map.insert held file (closed_file inode)
