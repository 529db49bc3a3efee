-- The descriptors of clients, and how a path is opened.
use Rattle.std.specs.Prelude.{ℕ, ◌+◌, ◌-◌, Bool, false, ◌&&◌, not, nat_lt, if◌then◌else◌, Option, Some, None, is_some, unwrap_or, zero, suc, ℤ, pos, negsuc}
use Rattle.std.specs.FinMap as map
use Rattle.ufs_base.specs.declared.limits.TheConstants.{FIRST_FD, MAX_FDS}
use Rattle.ufs_model.specs.PosixTree.{PosixTree, Fds, desc_at}
use Rattle.ufs_model.specs.declared.data.Desc.{Desc}
use Rattle.ufs_model.specs.declared.data.Whence.{Whence}
use Rattle.ufs_model.specs.declared.data.Whence.TheVariants as whence

abbrev pub free_from : Fds → ℕ → ℕ → ℕ → Option ℕ
free_from fds client fd zero = None
free_from fds client fd (suc count) = if is_some (map.get fds (client, fd)) then free_from fds client (fd + 1) count else Some fd

-- the lowest free one of those that an `open` gives out
unfoldable pub lowest_free : Fds → ℕ → Option ℕ
lowest_free fds client = free_from fds client FIRST_FD MAX_FDS

-- a descriptor that isn't open, which allows nothing
abbrev pub closed : Desc
closed = record { file = None; at = 0; read = false; write = false; append = false }

-- what a client's descriptor stands for
abbrev pub opened : PosixTree → ℕ → ℕ → Desc
opened t client fd = unwrap_or (desc_at t client fd) closed

abbrev pub with_offset : Desc → ℕ → Desc
with_offset d at = record d { at = at }

-- ---- how a path is opened

pub record Mode : Type 0 where
  pub read : Bool
  pub write : Bool
  pub creat : Bool
  pub excl : Bool
  pub trunc : Bool
  pub append : Bool

-- the mode of an `open` with these flags
abbrev pub mode_of_open : Bool → Bool → Bool → Bool → Bool → Bool → Mode
mode_of_open read write creat excl trunc append = record { read = read; write = write; creat = creat; excl = excl; trunc = trunc; append = append }

-- `excl` goes with `creat`, and `trunc` with leave to write
abbrev pub is_mode : Mode → Bool
is_mode m = not (m.excl && not m.creat) && not (m.trunc && not m.write)

abbrev pub desc_of : Mode → Option ℕ → Desc
desc_of m file = record { file = file; at = 0; read = m.read; write = m.write; append = m.append }

-- ---- offsets

-- the greatest offset
abbrev pub max_offset : ℕ
max_offset = 1099511627775

-- so far on, or back; none below 0
abbrev pub moved_by : ℕ → ℤ → Option ℕ
moved_by at (pos n) = Some (at + n)
moved_by at (negsuc n) = if nat_lt n at then Some (at - (n + 1)) else None

-- from the start, from here, or from the end of a file of that size
abbrev pub start_of : Whence → Desc → ℕ → ℕ
start_of whence.Set d size = 0
start_of whence.Cur d size = d.at
start_of whence.End d size = size

-- where a `seek` leads
abbrev pub seek_to : Whence → ℤ → Desc → ℕ → Option ℕ
seek_to from by d size = moved_by (start_of from d size) by

-- an offset, and none past the greatest
abbrev pub is_offset : Option ℕ → Bool
is_offset None = false
is_offset (Some at) = not (nat_lt max_offset at)
