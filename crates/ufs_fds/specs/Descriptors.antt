-- Tables of descriptors: those of one client.
use Rattle.std.specs.Prelude.{ℕ, ◌≤◌, ◌≡◌, IsSome}
use Rattle.std.specs.Ordering.{nat_cmp}
use Rattle.std.specs.FinMap as map
use Rattle.ufs_base.specs.declared.limits.TheConstants.{FIRST_FD, LAST_FD}
use Rattle.ufs_model.specs.PosixTree.{Fds}
use Rattle.ufs_model.specs.declared.data.Desc.{Desc}

abbrev pub Descs : Type 0
Descs = map.FinMap nat_cmp Desc

-- each open descriptor is one of those that an `open` gives out
abbrev pub AreInRange : Descs → Type 0
AreInRange descs = (fd : ℕ) → IsSome (map.get descs fd) → (FIRST_FD ≤ fd) × (fd ≤ LAST_FD)

-- the table has a client's descriptors, of those that all clients of a tree have
abbrev pub AreOf : Fds → ℕ → Descs → Type 0
AreOf fds client descs = (fd : ℕ) → map.get fds (client, fd) ≡ map.get descs fd
