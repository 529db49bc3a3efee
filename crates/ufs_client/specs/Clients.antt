-- A client's descriptors in a tree.
use Rattle.std.specs.Prelude.{ℕ, ◌≤◌, IsSome}
use Rattle.std.specs.FinMap as map
use Rattle.ufs_base.specs.declared.limits.TheConstants.{FIRST_FD, LAST_FD}
use Rattle.ufs_model.specs.PosixTree.{Fds}

-- the client's open descriptors are some of those that an `open` gives out
abbrev pub AreRanged : Fds → ℕ → Type 0
AreRanged fds client = (fd : ℕ) → IsSome (map.get fds (client, fd)) → (FIRST_FD ≤ fd) × (fd ≤ LAST_FD)
