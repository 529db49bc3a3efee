-- With which tree a session may begin.
use Rattle.std.specs.Prelude.{ℕ, ◌≡◌, ◌+◌, ◌*◌, ◌^◌, ◌≤◌, None}
use Rattle.std.specs.FinMap as map
use Rattle.ufs_base.specs.declared.limits.TheConstants.{MAX_CLIENTS, MAX_REQUESTS}
use Rattle.ufs_model.specs.PosixTree.{PosixTree}
use Rattle.ufs_promise_laws.specs.Parts.{Parts}
use Rattle.ufs_promise_laws.specs.Stored.{ArePartsOf}

-- A session may begin with this tree, of which these are the parts: nothing is open in it, and file numbers stay small.
pub record MayBegin (p : Parts) (start : PosixTree) : Type 0 where
  pub parts : ArePartsOf p start
  pub closed : (client fd : ℕ) → map.get start.fds (client, fd) ≡ None
  pub numbers : start.next + MAX_CLIENTS * MAX_REQUESTS ≤ 2 ^ 31
