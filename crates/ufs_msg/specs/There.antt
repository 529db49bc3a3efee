-- Which clients and servers a session has, and which requests go to a worker.
use Rattle.std.specs.Prelude.{ℕ, ◌-◌, ◌≤◌, ◌<◌, ◌≡◌, ◌⊎◌, Bool, true, false, length, Some, refl}
use Rattle.std.proofs.Math.Bridge.{le_prop}
use Rattle.ufs_joint.specs.Cells.{Start}
use Rattle.ufs_model.specs.declared.data.Actor.{Actor}
use Rattle.ufs_model.specs.declared.data.Actor.TheVariants as actor
use Rattle.ufs_model.specs.declared.data.Ask.{Ask}
use Rattle.ufs_model.specs.declared.data.Desc.{Desc}
use Rattle.ufs_model.specs.declared.data.Op.{Op}
use Rattle.ufs_model.specs.declared.data.Op.TheVariants as op
use Rattle.ufs_model.specs.declared.data.Whence.TheVariants as whence

-- so many clients, from 0 on
abbrev pub client_count : Start → ℕ
client_count k = length k.view.clients

-- and so many workers, from 1 on: a session starts with a pool for each of them and for the primary
abbrev pub worker_count : Start → ℕ
worker_count k = length k.view.pools - 1

abbrev pub IsClientThere : Start → ℕ → Type 0
IsClientThere k client = client < client_count k

-- the primary, or one of so many workers
abbrev pub IsServerAmong : ℕ → Actor → Type 0
IsServerAmong workers actor.Primary = Unit {0}
IsServerAmong workers (actor.Worker worker) = (1 ≤ worker) × (worker ≤ workers)
IsServerAmong workers (actor.Client client) = ⊥

pub among_prop : (workers : ℕ) (who : Actor) → IsProp (IsServerAmong workers who)
among_prop workers actor.Primary x y = refl
among_prop workers (actor.Worker worker) x y = λ i. (le_prop x.0 y.0 i, le_prop x.1 y.1 i)
among_prop workers (actor.Client client) x y = absurd x

abbrev pub IsServerThere : Start → Actor → Type 0
IsServerThere k who = IsServerAmong (worker_count k) who

-- who may have served a client's request: it itself, or a server that is there
abbrev pub MayHaveServed : Start → ℕ → Actor → Type 0
MayHaveServed k client who = (who ≡ actor.Client client) ⊎ IsServerThere k who

-- the seven kinds of request that a client sends to the worker that it believes to have the file
abbrev pub is_by_hint : Op → Bool
is_by_hint (op.Read fd n) = true
is_by_hint (op.Write fd bytes) = true
is_by_hint (op.Pread fd n at) = true
is_by_hint (op.Pwrite fd bytes at) = true
is_by_hint (op.Seek fd whence.End by) = true
is_by_hint (op.Trunc fd size) = true
is_by_hint (op.Fsync fd) = true
is_by_hint _ = false

-- It is on a descriptor of a file, and goes by a hint.
pub record IsByHint (ask : Ask) : Type 0 where
  pub kind : is_by_hint ask.op ≡ true
  pub desc : Desc
  pub has : ask.desc ≡ Some desc
  pub file : ℕ
  pub of : desc.file ≡ Some file

-- A worker gets no other request.
abbrev pub MayServe : Actor → Ask → Type 0
MayServe (actor.Worker worker) ask = IsByHint ask
MayServe _ ask = Unit {0}
