-- Who stands at which place.
use Rattle.std.specs.Prelude.{ℕ, ◌+◌, ◌≡◌, List, Some, slice_get}
use Rattle.ufs_caller.specs.Callers.{Caller}
use Rattle.ufs_joint.specs.Cells.{Start}
use Rattle.ufs_model.specs.declared.data.Actor.{Actor}
use Rattle.ufs_model.specs.declared.data.Actor.TheVariants as actor
use Rattle.ufs_msg.specs.There.{IsClientThere, IsServerThere}
use Rattle.ufs_worker.specs.Worker.{WorkerState}

-- client 0 first
abbrev pub AreClients : List Caller → Type 0
AreClients clients = (place : ℕ) (c : Caller) → slice_get clients place ≡ Some c → c.number ≡ place

-- worker 1 first
abbrev pub AreWorkers : List WorkerState → Type 0
AreWorkers workers = (place : ℕ) (w : WorkerState) → slice_get workers place ≡ Some w → w.number ≡ place + 1

-- a client, a worker or the primary of the session
abbrev pub IsThere : Start → Actor → Type 0
IsThere k (actor.Client client) = IsClientThere k client
IsThere k who = IsServerThere k who
