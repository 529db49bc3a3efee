-- What a turn did and lacked.
use Rattle.std.specs.Prelude.{Bool, true, false, Option, None, Some}
use Rattle.ufs_primary.specs.OfAtPrimary.{Ordered}
use Rattle.ufs_primary.specs.OfAtPrimary.ordered as ordered
use Rattle.ufs_base.specs.declared.lack.Lack.{Lack}
use Rattle.ufs_base.specs.declared.lack.Lack.TheVariants as lack
use Rattle.ufs_caller.specs.declared.turn.Turn.{Turn}
use Rattle.ufs_caller.specs.declared.turn.Turn.TheVariants as client
use Rattle.ufs_primary.specs.OfHome.{Moved}
use Rattle.ufs_primary.specs.OfHome.moved as moved
use Rattle.ufs_primary.specs.declared.turn.PrimaryTurn.{PrimaryTurn}
use Rattle.ufs_primary.specs.declared.turn.PrimaryTurn.TheVariants as primary
use Rattle.ufs_worker.specs.declared.turn.WorkerTurn.{WorkerTurn}
use Rattle.ufs_worker.specs.declared.turn.WorkerTurn.TheVariants as worker
use Rattle.ufs_rounds.specs.declared.rounds.Unfinished.{Unfinished}
use Rattle.ufs_rounds.specs.declared.rounds.Unfinished.TheVariants as unfinished
use Rattle.ufs_rounds.specs.declared.turned.Turned.{Turned}
use Rattle.ufs_rounds.specs.declared.turned.Turned.TheVariants as turned

-- ---- whether the actor did something

abbrev pub client_moved : Turn → Bool
client_moved (client.Sent to) = true
client_moved (client.Resent to) = true
client_moved client.Local = true
client_moved client.Told = true
client_moved (client.Full to) = false
client_moved client.Waiting = false
client_moved client.Done = false

abbrev pub worker_moved : WorkerTurn → Bool
worker_moved worker.Took = true
worker_moved worker.Gave = true
worker_moved (worker.Redirected file) = true
worker_moved worker.Served = true
worker_moved worker.Idle = false
worker_moved (worker.Memory memory) = false

abbrev pub primary_moved : PrimaryTurn → Bool
primary_moved primary.Settled = true
primary_moved primary.Noted = true
primary_moved primary.Served = true
primary_moved (primary.Redirected file) = true
primary_moved (primary.Waiting file) = true
primary_moved primary.Idle = false
primary_moved (primary.Lack what) = false

abbrev pub is_move : Turned → Bool
is_move (turned.Client o) = client_moved o
is_move (turned.Worker o) = worker_moved o
is_move (turned.Primary o) = primary_moved o

-- ---- what it lacked

abbrev pub worker_lack : WorkerTurn → Option Lack
worker_lack worker.Took = None
worker_lack worker.Gave = None
worker_lack (worker.Redirected file) = None
worker_lack worker.Served = None
worker_lack worker.Idle = None
worker_lack (worker.Memory memory) = Some (lack.Memory memory)

abbrev pub primary_lack : PrimaryTurn → Option Lack
primary_lack primary.Settled = None
primary_lack primary.Noted = None
primary_lack primary.Served = None
primary_lack (primary.Redirected file) = None
primary_lack (primary.Waiting file) = None
primary_lack primary.Idle = None
primary_lack (primary.Lack what) = Some what

abbrev pub lack_in : Turned → Option Lack
lack_in (turned.Client o) = None
lack_in (turned.Worker o) = worker_lack o
lack_in (turned.Primary o) = primary_lack o

-- the first lack that was told
abbrev pub first_lack : Option Lack → Option Lack → Option Lack
first_lack None next = next
first_lack (Some what) next = Some what

-- why rounds come to no rest in which this lacked
abbrev pub unrested : Option Lack → Unfinished
unrested None = unfinished.Stuck
unrested (Some what) = unfinished.Lack what

-- ---- a client has no request left, and none under way

abbrev pub client_done : Turn → Bool
client_done (client.Sent to) = false
client_done (client.Resent to) = false
client_done client.Local = false
client_done client.Told = false
client_done (client.Full to) = false
client_done client.Waiting = false
client_done client.Done = true

abbrev pub says_done : Turned → Bool
says_done (turned.Client o) = client_done o
says_done (turned.Worker o) = false
says_done (turned.Primary o) = false

-- ---- an order

-- The file isn't at the primary: it is on its way there now, or room for the recall was wanting.
abbrev pub was_out : Moved → Bool
was_out moved.Sent = false
was_out moved.Recalled = true
was_out moved.Renoted = true
was_out moved.Nothing = false
was_out (moved.Lack what) = true

abbrev pub is_called : Ordered → Bool
is_called (ordered.Moved m) = was_out m
is_called (ordered.Dropped fault) = false

abbrev pub moved_lack : Moved → Option Lack
moved_lack moved.Sent = None
moved_lack moved.Recalled = None
moved_lack moved.Renoted = None
moved_lack moved.Nothing = None
moved_lack (moved.Lack what) = Some what

abbrev pub order_lack : Ordered → Option Lack
order_lack (ordered.Moved m) = moved_lack m
order_lack (ordered.Dropped fault) = None
