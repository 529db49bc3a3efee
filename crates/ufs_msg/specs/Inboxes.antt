-- A server's end of the ring of its requests.
use Rattle.std.specs.Prelude.{◌-◌, ◌≡◌, Bool, true, false}
use Rattle.ufs_model.specs.declared.data.Actor.{Actor}
use Rattle.ufs_model.specs.declared.data.Actor.TheVariants as actor
use Rattle.ufs_ring.specs.Ends.{HasTaken, Shared, WasEmpty, new_end}
use Rattle.ufs_msg.specs.Requests.{Asked}
use Rattle.ufs_msg.specs.Shared.{IsEndAt}
use Rattle.ufs_msg.specs.declared.ruled.Inbox.{Inbox}
use Rattle.ufs_msg.specs.declared.ruled.Inbox.TheVariants as inbox
use Rattle.ufs_msg.specs.declared.servers.PerServer.{PerServer}

module _ {N R : Type 0} where
  -- a worker has one of requests that go by a hint
  abbrev pub is_inbox_of : Actor → Inbox N R → Bool
  is_inbox_of (actor.Worker worker) (inbox.Primary ring) = false
  is_inbox_of _ _ = true

  abbrev pub WasInboxEmpty : Inbox N R → Type 0
  WasInboxEmpty (inbox.Primary ring) = WasEmpty ring
  WasInboxEmpty (inbox.Worker ring) = WasEmpty ring

  -- The end has taken the request.
  abbrev pub HasComeIn : Inbox N R → Asked → Inbox N R → Type 0
  HasComeIn (inbox.Primary old) request (inbox.Primary new) = HasTaken old request new
  HasComeIn (inbox.Worker old) request (inbox.Worker new) = HasTaken old request new
  HasComeIn _ _ _ = ⊥

module _ {N R Q B : Type 0} where
  -- It is a new end of this server's ring of requests.
  abbrev pub IsInboxOf : PerServer (Shared Asked Q B) (Shared Asked Q B) → Actor → Inbox N R → Type 0
  IsInboxOf rings actor.Primary (inbox.Primary ring) = ring ≡ new_end rings.primary
  IsInboxOf rings (actor.Worker worker) (inbox.Worker ring) = IsEndAt rings.workers.items (worker - 1) ring
  IsInboxOf _ _ _ = ⊥
