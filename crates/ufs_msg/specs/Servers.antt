-- A ring for each server.
use Rattle.std.specs.Prelude.{◌-◌, ◌≡◌}
use Rattle.ufs_model.specs.declared.data.Actor.{Actor}
use Rattle.ufs_model.specs.declared.data.Actor.TheVariants as actor
use Rattle.ufs_msg.specs.Rows.{HappensAt, IsSoAt}
use Rattle.ufs_msg.specs.declared.servers.PerServer.{PerServer}

module _ {P W : Type 0} where
  -- this server's ring is so
  abbrev pub IsSoFor : (P → Type 0) → (W → Type 0) → PerServer P W → Actor → Type 0
  IsSoFor one each rings actor.Primary = one rings.primary
  IsSoFor one each rings (actor.Worker worker) = IsSoAt each rings.workers.items (worker - 1)
  IsSoFor one each rings (actor.Client client) = ⊥

  -- They are the same rings.
  pub record AreSame (old new : PerServer P W) : Type 0 where
    pub primary : new.primary ≡ old.primary
    pub workers : new.workers.items ≡ old.workers.items

module _ {P W A : Type 0} where
  -- This server's ring gained the item, or lost it; the others are as they were.
  abbrev pub HappensFor : (P → A → P → Type 0) → (W → A → W → Type 0) → PerServer P W → Actor → A → PerServer P W → Type 0
  HappensFor one each old actor.Primary item new = one old.primary item new.primary × (new.workers.items ≡ old.workers.items)
  HappensFor one each old (actor.Worker worker) item new = (new.primary ≡ old.primary) × HappensAt each old.workers.items (worker - 1) item new.workers.items
  HappensFor one each old (actor.Client client) item new = ⊥
