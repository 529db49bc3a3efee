-- Which servers a table of owners names, and whether they are there.
use Rattle.std.specs.Prelude.{ℕ, ◌≡◌, ◌≤◌}
use Rattle.ufs_owner.specs.Owners.{Files, recalled, standing_at}
use Rattle.ufs_model.specs.declared.data.Actor.{Actor}
use Rattle.ufs_model.specs.declared.data.Actor.TheVariants as actor
use Rattle.ufs_owner.specs.declared.owner.Owner.{Owner}
use Rattle.ufs_owner.specs.declared.owner.Owner.TheVariants.{Primary, Worker, Coming, Going}
use Rattle.ufs_owner.specs.declared.owner.Standing.{Standing}

-- The worker that has the file, or is to have it, or from which it comes, is one of so many; so is the one that is noted, or it is 0.
pub record IsKnownOf (workers : ℕ) (s : Standing) : Type 0 where
  pub owner : (worker : ℕ) → recalled s.owner ≡ Coming worker → (1 ≤ worker) × (worker ≤ workers)
  pub note : s.note ≤ workers

abbrev pub AreKnown : ℕ → Files → Type 0
AreKnown workers owners = (file : ℕ) → IsKnownOf workers (standing_at owners file)

-- whom an answer names as the file's owner: the worker that has it or to which it goes, and else the primary
abbrev pub server_named : Owner → Actor
server_named Primary = actor.Primary
server_named (Worker worker) = actor.Worker worker
server_named (Coming worker) = actor.Primary
server_named (Going worker) = actor.Worker worker
