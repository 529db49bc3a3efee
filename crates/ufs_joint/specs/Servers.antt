-- Who serves which request.
use Rattle.std.specs.Prelude.{ℕ, ◌≡◌, true, false, List, [], ◌∷◌}
use Rattle.std.specs.FinMap as fin
use Rattle.ufs_client.specs.Own.{is_own}
use Rattle.ufs_hand_laws.specs.Parts.{OwnFds}
use Rattle.ufs_hand_laws.specs.declared.fresh.Fresh.{Fresh}
use Rattle.ufs_model.specs.History.{goes_on}
use Rattle.ufs_model.specs.PosixTree.{PosixTree, desc_at}
use Rattle.ufs_model.specs.declared.data.Actor.{Actor}
use Rattle.ufs_model.specs.declared.data.Actor.TheVariants as actor
use Rattle.ufs_model.specs.declared.data.Entry.{Entry}
use Rattle.ufs_model.specs.declared.data.Op.{Op}

-- the primary, or a worker
abbrev pub IsServer : Actor → Type 0
IsServer (actor.Client client) = ⊥
IsServer actor.Primary = Unit {0}
IsServer (actor.Worker worker) = Unit {0}

-- The client serves its request itself where its descriptors in the tree tell the answer, and else a server does.
pub record IsServedBy (t : PosixTree) (client : ℕ) (request : Op) (by : Actor) : Type 0 where
  pub own : is_own t client request ≡ true → by ≡ actor.Client client
  pub sent : is_own t client request ≡ false → IsServer by

-- So it was with each entry, on the tree as it was then.
abbrev pub AreServedSo : PosixTree → List Entry → Type 0
AreServedSo t [] = Unit {0}
AreServedSo t (entry ∷ history) = IsServedBy t entry.client entry.op entry.by × AreServedSo (goes_on t entry) history

-- So it is with this entry, on each tree in which its client has these descriptors.
abbrev pub IsAlwaysServedSo : OwnFds → Fresh → Type 0
IsAlwaysServedSo fds f = (t : PosixTree) → ((fd : ℕ) → fin.get fds fd ≡ desc_at t f.client fd) → IsServedBy t f.client f.op f.by

-- A client with these descriptors doesn't answer the request itself.
abbrev pub NeedsServer : OwnFds → (client : ℕ) → Op → Type 0
NeedsServer fds client request = (t : PosixTree) → ((fd : ℕ) → fin.get fds fd ≡ desc_at t client fd) → is_own t client request ≡ false
