-- What is still to be dealt of a first hand, and what those have to whom it was.
use Rattle.std.specs.Prelude.{ℕ, ◌≡◌, ◌<◌, ◌≤◌, List, [], None, replicate}
use Rattle.std.specs.List.{AllByRecursion}
use Rattle.circular_buffer.specs.Buffer.{Buffer}
use Rattle.ufs_bitmap.specs.Blocks.{BlockSet}
use Rattle.ufs_caller.specs.Callers.{Caller}
use Rattle.ufs_caller.specs.Hands.{IsIdleIn}
use Rattle.ufs_joint.specs.FirstHand.{pool_of}
use Rattle.ufs_joint.specs.Cells.{View}
use Rattle.ufs_joint.specs.Whole.{no_blocks}
use Rattle.ufs_hand_laws.specs.Owned.{Has}
use Rattle.ufs_msg.specs.Plain.{AreEmpty, empty}
use Rattle.ufs_msg.specs.declared.answer.Answer.{Answer}
use Rattle.ufs_rounds.specs.Rings.{Letters, Requests}

-- the clients from this one on, below so many
abbrev pub AreIdleFrom : ℕ → ℕ → View → Type 0
AreIdleFrom first count v = (client : ℕ) → first ≤ client → client < count → IsIdleIn client v

-- the pools of the servers from this one on, up to so many workers
abbrev pub ArePoolsFrom : ℕ → ℕ → View → Type 0
ArePoolsFrom first workers v = (server : ℕ) → first ≤ server → server ≤ workers → Has {A = ℕ × BlockSet} (pool_of server, no_blocks) v.pools

-- no pool has a block
abbrev pub AreBare : List BlockSet → Type 0
AreBare pools = AllByRecursion (λ p. p ≡ no_blocks) pools

-- these clients have asked nothing, weren't answered, and have no hint
abbrev pub HaveAskedNothing : List Caller → Type 0
HaveAskedNothing clients = AllByRecursion (λ c. (c.told ≡ []) × (c.errand ≡ None) × (c.hints ≡ [])) clients

-- No ring of so many workers and clients holds anything.
pub record HoldNothing {N : Type 0} (workers clients : ℕ) (requests : Requests) (answers : List (Buffer (Answer N))) (letters : Letters) : Type 0 where
  pub no_request : AreEmpty workers 16 requests
  pub no_answer : answers ≡ replicate clients (empty 1)
  pub no_letter : AreEmpty workers 64 letters
