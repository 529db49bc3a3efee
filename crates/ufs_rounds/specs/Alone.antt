-- A session without a worker, whose primary alone serves.
use Rattle.std.specs.Prelude.{ℕ, ◌+◌, ◌≡◌, ◌≤◌, eqb, IfSome, List, [], ◌∷◌, length, None, Option, Some, slice_get}
use Rattle.std.specs.FinMap as fin
use Rattle.circular_buffer.specs.Buffer.{Buffer}
use Rattle.ufs_caller.specs.Callers.{Caller, Errand}
use Rattle.ufs_caller.specs.Tied.{AreServersThere}
use Rattle.ufs_hand_laws.specs.Owned.{Has, one}
use Rattle.ufs_joint.specs.Cells.{Start}
use Rattle.ufs_model.specs.declared.data.Actor.{Actor}
use Rattle.ufs_model.specs.declared.data.Actor.TheVariants as actor
use Rattle.ufs_msg.specs.Requests.{Asked}
use Rattle.ufs_msg.specs.There.{IsServerThere, client_count, worker_count}
use Rattle.ufs_msg.specs.declared.answer.Answer.{Answer}
use Rattle.ufs_msg.specs.declared.answer.Answer.TheVariants as answer
use Rattle.ufs_primary.specs.Primary.{PrimaryState}
use Rattle.ufs_rounds.specs.Numbers.{AreClients}
use Rattle.ufs_rounds.specs.Rings.{Rings}
use Rattle.ufs_rounds.specs.Turns.{GlobalState}

-- ---- where requests are

-- so many of these requests are the client's
abbrev pub asked_by : ℕ → List Asked → ℕ
asked_by client [] = 0
asked_by client (r ∷ rs) = one (eqb client r.ask.client) + asked_by client rs

abbrev pub unkept : Option Asked → ℕ
unkept None = 1
unkept (Some r) = 0

-- a request that went, and whose answer wasn't taken yet
abbrev pub gone_of : Option Errand → ℕ
gone_of None = 0
gone_of (Some e) = unkept e.kept

-- ---- who asks and answers

-- The client's request is to go to the primary, and is its own where the post gave it back. Its hints name servers that are there.
pub record AsksPrimary (k : Start) (c : Caller) : Type 0 where
  pub hints : AreServersThere k c.hints
  pub errand : IfSome c.errand (λ e. (e.to ≡ actor.Primary) × IfSome e.kept (λ r. r.ask.client ≡ c.number))

-- The request was served, and the answer names no owner but a server that is there.
abbrev pub IsServedThere : {N : Type 0} → Start → Answer N → Type 0
IsServedThere k (answer.Served s) = (who : Actor) → s.owner ≡ Some who → IsServerThere k who
IsServedThere k (answer.Redirect r) = ⊥

-- The primary has each file, keeps no answer, and nothing waits at it.
pub record HasNothingOut (s : PrimaryState) : Type 0 where
  pub owners : s.stock.home.owners ≡ fin.empty
  pub coming : s.coming ≡ None
  pub answers : s.answers ≡ []
  pub waiting : s.waiting ≡ []

module _ {N : Type 0} where
  -- No letter is under way. The primary alone has a ring of requests, with room for 16, and each client one with room for an answer, which
  -- is by a server that is there.
  pub record CarryNoFile (k : Start) (r : Rings N) : Type 0 where
    pub no_letter : r.letters.primary.items ≡ []
    pub no_ring : r.requests.workers.items ≡ []
    pub room : r.requests.primary.capacity ≡ 16
    pub fit : length r.requests.primary.items ≤ 16
    pub rooms : (client : ℕ) (ring : Buffer (Answer N)) → slice_get r.answers client ≡ Some ring → ring.capacity ≡ 1
    pub answered : (client : ℕ) (ring : Buffer (Answer N)) (x : Answer N) → slice_get r.answers client ≡ Some ring → Has x ring.items → IsServedThere k x

  -- So it is with all of them. A request that went is in the primary's ring, or its answer in the client's, once.
  pub record ServesAlone (k : Start) (s : GlobalState N) : Type 0 where
    pub no_worker : s.workers ≡ []
    pub none_there : worker_count k ≡ 0
    pub all_there : length s.clients ≡ client_count k
    pub few : length s.clients ≤ 16
    pub numbers : AreClients s.clients
    pub ask : (place : ℕ) (c : Caller) → slice_get s.clients place ≡ Some c → AsksPrimary k c
    pub nothing_out : HasNothingOut s.primary
    pub rings : CarryNoFile k s.rings
    pub each : length s.rings.answers ≡ length s.clients
    pub once : (place : ℕ) (c : Caller) (ring : Buffer (Answer N)) → slice_get s.clients place ≡ Some c → slice_get s.rings.answers place ≡ Some ring
        → asked_by place s.rings.requests.primary.items + length ring.items ≡ gone_of c.errand
