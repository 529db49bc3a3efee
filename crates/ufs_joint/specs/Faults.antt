-- Each fault of the device excuses one entry at most, and a store stopped once.
use Rattle.std.specs.Prelude.{ℕ, ◌+◌, ◌-◌, ◌^◌, ◌<◌, ◌≤◌, ◌≡◌, ◌⊎◌, true, List, [], ◌∷◌, None, Option, Some, min}
use mathlib.Core.Option.{some}
use lib.ListN.{get_elem?}
use Rattle.ufs_model.specs.declared.data.Entry.{Entry}
use Rattle.ufs_model.specs.declared.data.Excuse.TheVariants as excuse
use Rattle.ufs_model.specs.declared.data.Reply.TheVariants as reply
use Rattle.ufs_crash_laws.specs.Changes.{asks_commit}
use Rattle.ufs_hand_laws.specs.FaultsOnce.{told}
use Rattle.ufs_hand_laws.specs.Owned.{Has, times, total}
use Rattle.ufs_joint.specs.Cells.{Start, StoreCell, View}

-- the device's count of faults
abbrev pub faults_in : List (Unit {0} × StoreCell) → ℕ
faults_in [] = 0
faults_in (c ∷ cs) = c.1.faults

-- It is a fault of this session. The last number of the count, at which that stands still, is no fault's.
pub record IsOfSession (k : Start) (s : StoreCell) (fault : ℕ) : Type 0 where
  pub later : faults_in k.view.store < fault
  pub answered : fault ≤ s.faults
  pub below : fault < 2 ^ 64 - 1

-- the fault at which the store had stopped as the session began
abbrev pub stop_first : List (Unit {0} × StoreCell) → Option ℕ
stop_first [] = None
stop_first (c ∷ cs) = c.1.stop

-- A store stopped at this fault since the device's count was that, and the count is this now. It may stand at its type's end.
pub record IsStopSince (before now fault : ℕ) : Type 0 where
  pub rose : (before < fault) ⊎ (fault ≡ 2 ^ 64 - 1)
  pub counted : fault ≤ now
  pub within : fault ≤ 2 ^ 64 - 1

-- The store stopped at this fault in this session, or had before.
abbrev pub IsStopOf : Start → StoreCell → ℕ → Type 0
IsStopOf k s fault = (stop_first k.view.store ≡ Some fault) ⊎ IsStopSince (faults_in k.view.store) s.faults fault

-- What a hand was told of a fault is of this session, and each fault excuses one entry, or is told to one hand and excuses none yet.
pub record AreFaultsOnce (k : Start) (views : List View) (history : List Entry) (s : StoreCell) : Type 0 where
  pub rose : min (faults_in k.view.store) (2 ^ 64 - 1) ≤ s.faults
  pub once : (n : ℕ) → total (λ (v : View). times n v.faults) views + told n history ≤ 1
  pub answered : (n : ℕ) → 1 ≤ total (λ (v : View). times n v.faults) views + told n history → IsOfSession k s n
  pub halts : (n : ℕ) → s.stop ≡ Some n → IsStopOf k s n
  pub stops : (i : ℕ) (v : View) → get_elem? views i ≡ some v → (n : ℕ) → v.stop ≡ Some n → s.stop ≡ Some n
  pub stopped : (e : Entry) (n : ℕ) → Has e history → e.reply ≡ reply.Excused (excuse.Stopped n) → s.stop ≡ Some n
  -- the store stopped at the fault that excuses a request which asks for a commit, and no other is told that it stopped
  pub committed : (e : Entry) (n : ℕ) → Has e history → asks_commit e.op ≡ true → e.reply ≡ reply.Excused (excuse.Device n) → s.stop ≡ Some n
  pub asked : (e : Entry) (n : ℕ) → Has e history → e.reply ≡ reply.Excused (excuse.Stopped n) → asks_commit e.op ≡ true
