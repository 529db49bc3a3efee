-- A commit behind a checkpoint, or without one.
use Rattle.std.proofs.Common.{◌≡◌, ◌⊎◌, inl, inr, Bool, true, false, List, [], ◌∷◌, sym, subst}
use Rattle.std.specs.Prelude.{if◌then◌else◌}
use Rattle.ufs_layout.specs.declared.geometry.Geometry.{Geometry}
use Rattle.ufs_layout.specs.declared.records.LogRecord.{LogRecord}
use Rattle.ufs_layout.specs.declared.records.Committed.{Committed}
use Rattle.ufs_ledger.specs.Ledger.{Ledger}
use Rattle.ufs_ledger.specs.Changes.{MayCommit}
use Rattle.ufs_store.specs.Ledgers.{AnyOf, MayCommitNext, beginning_next, checkpointed, commit_stages, room_stages, stages, with_room}
use Rattle.ufs_store.specs.State.{StoreState, has_room, next_commit}

module _ (s : StoreState) (records : List LogRecord) (l : Ledger) where
  abbrev t : Committed
  t = next_commit s records

  abbrev stages_if : Bool → List Ledger
  stages_if b = if b then commit_stages t l else l ∷ beginning_next s l ∷ commit_stages t (checkpointed s l)

  -- before it
  pub at_first : (P : Ledger → Type 0) → P l → AnyOf P (stages s records l)
  at_first P here = by (has_room s records)
    where
      by : (b : Bool) → AnyOf P (stages_if b)
      by true = inl here
      by false = inl here

  -- while room is made
  pub at_room : (P : Ledger → Type 0) → AnyOf P (room_stages s records l) → AnyOf P (stages s records l)
  at_room P any = by (has_room s records) any
    where
      by : (b : Bool) → AnyOf P (if b then l ∷ [] else l ∷ beginning_next s l ∷ []) → AnyOf P (stages_if b)
      by true (inl here) = inl here
      by true (inr none) = absurd none
      by false (inl here) = inl here
      by false (inr (inl next)) = inr (inl next)
      by false (inr (inr none)) = absurd none

  -- in that room
  pub at_commit : (P : Ledger → Type 0) → AnyOf P (commit_stages t (with_room s records l)) → AnyOf P (stages s records l)
  at_commit P any = by (has_room s records) any
    where
      by : (b : Bool) → AnyOf P (commit_stages t (if b then l else checkpointed s l)) → AnyOf P (stages_if b)
      by true any = any
      by false any = inr (inr any)

  -- The ledger is as it was, or as a checkpoint leaves it.
  pub by_room : (P : Ledger → Type 0) → P (with_room s records l) → P l ⊎ P (checkpointed s l)
  by_room P has = by (has_room s records) has
    where
      by : (b : Bool) → P (if b then l else checkpointed s l) → P l ⊎ P (checkpointed s l)
      by true has = inl has
      by false has = inr has

  -- The records may still be committed next.
  pub may_in_room : (g : Geometry) (u : Committed) → g ≡ s.journal.geometry → u ≡ t → MayCommitNext s records l → MayCommit g u (with_room s records l).now
  may_in_room g u same is may = by (has_room s records)
    where
      here : MayCommit g u l.now
      here = subst (λ (x : Geometry × Committed). MayCommit x.0 x.1 l.now) (λ i. (sym same i, sym is i)) may

      by : (b : Bool) → MayCommit g u (if b then l else checkpointed s l).now
      by true = here
      by false = record { fits = here.fits; keeps = here.keeps; covers = here.covers; sound = here.sound }
