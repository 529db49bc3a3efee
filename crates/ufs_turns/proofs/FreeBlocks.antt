-- What contracts see of a store before a turn and behind it is that of its cell.
use Rattle.std.proofs.Common.{◌≡◌, ◌≤◌, ℕ, Bool, List, Option, None, Some, Result, Ok, Err, sym, ap, ◌∙◌, subst, arith}
use Rattle.std.specs.Prelude.{OnOk}
use Rattle.ufs_bitmap.specs.Blocks.{BlockSet}
use Rattle.ufs_disk.specs.Moments.{Moments}
use Rattle.ufs_hand_laws.specs.Parts.{Stretch}
use Rattle.ufs_joint.specs.Cells.{Start, StoreCell, View}
use Rattle.ufs_joint.specs.Disks.{cell_of}
use Rattle.ufs_journal.specs.declared.journal.Journal.{Journal}
use Rattle.ufs_layout.specs.declared.superblock.Super.{Super}
use Rattle.ufs_store.specs.Numbers.{HasRaised}
use Rattle.ufs_store.specs.Refusals.{stop_after}
use Rattle.ufs_store.specs.State.{StoreState}
use Rattle.ufs_store.specs.declared.fault.StoreFault.{StoreFault}
use Rattle.ufs_turns.specs.HeldStore.{HasStoreAlone, IsHeldStore}
use Rattle.ufs_turns.specs.Lent.{GainsBlocks, HasRun, RunIn, free_in, stop_in}

module _ (k : Start) (origin : Moments) (visible keeps : Bool) (v w u : View) (s : StoreState) (home : IsHeldStore k origin visible keeps v s) (seen : v ≡ u) (cell : StoreCell) (back : HasStoreAlone cell w) (so : BlockSet → BlockSet → Type 0) where
  pub in_cells : so s.unassigned.free cell.unassigned.free → so (free_in u.store) (free_in w.store)
  in_cells is = subst (λ (x : BlockSet × BlockSet). so x.0 x.1) (λ i. (sym (ap (λ (q : View). free_in q.store) (sym seen) ∙ ap free_in home.store.has) i, sym (ap free_in back.store) i)) is

module _ (k : Start) (origin : Moments) (visible keeps : Bool) (v w u : View) (s : StoreState) (home : IsHeldStore k origin visible keeps v s) (seen : v ≡ u) where
  pub stop_before : stop_in u.store ≡ s.stop
  stop_before = ap (λ (q : View). stop_in q.store) (sym seen) ∙ ap stop_in home.store.has

  pub stop_behind : (cell : StoreCell) (told : Option ℕ) → HasStoreAlone cell w → cell.stop ≡ stop_after s.stop told → stop_in w.store ≡ stop_after (stop_in u.store) told
  stop_behind cell told back is = ap stop_in back.store ∙ is ∙ ap (λ (q : Option ℕ). stop_after q told) (sym stop_before)

  pub stop_rests : (cell : StoreCell) → HasStoreAlone cell w → cell.stop ≡ s.stop → stop_in w.store ≡ stop_in u.store
  stop_rests cell back is = ap stop_in back.store ∙ is ∙ sym stop_before

  -- what the turn did to the store it did to its cell
  pub run_behind : (stamp : ℕ) (past : List Stretch) (t : StoreState) → HasStoreAlone (cell_of stamp past t) w → (told : Option ℕ) (epochs commits : ℕ) → HasRun told epochs commits s t → RunIn told epochs commits u.store w.store
  run_behind stamp past t back told epochs commits ran =
      subst (λ (x : List (Unit {0} × StoreCell) × List (Unit {0} × StoreCell)). RunIn told epochs commits x.0 x.1)
      (λ i. (sym (ap (λ (q : View). q.store) (sym seen) ∙ home.store.has) i, sym back.store i))
      (record { count = ran.count; epoch = ran.raised.epoch; epoch_most = ran.raised.epoch_most; number = ran.raised.number; number_most = ran.raised.number_most })

-- where no fault was told the store stopped where it had before
pub rests_so : (before behind : Option ℕ) → behind ≡ before → behind ≡ stop_after before None
rests_so None behind is = is
rests_so (Some fault) behind is = is

-- Where neither superblock nor journal goes on, no number is raised.
pub none_raised : (s t : StoreState) → t.superblock ≡ s.superblock → t.journal ≡ s.journal → HasRaised 0 0 s t
none_raised s t superblock journal =
    let a = ap (λ (q : Super). q.epoch) superblock in
    let b = ap (λ (q : Journal). q.number) journal in
    record { epoch = omega (arith, a); epoch_most = omega (arith, a); number = omega (arith, b); number_most = omega (arith, b) }

-- a way that doesn't tell which blocks these were
pub some_gained : (r : Result (Unit {0}) StoreFault) (missing : ℕ) (had left old new : BlockSet) → OnOk r (GainsBlocks missing had left old new) → OnOk r ((h : BlockSet) × (l : BlockSet) × GainsBlocks missing h l old new)
some_gained (Ok x) missing had left old new is = (had, left, is)
some_gained (Err x) missing had left old new is = tt
