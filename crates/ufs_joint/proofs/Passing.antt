-- The states that a disk passed in a turn.
use Rattle.std.proofs.Common.{◌≡◌, ℕ, Bool, true, false, cond, List, [], length, map, refl, ap, ◌∙◌, subst}
use Rattle.std.specs.Prelude.{IsTrue, drop}
use Rattle.ufs_disk.specs.Disk.{Leaves, State}
use Rattle.ufs_disk.specs.Moments.{Passes, all}
use Rattle.ufs_model.specs.PosixTree.{PosixTree}
use Rattle.ufs_model.specs.declared.data.Entry.{Entry}
use Rattle.ufs_hand_laws.specs.Owned.{Has}
use Rattle.ufs_hand_laws.specs.Parts.{Cells}
use Rattle.ufs_store.specs.State.{StoreState}
use Rattle.ufs_store_steps.specs.Cells.{cells_of}
use Rattle.ufs_promise_laws.specs.OnDisk.{IsExplainedImage}
use Rattle.ufs_joint.specs.Cells.{StoreCell, store_since}
use Rattle.ufs_joint.specs.Disks.{states_behind}
use Rattle.ufs_joint.specs.FileHands.{LeavesStore}
use Rattle.ufs_joint.specs.Sound.{IsExplainedState}
use Rattle.ufs_joint.proofs.Disks.{among, drop_behind, nothing_behind}

noted : (keeps : Bool) (P : Cells → Type 0) (xs ys : List Cells) → ys ≡ cond keeps xs [] → (IsTrue keeps → (x : Cells) → Has x xs → P x) → (x : Cells) → Has x ys → P x
noted true P xs ys is each x has = each refl x (subst (Has x) is has)
noted false P xs ys is each x has = absurd (subst (Has x) is has)

none_noted : (keeps : Bool) (xs : List Cells) → xs ≡ [] → cond keeps xs [] ≡ []
none_noted true xs is = is
none_noted false xs is = refl

module _ (keeps visible : Bool) (was left : StoreCell) (earlier later : List State) (passed : List Cells) (told : List ℕ) (so : LeavesStore keeps visible was left earlier later passed told) (seen : visible ≡ true) where
  abbrev old : StoreState
  old = store_since earlier was

  abbrev new : StoreState
  new = store_since later left

  -- Each is explained where all between the two moments are: those of a disk that doesn't keep its moments aren't noted.
  pub each_passed : (start : PosixTree) (history : List Entry) → (IsTrue keeps → Passes (Leaves (IsExplainedImage was.sectors start history)) old.moments new.moments) → (cells : Cells) → Has cells passed → IsExplainedState was.sectors start history cells
  each_passed start history passes = noted keeps (IsExplainedState was.sectors start history) (states_behind (length (all old.moments)) new) passed (so.went seen) explained
    where
      behind : (p : Passes (Leaves (IsExplainedImage was.sectors start history)) old.moments new.moments) → states_behind (length (all old.moments)) new ≡ map (cells_of was.sectors) p.inside
      behind p = (λ i. map (cells_of (so.sectors i)) (drop (length (all old.moments)) (p.whole i))) ∙ ap (map (cells_of was.sectors)) (drop_behind (all old.moments) p.inside)

      explained : IsTrue keeps → (x : Cells) → Has x (states_behind (length (all old.moments)) new) → IsExplainedState was.sectors start history x
      explained kept x is = let p = passes kept in among was.sectors start history p.inside p.each x (subst (Has x) (behind p) is)

  -- there is none where the store is as it was
  pub none_passed : new ≡ old → passed ≡ []
  none_passed same = so.went seen
      ∙ none_noted keeps (states_behind (length (all old.moments)) new) (ap (λ (s : StoreState). map (cells_of s.sectors) (drop (length (all old.moments)) (all s.moments))) same ∙ ap (map (cells_of was.sectors)) (nothing_behind (all old.moments)))
