-- What is known of a script that was played over a mounted image is so from the disk on that was given.
use Rattle.std.proofs.Common.{◌≡◌, ◌∙◌, ℕ, Bool, true, List, [], ◌∷◌, ◌++◌, length, Result, Ok, Err, sym, subst}
use Rattle.std.specs.Prelude.{IsTrue, OnOk}
use Rattle.std.proofs.lemmas.List.{append-nil, append_assoc}
use Rattle.ufs_base.specs.Images.{Image}
use Rattle.ufs_brink.specs.Numbers.{BeginsFrom, RaisesNumbers}
use Rattle.ufs_disk.specs.Disk.{Leaves}
use Rattle.ufs_disk.specs.Moments.{Moments, reads}
use Rattle.ufs_joint.specs.Cells.{Start}
use Rattle.ufs_model.specs.History.{joined, tree_after}
use Rattle.ufs_model.specs.PosixTree.{PosixTree}
use Rattle.ufs_model.specs.declared.data.Entry.{Entry}
use Rattle.ufs_model.specs.declared.data.Op.{Op}
use Rattle.ufs_promise_laws.specs.Last.{StandsForTree}
use Rattle.ufs_promise_laws.specs.OnDisk.{IsExplainedBetween, IsExplainedImage}
use Rattle.ufs_recovery.specs.Recovered.{IsCleanDisk}
use Rattle.ufs_store.specs.State.{StoreState}
use Rattle.ufs_engine.specs.Played.{IsPlayedOn}
use Rattle.ufs_engine.specs.Plays.{AreFaultsOf, HasBytes, IsEndFault, IsStampedThroughout, served_end}
use Rattle.ufs_engine.specs.Served.{IsPlayedFrom}
use Rattle.ufs_told.specs.Throughout.{IsExplainedThroughout}
use Rattle.ufs_engine.specs.declared.playing.PlayFault.{PlayFault}
use Rattle.ufs_told.proofs.ThroughoutLemmas.{between_joined, throughout_after}

-- At the end what a crash leaves is explained by all entries.
pub explained_behind : (keeps : Bool) (sectors : ℕ) (start : PosixTree) (before told : List Entry) (old new : Moments) → IsExplainedThroughout keeps sectors start before told old new → Leaves (IsExplainedImage sectors start (before ++ told)) new.state
explained_behind keeps sectors start before [] old new through = subst (λ (h : List Entry). Leaves (IsExplainedImage sectors start h) new.state) (sym (append-nil before)) through.after
explained_behind keeps sectors start before (entry ∷ told) old new through =
    subst (λ (h : List Entry). Leaves (IsExplainedImage sectors start h) new.state) (append_assoc before (entry ∷ []) told)
    (explained_behind keeps sectors start (before ++ entry ∷ []) told through.0 new through.2)

-- where it ended well
pub on_ok : {E : Type 0} {P Q : Type 0} (ended : Result (Unit {0}) E) → (P → Q) → OnOk ended P → OnOk ended Q
on_ok (Ok x) leads is = leads is
on_ok (Err fault) leads is = tt

module _ (k : Start) (keeps : Bool) (scripts : List (List Op)) (opened : StoreState) (told : List (List Entry)) (bytes : ℕ) (ended : Result (Unit {0}) PlayFault) (sectors faults : ℕ) (now : Moments)
    (is : IsPlayedOn k keeps scripts opened told bytes ended sectors faults now) where
  -- ---- over any disk

  pub faults_from : (before : ℕ) → opened.faults ≡ before → AreFaultsOf before faults (joined told)
  faults_from before passed = subst (λ (n : ℕ). AreFaultsOf n faults (joined told)) passed is.tells

  pub closing_from : (before : ℕ) → opened.faults ≡ before → IsEndFault before faults (joined told) ended
  closing_from before passed = subst (λ (n : ℕ). IsEndFault n faults (joined told) ended) passed is.closing

  -- ---- over a visible disk

  module _ (size : ℕ) (as_large : opened.sectors ≡ size) (sees : k.is_visible ≡ true) (start : PosixTree) (same_tree : k.tree ≡ start) where
    same_size : sectors ≡ size
    same_size = is.size ∙ as_large

    same_start : is.start ≡ start
    same_start = is.seen sees ∙ same_tree

    pub played_from : IsPlayedFrom start scripts told (served_end ended) (joined told)
    played_from = subst (λ (t : PosixTree). IsPlayedFrom t scripts told (served_end ended) (joined told)) same_start is.played

    pub sized_from : HasBytes start (joined told) (served_end ended) bytes
    sized_from = subst (λ (t : PosixTree). HasBytes t (joined told) (served_end ended) bytes) same_start is.sized

    through : IsExplainedThroughout keeps size start [] (joined told) opened.moments now
    through = subst (λ (x : ℕ × PosixTree). IsExplainedThroughout keeps x.0 x.1 [] (joined told) opened.moments now) (λ i. (same_size i, same_start i)) (is.throughout sees)

    pub crash_from : Leaves (IsExplainedImage size start (joined told)) now.state
    crash_from = explained_behind keeps size start [] (joined told) opened.moments now through

    pub clean_from : OnOk ended (IsCleanDisk size now.state)
    clean_from = subst (λ (n : ℕ). OnOk ended (IsCleanDisk n now.state)) same_size (is.clean sees)

    pub last_from : OnOk ended (StandsForTree size (tree_after start (joined told)) (reads now))
    last_from = subst (λ (x : ℕ × PosixTree). OnOk ended (StandsForTree x.0 (tree_after x.1 (joined told)) (reads now))) (λ i. (same_size i, same_start i)) (is.last sees)

    pub numbers_from : (before : Image) → BeginsFrom before opened → OnOk ended (RaisesNumbers (length (joined told)) before (reads now))
    numbers_from before begins = on_ok ended (λ raises. raises before begins) (is.numbers sees)

    -- from an earlier moment on, up to which a crash leaves the opening tree
    module _ (old : Moments) (before : IsExplainedBetween keeps size start [] old opened.moments) where
      pub throughout_from : IsExplainedThroughout keeps size start [] (joined told) old now
      throughout_from = throughout_after keeps size start [] (joined told) old opened.moments now before through

      pub stamped_from : IsTrue keeps → IsStampedThroughout keeps size start (joined told) old now
      stamped_from kept = by (subst (λ (x : ℕ × PosixTree). IsStampedThroughout keeps x.0 x.1 (joined told) opened.moments now) (λ i. (same_size i, same_start i)) (is.stamped sees kept))
        where
          by : IsStampedThroughout keeps size start (joined told) opened.moments now → IsStampedThroughout keeps size start (joined told) old now
          by it = record {
            from = it.from;
            to = it.to;
            before = between_joined keeps size start [] old opened.moments it.from before it.before;
            passed = it.passed;
            stamped = it.stamped;
            behind = it.behind;
          }
