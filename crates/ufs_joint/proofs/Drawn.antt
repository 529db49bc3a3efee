-- An entry is drawn, with what is known as it was.
use Rattle.std.proofs.Common.{◌≡◌, inl, inr, List, [], ◌∷◌, ◌++◌, ap, sym, ◌∙◌, subst, true}
use Rattle.ufs_file_commits.specs.Standing.{IsReadable}
use Rattle.ufs_file.specs.Hand.{whole_as}
use Rattle.ufs_layout.specs.declared.geometry.Geometry.{Geometry}
use Rattle.ufs_ledger.specs.Kept.{Counts}
use Rattle.ufs_ledger.specs.Laws.{EntriesKeep}
use Rattle.ufs_model.specs.FileBytes.{bytes_of}
use Rattle.ufs_model.specs.History.{IsLegal, tree_after}
use Rattle.ufs_model.specs.PosixTree.{Files, PosixTree}
use Rattle.ufs_model.specs.declared.data.Entry.{Entry}
use Rattle.ufs_crash_laws.specs.Explained.{IsAckCovered}
use Rattle.ufs_crash_laws.proofs.Facts.Histories.{tree_after-append}
use Rattle.ufs_store.specs.State.{StoreState, geometry_of_store}
use Rattle.ufs_promise_laws.specs.Laws.{leaves_tree}
use Rattle.ufs_promise_laws.specs.OnDisk.{AreReadable}
use Rattle.ufs_promise_laws.specs.Parts.{Parts}
use Rattle.ufs_promise_laws.specs.Stored.{ArePartsOf, IsStored}
use Rattle.ufs_promise_laws.proofs.Entries.{entry_kept, ledger_kept, tree_left}
use Rattle.ufs_promise_laws.specs.Known.{AreBorn, Covers, IsDiskKept, IsKeptGoing, IsKeptStopped, Known}
use Rattle.ufs_joint.proofs.Covering.{covers_on}

module _ (g : Geometry) (keeps : EntriesKeep g) (s : StoreState) (start : PosixTree) (history : List Entry) (entry : Entry) (known : Known) (same : geometry_of_store s ≡ g) (legal : IsLegal start (history ++ entry ∷ [])) where
  abbrev after : PosixTree
  after = tree_after start (history ++ entry ∷ [])

  -- by the same counts, of a store that goes on
  pub going_on : (p q : Parts) (k : IsKeptGoing s start history p known) → IsStored k.going.ledger s.unassigned.free start (history ++ entry ∷ []) k.going.counts q → AreBorn k.going.counts q known → IsKeptGoing s start (history ++ entry ∷ []) q known
  going_on p q k st born = record {
    going = record { ledger = k.going.ledger; counts = k.going.counts; has = k.going.has; formed = k.going.formed; stored = st };
    covers = covers_on start history entry k.going.counts known k.covers;
    numbered = born;
  }

  -- of one that has stopped
  pub stopped_on : (p q : Parts) (k : IsKeptStopped s start history p known) → ArePartsOf q after → AreReadable k.stopped.ledger after q
      → IsAckCovered start history entry k.stopped.now.names k.stopped.now.files → IsAckCovered start history entry k.stopped.maybe.names k.stopped.maybe.files → IsKeptStopped s start (history ++ entry ∷ []) q known
  stopped_on p q k parts clean now maybe = record {
    stopped = record {
      stopped = k.stopped.stopped;
      ledger = k.stopped.ledger;
      now = k.stopped.now;
      maybe = k.stopped.maybe;
      has = k.stopped.has;
      formed = k.stopped.formed;
      tree = k.stopped.tree;
      legal = legal;
      kept = ledger_kept g keeps k.stopped.ledger start history entry k.stopped.now k.stopped.maybe (k.stopped.formed ∙ same) k.stopped.tree legal now maybe k.stopped.kept;
      parts = parts;
      clean = clean;
    };
    now = covers_on start history entry k.stopped.now known k.now;
    maybe = covers_on start history entry k.stopped.maybe known k.maybe;
  }

  -- ---- an entry that leaves the parts and the bytes of files

  module _ (p : Parts) (parts : ArePartsOf p after) (bytes : after.bytes ≡ (tree_after start history).bytes) where
    beside_going : (k : IsKeptGoing s start history p known) → IsAckCovered start history entry k.going.counts.names k.going.counts.files → IsKeptGoing s start (history ++ entry ∷ []) p known
    beside_going k ack = going_on p p k (entry_kept g keeps k.going.ledger s.unassigned.free start history entry k.going.counts p (k.going.formed ∙ same) legal ack parts bytes k.going.stored) k.numbered

    beside_stopped : (k : IsKeptStopped s start history p known) → IsAckCovered start history entry k.stopped.now.names k.stopped.now.files → IsAckCovered start history entry k.stopped.maybe.names k.stopped.maybe.files
        → IsKeptStopped s start (history ++ entry ∷ []) p known
    beside_stopped k now maybe = stopped_on p p k parts (λ file f here. subst (IsReadable k.stopped.ledger) (sym (ap (λ (b : Files). whole_as (bytes_of b file) f) bytes)) (k.stopped.clean file f here)) now maybe

    -- where whatever has what is known covers what it acknowledges
    pub beside : ((k : Counts) → Covers start history k known → IsAckCovered start history entry k.names k.files) → IsDiskKept s start history p known → IsDiskKept s start (history ++ entry ∷ []) p known
    beside ack (inl k) = inl (beside_going k (ack k.going.counts k.covers))
    beside ack (inr k) = inr (beside_stopped k (ack k.stopped.now k.now) (ack k.stopped.maybe k.maybe))

  -- ..and the tree
  module _ (p : Parts) (tree : after ≡ tree_after start history) where
    same_bytes : after.bytes ≡ (tree_after start history).bytes
    same_bytes = ap (λ (t : PosixTree). t.bytes) tree

    pub still_going : (k : IsKeptGoing s start history p known) → IsAckCovered start history entry k.going.counts.names k.going.counts.files → IsKeptGoing s start (history ++ entry ∷ []) p known
    still_going k = beside_going p (subst (ArePartsOf p) (sym tree) k.going.stored.parts) same_bytes k

    pub still_stopped : (k : IsKeptStopped s start history p known) → IsAckCovered start history entry k.stopped.now.names k.stopped.now.files → IsAckCovered start history entry k.stopped.maybe.names k.stopped.maybe.files
        → IsKeptStopped s start (history ++ entry ∷ []) p known
    still_stopped k = beside_stopped p (subst (ArePartsOf p) (sym tree) k.stopped.parts) same_bytes k

    pub still : ((k : Counts) → Covers start history k known → IsAckCovered start history entry k.names k.files) → IsDiskKept s start history p known → IsDiskKept s start (history ++ entry ∷ []) p known
    still ack (inl k) = inl (still_going k (ack k.going.counts k.covers))
    still ack (inr k) = inr (still_stopped k (ack k.stopped.now k.now) (ack k.stopped.maybe k.maybe))

  pub tree_stays : leaves_tree entry.op ≡ true → after ≡ tree_after start history
  tree_stays leaves = tree_after-append start history (entry ∷ []) ∙ tree_left (tree_after start history) entry leaves
