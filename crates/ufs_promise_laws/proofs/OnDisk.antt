-- A server stays on its disk while entries are drawn, also once its store has stopped.
use Rattle.std.proofs.Common.{◌≡◌, ◌⊎◌, true, false, None, Some, List, [], ◌∷◌, ◌++◌, ap, sym, ◌∙◌, subst, inl, inr, ℕ}
use Rattle.ufs_disk.specs.Disk.{Leaves}
use Rattle.ufs_file_commits.specs.Standing.{IsReadable}
use Rattle.ufs_file.specs.Hand.{whole_as}
use Rattle.ufs_image.specs.Proper.{IsProperImage}
use Rattle.ufs_layout.specs.declared.geometry.Geometry.{Geometry}
use Rattle.ufs_ledger.specs.Laws.{EntriesKeep, LedgersExplain, LeftIsProper}
use Rattle.ufs_model.specs.Descriptors.{opened}
use Rattle.ufs_model.specs.FileBytes.{bytes_of}
use Rattle.ufs_model.specs.History.{IsLegal, is_excused, tree_after}
use Rattle.ufs_model.specs.PosixTree.{Files, PosixTree}
use Rattle.ufs_model.specs.declared.data.Entry.{Entry}
use Rattle.ufs_model.specs.declared.data.Op.TheVariants as op
use Rattle.ufs_crash_laws.specs.Changes.{asks_commit}
use Rattle.ufs_crash_laws.specs.Steps.{is_ok}
use Rattle.ufs_crash_laws.specs.Explained.{IsAckCovered}
use Rattle.ufs_crash_laws.specs.StepLaws.{DirFsyncsAcknowledge, FsyncsAcknowledge, OthersAcknowledgeNothing, SyncsAcknowledge}
use Rattle.ufs_crash_laws.proofs.Facts.Histories.{tree_after-append}
use Rattle.ufs_store.specs.State.{StoreState, geometry_of_store}
use Rattle.ufs_promise_laws.specs.Laws.{leaves_tree}
use Rattle.ufs_promise_laws.specs.OnDisk.{HasAll, HasFile, HasNames, HasStopped, IsExplainedBy, IsGoing, IsOnDisk}
use Rattle.ufs_promise_laws.specs.Parts.{Parts}
use Rattle.ufs_promise_laws.specs.Stored.{ArePartsOf}
use Rattle.ufs_promise_laws.proofs.Entries.{entry_kept, excuse_kept, excuse_leaves, ledger_kept, no_ok, still_kept, tree_left}

pub explained : (g : Geometry) → LedgersExplain g → (s : StoreState) (start : PosixTree) (history : List Entry) (p : Parts) → geometry_of_store s ≡ g → IsOnDisk s start history p → IsExplainedBy s start history
explained g explains s start history p same (inl go) image left = explains s.sectors go.ledger image start history go.counts go.counts (go.formed ∙ same) (go.has.by.is.images image left) go.stored.kept
explained g explains s start history p same (inr st) image left = explains s.sectors st.ledger image start history st.now st.maybe (st.formed ∙ same) (st.has.images image left) st.kept

pub on_disk_proper : (g : Geometry) → LeftIsProper g → (s : StoreState) (start : PosixTree) (history : List Entry) (p : Parts) → geometry_of_store s ≡ g → IsOnDisk s start history p → Leaves (IsProperImage s.sectors) s.moments.state
on_disk_proper g proper s start history p same (inl go) image left =
    proper s.sectors go.ledger image (go.formed ∙ same) (λ other there. (go.stored.kept.there other there).0 ∙ go.formed ∙ same) (go.has.by.is.images image left)
on_disk_proper g proper s start history p same (inr st) image left = proper s.sectors st.ledger image (st.formed ∙ same) (λ other there. (st.kept.there other there).0 ∙ st.formed ∙ same) (st.has.images image left)

module _ (g : Geometry) (keeps : EntriesKeep g) (s : StoreState) (start : PosixTree) (history : List Entry) (entry : Entry) (p : Parts) (same : geometry_of_store s ≡ g) (legal : IsLegal start (history ++ entry ∷ [])) where
  -- an entry that leaves the parts, of a store that has stopped
  stopped_beside : ArePartsOf p (tree_after start (history ++ entry ∷ [])) → (tree_after start (history ++ entry ∷ [])).bytes ≡ (tree_after start history).bytes → (st : HasStopped s start history p) → IsAckCovered start history entry st.now.names st.now.files
      → IsAckCovered start history entry st.maybe.names st.maybe.files → HasStopped s start (history ++ entry ∷ []) p
  stopped_beside after bytes st now maybe = record {
    stopped = st.stopped;
    ledger = st.ledger;
    now = st.now;
    maybe = st.maybe;
    has = st.has;
    formed = st.formed;
    tree = st.tree;
    legal = legal;
    kept = ledger_kept g keeps st.ledger start history entry st.now st.maybe (st.formed ∙ same) st.tree legal now maybe st.kept;
    parts = after;
    clean = λ file f here. subst (IsReadable st.ledger) (sym (ap (λ (b : Files). whole_as (bytes_of b file) f) bytes)) (st.clean file f here);
  }

  -- ..and the tree
  stopped : tree_after start (history ++ entry ∷ []) ≡ tree_after start history → (st : HasStopped s start history p) → IsAckCovered start history entry st.now.names st.now.files → IsAckCovered start history entry st.maybe.names st.maybe.files
      → HasStopped s start (history ++ entry ∷ []) p
  stopped tree st now maybe = stopped_beside (subst (ArePartsOf p) (sym tree) st.parts) (ap (λ (t : PosixTree). t.bytes) tree) st now maybe

  pub stays_beside : OthersAcknowledgeNothing → (is_ok entry.reply ≡ false) ⊎ (asks_commit entry.op ≡ false) → ArePartsOf p (tree_after start (history ++ entry ∷ []))
      → (tree_after start (history ++ entry ∷ [])).bytes ≡ (tree_after start history).bytes → IsOnDisk s start history p → IsOnDisk s start (history ++ entry ∷ []) p
  stays_beside others nothing after bytes (inl go) = inl (record {
    ledger = go.ledger;
    counts = go.counts;
    has = go.has;
    formed = go.formed;
    stored = entry_kept g keeps go.ledger s.unassigned.free start history entry go.counts p (go.formed ∙ same) legal (others start history entry go.counts.names go.counts.files nothing) after bytes go.stored;
  })
  stays_beside others nothing after bytes (inr st) = inr (stopped_beside after bytes st (others start history entry st.now.names st.now.files nothing) (others start history entry st.maybe.names st.maybe.files nothing))

  pub excused : OthersAcknowledgeNothing → is_excused entry.reply ≡ true → IsOnDisk s start history p → IsOnDisk s start (history ++ entry ∷ []) p
  excused others is (inl go) = inl (record {
    ledger = go.ledger;
    counts = go.counts;
    has = go.has;
    formed = go.formed;
    stored = excuse_kept g keeps others go.ledger s.unassigned.free start history entry go.counts p (go.formed ∙ same) legal is go.stored;
  })
  excused others is (inr st) = inr (stopped (tree_after-append start history (entry ∷ []) ∙ excuse_leaves (tree_after start history) entry.client entry.op entry.reply is) st
      (others start history entry st.now.names st.now.files (inl (no_ok entry.reply is))) (others start history entry st.maybe.names st.maybe.files (inl (no_ok entry.reply is))))

  -- one of a request that changes nothing, of a store that goes on
  going : leaves_tree entry.op ≡ true → (go : IsGoing s start history p) → IsAckCovered start history entry go.counts.names go.counts.files → IsGoing s start (history ++ entry ∷ []) p
  going still go ack = record {
    ledger = go.ledger;
    counts = go.counts;
    has = go.has;
    formed = go.formed;
    stored = still_kept g keeps go.ledger s.unassigned.free start history entry go.counts p (go.formed ∙ same) legal still ack go.stored;
  }

  pub stays_still : OthersAcknowledgeNothing → leaves_tree entry.op ≡ true → (is_ok entry.reply ≡ false) ⊎ (asks_commit entry.op ≡ false) → IsOnDisk s start history p → IsOnDisk s start (history ++ entry ∷ []) p
  stays_still others still nothing (inl go) = inl (going still go (others start history entry go.counts.names go.counts.files nothing))
  stays_still others still nothing (inr st) = inr (stopped (tree_after-append start history (entry ∷ []) ∙ tree_left (tree_after start history) entry still) st
      (others start history entry st.now.names st.now.files nothing) (others start history entry st.maybe.names st.maybe.files nothing))

  pub names_synced : DirFsyncsAcknowledge → (fd : ℕ) → entry.op ≡ op.Fsync fd → (opened (tree_after start history) entry.client fd).file ≡ None → HasNames s start history p → IsOnDisk s start (history ++ entry ∷ []) p
  names_synced acks fd is named has = inl (going (ap leaves_tree is) has.going (acks start history entry has.going.counts.names has.going.counts.files fd is named has.names))

  pub file_synced : FsyncsAcknowledge → (fd file : ℕ) → entry.op ≡ op.Fsync fd → (opened (tree_after start history) entry.client fd).file ≡ Some file → HasFile s start history p file → IsOnDisk s start (history ++ entry ∷ []) p
  file_synced acks fd file is named has = inl (going (ap leaves_tree is) has.going
      (acks start history entry has.going.counts.names has.going.counts.files fd file is named has.changes (has.going.stored.counted.born file has.there)))

  pub all_synced : SyncsAcknowledge → entry.op ≡ op.Sync → HasAll s start history p → IsOnDisk s start (history ++ entry ∷ []) p
  all_synced acks is has = inl (going (ap leaves_tree is) has.going (acks start history entry has.going.counts.names has.going.counts.files is has.names has.files))
