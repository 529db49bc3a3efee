-- What a call of the disk that failed leaves.
use Rattle.std.proofs.Common.{◌≡◌, ◌⊎◌, ℕ, Bool, true, false, None, List, [], ◌∷◌, ap, sym, refl, ◌∙◌, inl, inr}
use Rattle.std.specs.Prelude.{IsSome, if◌then◌else◌}
use Rattle.ufs_bitmap.specs.Taking.{has}
use Rattle.ufs_disk.specs.Moments.{reads}
use Rattle.ufs_image.specs.Images.{block_at}
use Rattle.ufs_layout.specs.Superblock.{geometry_of}
use Rattle.ufs_layout.specs.declared.geometry.Geometry.{Geometry}
use Rattle.ufs_layout.specs.declared.records.LogRecord.{LogRecord}
use Rattle.ufs_ledger.specs.Changes.{committing, home_of, settled, tried, written}
use Rattle.ufs_ledger.specs.Kept.{Counts, IsLedgerKept}
use Rattle.ufs_ledger.specs.Laws.{BeginningIsKept, EmptiedIsKept, WrittenIsKept}
use Rattle.ufs_ledger.specs.Ledger.{IsLedgerOf, Ledger}
use Rattle.ufs_model.specs.History.{tree_after}
use Rattle.ufs_model.specs.PosixTree.{PosixTree}
use Rattle.ufs_model.specs.declared.data.Entry.{Entry}
use Rattle.ufs_store.specs.Ledgers.{HasAny, HasLedger, beginning_next, checkpointed, commit_stages, stages, with_room}
use Rattle.ufs_store.specs.State.{StoreState, geometry_of_store, has_room, next_commit, next_superblock}
use Rattle.ufs_promise_laws.specs.OnDisk.{AreReadable, HasStoppedBy}
use Rattle.ufs_promise_laws.specs.Parts.{Parts}
use Rattle.ufs_promise_laws.specs.Stored.{IsStored}
use Rattle.ufs_promise_laws.proofs.Reading.{begun_readable, home_readable, settled_readable, stored_readable, tried_readable}
use Rattle.ufs_promise_laws.proofs.Zeros.{no_place}

module _ (g : Geometry) (s : StoreState) (l : Ledger) (start : PosixTree) (history : List Entry) (k : Counts) (p : Parts) (same : geometry_of_store s ≡ g) (formed : geometry_of l.superblock ≡ g) (stop : IsSome s.stop)
    (st : IsStored l s.unassigned.free start history k p) where
  -- with a ledger that the history explains
  stops_with : (m : Ledger) (maybe next : Counts) → (maybe ≡ k) ⊎ (maybe ≡ next) → geometry_of m.superblock ≡ g → IsLedgerOf s.sectors s.moments.state m → IsLedgerKept m start history k maybe → AreReadable m (tree_after start history) p
      → HasStoppedBy s start history p k next
  stops_with m maybe next which form has kept clean = record {
    stopped = record {
      stopped = stop;
      ledger = m;
      now = k;
      maybe = maybe;
      has = has;
      formed = form ∙ sym same;
      tree = st.tree;
      legal = st.legal;
      kept = kept;
      parts = st.parts;
      clean = clean;
    };
    now = refl;
    maybe = which;
  }

  readable : AreReadable l (tree_after start history) p
  readable = stored_readable l s.unassigned.free start history k p st

  pub barrier_stops : IsLedgerOf s.sectors s.moments.state l → HasStoppedBy s start history p k k
  barrier_stops has = stops_with l k k (inl refl) formed has st.kept readable

  pub write_stops : WrittenIsKept g → (block : ℕ) (bytes seen : List ℕ) → l.maybe ≡ None → has p.fresh block ≡ true → IsLedgerOf s.sectors s.moments.state (tried block bytes seen l) → HasStoppedBy s start history p k k
  write_stops keeps block bytes seen none fresh has =
      let free = no_place g l s.unassigned.free start history k p formed st block fresh in
      let once = keeps l block bytes start history k k formed none (λ file place at i less under. absurd (free file place (k.numbers.inode file) refl at)) st.kept in
      stops_with (tried block bytes seen l) k k (inl refl) formed has
      (keeps (written block bytes l) block seen start history k k formed none (λ file place at i less under. absurd (free file place (k.numbers.inode file) refl at)) once)
      (tried_readable l s.unassigned.free start history k p st block bytes seen fresh)

  module _ (old : StoreState) (led : HasLedger old l) where
    next_form : geometry_of (next_superblock old) ≡ g
    next_form = ap geometry_of (sym led.superblock_is) ∙ formed

    begun_read : AreReadable (beginning_next old l) (tree_after start history) p
    begun_read = begun_readable l (beginning_next old l).maybe (block_at (home_of l (reads old.moments))) (tree_after start history) p readable

    home_read : AreReadable (checkpointed old l) (tree_after start history) p
    home_read = home_readable l (next_superblock old) (block_at (home_of l (reads old.moments))) (tree_after start history) p (next_form ∙ sym formed) readable

    begun : BeginningIsKept g → IsLedgerKept (beginning_next old l) start history k k
    begun keeps = keeps l (next_superblock old) (block_at (home_of l (reads old.moments))) start history k k formed next_form st.kept

    pub checkpoint_stops : BeginningIsKept g → HasAny s (l ∷ beginning_next old l ∷ []) → HasStoppedBy s start history p k k
    checkpoint_stops keeps (inl is) = stops_with l k k (inl refl) formed is st.kept readable
    checkpoint_stops keeps (inr (inl is)) = stops_with (beginning_next old l) k k (inl refl) formed is (begun keeps) begun_read
    checkpoint_stops keeps (inr (inr none)) = absurd none

    pub commit_stops : BeginningIsKept g → EmptiedIsKept g → (records : List LogRecord) (next : Counts) → HasAny s (stages old records l)
        → IsLedgerKept (committing (next_commit old records) (settled (with_room old records l))) start history k next → HasStoppedBy s start history p k next
    commit_stops begins empties records next any kept = by (has_room old records) any kept
      where
        done : IsLedgerKept (checkpointed old l) start history k k
        done = empties l (next_superblock old) (block_at (home_of l (reads old.moments))) start history k k formed next_form st.kept

        by : (b : Bool) → HasAny s (if b then commit_stages (next_commit old records) l else l ∷ beginning_next old l ∷ commit_stages (next_commit old records) (checkpointed old l))
            → IsLedgerKept (committing (next_commit old records) (settled (if b then l else checkpointed old l))) start history k next → HasStoppedBy s start history p k next
        by true (inl is) kept = stops_with l k next (inl refl) formed is st.kept readable
        by true (inr (inl is)) kept = stops_with (committing (next_commit old records) (settled l)) next next (inr refl) formed is kept (settled_readable l (committing (next_commit old records) (settled l)).maybe (tree_after start history) p readable)
        by true (inr (inr none)) kept = absurd none
        by false (inl is) kept = stops_with l k next (inl refl) formed is st.kept readable
        by false (inr (inl is)) kept = stops_with (beginning_next old l) k next (inl refl) formed is (begun begins) begun_read
        by false (inr (inr (inl is))) kept = stops_with (checkpointed old l) k next (inl refl) next_form is done home_read
        by false (inr (inr (inr (inl is)))) kept = stops_with (committing (next_commit old records) (settled (checkpointed old l))) next next (inr refl) next_form is kept (settled_readable (checkpointed old l) (committing (next_commit old records) (settled (checkpointed old l))).maybe (tree_after start history) p home_read)
        by false (inr (inr (inr (inr none)))) kept = absurd none
