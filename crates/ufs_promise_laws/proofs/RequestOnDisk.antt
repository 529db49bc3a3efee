-- A server is on its disk behind a request of the names.
use Rattle.std.proofs.Common.{◌≡◌, ℕ, ◌+◌, ◌<◌, ◌≤◌, ◌⊎◌, inl, inr, List, [], ◌∷◌, ◌++◌, true, false, Some, None, length, ap, sym, refl, ◌∙◌, subst, arith}
use Rattle.std.specs.Prelude.{unwrap_or}
use Rattle.std.specs.FinMap as map
use Rattle.std.specs.FinSet as set
use Rattle.ufs_bitmap.specs.Blocks.{BlockSet}
use Rattle.ufs_bitmap.specs.Taking.{has}
use Rattle.ufs_file_commits.specs.Standing.{IsReadable}
use Rattle.ufs_file_commits.specs.State.{IsNoted, whole_of}
use Rattle.ufs_file.specs.Hand.{FileState, whole_as}
use Rattle.ufs_image.specs.Catalog.{IsInode}
use Rattle.ufs_layout.specs.Superblock.{geometry_of}
use Rattle.ufs_layout.specs.declared.geometry.Geometry.{Geometry}
use Rattle.ufs_ledger.specs.Kept.{Counts, IsLedgerKept}
use Rattle.ufs_ledger.specs.Laws.{EntriesKeep}
use Rattle.ufs_ledger.specs.Ledger.{Ledger}
use Rattle.ufs_model.specs.FileBytes.{bytes_of}
use Rattle.ufs_model.specs.History.{IsLegal, tree_after}
use Rattle.ufs_model.specs.PosixTree.{IsTree, PosixTree}
use Rattle.ufs_model.specs.declared.data.Entry.{Entry}
use Rattle.ufs_model.proofs.Facts.Lookups.{there_or_not}
use Rattle.ufs_promise_laws.specs.Names.{TablesNameSoundly}
use Rattle.ufs_name_tree.specs.Notes.{GoesByNotes}
use Rattle.ufs_names.specs.Calls.{HasNoByte, no_bytes}
use Rattle.ufs_crash_laws.specs.Changes.{asks_commit}
use Rattle.ufs_crash_laws.specs.StepLaws.{OthersAcknowledgeNothing}
use Rattle.ufs_store.specs.State.{StoreState, geometry_of_store}
use Rattle.ufs_promise_laws.specs.Laws.{NameEntriesKeep, NotesGoOn, StaysOrNew}
use Rattle.ufs_promise_laws.specs.OnDisk.{AreReadable, HasStopped, IsGoing, IsOnDisk}
use Rattle.ufs_promise_laws.specs.Parts.{Parts, durable_in}
use Rattle.ufs_promise_laws.specs.Sound.{IsSoundServer}
use Rattle.ufs_promise_laws.specs.Stored.{AreNamesStored, IsFileWhole, IsStored}
use Rattle.ufs_promise_laws.proofs.Whole.{tree_has, tree_has_none}
use Rattle.ufs_promise_laws.specs.RequestLaws.{RequestsAreOnDisk}
use Rattle.ufs_promise_laws.specs.Requests.{IsNamesRequest, StaysOrEmptied}
use Rattle.ufs_promise_laws.proofs.Emptied.{emptied_noted, emptied_whole}
use Rattle.ufs_promise_laws.proofs.SoundNames.{sound_then}
use Rattle.ufs_promise_laws.proofs.RequestNewFiles.{is_empty, is_next, is_unknown}
use Rattle.ufs_promise_laws.proofs.Numbers.{in_table, keeps_numbers, none_yet, parts_now}
use Rattle.ufs_promise_laws.proofs.RequestSpaced.{spaced_now}

module _ (g : Geometry) (keeps : EntriesKeep g) (others : OthersAcknowledgeNothing) (entries : NameEntriesKeep g) (notes : NotesGoOn g) (tables : TablesNameSoundly g)
    (start : PosixTree) (history : List Entry) (entry : Entry) (p next : Parts) (lent left unassigned : BlockSet) (legal : IsLegal start (history ++ entry ∷ [])) (unsynced : asks_commit entry.op ≡ false)
    (r : IsNamesRequest (tree_after start history) (tree_after start (history ++ entry ∷ [])) p next lent left) (sound : IsSoundServer g unassigned p) where
  abbrev t : PosixTree
  t = tree_after start history

  abbrev u : PosixTree
  u = tree_after start (history ++ entry ∷ [])

  -- a file that is as it was has the bytes that it had
  same_bytes : (f : ℕ) (o s : FileState) → map.get p.files f ≡ Some o → map.get next.files f ≡ Some s → s ≡ o → map.get u.bytes f ≡ map.get t.bytes f
  same_bytes f o s was here same = by (r.go_on.stays f o s was here)
    where
      by : ((s ≡ o) × (map.get u.bytes f ≡ map.get t.bytes f)) ⊎ HasNoByte u f o.inode s → map.get u.bytes f ≡ map.get t.bytes f
      by (inl both) = both.1
      by (inr none) =
          let of = r.before.files f o was in
          let empty = tree_has_none t f o of (ap (λ (h : FileState). h.content.bytes) (sym same ∙ none.0)) in
          none.1 ∙ sym (tree_has t f o of ∙ ap Some empty)

  module _ (l : Ledger) (k : Counts) (same : geometry_of l.superblock ≡ g) (st : IsStored l unassigned start history k p) where
    -- no file that is still to be born has an inode on the disk
    unborn : (f : ℕ) → t.next ≤ f → k.numbers.inode f ≡ None
    unborn f past = (st.kept.here.stored.fresh f past).1

    names_now : GoesByNotes p.names.tree next.names.tree lent → AreNamesStored l k.numbers next.fresh next.names
    names_now (inl gone) = inl gone.lost.none
    names_now (inr go) =
        subst (λ (fresh : List ℕ). AreNamesStored l k.numbers fresh next.names) (sym r.fresh)
        (notes l unassigned start history k p next.names r.taken lent go same sound.counted (λ b is. r.is_taken b ∙ is) (λ b is. r.pooled b (sym (r.is_taken b) ∙ is))
        (λ s state was. sound_then g tables p.names.tree next.names.tree r.was_table r.table lent go sound.counted r.counted s state was)
        (keeps_numbers t u p next lent left r k.numbers unborn go) r.after.inodes st)

    file_now : (f : ℕ) (s : FileState) → map.get next.files f ≡ Some s → ((o : FileState) × (map.get p.files f ≡ Some o)) ⊎ (map.get p.files f ≡ None) → StaysOrNew t u l k.numbers p next f s
    file_now f s here (inl at) = by (r.stay f at.0 s at.1 here)
      where
        none : s ≡ no_bytes at.0.file at.0.inode → bytes_of u.bytes f ≡ []
        none is = tree_has_none u f s (r.files f s here) (ap (λ (h : FileState). h.content.bytes) is)

        by : StaysOrEmptied p next at.0 s → StaysOrNew t u l k.numbers p next f s
        by (inl is) = inl (at.1 ∙ ap Some (sym is.0), is.1 ∙ ap (durable_in p.commits) (sym is.0), same_bytes f at.0 s at.1 here is.0)
        by (inr cut) = inr (inr (
          subst IsNoted (sym cut.1) (emptied_noted (durable_in p.commits at.0) (st.noted f at.0 at.1)),
          subst (IsFileWhole l k.numbers) (sym (λ i. whole_of (none cut.0 i) (cut.1 i))) (emptied_whole (whole_of (bytes_of t.bytes f) (durable_in p.commits at.0)) l k.numbers (st.each f at.0 at.1)),
        ))
    file_now f s here (inr none) =
        let number = (r.files f s here).0 in
        let at = in_table t u p next lent left r f s here in
        let from = at.0 in let within = at.1 in let counted = r.counted in let had = sound.counted in
        inr (inl (record {
          empty = is_empty t u p next lent left r f s none here ∙ ap (λ (n : ℕ). no_bytes n s.inode) (sym number);
          unknown = is_unknown t u p next lent left r f s none here;
          unborn = ap k.numbers.inode number ∙ none_yet t u p next lent left r k.numbers unborn f (is_next t u p next lent left r f s none here);
          in_range = subst (λ (h : Geometry). IsInode h s.inode) (sym same) (record { from_one = from; within = omega (arith, within, counted, had) });
        }))

    pub stored_now : IsStored l unassigned start (history ++ entry ∷ []) k next
    stored_now =
        entries l unassigned start history entry k p next same legal (others start history entry k.names k.files (inr unsynced)) (parts_now t u p next lent left r)
        (names_now r.noted) (λ f s here. file_now f s here (there_or_not (map.get p.files f)))
        (spaced_now t u p next lent left unassigned r l k.numbers st.spaced (λ f s at. (st.each f s at).once)) st

  -- the promise of a ledger of which it isn't known whether the last commit stands
  kept_now : (l : Ledger) (now maybe : Counts) → geometry_of l.superblock ≡ g → IsTree start → IsLedgerKept l start history now maybe → IsLedgerKept l start (history ++ entry ∷ []) now maybe
  kept_now l now maybe same is kept =
      let keep = subst EntriesKeep (sym same) keeps in
      record {
        here = keep l.blocks l.now start history entry now.names now.files now.numbers is legal (others start history entry now.names now.files (inr unsynced)) kept.here;
        there = λ other at. let was = kept.there other at in (was.0, keep l.blocks other.stand start history entry maybe.names maybe.files maybe.numbers is legal (others start history entry maybe.names maybe.files (inr unsynced)) was.1);
      }

  -- a file that stays without being emptied is read as before; one that is empty has nothing to read
  pub readable_now : (l : Ledger) → AreReadable l t p → AreReadable l u next
  readable_now l reads f s here = by (there_or_not (map.get p.files f))
    where
      empty : (h : FileState) → s ≡ no_bytes h.file h.inode → IsReadable l (whole_as (bytes_of u.bytes f) s)
      empty h is = subst (λ (x : FileState). IsReadable l (whole_as (bytes_of u.bytes f) x)) (sym is) (record { blocks = λ place block at clean. (let none = at in absurd cc); clean = λ place block at clean. (let none = at in absurd cc) })

      stays : (o : FileState) → map.get p.files f ≡ Some o → StaysOrEmptied p next o s → IsReadable l (whole_as (bytes_of u.bytes f) s)
      stays o was (inl same) = subst (IsReadable l) (sym (λ i. whole_as (unwrap_or (same_bytes f o s was here same.0 i) []) (same.0 i))) (reads f o was)
      stays o was (inr cut) = empty o cut.0

      by : ((o : FileState) × (map.get p.files f ≡ Some o)) ⊎ (map.get p.files f ≡ None) → IsReadable l (whole_as (bytes_of u.bytes f) s)
      by (inl at) = stays at.0 at.1 (r.stay f at.0 s at.1 here)
      by (inr none) = empty (no_bytes f s.inode) (is_empty t u p next lent left r f s none here)

  pub on_disk_now : (s : StoreState) → geometry_of_store s ≡ g → s.unassigned.free ≡ unassigned → IsOnDisk s start history p → IsOnDisk s start (history ++ entry ∷ []) next
  on_disk_now s form free (inl going) = inl (record {
    ledger = going.ledger;
    counts = going.counts;
    has = going.has;
    formed = going.formed;
    stored = subst (λ (blocks : BlockSet). IsStored going.ledger blocks start (history ++ entry ∷ []) going.counts next) (sym free)
        (stored_now going.ledger going.counts (going.formed ∙ form) (subst (λ (blocks : BlockSet). IsStored going.ledger blocks start history going.counts p) free going.stored));
  })
  on_disk_now s form free (inr stopped) = inr (record {
    stopped = stopped.stopped;
    ledger = stopped.ledger;
    now = stopped.now;
    maybe = stopped.maybe;
    has = stopped.has;
    formed = stopped.formed;
    tree = stopped.tree;
    legal = legal;
    kept = kept_now stopped.ledger stopped.now stopped.maybe (stopped.formed ∙ form) stopped.tree stopped.kept;
    parts = parts_now t u p next lent left r;
    clean = readable_now stopped.ledger stopped.clean;
  })

pub request_on_disk : (g : Geometry) → EntriesKeep g → OthersAcknowledgeNothing → NameEntriesKeep g → NotesGoOn g → TablesNameSoundly g → RequestsAreOnDisk g
request_on_disk g keeps others entries notes tables s start history entry p next lent left form legal unsynced r sound on =
    on_disk_now g keeps others entries notes tables start history entry p next lent left s.unassigned.free legal unsynced r sound s form refl on
