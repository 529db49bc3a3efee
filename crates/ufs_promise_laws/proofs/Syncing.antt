-- A file is synced.
use Rattle.std.proofs.Common.{◌≡◌, ◌≢◌, ℕ, ◌≤◌, ◌⊎◌, inl, inr, Bool, true, false, ◌||◌, List, [], ◌∷◌, Some, length, is_some, ap, sym, refl, ◌∙◌, subst, arith}
use Rattle.std.specs.Prelude.{◌==◌, IsSome, if◌then◌else◌}
use Rattle.std.specs.FinMap as map
use Rattle.std.specs.FinSet as set
use Rattle.std.proofs.lemmas.Bool.Decides.{nat_tests}
use Rattle.ufs_bitmap.specs.Blocks.{BlockSet}
use Rattle.ufs_bitmap.specs.Taking.{has, set_of}
use Rattle.ufs_bitmap.proofs.SetLemmas.{has-insert}
use Rattle.ufs_file.specs.Content.{IsContentOf}
use Rattle.ufs_file.specs.Hand.{FileState}
use Rattle.ufs_ledger.specs.Kept.{Counts}
use Rattle.ufs_ledger.specs.Laws.{raised}
use Rattle.ufs_ledger.specs.Ledger.{Ledger}
use Rattle.ufs_model.specs.FileBytes.{bytes_of}
use Rattle.ufs_model.specs.History.{tree_after}
use Rattle.ufs_model.specs.PosixTree.{PosixTree}
use Rattle.ufs_model.specs.declared.data.Entry.{Entry}
use Rattle.ufs_crash_laws.specs.Changes.{changes_of}
use Rattle.ufs_file_commits.specs.Committing.{FilesMayCommitNext, FitsInode, all_shown}
use Rattle.ufs_file_commits.specs.Standing.{DirtyMayBeWritten, StandsFor}
use Rattle.ufs_file_commits.specs.State.{DurableState, file_committed, whole_of}
use Rattle.ufs_file_commits.specs.Writes.{MayWriteAll, writes_of}
use Rattle.ufs_file_commits.proofs.Wholes.{writes_are_whole}
use Rattle.ufs_store.specs.Ledgers.{HasLedger}
use Rattle.ufs_store.specs.State.{StoreState}
use Rattle.ufs_store.proofs.Deltas.{delta_of}
use Rattle.ufs_promise_laws.specs.Laws.{FilesAreCommitted, FilesAreSettled}
use Rattle.ufs_promise_laws.specs.OnDisk.{HasFiles, IsGoing}
use Rattle.ufs_promise_laws.specs.Parts.{Parts, durable_in, with_file}
use Rattle.ufs_promise_laws.specs.Stored.{IsFileStored, IsFileWhole, IsStored}
use Rattle.ufs_promise_laws.proofs.Whole.{fits_whole, tree_may}
use Rattle.ufs_promise_laws.specs.Syncs.{FileSyncsGoOn, HasSynced}
use Rattle.ufs_store.proofs.SameStates.{same_or_other}

-- ---- which files are done

one_or_done : (done : List ℕ) (file other : ℕ) → has (file ∷ done) other ≡ true → (other == file) ≡ false → has done other ≡ true
one_or_done done file other is apart = by (other == file) (has done other) (sym (has-insert (set.from_list done) file other) ∙ is) apart
  where
    by : (a b : Bool) → (a || b) ≡ true → a ≡ false → b ≡ true
    by true b e off = absurd cc
    by false b e off = e

module _ (old new : StoreState) (start : PosixTree) (history : List Entry) (p : Parts) (f : FileState) (at : map.get p.files f.file ≡ Some f) (live : IsSome (map.get p.names.held f.file)) where
  abbrev x : DurableState
  x = durable_in p.commits f

  -- with the tree's bytes
  abbrev bytes : List ℕ
  bytes = bytes_of (tree_after start history).bytes f.file

  abbrev w : DurableState
  w = whole_of (bytes_of (tree_after start history).bytes f.file) (durable_in p.commits f)

  abbrev q : Parts
  q = with_file (file_committed (durable_in p.commits f)) p.pool p

  -- the file stands where it has its inode
  pub stands : (l : Ledger) (k : Counts) → IsSome (k.numbers.inode f.file) → IsFileStored l k.numbers w → StandsFor l w
  stands l k there (inl both) = both.1
  stands l k there (inr both) = (let no : false ≡ true = ap is_some (sym both.0) ∙ there in absurd cc)

  module _ (done : List ℕ) (files : HasFiles old start history p done) where
    abbrev go : IsGoing old start history p
    go = files.names.going

    abbrev k : Counts
    k = files.names.going.counts

    there : IsSome (k.numbers.inode f.file)
    there = files.names.numbered f.file live

    may : IsContentOf f.content bytes
    may = tree_may (tree_after start history) f.file f (go.stored.parts.files f.file f at)

    -- what is written is the same, since what is dirty is in memory
    same_writes : writes_of w.file ≡ writes_of f
    same_writes = writes_are_whole f bytes (go.stored.noted f.file f at).written may

    whole : IsFileWhole go.ledger k.numbers w
    whole = go.stored.each f.file f at

    pub may_write : DirtyMayBeWritten → MayWriteAll go.ledger (writes_of f)
    may_write dirty = subst (MayWriteAll go.ledger) same_writes (dirty go.ledger w whole.noted (stands go.ledger k there whole.stored))

    shown : (file : ℕ) → has (f.file ∷ done) file ≡ true → length (changes_of file start history) ≤ raised k.files f.file (length (changes_of f.file start history)) file
    shown file is = by (file == f.file) refl
      where
        by : (b : Bool) → (file == f.file) ≡ b → length (changes_of file start history) ≤ raised k.files f.file (length (changes_of f.file start history)) file
        by true e =
            let same : file ≡ f.file = grind (arith, nat_tests, e) in
            let more : raised k.files f.file (length (changes_of f.file start history)) file ≡ length (changes_of f.file start history) = ap (λ (b : Bool). if b then length (changes_of f.file start history) else k.files file) e in
            let one : length (changes_of f.file start history) ≡ length (changes_of file start history) = ap (λ n. length (changes_of n start history)) (sym same) in
            omega (arith, more, one)
        by false e =
            let more : raised k.files f.file (length (changes_of f.file start history)) file ≡ k.files file = ap (λ (b : Bool). if b then length (changes_of f.file start history) else k.files file) e in
            let was = files.files file (one_or_done done f.file file is e) in
            omega (arith, more, was)

    -- a store that has the next ledger goes on by it
    with_ledger : (m : Ledger) → new.unassigned.free ≡ set.union old.unassigned.free (set_of x.dropped) → HasLedger new m → IsStored m (set.union old.unassigned.free (set_of x.dropped)) start history (all_shown f start history k) q
        → HasFiles new start history q (f.file ∷ done)
    with_ledger m freed has_it stored = record {
      names = record {
        going = record { ledger = m; counts = all_shown f start history k; has = has_it; formed = has_it.by.geometry; stored = subst (λ (u : BlockSet). IsStored m u start history (all_shown f start history k) q) (sym freed) stored };
        names = files.names.names;
        numbered = files.names.numbered;
      };
      files = shown;
    }

    pub synced : FilesAreCommitted → FilesAreSettled → DirtyMayBeWritten → FilesMayCommitNext → FitsInode f → HasSynced old new x → HasFiles new start history q (f.file ∷ done)
    synced committed settled dirty next fits told = by (same_or_other x.log.noted x.log.committed)
      where
        by : (x.log.noted ≡ x.log.committed) ⊎ (x.log.noted ≢ x.log.committed) → HasFiles new start history q (f.file ∷ done)
        by (inl same) = with_ledger _ told.freed (told.same same go.ledger go.has (may_write dirty)) (settled old go.ledger old.unassigned.free start history k p f go.has at same there go.stored)
        by (inr not) =
            let change = delta_of x.log.inode x.log.committed x.log.noted in
            let goes = next old change.0 go.ledger w [] (record { has = go.has; noted = whole.noted; stands = stands go.ledger k there whole.stored; own = whole.own; fits = fits_whole bytes f may fits; delta = change.1 }) in
            let has_it = told.changed change.0 change.1 not go.ledger go.has (may_write dirty) goes in
            with_ledger _ told.freed has_it.has (committed old has_it.between change.0 go.ledger old.unassigned.free start history k p f go.has at change.1 fits there go.stored)

pub file_syncs_go_on : FilesAreCommitted → FilesAreSettled → DirtyMayBeWritten → FilesMayCommitNext → FileSyncsGoOn
file_syncs_go_on committed settled may next old new start history p f done at live fits told files = synced old new start history p f at live done files committed settled may next fits told
