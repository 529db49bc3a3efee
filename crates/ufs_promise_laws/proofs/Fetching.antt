-- Blocks of a file are read from the disk of its server.
use Rattle.std.proofs.Common.{◌≡◌, ◌≢◌, ℕ, ◌⊎◌, inl, inr, Bool, List, Some, ap, sym, refl, ◌∙◌, subst}
use Rattle.std.specs.Prelude.{IsSome, IsTrue}
use Rattle.std.specs.FinMap as map
use Rattle.ufs_bitmap.specs.Blocks.{BlockSet}
use Rattle.ufs_bitmap.specs.Space.{Space}
use Rattle.ufs_bitmap.specs.Taking.{IsApart}
use Rattle.ufs_file.specs.Content.{IsContentOf}
use Rattle.ufs_file.specs.Hand.{FileState, whole_as}
use Rattle.ufs_files.specs.Files.{AreNumbered}
use Rattle.ufs_layout.specs.declared.geometry.Geometry.{Geometry}
use Rattle.ufs_ledger.specs.Kept.{Counts}
use Rattle.ufs_ledger.specs.Ledger.{IsDataBlock, Ledger}
use Rattle.ufs_model.specs.FileBytes.{bytes_of}
use Rattle.ufs_model.specs.History.{tree_after}
use Rattle.ufs_model.specs.PosixTree.{PosixTree}
use Rattle.ufs_model.specs.declared.data.Entry.{Entry}
use Rattle.ufs_file_commits.specs.Standing.{IsReadable}
use Rattle.ufs_file_commits.specs.State.{DurableState, IsNoted, blocks_held, whole_of}
use Rattle.ufs_store.specs.State.{StoreState, geometry_of_store}
use Rattle.ufs_promise_laws.specs.AlwaysLaws.{LedgersAreExplained}
use Rattle.ufs_promise_laws.specs.OnDisk.{AreReadable, IsExplainedBetween, IsOnDisk}
use Rattle.ufs_promise_laws.specs.Parts.{Owner, Owns, Parts, ThePool, durable_in, with_file}
use Rattle.ufs_promise_laws.specs.Sound.{IsFileSound, IsSoundServer}
use Rattle.ufs_promise_laws.specs.Stored.{ArePartsOf, IsFileWhole, IsStored}
use Rattle.ufs_promise_laws.proofs.FileEntries.{parts_now}
use Rattle.ufs_promise_laws.proofs.Puts.{durable_else, durable_here, either}
use Rattle.ufs_promise_laws.proofs.Reading.{stored_readable}
use Rattle.ufs_promise_laws.proofs.Spaced as spaced
use Rattle.ufs_promise_laws.proofs.Spaced.{pool_apart}
use Rattle.ufs_promise_laws.proofs.Whole.{tree_has, tree_may}
use Rattle.ufs_promise_laws.specs.Fetches.{FetchesAreExplained, FetchesGoOn, FetchesReadTheTree, IsFetched, PartsByFetches, SoundByFetches, with_read}
use Rattle.ufs_promise_laws.proofs.Sound.{each_put, inodes_put, known_put}

-- ---- the file with other bytes and marks

module _ (p : Parts) (f : FileState) (bs : List ℕ) (ms : List Bool) (at : map.get p.files f.file ≡ Some f) where
  abbrev now : FileState
  now = record f { content = record (f.content) { bytes = bs; there = ms } }

  abbrev x : DurableState
  x = record (durable_in p.commits f) { file = now }

  abbrev q : Parts
  q = with_file x p.pool p

  parts_read : (t : PosixTree) → IsContentOf now.content (bytes_of t.bytes f.file) → ArePartsOf p t → ArePartsOf q t
  parts_read t may parts =
      parts_now p f x p.pool at refl refl t t parts parts.names (record { bytes = bytes_of t.bytes f.file; has = tree_has t f.file f (parts.files f.file f at); may = may }) (λ n not. refl)

  sound_read : (g : Geometry) (u : BlockSet) → AreNumbered p.files → IsNoted x → IsSoundServer g u p → IsSoundServer g u q
  sound_read g u numbered noted sound = record {
    apart = spaced.apart_now u p f x p.pool at refl apart refl (λ b e. e) numbered sound.apart;
    inside = inside;
    each = each_put g p f x p.pool at refl refl numbered (record { noted = noted; once = whole.once; inode = whole.inode }) sound.each;
    inodes = inodes_put g p f x p.pool at refl refl numbered sound.inodes;
    known = known_put g p f x p.pool at refl refl numbered sound.known;
    counted = sound.counted;
    parted = sound.parted;
  }
    where
      whole : IsFileSound g (durable_in p.commits f)
      whole = sound.each f.file f at

      apart : IsApart p.pool (blocks_held x)
      apart = pool_apart u p f at whole.once sound.apart

      inside : (owner : Owner) (b : ℕ) → Owns q u owner b → IsDataBlock g b
      inside owner b owns = by (spaced.before u p f x p.pool at refl apart refl (λ b e. e) numbered sound.apart owner b owns)
        where
          by : spaced.Before u p f x p.pool at refl apart refl (λ b e. e) numbered sound.apart owner b → IsDataBlock g b
          by (inl had) = sound.inside owner b had
          by (inr new) = sound.inside ThePool b new.1

  pub readable_read : (l : Ledger) (t : PosixTree) → AreReadable l t p → AreReadable l t q
  readable_read l t all file h there = by (either x p.pool p file h there)
    where
      by : ((file ≡ f.file) × (h ≡ now)) ⊎ ((file ≢ f.file) × (map.get p.files file ≡ Some h)) → IsReadable l (whole_as (bytes_of t.bytes file) h)
      by (inl both) = subst (IsReadable l) (sym (λ i. whole_as (bytes_of t.bytes (both.0 i)) (both.1 i))) (all f.file f at)
      by (inr both) = all file h both.1

  module _ (l : Ledger) (u : BlockSet) (start : PosixTree) (history : List Entry) (k : Counts) (st : IsStored l u start history k p) where
    abbrev bytes : ℕ → List ℕ
    bytes file = bytes_of (tree_after start history).bytes file

    itself : (h : FileState) → h ≡ now → durable_in q.commits h ≡ x
    itself h is = ap (durable_in q.commits) is ∙ durable_here x p.pool p

    another : (file : ℕ) (h : FileState) → file ≢ f.file → map.get p.files file ≡ Some h → durable_in q.commits h ≡ durable_in p.commits h
    another file h not there = durable_else x p.pool p h (λ e. not (sym (st.parts.files file h there).0 ∙ e))

    pub stored_read : IsNoted x → IsContentOf now.content (bytes_of (tree_after start history).bytes f.file) → IsStored l u start history k q
    stored_read noted may = record {
      tree = st.tree;
      legal = st.legal;
      kept = st.kept;
      parts = parts_read (tree_after start history) may st.parts;
      names = st.names;
      counted = st.counted;
      noted = λ file h there. is_noted file h (either x p.pool p file h there);
      each = λ file h there. is_whole file h (either x p.pool p file h there);
      spaced = spaced.spaced_now l u k.numbers p f x p.pool at refl apart refl (λ b e. e) (λ n r there. (st.parts.files n r there).0) st.spaced;
    }
      where
        apart : IsApart p.pool (blocks_held x)
        apart = pool_apart u p f at (st.each f.file f at).once st.spaced.apart

        is_noted : (file : ℕ) (h : FileState) → ((file ≡ f.file) × (h ≡ now)) ⊎ ((file ≢ f.file) × (map.get p.files file ≡ Some h)) → IsNoted (durable_in q.commits h)
        is_noted file h (inl both) = subst IsNoted (sym (itself h both.1)) noted
        is_noted file h (inr both) = subst IsNoted (sym (another file h both.0 both.1)) (st.noted file h both.1)

        is_whole : (file : ℕ) (h : FileState) → ((file ≡ f.file) × (h ≡ now)) ⊎ ((file ≢ f.file) × (map.get p.files file ≡ Some h)) → IsFileWhole l k.numbers (whole_of (bytes file) (durable_in q.commits h))
        is_whole file h (inl both) = subst (IsFileWhole l k.numbers) (sym (λ i. whole_of (bytes (both.0 i)) (itself h both.1 i))) (st.each f.file f at)
        is_whole file h (inr both) = subst (IsFileWhole l k.numbers) (sym (ap (whole_of (bytes file)) (another file h both.0 both.1))) (st.each file h both.1)

pub parts_by_fetches : PartsByFetches
parts_by_fetches t p f g at rest may parts =
    subst (λ (y : FileState). IsContentOf y.content (bytes_of t.bytes f.file) → ArePartsOf (with_read f y p) t) (sym rest) (λ m. parts_read p f g.content.bytes g.content.there at t m parts) may

pub sound_by_fetches : SoundByFetches
sound_by_fetches geometry u p f g numbered at rest noted sound =
    subst (λ (y : FileState). IsNoted (record (durable_in p.commits f) { file = y }) → IsSoundServer geometry u (with_read f y p)) (sym rest) (λ n. sound_read p f g.content.bytes g.content.there at geometry u numbered n sound)
    (noted (record { log = (durable_in p.commits f).log; dropped = (durable_in p.commits f).dropped }) (sound.each f.file f at).noted)

-- ---- the disk

module _ (visible keeps : Bool) (old new : StoreState) (start : PosixTree) (history : List Entry) (p : Parts) (f g : FileState) (seen : IsTrue visible) (told : IsFetched visible keeps old new f g) where
  abbrev tree : PosixTree
  tree = tree_after start history

  module _ (at : map.get p.files f.file ≡ Some f) where
    pub reads : IsOnDisk old start history p → IsContentOf g.content (bytes_of tree.bytes f.file)
    reads (inl go) =
        told.read seen go.ledger (bytes_of tree.bytes f.file) go.has.by.is (stored_readable go.ledger old.unassigned.free start history go.counts p go.stored f.file f at) (tree_may tree f.file f (go.stored.parts.files f.file f at))
    reads (inr st) = told.read seen st.ledger (bytes_of tree.bytes f.file) st.has (st.clean f.file f at) (tree_may tree f.file f (st.parts.files f.file f at))

    pub stored : (l : Ledger) (u : BlockSet) (k : Counts) → IsStored l u start history k p → IsContentOf g.content (bytes_of tree.bytes f.file) → IsStored l u start history k (with_read f g p)
    stored l u k st may =
        subst (λ (y : FileState). IsNoted (record (durable_in p.commits f) { file = y }) → IsContentOf y.content (bytes_of tree.bytes f.file) → IsStored l u start history k (with_read f y p)) (sym told.rest)
        (stored_read p f g.content.bytes g.content.there at l u start history k st)
        (told.noted (record { log = (durable_in p.commits f).log; dropped = (durable_in p.commits f).dropped }) (st.noted f.file f at)) may

    goes_on : (on : IsOnDisk old start history p) → IsContentOf g.content (bytes_of tree.bytes f.file) → IsOnDisk new start history (with_read f g p)
    goes_on (inl go) may = inl (record {
      ledger = go.ledger;
      counts = go.counts;
      has = told.ledger seen go.ledger go.has;
      formed = go.formed ∙ ap geometry_of_store (sym told.store);
      stored = subst (λ (a : Space). IsStored go.ledger a.free start history go.counts (with_read f g p)) (ap (λ (s : StoreState). s.unassigned) (sym told.store)) (stored go.ledger old.unassigned.free go.counts go.stored may);
    })
    goes_on (inr st) may = inr (record {
      stopped = subst IsSome (ap (λ (s : StoreState). s.stop) (sym told.store)) st.stopped;
      ledger = st.ledger;
      now = st.now;
      maybe = st.maybe;
      has = told.on_disk seen st.ledger st.has;
      formed = st.formed ∙ ap geometry_of_store (sym told.store);
      tree = st.tree;
      legal = st.legal;
      kept = st.kept;
      parts = parts_by_fetches tree p f g at told.rest may st.parts;
      clean = subst (λ (y : FileState). AreReadable st.ledger tree (with_read f y p)) (sym told.rest) (readable_read p f g.content.bytes g.content.there at st.ledger tree st.clean);
    })

  explained : (geometry : Geometry) → LedgersAreExplained geometry → geometry_of_store old ≡ geometry → IsOnDisk old start history p → IsExplainedBetween keeps old.sectors start history old.moments new.moments
  explained geometry ledgers form (inl go) =
      ledgers keeps old.sectors old.moments new.moments go.ledger start history (record { now = go.counts; maybe = go.counts; formed = go.formed ∙ form; kept = go.stored.kept }) (told.crash seen go.ledger go.has.by.is)
  explained geometry ledgers form (inr st) =
      ledgers keeps old.sectors old.moments new.moments st.ledger start history (record { now = st.now; maybe = st.maybe; formed = st.formed ∙ form; kept = st.kept }) (told.crash seen st.ledger st.has)

pub fetches_read_the_tree : FetchesReadTheTree
fetches_read_the_tree visible keeps old new start history p f g seen at told on = reads visible keeps old new start history p f g seen told at on

pub fetches_go_on : FetchesGoOn
fetches_go_on visible keeps old new start history p f g seen at told on = goes_on visible keeps old new start history p f g seen told at on (reads visible keeps old new start history p f g seen told at on)

pub fetches_are_explained : (geometry : Geometry) → LedgersAreExplained geometry → FetchesAreExplained geometry
fetches_are_explained geometry ledgers visible keeps old new start history p f g form seen told on = explained visible keeps old new start history p f g seen told geometry ledgers form on
