-- A server on a disk goes on by an entry, and by free blocks that move.
use Rattle.std.proofs.Common.{◌≡◌, ◌≢◌, ◌⊎◌, inl, inr, ℕ, Bool, false, true, Option, Some, List, [], ◌∷◌, ◌++◌, is_some, ap, sym, refl, ◌∙◌, subst}
use Rattle.std.specs.Prelude.{IsSome, unwrap_or}
use Rattle.std.specs.FinMap as map
use Rattle.ufs_bitmap.specs.Blocks.{BlockSet}
use Rattle.ufs_bitmap.specs.Taking.{IsApart}
use Rattle.ufs_file.specs.Hand.{FileState, IsFileOf, IsPosix, whole_as}
use Rattle.ufs_files.proofs.MapLemmas.{one_or_apart, put_else, put_here}
use Rattle.ufs_layout.specs.Superblock.{geometry_of}
use Rattle.ufs_layout.specs.declared.geometry.Geometry.{Geometry}
use Rattle.ufs_ledger.specs.Laws.{EntriesKeep}
use Rattle.ufs_ledger.specs.Ledger.{Ledger}
use Rattle.ufs_ledger.proofs.Promise.{entry_kept}
use Rattle.ufs_model.specs.Asks.{IsAsk, file_in}
use Rattle.ufs_model.specs.FileBytes.{bytes_of}
use Rattle.ufs_model.specs.FileCalls.{is_on_file}
use Rattle.ufs_model.specs.History.{IsLegal, is_excused, tree_after}
use Rattle.ufs_model.specs.Laws.{KeepsTrees}
use Rattle.ufs_model.specs.Posix.{posix}
use Rattle.ufs_model.specs.PosixTree.{PosixTree}
use Rattle.ufs_model.specs.declared.data.Actor.{Actor}
use Rattle.ufs_model.specs.declared.data.Ask.{Ask}
use Rattle.ufs_model.specs.declared.data.Desc.{Desc}
use Rattle.ufs_model.specs.declared.data.Entry.{Entry}
use Rattle.ufs_model.proofs.Facts.Lookups.{same_some}
use Rattle.ufs_names.specs.Laws.{KeepsNames}
use Rattle.ufs_crash_laws.specs.Changes.{asks_commit}
use Rattle.ufs_crash_laws.specs.Explained.{IsAckCovered}
use Rattle.ufs_crash_laws.specs.StepLaws.{OthersAcknowledgeNothing}
use Rattle.ufs_file_commits.specs.Committing.{OwnsServed}
use Rattle.ufs_file_commits.specs.Serving.{IsApplied}
use Rattle.ufs_file_commits.specs.Standing.{IsReadable, ReadsServed, StandsServed}
use Rattle.ufs_file_commits.specs.State.{DurableState, blocks_held, whole_of}
use Rattle.ufs_file_commits.proofs.Requests.{same_inode, same_number}
use Rattle.ufs_file_commits.proofs.Wholes.{noted_as_whole}
use Rattle.ufs_store.specs.Ledgers.{HasLedger}
use Rattle.ufs_store.specs.State.{StoreState, geometry_of_store}
use Rattle.ufs_promise_laws.specs.OnDisk.{AreReadable, HasStopped, IsOnDisk}
use Rattle.ufs_promise_laws.specs.Parts.{Parts, durable_in, with_file}
use Rattle.ufs_promise_laws.specs.Sound.{IsFileSound, IsSoundServer}
use Rattle.ufs_promise_laws.specs.Stored.{ArePartsOf}
use Rattle.ufs_promise_laws.proofs.Entries.{ledger_kept}
use Rattle.ufs_promise_laws.proofs.FileEntries.{file_entry_kept, kept_after, others_after, parts_after, parts_now, served_after}
use Rattle.ufs_promise_laws.proofs.Pools.{blocks_move}
use Rattle.ufs_promise_laws.proofs.Spaced.{pool_apart}
use Rattle.ufs_promise_laws.proofs.Whole.{tree_may}
use Rattle.ufs_promise_laws.specs.FileRequests.{FileRequestsGoOn, FreeBlocksGoOn, PartsByExcuses, PartsByFileRequests, with_free}

pub entries_keep : KeepsTrees → (g : Geometry) → EntriesKeep g
entries_keep trees g blocks s start history entry names files n is legal acked kept = entry_kept g blocks s start history names files n kept trees is entry legal.entries acked

-- ---- a store that has stopped

pub stopped_kept : KeepsTrees → (s : StoreState) (start : PosixTree) (history : List Entry) (entry : Entry) (p q : Parts) → IsLegal start (history ++ entry ∷ [])
    → ((names : ℕ) (files : ℕ → ℕ) → IsAckCovered start history entry names files) → ArePartsOf q (tree_after start (history ++ entry ∷ [])) → (st : HasStopped s start history p) → AreReadable st.ledger (tree_after start (history ++ entry ∷ [])) q → HasStopped s start (history ++ entry ∷ []) q
stopped_kept trees s start history entry p q legal ack parts st clean = record {
  stopped = st.stopped;
  ledger = st.ledger;
  now = st.now;
  maybe = st.maybe;
  has = st.has;
  formed = st.formed;
  tree = st.tree;
  legal = legal;
  kept = ledger_kept (geometry_of st.ledger.superblock) (entries_keep trees (geometry_of st.ledger.superblock)) st.ledger start history entry st.now st.maybe refl st.tree legal (ack st.now.names st.now.files) (ack st.maybe.names st.maybe.files) st.kept;
  parts = parts;
  clean = clean;
}

-- ---- free blocks

pub same_ledger : (s : StoreState) (free : BlockSet) (l : Ledger) → HasLedger s l → HasLedger (with_free free s) l
same_ledger s free l h =
    record { going = h.going; by = h.by; superblock_is = h.superblock_is; added = h.added; numbered = h.numbered; unused = h.unused; settled = h.settled; older = h.older; fits = h.fits }

pub free_blocks_go_on : FreeBlocksGoOn
free_blocks_go_on s start history p pool rest moves on = by on
  where
    by : IsOnDisk s start history p → IsOnDisk (with_free rest s) start history (record p { pool = pool })
    by (inl going) = inl (record {
      ledger = going.ledger;
      counts = going.counts;
      has = same_ledger s rest going.ledger going.has;
      formed = going.formed;
      stored = blocks_move going.ledger s.unassigned.free rest start history going.counts p pool moves going.stored;
    })
    by (inr st) = inr (record {
      stopped = st.stopped;
      ledger = st.ledger;
      now = st.now;
      maybe = st.maybe;
      has = st.has;
      formed = st.formed;
      tree = st.tree;
      legal = st.legal;
      kept = st.kept;
      parts = record { names = st.parts.names; files = st.parts.files; inodes = st.parts.inodes; here = st.parts.here };
      clean = st.clean;
    })

-- ---- a request on a file

module _ (trees : KeepsTrees) (nothing : OthersAcknowledgeNothing) (names_keep : KeepsNames) (stands : StandsServed) (reads : ReadsServed) (owns : OwnsServed)
    (s : StoreState) (start : PosixTree) (history : List Entry) (entry : Entry) (p : Parts) (f : FileState) (next : DurableState) (pool : BlockSet) (ask : Ask) (server : Actor) (ticket : ℕ) (desc : Option Desc) (d : Desc)
    (legal : IsLegal start (history ++ entry ∷ [])) (no_commit : asks_commit entry.op ≡ false) (old : map.get p.files f.file ≡ Some f) (kind : is_on_file ask.op ≡ true) (asked : IsAsk (tree_after start history) ask) (is : ask.desc ≡ Some d)
    (of : d.file ≡ Some f.file) (applied : IsApplied (durable_in p.commits f) next p.pool pool ask server ticket entry desc) (sound : IsSoundServer (geometry_of_store s) s.unassigned.free p) where
  whole : IsFileSound (geometry_of_store s) (durable_in p.commits f)
  whole = sound.each f.file f old

  apart : IsApart p.pool (blocks_held (durable_in p.commits f))
  apart = pool_apart s.unassigned.free p f old whole.once sound.apart

  number : next.file.file ≡ f.file
  number = same_number (durable_in p.commits f) next p.pool pool whole.noted apart ask server ticket entry desc d is applied

  inode : next.file.inode ≡ f.inode
  inode = same_inode (durable_in p.commits f) next p.pool pool whole.noted apart ask server ticket entry desc d is applied

  ack : (names : ℕ) (files : ℕ → ℕ) → IsAckCovered start history entry names files
  ack names files = nothing start history entry names files (inr no_commit)

  abbrev before : PosixTree
  before = tree_after start history

  abbrev after : PosixTree
  after = tree_after start (history ++ entry ∷ [])

  -- the file with the tree's bytes, before the request and behind it
  abbrev w : DurableState
  w = whole_of (bytes_of before.bytes f.file) (durable_in p.commits f)

  abbrev w2 : DurableState
  w2 = whole_of (bytes_of after.bytes next.file.file) next

  -- what isn't dirty then wasn't before
  file_readable : (l : Ledger) → ArePartsOf p before → IsReadable l w.file → IsReadable l w2.file
  file_readable l parts was = at (is_excused entry.reply) refl
    where
      at : (b : Bool) → is_excused entry.reply ≡ b → IsReadable l w2.file
      at true e = subst (λ (y : DurableState). IsReadable l y.file) (sym (kept_after names_keep start history entry p f next pool ask server ticket desc d old kind asked is of applied number inode parts e)) was
      at false e =
          reads l w w2 p.pool pool d ask.op entry.reply desc
          (noted_as_whole (durable_in p.commits f) (bytes_of before.bytes f.file) whole.noted (tree_may before f.file f (parts.files f.file f old))) was
          (served_after names_keep start history entry p f next pool ask server ticket desc d old kind asked is of applied number inode parts e)

  pub readable : (l : Ledger) → ArePartsOf p before → AreReadable l before p → AreReadable l after (with_file next pool p)
  readable l parts all file h here = at (one_or_apart file next.file.file)
    where
      at : (file ≡ next.file.file) ⊎ (file ≢ next.file.file) → IsReadable l (whole_as (bytes_of after.bytes file) h)
      at (inl same) =
          let this : h ≡ next.file = same_some h next.file (sym here ∙ ap (map.get (with_file next pool p).files) same ∙ put_here p.files next.file.file next.file) in
          subst (IsReadable l) (sym (λ i. whole_as (bytes_of after.bytes (same i)) (this i))) (file_readable l parts (all f.file f old))
      at (inr not) =
          let stays = others_after names_keep start history entry p f next pool ask server ticket desc d old kind asked is of applied number inode parts file not in
          subst (λ (o : Option (List ℕ)). IsReadable l (whole_as (unwrap_or o []) h)) (sym stays) (all file h (sym (put_else p.files next.file.file next.file file not) ∙ here))

  goes_on : IsOnDisk s start history p → IsOnDisk s start (history ++ entry ∷ []) (with_file next pool p)
  goes_on (inl going) = inl (record {
    ledger = going.ledger;
    counts = going.counts;
    has = going.has;
    formed = going.formed;
    stored = file_entry_kept (geometry_of_store s) (entries_keep trees (geometry_of_store s)) nothing names_keep stands owns going.ledger s.unassigned.free start history entry going.counts p f next pool ask server ticket desc d
        going.formed legal no_commit old kind asked is of applied going.stored;
  })
  goes_on (inr stopped) = inr (stopped_kept trees s start history entry p (with_file next pool p) legal ack
      (parts_after names_keep start history entry p f next pool ask server ticket desc d old kind asked is of applied number inode stopped.parts) stopped (readable stopped.ledger stopped.parts stopped.clean))

pub requests_go_on : KeepsTrees → OthersAcknowledgeNothing → KeepsNames → StandsServed → ReadsServed → OwnsServed → FileRequestsGoOn
requests_go_on trees nothing names_keep stands reads owns s start history entry p f next pool ask server ticket desc d legal no_commit old kind asked is of applied sound on =
    goes_on trees nothing names_keep stands reads owns s start history entry p f next pool ask server ticket desc d legal no_commit old kind asked is of applied sound on

-- ---- the parts

pub parts_by_requests : KeepsNames → PartsByFileRequests
parts_by_requests names_keep g u t entry p f next pool ask server ticket desc d old kind asked is of applied sound served parts =
    parts_now p f next pool old number inode t (posix t ask.client ask.op).0 parts (names_keep p.names t ask parts.names asked kind named) stepped.goes_on stepped.others
  where
    whole : IsFileSound g (durable_in p.commits f)
    whole = sound.each f.file f old

    apart : IsApart p.pool (blocks_held (durable_in p.commits f))
    apart = pool_apart u p f old whole.once sound.apart

    number : next.file.file ≡ f.file
    number = same_number (durable_in p.commits f) next p.pool pool whole.noted apart ask server ticket entry desc d is applied

    inode : next.file.inode ≡ f.inode
    inode = same_inode (durable_in p.commits f) next p.pool pool whole.noted apart ask server ticket entry desc d is applied

    stepped : IsPosix t ask next.file entry.reply desc
    stepped = applied.posix served t (parts.files f.file f old).1 asked

    named : IsSome (file_in ask.desc)
    named = ap (λ (o : Option Desc). is_some (file_in o)) is ∙ ap is_some of

pub parts_by_excuses : PartsByExcuses
parts_by_excuses t entry p f next pool ask server ticket desc old applied excused parts =
    let same = applied.kept excused in
    parts_now p f next pool old (ap (λ (y : DurableState). y.file.file) same) (ap (λ (y : DurableState). y.file.inode) same) t t parts parts.names (subst (λ (y : DurableState). IsFileOf y.file t) (sym same) (parts.files f.file f old).1) (λ n not. refl)
