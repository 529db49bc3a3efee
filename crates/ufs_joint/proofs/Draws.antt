-- An entry is drawn that acknowledges nothing.
use Rattle.std.proofs.Common.{subst, sym, ◌≡◌, ℕ, ◌⊎◌, inl, inr, [], ◌∷◌, ◌++◌, Some, None, true, ap, refl, ◌∙◌, arith}
use Rattle.std.specs.Prelude.{IsSome}
use Rattle.std.specs.FinMap as map
use Rattle.std.proofs.Common.{is_some}
use Rattle.ufs_file_commits.specs.Committing.{OwnsServed}
use Rattle.ufs_file_commits.specs.Standing.{ReadsServed, StandsServed}
use Rattle.ufs_file_commits.specs.State.{blocks_held}
use Rattle.ufs_file_commits.proofs.Requests.{same_inode, same_number}
use Rattle.ufs_bitmap.specs.Taking.{IsApart}
use Rattle.ufs_ledger.specs.Kept.{Counts}
use Rattle.ufs_ledger.specs.Laws.{EntriesKeep}
use Rattle.ufs_layout.specs.declared.geometry.Geometry.{Geometry}
use Rattle.ufs_model.specs.History.{tree_after}
use Rattle.ufs_model.specs.Laws.{KeepsTrees}
use Rattle.ufs_model.proofs.Facts.Lookups.{there_or_not}
use Rattle.ufs_names.specs.Laws.{KeepsNames}
use Rattle.ufs_names.specs.declared.holding.Holding.{Holding}
use Rattle.ufs_promise_laws.specs.Names.{TablesNameSoundly}
use Rattle.ufs_crash_laws.specs.Explained.{IsAckCovered}
use Rattle.ufs_crash_laws.specs.Laws.{NamesGoByChanges}
use Rattle.ufs_crash_laws.specs.StepLaws.{OthersAcknowledgeNothing}
use Rattle.ufs_store.specs.State.{geometry_of_store}
use Rattle.ufs_promise_laws.specs.Laws.{NameEntriesKeep, NotesGoOn}
use Rattle.ufs_promise_laws.specs.Parts.{durable_in, with_file}
use Rattle.ufs_promise_laws.specs.Sound.{IsFileSound}
use Rattle.ufs_promise_laws.proofs.Entries.{excuse_leaves, no_ok}
use Rattle.ufs_promise_laws.proofs.FileEntries.{file_entry_kept, parts_after}
use Rattle.ufs_promise_laws.proofs.Spaced.{pool_apart}
use Rattle.ufs_crash_laws.proofs.Facts.Histories.{tree_after-append}
use Rattle.ufs_promise_laws.proofs.EventsGoing.{entries_keep, readable}
use Rattle.ufs_promise_laws.proofs.Numbers.{born_next, parts_now}
use Rattle.ufs_promise_laws.proofs.RequestOnDisk.{readable_now, stored_now}
use Rattle.ufs_model.specs.PosixTree.{PosixTree}
use Rattle.ufs_promise_laws.specs.Requests.{IsNamesRequest}
use Rattle.ufs_promise_laws.proofs.Serving.{served_is_request}
use Rattle.ufs_promise_laws.specs.Stored.{ArePartsOf}
use Rattle.ufs_joint.specs.Lent.{LentRequestsStayKept}
use Rattle.ufs_joint.proofs.Lent.{lent_served}
use Rattle.ufs_joint.specs.KnownDraws.{BesideStaysKept, ExcusesStayKept, FileRequestsStayKept, NameRequestsStayKept, StillStaysKept}
use Rattle.ufs_promise_laws.specs.Known.{IsDiskKept, IsKeptGoing}
use Rattle.ufs_promise_laws.proofs.Births.{born_before}
use Rattle.ufs_joint.proofs.Drawn.{beside, going_on, still, stopped_on, tree_stays}

pub excuses : KeepsTrees → OthersAcknowledgeNothing → ExcusesStayKept
excuses trees others s start history entry p known legal is =
    still (geometry_of_store s) (entries_keep trees (geometry_of_store s)) s start history entry known refl legal p (tree_after-append start history (entry ∷ []) ∙ excuse_leaves (tree_after start history) entry.client entry.op entry.reply is)
    (λ k c. others start history entry k.names k.files (inl (no_ok entry.reply is)))

pub still_requests : KeepsTrees → OthersAcknowledgeNothing → StillStaysKept
still_requests trees others s start history entry p known legal leaves nothing =
    let keeps = entries_keep trees (geometry_of_store s) in
    still (geometry_of_store s) keeps s start history entry known refl legal p (tree_stays (geometry_of_store s) keeps s start history entry known refl legal leaves) (λ k c. others start history entry k.names k.files nothing)

pub beside_requests : KeepsTrees → OthersAcknowledgeNothing → BesideStaysKept
beside_requests trees others s start history entry p known legal nothing parts bytes =
    beside (geometry_of_store s) (entries_keep trees (geometry_of_store s)) s start history entry known refl legal p parts bytes (λ k c. others start history entry k.names k.files nothing)

-- ---- a request on a file

pub file_requests : KeepsTrees → OthersAcknowledgeNothing → KeepsNames → StandsServed → ReadsServed → OwnsServed → FileRequestsStayKept
file_requests trees nothing names_keep stands reads owns s start history entry p known f next pool ask server ticket desc d legal no_commit old kind asked is of applied sound on = by on
  where
    whole : IsFileSound (geometry_of_store s) (durable_in p.commits f)
    whole = sound.each f.file f old

    apart : IsApart p.pool (blocks_held (durable_in p.commits f))
    apart = pool_apart s.unassigned.free p f old whole.once sound.apart

    number : next.file.file ≡ f.file
    number = same_number (durable_in p.commits f) next p.pool pool whole.noted apart ask server ticket entry desc d is applied

    inode : next.file.inode ≡ f.inode
    inode = same_inode (durable_in p.commits f) next p.pool pool whole.noted apart ask server ticket entry desc d is applied

    ack : (k : Counts) → IsAckCovered start history entry k.names k.files
    ack k = nothing start history entry k.names k.files (inr no_commit)

    by : IsDiskKept s start history p known → IsDiskKept s start (history ++ entry ∷ []) (with_file next pool p) known
    by (inl k) = inl (going_on (geometry_of_store s) (entries_keep trees (geometry_of_store s)) s start history entry known refl legal p (with_file next pool p) k
        (file_entry_kept (geometry_of_store s) (entries_keep trees (geometry_of_store s)) nothing names_keep stands owns k.going.ledger s.unassigned.free start history entry k.going.counts p f next pool ask server ticket desc d
        k.going.formed legal no_commit old kind asked is of applied k.going.stored) k.numbered)
    by (inr k) = inr (stopped_on (geometry_of_store s) (entries_keep trees (geometry_of_store s)) s start history entry known refl legal p (with_file next pool p) k
        (parts_after names_keep start history entry p f next pool ask server ticket desc d old kind asked is of applied number inode k.stopped.parts)
        (readable trees nothing names_keep stands reads owns s start history entry p f next pool ask server ticket desc d legal no_commit old kind asked is of applied sound k.stopped.ledger k.stopped.parts k.stopped.clean)
        (ack k.stopped.now) (ack k.stopped.maybe))

-- ---- a request of the names

pub name_requests : (g : Geometry) → EntriesKeep g → OthersAcknowledgeNothing → NameEntriesKeep g → NotesGoOn g → TablesNameSoundly g → NamesGoByChanges → NameRequestsStayKept g
name_requests g keeps others entries notes tables changes s start history entry p next known lent left form legal unsynced r sound on = by on
  where
    ack : (k : Counts) → IsAckCovered start history entry k.names k.files
    ack k = others start history entry k.names k.files (inr unsynced)

    -- a file whose birth is known was live before
    born : (k : IsKeptGoing s start history p known) (file : ℕ) → known.born file ≡ true → IsSome (map.get next.names.held file) → IsSome (k.going.counts.numbers.inode file)
    born k file is live = at (there_or_not (map.get p.names.held file))
      where
        at : ((h : Holding) × (map.get p.names.held file ≡ Some h)) ⊎ (map.get p.names.held file ≡ None) → IsSome (k.going.counts.numbers.inode file)
        at (inl was) = k.numbered file is (ap is_some was.1)
        at (inr none) =
            let this = born_next (tree_after start history) (tree_after start (history ++ entry ∷ [])) p next lent left r file none live in
            let less = born_before start history k.going.stored.legal k.going.counts known k.covers changes file is in
            absurd (omega (arith, this, less))

    by : IsDiskKept s start history p known → IsDiskKept s start (history ++ entry ∷ []) next known
    by (inl k) = inl (going_on g keeps s start history entry known form legal p next k
        (stored_now g keeps others entries notes tables start history entry p next lent left s.unassigned.free legal unsynced r sound k.going.ledger k.going.counts (k.going.formed ∙ form) k.going.stored) (born k))
    by (inr k) = inr (stopped_on g keeps s start history entry known form legal p next k
        (parts_now (tree_after start history) (tree_after start (history ++ entry ∷ [])) p next lent left r)
        (readable_now g keeps others entries notes tables start history entry p next lent left s.unassigned.free legal unsynced r sound k.stopped.ledger k.stopped.clean) (ack k.stopped.now) (ack k.stopped.maybe))

-- ..served with the files that it touches
pub lent_requests : (g : Geometry) → NameRequestsStayKept g → LentRequestsStayKept g
lent_requests g requests s start history entry ask p next known lent_files left_files lent left touched reply desc form legal unsynced goes h sound on =
    let t = tree_after start history in
    let parts = parts_of on in
    requests s start history entry p next known lent left form legal unsynced
    (subst (λ (u : PosixTree). IsNamesRequest t u p next lent left) (sym goes)
    (served_is_request g s.unassigned.free t ask p next lent left touched reply desc sound parts (lent_served g s.unassigned.free t ask p next lent_files left_files lent left touched reply desc sound parts h))) sound on
  where
    parts_of : IsDiskKept s start history p known → ArePartsOf p (tree_after start history)
    parts_of (inl k) = k.going.stored.parts
    parts_of (inr k) = k.stopped.parts
