-- What a commit does to an image, and what the journal keeps over it.
use Rattle.std.proofs.Common.{◌≡◌, ◌≢◌, inl, inr, ⊎_elim, ℕ, ◌-◌, ◌<◌, List, [], ◌∷◌, ◌++◌, Bool, false, Some, length, refl, ap, sym, ◌∙◌, subst, arith}
use Rattle.std.specs.Prelude.{◌==◌}
use Rattle.std.specs.List.{list_any, range_with_len}
use Rattle.std.proofs.lemmas.Bool.{cases_eq, ne_eqb, eqb-true, leb-false, lt-leb}
use Rattle.ufs_base.specs.Images.{Image}
use Rattle.ufs_disk.specs.Disk.{State, IsImage, Leaves, seen, put}
use Rattle.ufs_disk.specs.Moments.{Moments, LeavesOnly, reads}
use Rattle.ufs_disk.proofs.Images.{seen_is_image, put_same, put_other}
use Rattle.ufs_disk.proofs.Runs.{weaker}
use Rattle.ufs_image.specs.Journal.{epoch_in, FoundSector, record_sectors, records_before, committed}
use Rattle.ufs_layout.specs.JournalSector.{SectorContent, JournalSector, HasRecords, HasCommit, journal_bytes, journal_of}
use Rattle.ufs_image.specs.Fold.{folded}
use Rattle.ufs_layout.specs.declared.geometry.Geometry.{Geometry}
use Rattle.ufs_layout.specs.declared.records.LogRecord.{LogRecord}
use Rattle.ufs_layout.specs.declared.records.Committed.{Committed}
use Rattle.ufs_journal.specs.declared.open_list.Opened.{Opened}
use Rattle.ufs_journal.specs.Applied.{keeps_more}
use Rattle.ufs_journal.specs.Found.{found, is_of, is_from, reaches, sectors_of_txn, journal_sector}
use Rattle.ufs_layout.specs.Filled.{sectors_of_records}
use Rattle.ufs_journal.specs.Found.{sectors_at}
use Rattle.ufs_journal.specs.Written.{CommitsOne, IsMaybeCommitted, IsOldOrPut}
use Rattle.ufs_journal.specs.Kept.{IsReady, IsUnused, HoldsRecords, CanApply}
use Rattle.ufs_journal.proofs.Inserted.{any_skip, filter_skip, any_none}
use Rattle.ufs_journal.proofs.RecordWritten.{front, behind, found_before, found_after}
use Rattle.ufs_journal.proofs.CommitWritten.{without_places, commit_committed, commit_bad}
use Rattle.ufs_journal.proofs.FilledLemmas.{sectors_joined}
use Rattle.ufs_journal.proofs.OpenLemmas.{open_behind, open_there, open_records}
use Rattle.ufs_journal.proofs.AppendTurn.{differs_put, says_itself}
use Rattle.ufs_journal.proofs.Spelling.{read_epoch}

module _ (g : Geometry) (epoch txn number : ℕ) (one : Opened) (of_txn : one.txn ≡ txn) (within : one.place < g.journal) (old : Image) where
  abbrev pub the_commit : JournalSector
  the_commit = record { epoch = epoch; txn = txn; index = one.count; content = HasCommit number }

  abbrev pub at : ℕ
  at = journal_sector g one.place

  module _ (back : journal_of (journal_bytes the_commit) ≡ Some the_commit) (records : List LogRecord) (held : HoldsRecords g epoch one records old) where
    abbrev all : List FoundSector
    all = found g epoch old

    abbrev cs : List (List LogRecord)
    cs = sectors_of_records records

    holds : sectors_of_txn txn all ≡ sectors_at g epoch txn (one.place - one.count) 0 cs
    holds = subst (λ t. sectors_of_txn t all ≡ sectors_at g epoch t (one.place - one.count) 0 cs) of_txn held.holds

    none_behind : list_any (is_from txn one.count) all ≡ false
    none_behind = ap (λ n. list_any (is_from txn n) all) held.counted ∙ open_behind g epoch txn (one.place - one.count) cs all holds at epoch number

    all_there : list_any (λ k. length (record_sectors all (at, the_commit) k) == 0) (range_with_len 0 one.count) ≡ false
    all_there = ap (λ n. list_any (λ k. length (record_sectors all (at, record { epoch = epoch; txn = txn; index = n; content = HasCommit number }) k) == 0) (range_with_len 0 n)) held.counted
        ∙ open_there g epoch txn (one.place - one.count) cs all holds at epoch number

    its_records : without_places (records_before all (at, the_commit)) ≡ records
    its_records = ap (λ n. without_places (records_before all (at, record { epoch = epoch; txn = txn; index = n; content = HasCommit number }))) held.counted
        ∙ open_records g epoch txn (one.place - one.count) cs all holds at epoch number ∙ sectors_joined records

    pub commits_one : list_any (reaches number) all ≡ false → CanApply g epoch number records old → CommitsOne g epoch (record { number = number; records = records }) old (put at (journal_bytes the_commit) old)
    commits_one fresh fits = record {
      differs = differs_put g epoch one.place within the_commit old back refl;
      more = commit_committed g epoch one.place within old held.blank txn one.count number (journal_bytes the_commit) back (read_epoch (journal_bytes the_commit) the_commit back) none_behind fresh
          ∙ ap (λ (rs : List LogRecord). committed g epoch old ++ record { number = number; records = rs } ∷ []) its_records;
      bad = commit_bad g epoch one.place within old held.blank txn one.count number (journal_bytes the_commit) back (read_epoch (journal_bytes the_commit) the_commit back) none_behind fresh all_there
          (subst (λ (rs : List LogRecord). keeps_more g number (folded g (committed g epoch old) old) rs (folded g (committed g epoch old) old) ≡ false) (sym its_records) fits);
    }

    -- what else is found
    pub found_any : (test : FoundSector → Bool) → test (at, the_commit) ≡ false → list_any test (found g epoch (put at (journal_bytes the_commit) old)) ≡ list_any test all
    found_any test passes =
        ap (list_any test) (found_after g epoch one.place within old held.blank (journal_bytes the_commit) the_commit back (read_epoch (journal_bytes the_commit) the_commit back))
        ∙ any_skip test (at, the_commit) (front g epoch one.place within old held.blank) (behind g epoch one.place within old held.blank) passes
        ∙ sym (ap (list_any test) (found_before g epoch one.place within old held.blank))

    found_others : (other : ℕ) → txn ≢ other → sectors_of_txn other (found g epoch (put at (journal_bytes the_commit) old)) ≡ sectors_of_txn other all
    found_others other ne =
        ap (sectors_of_txn other) (found_after g epoch one.place within old held.blank (journal_bytes the_commit) the_commit back (read_epoch (journal_bytes the_commit) the_commit back))
        ∙ filter_skip (is_of other) (at, the_commit) (front g epoch one.place within old held.blank) (behind g epoch one.place within old held.blank) (ne_eqb txn other ne)
        ∙ sym (ap (sectors_of_txn other) (found_before g epoch one.place within old held.blank))

    -- another transaction that is open
    pub other_held : (two : Opened) (rs : List LogRecord) → two.txn ≢ txn → one.place ≢ two.place → HoldsRecords g epoch two rs old → HoldsRecords g epoch two rs (put at (journal_bytes the_commit) old)
    other_held two rs ne elsewhere holds_ = record {
      inside = holds_.inside;
      blank = ap (λ b. epoch_in b == epoch) (put_other at (journal_sector g two.place) (journal_bytes the_commit) old (λ same. elsewhere (omega arith))) ∙ holds_.blank;
      counted = holds_.counted;
      holds = found_others two.txn (λ same. ne (sym same)) ∙ holds_.holds;
    }

    higher : (next : ℕ) (f : FoundSector) → number < next → reaches number f ≡ false → reaches next f ≡ false
    higher next (p, j) lt = by j.content
      where
        by : (content : SectorContent) → reaches number (p, record { epoch = j.epoch; txn = j.txn; index = j.index; content = content }) ≡ false → reaches next (p, record { epoch = j.epoch; txn = j.txn; index = j.index; content = content }) ≡ false
        by (HasRecords rs) e = refl
        by (HasCommit m) e = let under : m < number = leb-false number m e in lt-leb next m (omega arith)

    pub ready_put : (used next : ℕ) (state new : State) → old ≡ seen state → one.place < used → number < next → IsReady g epoch used number state
        → ((image : Image) → IsImage new image → image ≡ put at (journal_bytes the_commit) old) → IsReady g epoch used next new
    ready_put used next state new is before lt ready only = record {
      free = λ image left place from under. ap (λ (d : Image). epoch_in (d (journal_sector g place)) == epoch) (only image left)
          ∙ ap (λ b. epoch_in b == epoch) (put_other at (journal_sector g place) (journal_bytes the_commit) old (λ same. absurd (omega arith)))
          ∙ ap (λ (d : Image). epoch_in (d (journal_sector g place)) == epoch) is ∙ ready.free (seen state) (seen_is_image state) place from under;
      latest = λ image left place under. elim (cases_eq (journal_sector g place) at) [
        | inl here ↦ (let e : epoch_in (image (journal_sector g place)) ≡ epoch = ap (λ (d : Image). epoch_in (d (journal_sector g place))) (only image left)
            ∙ ap (λ k. epoch_in (put at (journal_bytes the_commit) old k)) here ∙ ap epoch_in (put_same at (journal_bytes the_commit) old)
            ∙ eqb-true (epoch_in (journal_bytes the_commit)) epoch (read_epoch (journal_bytes the_commit) the_commit back) in omega (arith, e))
        | inr ne ↦ (let e : epoch_in (image (journal_sector g place)) ≡ epoch_in (seen state (journal_sector g place)) = ap (λ (d : Image). epoch_in (d (journal_sector g place))) (only image left)
            ∙ ap epoch_in (put_other at (journal_sector g place) (journal_bytes the_commit) old ne) ∙ ap (λ (d : Image). epoch_in (d (journal_sector g place))) is in
            let le = ready.latest (seen state) (seen_is_image state) place under in omega (arith, e, le))
      ];
      fresh = λ image left. ap (λ (d : Image). list_any (reaches next) (found g epoch d)) (only image left) ∙ found_any (reaches next) (lt-leb next number lt)
          ∙ any_none (reaches number) (reaches next) (λ f e. higher next f lt e) all (ap (λ (d : Image). list_any (reaches number) (found g epoch d)) is ∙ ready.fresh (seen state) (seen_is_image state));
    }

    pub unused_maybe : (other : ℕ) (state new : State) → old ≡ seen state → other ≢ txn → IsUnused g epoch other state → Leaves (IsOldOrPut at the_commit state) new → IsUnused g epoch other new
    unused_maybe other state new is ne unused only image left = elim (only image left) [
      | inl was ↦ unused image was
      | inr put_ ↦ ap (λ (d : Image). list_any (is_of other) (found g epoch d)) (put_ ∙ ap (put at (journal_bytes the_commit)) (sym is)) ∙ found_any (is_of other) (ne_eqb txn other (λ same. ne (sym same)))
          ∙ ap (λ (d : Image). list_any (is_of other) (found g epoch d)) is ∙ unused (seen state) (seen_is_image state)
    ]

-- at each moment
pub maybe_committed : (keeps : Bool) (g : Geometry) (epoch : ℕ) (one : Committed) (sector : ℕ) (j : JournalSector) (old new : Moments) → CommitsOne g epoch one (reads old) (put sector (journal_bytes j) (reads old))
    → LeavesOnly keeps (IsOldOrPut sector j old.state) old new → LeavesOnly keeps (IsMaybeCommitted g epoch one old.state) old new
maybe_committed keeps g epoch one sector j old new commits run = weaker keeps (IsOldOrPut sector j old.state) (IsMaybeCommitted g epoch one old.state) (λ image is. ⊎_elim
    (λ left. record { before = image; left = left; says = inl (says_itself g epoch image) })
    (λ same. record { before = reads old; left = seen_is_image old.state; says = inr (subst (CommitsOne g epoch one (reads old)) (sym same) commits) })
    is) old new run
