-- One record sector more, while a transaction is appended.
use Rattle.std.proofs.Common.{◌≡◌, inl, inr, ℕ, zero, suc, ◌+◌, ◌-◌, ◌<◌, ◌≤◌, List, [], ◌∷◌, ◌++◌, Bool, true, false, Some, refl, ap, sym, ◌∙◌, subst, arith}
use Rattle.std.specs.Prelude.{◌==◌, not, nat_le}
use Rattle.std.specs.List.{list_any, range_with_len}
use Rattle.std.proofs.lemmas.Bool.{and_left, and_right, and_cases, cases_eq, ne_eqb, eqb-true, leb-false, lt-leb}
use Rattle.std.proofs.lemmas.List.{append-nil}
use Rattle.ufs_base.specs.Images.{Image}
use Rattle.ufs_disk.specs.Disk.{State, put}
use Rattle.ufs_disk.proofs.Images.{put_same, put_other}
use Rattle.ufs_image.specs.Journal.{epoch_in, ReadSector, FoundSector, well_spelled}
use Rattle.ufs_layout.specs.JournalSector.{JournalSector, HasRecords, journal_bytes, journal_of}
use Rattle.ufs_image.specs.Fold.{is_in_range}
use Rattle.ufs_layout.specs.declared.geometry.Geometry.{Geometry}
use Rattle.ufs_layout.specs.declared.records.LogRecord.{LogRecord}
use Rattle.ufs_journal.specs.Found.{found, is_at, is_from, commits_txn, journal_sector, IsFreeFrom}
use Rattle.ufs_journal.specs.Written.{DiffersInEpoch, SaysTheSame, IsAppending}
use Rattle.ufs_journal.proofs.Inserted.{any_skip, any_none}
use Rattle.ufs_journal.proofs.Placed.{read_of, read_behind, read_none}
use Rattle.ufs_journal.proofs.RecordWritten.{front, found_before, found_after, record_committed, record_bad}
use Rattle.ufs_journal.proofs.Spelling.{read_epoch}
use Rattle.ufs_journal.proofs.Placed.{read_append}

-- what differs from what differs
differs_on : (g : Geometry) (epoch : ℕ) (d e f : Image) → DiffersInEpoch g epoch d e → DiffersInEpoch g epoch e f → DiffersInEpoch g epoch d f
differs_on g epoch d e f one two s = elim (two s) [
  | inr of_epoch ↦ inr of_epoch
  | inl same ↦ elim (one s) [
    | inl before ↦ inl (same ∙ before)
    | inr is ↦ inr (record { from = is.from; under = is.under; epoch_is = ap epoch_in same ∙ is.epoch_is })
  ]
]

pub says_on : (g : Geometry) (epoch : ℕ) (d e f : Image) → SaysTheSame g epoch d e → SaysTheSame g epoch e f → SaysTheSame g epoch d f
says_on g epoch d e f one two = record {
  differs = differs_on g epoch d e f one.differs two.differs;
  same = two.same ∙ one.same;
  bad = λ superblock is. two.bad superblock is ∙ one.bad superblock is;
}

pub says_itself : (g : Geometry) (epoch : ℕ) (d : Image) → SaysTheSame g epoch d d
says_itself g epoch d = record { differs = λ s. inl refl; same = refl; bad = λ superblock is. refl }

module _ (g : Geometry) (epoch place : ℕ) (within : place < g.journal) where
  -- a sector of this epoch more
  pub differs_put : (j : JournalSector) (d : Image) → journal_of (journal_bytes j) ≡ Some j → j.epoch ≡ epoch → DiffersInEpoch g epoch d (put (journal_sector g place) (journal_bytes j) d)
  differs_put j d back is s = elim (cases_eq s (journal_sector g place)) [
    | inl here ↦ inr (record {
      from = omega arith;
      under = omega arith;
      epoch_is = ap (λ k. epoch_in (put (journal_sector g place) (journal_bytes j) d k)) here ∙ ap epoch_in (put_same (journal_sector g place) (journal_bytes j) d)
          ∙ eqb-true (epoch_in (journal_bytes j)) j.epoch (read_epoch (journal_bytes j) j back) ∙ is;
    })
    | inr ne ↦ inl (put_other (journal_sector g place) s (journal_bytes j) d ne)
  ]

  -- behind the place nothing is found
  none_read : (d : Image) (a n : ℕ) → ((s : ℕ) → a ≤ s → s < a + n → (epoch_in (d s) == epoch) ≡ false) → read_of epoch d (range_with_len a n) ≡ []
  none_read d a zero blank = refl
  none_read d a (suc n) blank = read_append epoch d (a ∷ []) (range_with_len (a + 1) n)
      ∙ (λ i. read_none epoch a d (blank a (omega arith) (omega arith)) i ++ none_read d (a + 1) n (λ s from under. blank s (omega arith) (omega arith)) i)

  pub free_behind : (d : Image) → IsFreeFrom g epoch place d → read_behind g epoch place within d ≡ []
  free_behind d free = none_read d (journal_sector g place + 1) (g.journal - place - 1) (λ s from under.
      let at : s ≡ journal_sector g (s - journal_sector g 0) = omega arith in
      ap (λ k. epoch_in (d k) == epoch) at ∙ free (s - journal_sector g 0) (omega arith) (omega arith))

  -- what is found, with one sector behind
  pub found_put : (j : JournalSector) (d : Image) → journal_of (journal_bytes j) ≡ Some j → j.epoch ≡ epoch → IsFreeFrom g epoch place d
      → found g epoch (put (journal_sector g place) (journal_bytes j) d) ≡ found g epoch d ++ (journal_sector g place, j) ∷ []
  found_put j d back is free =
      let blank : (epoch_in (d (journal_sector g place)) == epoch) ≡ false = free place (omega arith) within in
      let of_epoch : (epoch_in (journal_bytes j) == epoch) ≡ true = ap (λ e. epoch_in (journal_bytes j) == e) (sym is) ∙ read_epoch (journal_bytes j) j back in
      found_after g epoch place within d blank (journal_bytes j) j back of_epoch
      ∙ ap (λ (l : List ReadSector). front g epoch place within d blank ++ (journal_sector g place, j) ∷ well_spelled l) (free_behind d free)
      ∙ ap (λ (l : List FoundSector). l ++ (journal_sector g place, j) ∷ []) (sym (append-nil (front g epoch place within d blank)) ∙ ap (λ (l : List ReadSector). front g epoch place within d blank ++ well_spelled l) (sym (free_behind d free)) ∙ sym (found_before g epoch place within d blank))

  pub free_put : (j : JournalSector) (d : Image) → IsFreeFrom g epoch place d → IsFreeFrom g epoch (place + 1) (put (journal_sector g place) (journal_bytes j) d)
  free_put j d free k from under = ap (λ b. epoch_in b == epoch) (put_other (journal_sector g place) (journal_sector g k) (journal_bytes j) d (λ same. absurd (omega arith))) ∙ free k (omega arith) under

-- one turn
module _ (g : Geometry) (epoch txn start index : ℕ) (within : start + index < g.journal) (records : List LogRecord) (inside : list_any (λ r. not (is_in_range g r)) records ≡ false) where
  abbrev pub turn_sector : JournalSector
  turn_sector = record { epoch = epoch; txn = txn; index = index; content = HasRecords records }

  module _ (back : journal_of (journal_bytes turn_sector) ≡ Some turn_sector) (state : State) where
    from_below : (f : FoundSector) → is_from txn index f ≡ false → is_at txn index f ≡ false
    from_below f other = elim (and_cases (f.1.txn == txn) (nat_le index f.1.index) other) [
      | inl ne ↦ and_left (f.1.txn == txn) (f.1.index == index) ne
      | inr above ↦ and_right (f.1.txn == txn) (f.1.index == index) (let lt : f.1.index < index = leb-false index f.1.index above in ne_eqb f.1.index index (λ same. absurd (omega arith)))
    ]

    below_more : (f : FoundSector) → is_from txn index f ≡ false → is_from txn (index + 1) f ≡ false
    below_more f other = elim (and_cases (f.1.txn == txn) (nat_le index f.1.index) other) [
      | inl ne ↦ and_left (f.1.txn == txn) (nat_le (index + 1) f.1.index) ne
      | inr above ↦ and_right (f.1.txn == txn) (nat_le (index + 1) f.1.index) (let lt : f.1.index < index = leb-false index f.1.index above in lt-leb (index + 1) f.1.index (omega arith))
    ]

    one_more : (test : FoundSector → Bool) (d : Image) → IsFreeFrom g epoch (start + index) d → test (journal_sector g (start + index), turn_sector) ≡ false
        → list_any test (found g epoch (put (journal_sector g (start + index)) (journal_bytes turn_sector) d)) ≡ list_any test (found g epoch d)
    one_more test d free passes = ap (list_any test) (found_put g epoch (start + index) within turn_sector d back refl free)
        ∙ any_skip test (journal_sector g (start + index), turn_sector) (found g epoch d) [] passes ∙ ap (list_any test) (append-nil (found g epoch d))

    -- an image that has the sector
    pub turn_put : (d : Image) → IsAppending g epoch txn start index state d → IsAppending g epoch txn start (index + 1) state (put (journal_sector g (start + index)) (journal_bytes turn_sector) d)
    turn_put d so_far =
        let more : start + (index + 1) ≡ start + index + 1 = omega arith in
        let blank : (epoch_in (d (journal_sector g (start + index))) == epoch) ≡ false = so_far.free (start + index) (omega arith) within in
        record {
          before = so_far.before;
          left = so_far.left;
          says = says_on g epoch so_far.before d (put (journal_sector g (start + index)) (journal_bytes turn_sector) d) so_far.says (record {
            differs = differs_put g epoch (start + index) within turn_sector d back refl;
            same = record_committed g epoch (start + index) within d blank txn index records (journal_bytes turn_sector) back (read_epoch (journal_bytes turn_sector) turn_sector back) so_far.uncommitted;
            bad = record_bad g epoch (start + index) within d blank txn index records (journal_bytes turn_sector) back (read_epoch (journal_bytes turn_sector) turn_sector back) so_far.uncommitted
                (any_none (is_from txn index) (is_at txn index) from_below (found g epoch d) so_far.below) inside;
          });
          free = subst (λ n. IsFreeFrom g epoch n (put (journal_sector g (start + index)) (journal_bytes turn_sector) d)) (sym more) (free_put g epoch (start + index) within turn_sector d so_far.free);
          below = one_more (is_from txn (index + 1)) d so_far.free (and_right (txn == txn) (nat_le (index + 1) index) (lt-leb (index + 1) index (omega arith))) ∙ any_none (is_from txn index) (is_from txn (index + 1)) below_more (found g epoch d) so_far.below;
          uncommitted = one_more (commits_txn txn) d so_far.free (and_right (txn == txn) false refl) ∙ so_far.uncommitted;
          others = λ test other. one_more test d so_far.free (other (journal_sector g (start + index), turn_sector) refl refl) ∙ so_far.others test other;
        }

    -- an image that hasn't
    pub turn_without : (d : Image) → IsAppending g epoch txn start index state d → IsAppending g epoch txn start (index + 1) state d
    turn_without d so_far = record {
      before = so_far.before;
      left = so_far.left;
      says = so_far.says;
      free = λ k from under. so_far.free k (omega arith) under;
      below = any_none (is_from txn index) (is_from txn (index + 1)) below_more (found g epoch d) so_far.below;
      uncommitted = so_far.uncommitted;
      others = so_far.others;
    }
