-- What keeps too many stands in the journal.
use Rattle.std.proofs.Common.{ℕ, zero, suc, ◌+◌, ◌*◌, ◌<◌, ◌≤◌, List, [], ◌∷◌, ◌++◌, Bool, true, false, ◌&&◌, ◌==◌, Option, Some, None, arith}
use Rattle.std.specs.Prelude.{if◌then◌else◌, map, flat_map}
use Rattle.std.specs.List.{filter_map, range_with_len, cons_option, AllByRecursion}
use Rattle.std.specs.Option.{option_map}
use Rattle.ufs_layout.specs.Areas.{first_of_journal}
use Rattle.ufs_base.specs.Images.{Image}
use Rattle.ufs_layout.specs.JournalSector.{JournalSector, journal_of}
use Rattle.ufs_image.specs.Journal.{epoch_in, FoundSector, PlacedRecord, Transaction, records_in, commit_in, has_records, same_txn, record_sectors, records_before, transaction_of, transactions, committed_of, well_spelled, sectors_of_epoch}
use Rattle.ufs_image.specs.Fold.{is_in_range, with_valid, with_committed}
use Rattle.ufs_image.specs.BadSectors.{keeps_too_many, overkept_in, overkept}
use Rattle.ufs_layout.specs.declared.geometry.Geometry.{Geometry}
use Rattle.ufs_layout.specs.declared.records.LogRecord.{LogRecord}
use Rattle.ufs_journal.proofs.CommittedFits.{all_append, all_filter, all_rising, FitsFound, FitsTransaction, found_fits, all_transactions}
use Rattle.ufs_scan.proofs.Lowest.{AreIn}

module _ (a n : ℕ) where
  abbrev In : ℕ → Type 0
  In s = (a ≤ s) × (s < a + n)

  abbrev InFound : FoundSector → Type 0
  InFound f = In f.0

  abbrev InPlaced : PlacedRecord → Type 0
  InPlaced p = In p.0

  abbrev InTxn : Transaction → Type 0
  InTxn t = AllByRecursion InPlaced t.records

  in_range : (b m : ℕ) → a ≤ b → b + m ≤ a + n → AllByRecursion In (range_with_len b m)
  in_range b zero low high = tt
  in_range b (suc m) low high = ((low, omega (arith, high)), in_range (b + 1) m (omega (arith, low)) (omega (arith, high)))

  in_well : (image : Image) (ss : List ℕ) → AllByRecursion In ss → AllByRecursion InFound (well_spelled (map (λ s. (s, journal_of (image s))) ss))
  in_well image [] every = tt
  in_well image (s ∷ ss) every = by (journal_of (image s)) (in_well image ss every.1)
    where
      by : (o : Option JournalSector) → AllByRecursion InFound (well_spelled (map (λ s. (s, journal_of (image s))) ss)) → AllByRecursion InFound (well_spelled ((s, o) ∷ map (λ s. (s, journal_of (image s))) ss))
      by None rest = rest
      by (Some j) rest = (every.0, rest)

  in_placed : (s : ℕ) (rs : List LogRecord) → In s → AllByRecursion InPlaced (map (λ r. (s, r)) rs)
  in_placed s [] is = tt
  in_placed s (r ∷ rs) is = (is, in_placed s rs is)

  in_sectors : (fs : List FoundSector) → AllByRecursion InFound fs → AllByRecursion InPlaced (flat_map (λ (o : FoundSector). map (λ r. (o.0, r)) (records_in o.1.content)) fs)
  in_sectors [] every = tt
  in_sectors (f ∷ fs) every = all_append InPlaced _ _ (in_placed f.0 (records_in f.1.content) every.0) (in_sectors fs every.1)

  in_records : (all : List FoundSector) → AllByRecursion InFound all → (f : FoundSector) (b m : ℕ) → AllByRecursion InPlaced (flat_map (λ k. flat_map (λ (o : FoundSector). map (λ r. (o.0, r)) (records_in o.1.content)) (record_sectors all f k)) (range_with_len b m))
  in_records all every f b zero = tt
  in_records all every f b (suc m) = all_append InPlaced _ _ (in_sectors (record_sectors all f b) (all_filter InFound (λ o. same_txn f o && (has_records o && o.1.index == b)) all every)) (in_records all every f (b + 1) m)

  in_transactions : (all fs : List FoundSector) → AllByRecursion InFound all → AllByRecursion InTxn (filter_map (transaction_of all) fs)
  in_transactions all [] every = tt
  in_transactions all (f ∷ fs) every = by (commit_in f.1.content) (in_records all every f 0 f.1.index) (in_transactions all fs every)
    where
      by : (o : Option ℕ) → AllByRecursion InPlaced (records_before all f) → AllByRecursion InTxn (filter_map (transaction_of all) fs)
          → AllByRecursion InTxn (cons_option (option_map (λ number. record { number = number; records = records_before all f }) o) (filter_map (transaction_of all) fs))
      by None here rest = rest
      by (Some m) here rest = (here, rest)

  in_append : (xs ys : List ℕ) → AreIn a n xs → AreIn a n ys → AreIn a n (xs ++ ys)
  in_append [] ys one two = two
  in_append (x ∷ xs) ys one two = (one.0, one.1, in_append xs ys one.2 two)

  in_one : (g : Geometry) (number : ℕ) (before : Image) (ps : List PlacedRecord) (now : Image) → AllByRecursion InPlaced ps → AreIn a n (overkept_in g number before ps now)
  in_one g number before [] now every = tt
  in_one g number before (p ∷ ps) now every = in_append _ _ (by (is_in_range g p.1 && keeps_too_many g number before now p.1)) (in_one g number before ps (with_valid g number before p.1 now) every.1)
    where
      by : (b : Bool) → AreIn a n (if b then p.0 ∷ [] else [])
      by true = (every.0.0, every.0.1, tt)
      by false = tt

  in_all : (g : Geometry) (ts : List Transaction) (image : Image) → AllByRecursion InTxn ts → AreIn a n (overkept g ts image)
  in_all g [] image every = tt
  in_all g (t ∷ ts) image every = in_append _ _ (in_one g t.number image t.records image every.0) (in_all g ts (with_committed g (committed_of t) image) every.1)

pub overkept_inside : (g : Geometry) (epoch : ℕ) (image : Image) → AreIn (8 * first_of_journal g) g.journal (overkept g (transactions (well_spelled (sectors_of_epoch g epoch image))) image)
overkept_inside g epoch image =
    let a : ℕ = 8 * first_of_journal g in
    let every = in_well (8 * first_of_journal g) g.journal image _ (all_filter (In (8 * first_of_journal g) g.journal) (λ s. epoch_in (image s) == epoch) (range_with_len (8 * first_of_journal g) g.journal) (in_range (8 * first_of_journal g) g.journal (8 * first_of_journal g) g.journal (omega arith) (omega arith))) in
    in_all (8 * first_of_journal g) g.journal g _ image
    (all_rising (InTxn (8 * first_of_journal g) g.journal) (λ (t : Transaction). t.number) (filter_map (transaction_of (well_spelled (sectors_of_epoch g epoch image))) (well_spelled (sectors_of_epoch g epoch image)))
    (in_transactions (8 * first_of_journal g) g.journal (well_spelled (sectors_of_epoch g epoch image)) (well_spelled (sectors_of_epoch g epoch image)) every))

-- and all of it fits
pub transactions_fit : (g : Geometry) (epoch : ℕ) (image : Image) → AllByRecursion FitsTransaction (transactions (well_spelled (sectors_of_epoch g epoch image)))
transactions_fit g epoch image =
    let all = well_spelled (sectors_of_epoch g epoch image) in
    let every : AllByRecursion FitsFound (well_spelled (sectors_of_epoch g epoch image)) = found_fits image _ in
    all_rising FitsTransaction (λ (t : Transaction). t.number) (filter_map (transaction_of (well_spelled (sectors_of_epoch g epoch image))) (well_spelled (sectors_of_epoch g epoch image))) (all_transactions (well_spelled (sectors_of_epoch g epoch image)) (well_spelled (sectors_of_epoch g epoch image)) every every)
