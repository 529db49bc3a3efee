-- The records of a transaction, sector by sector.
use Rattle.std.specs.Prelude.{◌≡◌, ℕ, ◌+◌, ◌*◌, ◌<◌, List, Bool, ◌==◌, ◌&&◌, filter, flat_map, map}
use Rattle.std.specs.List.{range_with_len}
use Rattle.ufs_image.specs.Journal.{FoundSector, PlacedRecord, Transaction, records_in, has_records}
use Rattle.ufs_found.specs.Sorted.{number_of, is_between}

-- a record sector of this transaction with this index
abbrev pub is_part : ℕ → ℕ → FoundSector → Bool
is_part txn index o = txn == o.1.txn && (has_records o && o.1.index == index)

abbrev pub placed_in : FoundSector → List PlacedRecord
placed_in o = map {B = PlacedRecord} (λ r. (o.0, r)) (records_in o.1.content)

abbrev pub placed_at : List FoundSector → ℕ → ℕ → List PlacedRecord
placed_at all txn index = flat_map placed_in (filter (is_part txn index) all)

abbrev pub placed_below : List FoundSector → ℕ → ℕ → List PlacedRecord
placed_below all txn count = flat_map (placed_at all txn) (range_with_len 0 count)

-- the transaction of a commit
abbrev pub transaction_in : List FoundSector → FoundSector → Transaction
transaction_in all f = record { number = number_of f; records = placed_below all f.1.txn f.1.index }

-- Here each transaction's record sectors stand together, in the order of their indexes.
abbrev pub HasParts : List FoundSector → List FoundSector → Type 0
HasParts all parts = (txn count : ℕ) → count < 65536 → flat_map placed_in (filter (is_between (txn * 65536) (txn * 65536 + count)) parts) ≡ placed_below all txn count
