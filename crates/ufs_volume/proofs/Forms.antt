-- What is committed can be folded.
use Rattle.std.proofs.Common.{◌≡◌, inl, inr, List, [], ◌∷◌, Bool, true, Some, None, map, ap, refl, ◌∙◌, subst}
use Rattle.std.specs.Prelude.{flat_map, ◌==◌, ◌&&◌}
use Rattle.std.specs.List.{range_with_len, list_all, filter_map, AllByRecursion}
use Rattle.std.proofs.lemmas.Bool.{and_parts}
use Rattle.ufs_base.specs.Images.{Image}
use Rattle.ufs_layout.specs.Records.{is_record}
use Rattle.ufs_layout.specs.declared.geometry.Geometry.{Geometry}
use Rattle.ufs_layout.specs.declared.superblock.Super.{Super}
use Rattle.ufs_layout.specs.declared.records.LogRecord.{LogRecord}
use Rattle.ufs_image.specs.Fold.{is_in_range}
use Rattle.ufs_image.specs.Journal.{FoundSector, PlacedRecord, Transaction, sectors_of_epoch, well_spelled, records_in, record_sectors, records_before, transaction_of, transactions, committed_of, committed, same_txn, has_records}
use Rattle.ufs_image.specs.BadSectors.{bad_sector}
use Rattle.ufs_image.proofs.Lists.{IsIn, from_filter, from_map, from_flat_map, from_filter_map}
use Rattle.ufs_volume.specs.Journals.{AreFoldable, IsFoldable}
use Rattle.ufs_volume.proofs.Off.{not_off, read_at, content_form, ranged}
use Rattle.ufs_volume.proofs.Rising.{of_commit, all_rising, each_one}

each_true : {X : Type 0} (p : X → Bool) (xs : List X) → ((x : X) → IsIn x xs → p x ≡ true) → list_all p xs ≡ true
each_true p [] each = refl
each_true p (x ∷ xs) each = λ i. each x (inl refl) i && each_true p xs (λ y is. each y (inr is)) i

true_each : {X : Type 0} (p : X → Bool) (xs : List X) → list_all p xs ≡ true → (x : X) → IsIn x xs → p x ≡ true
true_each p [] all x is = absurd is
true_each p (y ∷ xs) all x (inl e) = ap p e ∙ (and_parts (p y) (list_all p xs) all).0
true_each p (y ∷ xs) all x (inr is) = true_each p xs (and_parts (p y) (list_all p xs) all).1 x is

module _ (p : LogRecord → Bool) (all : List FoundSector) (good : (f : FoundSector) → IsIn f all → (r : LogRecord) → IsIn r (records_in f.1.content) → p r ≡ true) where
  placed_good : (f : FoundSector) (r : PlacedRecord) → IsIn r (records_before all f) → p r.1 ≡ true
  placed_good f r is =
      let index = from_flat_map (λ index. flat_map (λ (o : FoundSector). map {B = PlacedRecord} (λ r. (o.0, r)) (records_in o.1.content)) (record_sectors all f index)) (range_with_len 0 f.1.index) r is in
      let sector = from_flat_map (λ (o : FoundSector). map {B = PlacedRecord} (λ r. (o.0, r)) (records_in o.1.content)) (record_sectors all f index.0) r index.2 in
      let there = (from_filter (λ o. same_txn f o && (has_records o && o.1.index == index.0)) all sector.0 sector.1).0 in
      let one = from_map {Y = PlacedRecord} (λ r. (sector.0.0, r)) (records_in sector.0.1.content) r sector.2 in
      ap (λ (q : PlacedRecord). p q.1) one.2 ∙ good sector.0 there one.0 one.1

  records_good : (f : FoundSector) (t : Transaction) → transaction_of all f ≡ Some t → list_all p (committed_of t).records ≡ true
  records_good f t is = each_true p (committed_of t).records (λ r there.
      let from = from_map (λ (q : PlacedRecord). q.1) t.records r there in
      ap p from.2 ∙ placed_good f from.0 (subst (IsIn from.0) (of_commit all f t is).records from.1))

all_mapped : {X Y : Type 0} (P : Y → Type 0) (f : X → Y) (xs : List X) → AllByRecursion (λ x. P (f x)) xs → AllByRecursion P (map f xs)
all_mapped P f [] all = tt
all_mapped P f (x ∷ xs) all = (all.0, all_mapped P f xs all.1)

pub committed_fold : (g : Geometry) (s : Super) (image : Image) → bad_sector g s image ≡ None → AreFoldable g (committed g s.epoch image)
committed_fold g s image none =
    all_mapped (IsFoldable g) committed_of (transactions all) (all_rising (λ (t : Transaction). t.number) (λ t. IsFoldable g (committed_of t)) (filter_map (transaction_of all) all)
    (each_one (λ t. IsFoldable g (committed_of t)) (filter_map (transaction_of all) all) (λ t there.
    let from = from_filter_map (transaction_of all) all t there in
    record {
      form = records_good is_record all (λ f inside. true_each is_record (records_in f.1.content) (content_form (image f.0) f.1 (read_at g s.epoch image f inside).spelled)) from.0 t from.2;
      in_range = records_good (is_in_range g) all (λ f inside. ranged g f (not_off g s image none f inside).inside) from.0 t from.2;
    })))
  where
    all : List FoundSector
    all = well_spelled (sectors_of_epoch g s.epoch image)
