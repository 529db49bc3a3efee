-- Lists that are no longer than those which they come of.
use Rattle.std.proofs.Common.{◌≡◌, ℕ, ◌+◌, ◌≤◌, List, [], ◌∷◌, ◌++◌, Bool, true, false, Option, Some, None, length, refl, ap, arith}
use Rattle.std.specs.Prelude.{map, if◌then◌else◌, nat_le, option_map, ◌==◌}
use Rattle.std.specs.List.{cons_option, filter, filter_map, range_with_len}
use Rattle.std.proofs.lemmas.List.{length-map, length-append}
use Rattle.std.proofs.lemmas.List.FromFn.{length-range_with_len}
use Rattle.std.proofs.lemmas.List.Sums.{length-filter, count_by-le-length}
use Rattle.ufs_base.specs.Images.{Image}
use Rattle.ufs_layout.specs.JournalSector.{journal_of}
use Rattle.ufs_layout.specs.Words.{placed_by, rising_by}
use Rattle.ufs_image.specs.Journal.{FoundSector, ReadSector, Transaction, committed_of, epoch_in, has_commit, well_spelled}
use Rattle.ufs_layout.specs.declared.records.Committed.{Committed}
use Rattle.ufs_found.specs.Read.{read_from}
use Rattle.ufs_found.specs.Sorted.{number_of}
use Rattle.ufs_scan.specs.Gathered.{transaction_in}

fewer_kept : {X : Type 0} (p : X → Bool) (xs : List X) → length (filter p xs) ≤ length xs
fewer_kept p xs = let same = length-filter p xs in let most = count_by-le-length p xs in omega (arith, same, most)

fewer_told : {X Y : Type 0} (h : X → Option Y) (xs : List X) → length (filter_map h xs) ≤ length xs
fewer_told h [] = omega arith
fewer_told {X} {Y} h (x ∷ xs) = by (h x) (fewer_told h xs)
  where
    by : (o : Option Y) → length (filter_map h xs) ≤ length xs → length (cons_option o (filter_map h xs)) ≤ length (x ∷ xs)
    by None most = omega (arith, most)
    by (Some y) most = omega (arith, most)

placed_more : {X : Type 0} (key : X → ℕ) (x : X) (ys : List X) → length (placed_by key x ys) ≡ length ys + 1
placed_more key x [] = refl
placed_more {X} key x (y ∷ ys) = by (nat_le (key x) (key y)) (placed_more key x ys)
  where
    by : (b : Bool) → length (placed_by key x ys) ≡ length ys + 1 → length (if b then x ∷ y ∷ ys else y ∷ placed_by key x ys) ≡ length (y ∷ ys) + 1
    by true more = omega (arith, more)
    by false more = omega (arith, more)

as_many : {X : Type 0} (key : X → ℕ) (xs : List X) → length (rising_by key xs) ≡ length xs
as_many key [] = refl
as_many key (x ∷ xs) = let one = placed_more key x (rising_by key xs) in let rest = as_many key xs in omega (arith, one, rest)

-- the sectors of an epoch among so many
few_read : (epoch first count : ℕ) (image : Image) → length (well_spelled (read_from epoch image first count)) ≤ count
few_read epoch first count image =
    let sectors = filter (λ s. epoch_in (image s) == epoch) (range_with_len first count) in
    let told : length (well_spelled (read_from epoch image first count)) ≤ length (read_from epoch image first count) =
    fewer_told (λ (r : ReadSector). option_map {U = FoundSector} (λ j. (r.0, j)) r.1) (read_from epoch image first count) in
    let same : length (read_from epoch image first count) ≡ length sectors = length-map {B = ReadSector} sectors (λ s. (s, journal_of (image s))) in
    let kept = fewer_kept (λ s. epoch_in (image s) == epoch) (range_with_len first count) in
    let sized = length-range_with_len first count in
    omega (arith, told, same, kept, sized)

-- so many more are listed
pub few_more : (epoch sector size at count : ℕ) (image : Image) (old new : List FoundSector) → length old ≤ at → size ≡ count → new ≡ old ++ well_spelled (read_from epoch image sector size) → length new ≤ at + count
few_more epoch sector size at count image old new most sized is =
    let longer = ap (λ (l : List FoundSector). length l) is in
    let both = length-append old (well_spelled (read_from epoch image sector size)) in
    let few = few_read epoch sector size image in
    omega (arith, most, sized, longer, both, few)

-- a transaction for each commit, of which there are at most as many as sectors
pub few_copied : (all found found_there commits commits_there : List FoundSector) (gathered gathered_there : List Transaction) (copied : List Committed) (most : ℕ) → length found ≤ most → found_there ≡ found → commits ≡ rising_by number_of (filter has_commit found_there)
    → commits_there ≡ commits → gathered ≡ map (transaction_in all) commits_there → gathered_there ≡ gathered → copied ≡ map committed_of gathered_there → length copied ≤ most
few_copied all found found_there commits commits_there gathered gathered_there copied most few there rising of_commits of_gathered of_there of_copied =
    let a = ap (λ (l : List FoundSector). length l) there in
    let b = ap (λ (l : List FoundSector). length l) rising in
    let c = as_many number_of (filter has_commit found_there) in
    let d = fewer_kept has_commit found_there in
    let e = ap (λ (l : List FoundSector). length l) of_commits in
    let f = ap (λ (l : List Transaction). length l) of_gathered in
    let g = length-map commits_there (transaction_in all) in
    let h = ap (λ (l : List Transaction). length l) of_there in
    let i = ap (λ (l : List Committed). length l) of_copied in
    let j = length-map gathered_there committed_of in
    omega (arith, few, a, b, c, d, e, f, g, h, i, j)
