-- The run of writes by which a transaction is appended.
use Rattle.std.proofs.Common.{◌≡◌, inl, inr, ⊎_elim, ℕ, zero, suc, ◌+◌, ◌*◌, ◌/◌, ◌<◌, ◌≤◌, List, [], ◌∷◌, ◌++◌, Bool, true, false, ◌||◌, ◌&&◌, Some, length, take, drop, refl, ap, sym, ◌∙◌, subst, ◌⊎◌, arith, append_assoc, length-append, take-append-drop}
use Rattle.std.specs.Prelude.{◌==◌, not, nat_le, nat_lt, if◌then◌else◌}
use Rattle.std.specs.List.{list_any, list_all}
use Rattle.std.proofs.lemmas.Bool.{and_left, and_right, and_cases, and_parts, leb-true, leb-false, lt-leb}
use Rattle.std.proofs.lemmas.List.{append-nil, drop-drop, drop_all, drop_at, length-take-le, length-drop, length_push, take_all, take-append-le, take-take, drop-take}
use Rattle.ufs_base.specs.Images.{Image}
use Rattle.ufs_disk.specs.Disk.{State, Leaves, IsPartlyWritten, Mixes, overwritten, pieces, put, put_all, sectors_of}
use Rattle.ufs_disk.specs.Moments.{Moments, LeavesOnly}
use Rattle.ufs_disk.proofs.Images.{mixed_one, put_one, put_other, mixes_first, put_all_below, put_all_above}
use Rattle.ufs_disk.proofs.Flat.{length-pieces}
use Rattle.ufs_disk.proofs.Runs.{weaker, goes_on, started}
use Rattle.ufs_image.specs.Journal.{FoundSector}
use Rattle.ufs_layout.specs.JournalSector.{JournalSector, HasRecords, journal_bytes, journal_of}
use Rattle.ufs_image.specs.Fold.{is_in_range}
use Rattle.ufs_layout.specs.Records.{record_bytes, records_bytes, is_record}
use Rattle.ufs_layout.specs.declared.geometry.Geometry.{Geometry}
use Rattle.ufs_layout.specs.declared.records.LogRecord.{LogRecord}
use Rattle.ufs_layout.specs.declared.records.LogRecord.TheVariants.{Delta, Place, Free}
use Rattle.ufs_layout.proofs.RecordForms.{length-delta, length-place}
use Rattle.ufs_journal.specs.Found.{found, is_of, is_from, commits_txn, journal_sector, IsFreeFrom, AgreeOffJournal}
use Rattle.ufs_layout.specs.Filled.{filled, sectors_of_records}
use Rattle.ufs_journal.specs.Found.{sectors_at}
use Rattle.ufs_journal.specs.Spelled.{sector_of, spelled_sectors, joined, AreReadBack}
use Rattle.ufs_journal.specs.Written.{HasSector, IsReadyFor, IsAppending, HasAppended}
use Rattle.ufs_journal.proofs.Inserted.{any_none}
use Rattle.ufs_journal.proofs.FilledLemmas.{next_sector as next_of}
use Rattle.ufs_journal.proofs.AppendTurn.{says_itself, turn_put, turn_without, found_put, free_put}

-- a write of one sector of the journal
module _ (keeps : Bool) (at sector : ℕ) (same : at ≡ sector) (j : JournalSector) (bytes : List ℕ) (sized : length bytes ≡ 512) (spells : bytes ≡ journal_bytes j) (old new : Moments) where
  pub sector_put : LeavesOnly keeps (IsPartlyWritten at bytes old.state) old new → LeavesOnly keeps (HasSector sector j old.state) old new
  sector_put write = weaker keeps (IsPartlyWritten at bytes old.state) (HasSector sector j old.state) (λ image from.
      let one = mixed_one at bytes old.state image sized from in
      record { before = one.0; left = one.1; is = ⊎_elim (λ same. inl same) (λ is. inr (is ∙ (λ i. put (same i) (spells i) one.0))) one.2 }) old new write

pub sector_reads : (at sector : ℕ) → at ≡ sector → (j : JournalSector) (bytes : List ℕ) → length bytes ≡ 512 → bytes ≡ journal_bytes j → (old new : Image) → new ≡ overwritten at bytes old → new ≡ put sector (journal_bytes j) old
sector_reads at sector same j bytes sized spells old new is = is ∙ put_one at bytes old sized ∙ (λ i. put (same i) (spells i) old)

-- ---- the records that the next sector takes

step : {X : Type 0} (i : ℕ) (xs : List X) (y : X) (ys : List X) → drop i xs ≡ y ∷ ys → (take (i + 1) xs ≡ take i xs ++ y ∷ []) × (drop (i + 1) xs ≡ ys) × (i < length xs)
step zero [] y ys is = grind (arith, is)
step zero (x ∷ xs) y ys is = grind (arith, is)
step (suc i) [] y ys is = grind (arith, is)
step {X} (suc i) (x ∷ xs) y ys is =
    let rest = step i xs y ys is in
    let more : suc i + 1 ≡ suc (i + 1) = omega arith in
    (ap (λ n. take n (x ∷ xs)) more ∙ ap (λ (l : List X). x ∷ l) rest.0, ap (λ n. drop n (x ∷ xs)) more ∙ rest.1, omega (arith, rest.2))

pub record_fits : (r : LogRecord) → is_record r ≡ true → length (record_bytes r) ≤ 488
record_fits (Delta inode kind size keep extents) is =
    let parts = and_parts (nat_le 1 kind && nat_le kind 2) _ is in
    let most = and_parts (nat_le (keep + length extents) 56) _ parts.1 in
    let few : keep + length extents ≤ 56 = leb-true (keep + length extents) 56 most.0 in
    omega (arith, few, length-delta inode kind size keep extents)
record_fits (Place sector slot dentry) is =
    let parts = and_parts (nat_lt slot 8) _ is in
    let named = and_parts (nat_le (length dentry.name) 58) _ parts.1 in
    let short : length dentry.name ≤ 58 = leb-true (length dentry.name) 58 named.0 in
    omega (arith, length-place sector slot dentry short)
record_fits (Free inode) is = omega arith

all_take : {X : Type 0} (p : X → Bool) (n : ℕ) (xs : List X) → list_all p xs ≡ true → list_all p (take n xs) ≡ true
all_take p zero xs every = refl
all_take p (suc n) [] every = refl
all_take p (suc n) (x ∷ xs) every =
    let parts = and_parts (p x) (list_all p xs) every in
    λ i. parts.0 i && all_take p n xs parts.1 i

pub all_drop : {X : Type 0} (p : X → Bool) (n : ℕ) (xs : List X) → list_all p xs ≡ true → list_all p (drop n xs) ≡ true
all_drop p zero xs every = every
all_drop p (suc n) [] every = refl
all_drop p (suc n) (x ∷ xs) every = all_drop p n xs (and_parts (p x) (list_all p xs) every).1

pub all_part : {X : Type 0} (p : X → Bool) (m n : ℕ) (xs : List X) → list_all p xs ≡ true → list_all p (take n (drop m xs)) ≡ true
all_part p m n xs every = all_take p n (drop m xs) (all_drop p m xs every)

pub none_out : {X : Type 0} (p : X → Bool) (xs : List X) → list_all p xs ≡ true → list_any (λ x. not (p x)) xs ≡ false
none_out p [] every = refl
none_out p (x ∷ xs) every =
    let parts = and_parts (p x) (list_all p xs) every in
    λ i. not (parts.0 i) || none_out p xs parts.1 i

pub part : (p : LogRecord → Bool) (records taken : List LogRecord) (at : ℕ) → taken ≡ take (length taken) (drop at records) → list_all p records ≡ true → list_all p taken ≡ true
part p records taken at is every = ap (list_all p) is ∙ all_part p at (length taken) records every

-- at least one record fits
pub some_fit : (n : ℕ) (rs : List LogRecord) → 0 < length rs → list_all is_record rs ≡ true → (n < length rs → 488 < length (records_bytes (take (n + 1) rs))) → 1 ≤ n
some_fit zero [] some every most = absurd (omega arith)
some_fit zero (r ∷ rs) some every most =
    let fits = record_fits r (and_parts (is_record r) (list_all is_record rs) every).0 in
    let one : length (records_bytes (take (0 + 1) (r ∷ rs))) ≡ length (record_bytes r) = ap length (append-nil (record_bytes r)) in
    absurd (omega (arith, fits, one, most (omega arith)))
some_fit (suc n) rs some every most = omega arith

-- the records that a sector takes of those from a place on
pub next_taken : (records taken : List LogRecord) (at count : ℕ) → taken ≡ take count (drop at records) → 1 ≤ count → count ≤ length (drop at records)
    → length (records_bytes (take count (drop at records))) ≤ 488 → (count < length (drop at records) → 488 < length (records_bytes (take (count + 1) (drop at records))))
    → (length taken ≡ count) × (sectors_of_records (drop at records) ≡ taken ∷ sectors_of_records (drop (at + length taken) records))
next_taken records taken at count is some fits within most =
    let long : length taken ≡ count = ap length is ∙ length-take-le count (drop at records) fits in
    (long, next_of count (drop at records) some fits within most ∙ (λ i. sym is i ∷ sectors_of_records (drop-drop count at records i)) ∙ ap (λ n. taken ∷ sectors_of_records (drop (at + n) records)) (sym long))

module _ (records taken rest : List LogRecord) (at index : ℕ) (rest_is : sectors_of_records (drop at records) ≡ drop index (sectors_of_records records)) (next : sectors_of_records (drop at records) ≡ taken ∷ sectors_of_records rest) where
  pub taken_more : take (index + 1) (sectors_of_records records) ≡ take index (sectors_of_records records) ++ taken ∷ []
  taken_more = (step index (sectors_of_records records) _ _ (sym rest_is ∙ next)).0

  pub rest_more : sectors_of_records rest ≡ drop (index + 1) (sectors_of_records records)
  rest_more = sym (step index (sectors_of_records records) _ _ (sym rest_is ∙ next)).1

  pub index_less : index < length (sectors_of_records records)
  index_less = (step index (sectors_of_records records) _ _ (sym rest_is ∙ next)).2

-- the last sector was taken
pub none_left : (records : List LogRecord) (at index : ℕ) → sectors_of_records (drop at records) ≡ drop index (sectors_of_records records) → length records ≤ at → index ≤ length (sectors_of_records records) → index ≡ length (sectors_of_records records)
none_left records at index rest_is all le =
    let none : length (drop index (sectors_of_records records)) ≡ 0 = ap length (sym rest_is) ∙ ap (λ l. length (sectors_of_records l)) (drop_all at records all) in
    omega (arith, none, length-drop index (sectors_of_records records))

-- ---- moments

later_from : (txn index : ℕ) (f : FoundSector) → is_from txn index f ≡ false → (total : ℕ) → index ≤ total → is_from txn total f ≡ false
later_from txn index f other total le = elim (and_cases (f.1.txn == txn) (nat_le index f.1.index) other) [
  | inl ne ↦ and_left (f.1.txn == txn) (nat_le total f.1.index) ne
  | inr above ↦ and_right (f.1.txn == txn) (nat_le total f.1.index) (let lt : f.1.index < index = leb-false index f.1.index above in lt-leb total f.1.index (omega arith))
]

pub later : (g : Geometry) (epoch txn place index total : ℕ) (state : State) → index ≤ total → (d : Image) → IsAppending g epoch txn place index state d → IsAppending g epoch txn place total state d
later g epoch txn place index total state le d so_far = record {
  before = so_far.before;
  left = so_far.left;
  says = so_far.says;
  free = λ k from under. so_far.free k (omega arith) under;
  below = any_none (is_from txn index) (is_from txn total) (λ f other. later_from txn index f other total le) (found g epoch d) so_far.below;
  uncommitted = so_far.uncommitted;
  others = so_far.others;
}

pub begun : (g : Geometry) (epoch txn place : ℕ) (state : State) → Leaves (IsReadyFor g epoch txn place) state → Leaves (IsAppending g epoch txn place 0 state) state
begun g epoch txn place state ready d left = record {
  before = d;
  left = left;
  says = says_itself g epoch d;
  free = λ k from under. (ready d left).free k (omega arith) under;
  below = any_none (is_of txn) (is_from txn 0) (λ f ne. and_left (f.1.txn == txn) (nat_le 0 f.1.index) ne) (found g epoch d) (ready d left).unused;
  uncommitted = any_none (is_of txn) (commits_txn txn) (λ f ne. and_left (f.1.txn == txn) _ ne) (found g epoch d) (ready d left).unused;
  others = λ test other. refl;
}

module _ (keeps : Bool) (g : Geometry) (epoch txn place total : ℕ) (first : Moments) where
  pub begins : Leaves (IsReadyFor g epoch txn place) first.state → LeavesOnly keeps (IsAppending g epoch txn place total first.state) first first
  begins ready = started keeps (IsAppending g epoch txn place total first.state) first (λ d left. later g epoch txn place 0 total first.state (omega arith) d (begun g epoch txn place first.state ready d left))

-- ---- several sectors by one write

pub take_more : {X : Type 0} (m n : ℕ) (l : List X) → take (m + n) l ≡ take m l ++ take n (drop m l)
take_more m n l = sym (take-append-drop m (take (m + n) l)) ∙ (λ i. take-take m (m + n) l (omega arith) i ++ drop-take m n l i)

pub spelled_long : (epoch txn index : ℕ) (cs : List (List LogRecord)) → length (spelled_sectors epoch txn index cs) ≡ length cs
spelled_long epoch txn index [] = refl
spelled_long epoch txn index (c ∷ cs) = ap suc (spelled_long epoch txn (index + 1) cs)

joined_long : (epoch txn index : ℕ) (cs : List (List LogRecord)) → AreReadBack epoch txn index cs → length (joined (spelled_sectors epoch txn index cs)) ≡ 512 * length cs
joined_long epoch txn index [] back = refl
joined_long epoch txn index (c ∷ cs) back =
    let rest = joined_long epoch txn (index + 1) cs back.2 in
    let split = length-append (journal_bytes (sector_of epoch txn index c)) (joined (spelled_sectors epoch txn (index + 1) cs)) in
    omega (arith, rest, split, back.1)

pieces_joined : (epoch txn index : ℕ) (cs : List (List LogRecord)) → AreReadBack epoch txn index cs → pieces (length cs) (joined (spelled_sectors epoch txn index cs)) ≡ spelled_sectors epoch txn index cs
pieces_joined epoch txn index [] back = refl
pieces_joined epoch txn index (c ∷ cs) back =
    let p : List ℕ = journal_bytes (sector_of epoch txn index c) in
    let ps : List ℕ = joined (spelled_sectors epoch txn (index + 1) cs) in
    let first : take 512 (p ++ ps) ≡ p = take-append-le 512 p ps (omega (arith, back.1)) ∙ take_all 512 p (omega (arith, back.1)) in
    let second : drop 512 (p ++ ps) ≡ ps = drop_at p ps 512 back.1 in
    (λ i. first i ∷ pieces (length cs) (second i)) ∙ ap (λ (l : List (List ℕ)). p ∷ l) (pieces_joined epoch txn (index + 1) cs back.2)

-- the sectors of their bytes
pub sectors_spelled : (epoch txn index : ℕ) (cs : List (List LogRecord)) → AreReadBack epoch txn index cs → (bytes : List ℕ) → bytes ≡ joined (spelled_sectors epoch txn index cs) → sectors_of bytes ≡ spelled_sectors epoch txn index cs
sectors_spelled epoch txn index cs back bytes is =
    let long = joined_long epoch txn index cs back in
    let count : length (joined (spelled_sectors epoch txn index cs)) / 512 ≡ length cs = omega (arith, long) in
    ap sectors_of is ∙ ap (λ n. pieces n (joined (spelled_sectors epoch txn index cs))) count ∙ pieces_joined epoch txn index cs back

-- one more
pub joined_push : (epoch txn index n : ℕ) (cs : List (List LogRecord)) (c : List LogRecord) → n ≡ index + length cs → joined (spelled_sectors epoch txn index (cs ++ c ∷ [])) ≡ joined (spelled_sectors epoch txn index cs) ++ journal_bytes (sector_of epoch txn n c)
joined_push epoch txn index n [] c is = append-nil (journal_bytes (sector_of epoch txn index c)) ∙ ap (λ k. journal_bytes (sector_of epoch txn k c)) (omega arith)
joined_push epoch txn index n (d ∷ cs) c is =
    ap (λ (l : List ℕ). journal_bytes (sector_of epoch txn index d) ++ l) (joined_push epoch txn (index + 1) n cs c (omega arith))
    ∙ sym (append_assoc (journal_bytes (sector_of epoch txn index d)) (joined (spelled_sectors epoch txn (index + 1) cs)) (journal_bytes (sector_of epoch txn n c)))

pub back_push : (epoch txn index n : ℕ) (cs : List (List LogRecord)) (c : List LogRecord) → n ≡ index + length cs → AreReadBack epoch txn index cs
    → journal_of (journal_bytes (sector_of epoch txn n c)) ≡ Some (sector_of epoch txn n c) → length (journal_bytes (sector_of epoch txn n c)) ≡ 512 → AreReadBack epoch txn index (cs ++ c ∷ [])
back_push epoch txn index n [] c is every back long =
    let same : n ≡ index = omega arith in
    (subst (λ k. journal_of (journal_bytes (sector_of epoch txn k c)) ≡ Some (sector_of epoch txn k c)) same back, subst (λ k. length (journal_bytes (sector_of epoch txn k c)) ≡ 512) same long, tt)
back_push epoch txn index n (d ∷ cs) c is every back long = (every.0, every.1, back_push epoch txn (index + 1) n cs c (omega arith) every.2 back long)

-- each sector has records of the list
filled_all : (p : LogRecord → Bool) (sector rs : List LogRecord) → list_all p sector ≡ true → list_all p rs ≡ true → list_all (list_all p) (filled sector rs) ≡ true
filled_all p sector [] one all = λ i. one i && true
filled_all p sector (r ∷ rs) one all =
    let parts = and_parts (p r) (list_all p rs) all in
    by (nat_le (length (records_bytes (sector ++ r ∷ []))) 488)
    (filled_all p (sector ++ r ∷ []) rs (all_push p sector r one parts.0) parts.1)
    (filled_all p (r ∷ []) rs (λ i. parts.0 i && true) parts.1)
  where
    by : (b : Bool) → list_all (list_all p) (filled (sector ++ r ∷ []) rs) ≡ true → list_all (list_all p) (filled (r ∷ []) rs) ≡ true
        → list_all (list_all p) (if b then filled (sector ++ r ∷ []) rs else sector ∷ filled (r ∷ []) rs) ≡ true
    by true more other = more
    by false more other = λ i. one i && other i

    all_push : (p : LogRecord → Bool) (xs : List LogRecord) (x : LogRecord) → list_all p xs ≡ true → p x ≡ true → list_all p (xs ++ x ∷ []) ≡ true
    all_push p [] x every is = λ i. is i && true
    all_push p (y ∷ ys) x every is = let parts = and_parts (p y) (list_all p ys) every in λ i. parts.0 i && all_push p ys x parts.1 is i

pub sectors_all : (p : LogRecord → Bool) (rs : List LogRecord) → list_all p rs ≡ true → list_all (list_all p) (sectors_of_records rs) ≡ true
sectors_all p [] every = refl
sectors_all p (r ∷ rs) every = let parts = and_parts (p r) (list_all p rs) every in filled_all p (r ∷ []) rs (λ i. parts.0 i && true) parts.1

-- whichever of them are written
turns : (g : Geometry) (epoch txn start : ℕ) (state : State) (index : ℕ) (cs : List (List LogRecord)) → start + index + length cs ≤ g.journal → list_all (list_all (is_in_range g)) cs ≡ true → AreReadBack epoch txn index cs
    → (d image : Image) (s : ℕ) → s ≡ journal_sector g (start + index) → IsAppending g epoch txn start index state d → Mixes d (put_all s (spelled_sectors epoch txn index cs) d) image → IsAppending g epoch txn start (index + length cs) state image
turns g epoch txn start state index [] within inside back d image s at so_far mixed =
    let same : image ≡ d = λ i k. agreed k i in
    let none : index ≡ index + 0 = omega arith in
    subst (λ n. IsAppending g epoch txn start n state image) none (subst (IsAppending g epoch txn start index state) (sym same) so_far)
  where
    agreed : (k : ℕ) → image k ≡ d k
    agreed k = ⊎_elim (λ is. is) (λ is. is) (mixed k)
turns g epoch txn start state index (c ∷ cs) within inside back d image s at so_far mixed =
    let parts = and_parts (list_all (is_in_range g) c) (list_all (list_all (is_in_range g)) cs) inside in
    let none = none_out (is_in_range g) c parts.0 in
    let p : List ℕ = journal_bytes (sector_of epoch txn index c) in
    let next : s + 1 ≡ journal_sector g (start + (index + 1)) = omega (arith, at) in
    let more : index + 1 + length cs ≡ index + suc (length cs) = omega arith in
    subst (λ n. IsAppending g epoch txn start n state image) more (⊎_elim
    (λ without. turns g epoch txn start state (index + 1) cs (omega arith) parts.1 back.2 d image (s + 1) next (turn_without g epoch txn start index (omega arith) c none back.0 state d so_far) without)
    (λ with. turns g epoch txn start state (index + 1) cs (omega arith) parts.1 back.2 (put s p d) image (s + 1) next
    (subst (λ n. IsAppending g epoch txn start (index + 1) state (put n p d)) (sym at) (turn_put g epoch txn start index (omega arith) c none back.0 state d so_far)) with)
    (mixes_first s p (spelled_sectors epoch txn (index + 1) cs) d image mixed))

module _ (keeps : Bool) (g : Geometry) (epoch txn place total : ℕ) (first : Moments) (index : ℕ) (cs : List (List LogRecord)) (within : place + index + length cs ≤ g.journal) (inside : list_all (list_all (is_in_range g)) cs ≡ true) (back : AreReadBack epoch txn index cs)
    (bytes : List ℕ) (is : bytes ≡ joined (spelled_sectors epoch txn index cs)) (old new : Moments) (now : Leaves (IsAppending g epoch txn place index first.state) old.state)
    (write : LeavesOnly keeps (IsPartlyWritten (journal_sector g (place + index)) bytes old.state) old new) where
  group_turn : (d : Image) → IsPartlyWritten (journal_sector g (place + index)) bytes old.state d → IsAppending g epoch txn place (index + length cs) first.state d
  group_turn d from = turns g epoch txn place first.state index cs within inside back from.before d (journal_sector g (place + index)) refl (now from.before from.left)
      (subst (λ (ps : List (List ℕ)). Mixes from.before (put_all (journal_sector g (place + index)) ps from.before) d) (sectors_spelled epoch txn index cs back bytes is) from.mixed)

  pub group_now : Leaves (IsAppending g epoch txn place (index + length cs) first.state) new.state
  group_now d left = group_turn d (write.after d left)

  pub group_on : index + length cs ≤ total → LeavesOnly keeps (IsAppending g epoch txn place total first.state) first old → LeavesOnly keeps (IsAppending g epoch txn place total first.state) first new
  group_on few so_far = goes_on keeps (IsAppending g epoch txn place total first.state) _ first old new so_far write
      (λ d from. later g epoch txn place (index + length cs) total first.state few d (group_turn d from))

-- ---- as the disk reads

at_push : (g : Geometry) (epoch txn place index : ℕ) (cs : List (List LogRecord)) (c : List LogRecord) → sectors_at g epoch txn place index (cs ++ c ∷ []) ≡ sectors_at g epoch txn place index cs ++ (journal_sector g (place + length cs), record { epoch = epoch; txn = txn; index = index + length cs; content = HasRecords c }) ∷ []
at_push g epoch txn place index [] c = let a : place ≡ place + 0 = omega arith in let b : index ≡ index + 0 = omega arith in λ i. (journal_sector g (a i), record { epoch = epoch; txn = txn; index = b i; content = HasRecords c }) ∷ []
at_push g epoch txn place index (d ∷ cs) c =
    let a : place + 1 + length cs ≡ place + suc (length cs) = omega arith in
    let b : index + 1 + length cs ≡ index + suc (length cs) = omega arith in
    ap (λ (l : List FoundSector). (journal_sector g place, record { epoch = epoch; txn = txn; index = index; content = HasRecords d }) ∷ l) (at_push g epoch txn (place + 1) (index + 1) cs c
    ∙ (λ i. sectors_at g epoch txn (place + 1) (index + 1) cs ++ (journal_sector g (a i), record { epoch = epoch; txn = txn; index = b i; content = HasRecords c }) ∷ []))

pub none_appended : (g : Geometry) (epoch txn place : ℕ) (d : Image) → HasAppended g epoch txn place [] d d
none_appended g epoch txn place d = record { found_more = sym (append-nil (found g epoch d)); elsewhere = λ s outside. refl }

pub appended_more : (g : Geometry) (epoch txn place index : ℕ) (within : place + index < g.journal) (cs : List (List LogRecord)) (c : List LogRecord) (first old new : Image) → length cs ≡ index → IsFreeFrom g epoch (place + index) old
    → (let j : JournalSector = record { epoch = epoch; txn = txn; index = index; content = HasRecords c } in
    journal_of (journal_bytes j) ≡ Some j → new ≡ put (journal_sector g (place + index)) (journal_bytes j) old
    → HasAppended g epoch txn place cs first old → HasAppended g epoch txn place (cs ++ c ∷ []) first new)
appended_more g epoch txn place index within cs c first old new counted free back is so_far = record {
  found_more = ap (found g epoch) is ∙ found_put g epoch (place + index) within j old back refl free
      ∙ ap (λ (l : List FoundSector). l ++ (journal_sector g (place + index), j) ∷ []) so_far.found_more
      ∙ append_assoc (found g epoch first) (sectors_at g epoch txn place 0 cs) ((journal_sector g (place + index), j) ∷ [])
      ∙ ap (λ (l : List FoundSector). found g epoch first ++ l) (ap (λ (n : ℕ). sectors_at g epoch txn place 0 cs ++ (journal_sector g (place + n), record { epoch = epoch; txn = txn; index = n; content = HasRecords c }) ∷ []) (sym counted)
      ∙ ap (λ (n : ℕ). sectors_at g epoch txn place 0 cs ++ (journal_sector g (place + length cs), record { epoch = epoch; txn = txn; index = n; content = HasRecords c }) ∷ []) zero_more ∙ sym (at_push g epoch txn place 0 cs c));
  elsewhere = λ s outside. ap (λ (d : Image). d s) is ∙ put_other (journal_sector g (place + index)) s (journal_bytes j) old (λ same. ⊎_elim (λ low. omega (arith, counted)) (λ high. omega (arith, counted, length_push cs c)) outside)
      ∙ so_far.elsewhere s (⊎_elim (λ low. inl low) (λ high. inr (omega (arith, length_push cs c))) outside);
}
  where
    j : JournalSector
    j = record { epoch = epoch; txn = txn; index = index; content = HasRecords c }

    zero_more : length cs ≡ 0 + length cs
    zero_more = omega arith

-- the same of several sectors
appended_all : (g : Geometry) (epoch txn place : ℕ) (cs done : List (List LogRecord)) (index s : ℕ) → index ≡ length done → s ≡ journal_sector g (place + index) → place + index + length cs ≤ g.journal → AreReadBack epoch txn index cs → (first old new : Image)
    → IsFreeFrom g epoch (place + index) old → new ≡ put_all s (spelled_sectors epoch txn index cs) old → HasAppended g epoch txn place done first old → HasAppended g epoch txn place (done ++ cs) first new
appended_all g epoch txn place [] done index s counted at within back first old new free is so_far =
    subst (λ (l : List (List LogRecord)). HasAppended g epoch txn place l first new) (sym (append-nil done)) (subst (HasAppended g epoch txn place done first) (sym is) so_far)
appended_all g epoch txn place (c ∷ cs) done index s counted at within back first old new free is so_far =
    let p : List ℕ = journal_bytes (sector_of epoch txn index c) in
    let more : place + index + 1 ≡ place + (index + 1) = omega arith in
    let here : put s p old ≡ put (journal_sector g (place + index)) p old = ap (λ n. put n p old) at in
    let one = appended_more g epoch txn place index (omega arith) done c first old (put s p old) (sym counted) free back.0 here so_far in
    let rest : IsFreeFrom g epoch (place + (index + 1)) (put s p old) = subst (λ n. IsFreeFrom g epoch n (put s p old)) more
    (subst (IsFreeFrom g epoch (place + index + 1)) (sym here) (free_put g epoch (place + index) (omega arith) (sector_of epoch txn index c) old free)) in
    subst (λ (l : List (List LogRecord)). HasAppended g epoch txn place l first new) (append_assoc done (c ∷ []) cs)
    (appended_all g epoch txn place cs (done ++ c ∷ []) (index + 1) (s + 1) (omega (arith, counted, length_push done c)) (omega (arith, at)) (omega arith) back.2 first (put s p old) new rest is one)

pub group_reads : (g : Geometry) (epoch txn place : ℕ) (cs done : List (List LogRecord)) (index : ℕ) → index ≡ length done → place + index + length cs ≤ g.journal → AreReadBack epoch txn index cs → (bytes : List ℕ) → bytes ≡ joined (spelled_sectors epoch txn index cs) → (first old new : Image)
    → IsFreeFrom g epoch (place + index) old → new ≡ overwritten (journal_sector g (place + index)) bytes old → HasAppended g epoch txn place done first old → HasAppended g epoch txn place (done ++ cs) first new
group_reads g epoch txn place cs done index counted within back bytes spells first old new free is so_far =
    appended_all g epoch txn place cs done index (journal_sector g (place + index)) counted refl within back first old new free
    (is ∙ ap (λ (ps : List (List ℕ)). put_all (journal_sector g (place + index)) ps old) (sectors_spelled epoch txn index cs back bytes spells)) so_far

-- ---- other sectors

pub untouched : (at count : ℕ) (bytes : List ℕ) (old new : Image) → length bytes ≡ 512 * count → Mixes old (overwritten at bytes old) new → (k : ℕ) → (k < at) ⊎ (at + count ≤ k) → new k ≡ old k
untouched at count bytes old new sized mixed k outside = ⊎_elim (λ same. same) (λ is. is ∙ ⊎_elim
    (λ low. put_all_below (sectors_of bytes) at k old low)
    (λ high. let long = length-pieces (length bytes / 512) bytes in put_all_above (sectors_of bytes) at k old (omega (arith, sized, long, high))) outside) (mixed k)

pub off_journal : (g : Geometry) (at place count : ℕ) (bytes : List ℕ) (old new : Image) → at ≡ journal_sector g place → place + count ≤ g.journal → length bytes ≡ 512 * count → Mixes old (overwritten at bytes old) new → AgreeOffJournal g new old
off_journal g at place count bytes old new is within sized mixed k off = untouched at count bytes old new sized mixed k (⊎_elim (λ low. inl (omega (arith, low, is))) (λ high. inr (omega (arith, high, is))) off)
