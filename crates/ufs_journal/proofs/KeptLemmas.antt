-- What a journal keeps true of its disk, over its calls.
use Rattle.std.proofs.Common.{◌≡◌, ◌≢◌, inl, ⊎_elim, ℕ, suc, ◌+◌, ◌-◌, ◌*◌, ◌<◌, ◌≤◌, List, [], ◌∷◌, ◌++◌, Bool, true, false, ◌&&◌, Option, Some, None, length, refl, ap, sym, ◌∙◌, arith}
use Rattle.std.specs.Prelude.{if◌then◌else◌, ◌==◌, not, nat_le, nat_lt, is_none, map, unwrap_or}
use Rattle.std.specs.List.{filter, find, list_any, list_all}
use Rattle.std.proofs.lemmas.Bool.{ne_eqb, eq-eqb, eqb-true, and_parts, or_parts, le-leb, leb-true, lt-ltb, ltb-true, true≢false}
use Rattle.std.proofs.lemmas.List.{append-nil}
use Rattle.std.proofs.lemmas.List.Elements.{filter-append}
use Rattle.ufs_base.specs.Images.{Image}
use Rattle.ufs_disk.specs.Disk.{State, Leaves}
use Rattle.ufs_disk.specs.Moments.{Moments, LeavesOnly}
use Rattle.ufs_disk.proofs.Runs.{weaker}
use Rattle.ufs_layout.specs.Areas.{first_of_journal}
use Rattle.ufs_image.specs.Journal.{epoch_in, FoundSector, well_spelled, commit_in, has_records}
use Rattle.ufs_layout.specs.JournalSector.{SectorContent, HasRecords, HasCommit}
use Rattle.ufs_layout.specs.declared.geometry.Geometry.{Geometry}
use Rattle.ufs_layout.specs.declared.records.LogRecord.{LogRecord}
use Rattle.ufs_layout.proofs.Ranges.{filter-none}
use Rattle.ufs_journal.specs.declared.open_list.Opened.{Opened}
use Rattle.ufs_journal.specs.Found.{found, is_of, reaches, sectors_of_txn, journal_sector, IsFreeFrom}
use Rattle.ufs_layout.specs.Filled.{sectors_of_records, sector_count_of}
use Rattle.ufs_journal.specs.Found.{sectors_at}
use Rattle.ufs_journal.specs.Opened.{is_txn, opened_of, without_txn, is_placed, rises}
use Rattle.ufs_journal.specs.Written.{DiffersInEpoch, IsAppended, IsReadyFor, IsAppending, HasAppended}
use Rattle.ufs_journal.specs.Kept.{HasNoLater, HasEarlier, IsReady, IsUnused, HoldsRecords}
use Rattle.ufs_journal.proofs.Placed.{read_at}

-- ---- lists

pub find_front : {X : Type 0} (p : X → Bool) (xs ys : List X) (x : X) → find p xs ≡ Some x → find p (xs ++ ys) ≡ Some x
find_front p [] ys x is = grind (arith, is)
find_front {X} p (z ∷ zs) ys x is = by (p z) is (find_front p zs ys x)
  where
    by : (b : Bool) → (if b then Some z else find p zs) ≡ Some x → (find p zs ≡ Some x → find p (zs ++ ys) ≡ Some x) → (if b then Some z else find p (zs ++ ys)) ≡ Some x
    by true is rest = is
    by false is rest = rest is

pub find_last : {X : Type 0} (p : X → Bool) (xs : List X) (y : X) → find p xs ≡ None → p y ≡ true → find p (xs ++ y ∷ []) ≡ Some y
find_last p [] y none passes = ap (λ b. if b then Some y else None) passes
find_last {X} p (z ∷ zs) y none passes = by (p z) none (λ e. find_last p zs y e passes)
  where
    by : (b : Bool) → (if b then Some z else find p zs) ≡ None → (find p zs ≡ None → find p (zs ++ y ∷ []) ≡ Some y) → (if b then Some z else find p (zs ++ y ∷ [])) ≡ Some y
    by true is rest = grind (arith, is)
    by false is rest = rest is

pub find_passes : {X : Type 0} (p q : X → Bool) (xs : List X) (x : X) → list_all q xs ≡ true → find p xs ≡ Some x → (p x ≡ true) × (q x ≡ true)
find_passes p q [] x every is = grind (arith, is)
find_passes {X} p q (z ∷ zs) x every is = by (p z) refl is (find_passes p q zs x (and_parts (q z) (list_all q zs) every).1)
  where
    by : (b : Bool) → p z ≡ b → (if b then Some z else find p zs) ≡ Some x → (find p zs ≡ Some x → (p x ≡ true) × (q x ≡ true)) → (p x ≡ true) × (q x ≡ true)
    by true at is rest =
        let same : z ≡ x = grind (arith, is) in
        (ap p (sym same) ∙ at, ap q (sym same) ∙ (and_parts (q z) (list_all q zs) every).0)
    by false at is rest = rest is

pub filter_nothing : {X : Type 0} (p : X → Bool) (xs : List X) → list_any p xs ≡ false → filter p xs ≡ []
filter_nothing p [] none = refl
filter_nothing p (x ∷ xs) none =
    let parts = or_parts (p x) (list_any p xs) none in
    λ i. if parts.0 i then x ∷ filter p xs else filter_nothing p xs parts.1 i

-- ---- a later epoch

pub found_none : (g : Geometry) (epoch : ℕ) (image : Image) → IsFreeFrom g epoch 0 image → found g epoch image ≡ []
found_none g epoch image free = ap (λ (l : List ℕ). well_spelled (map (read_at image) l)) (filter-none (λ s. epoch_in (image s) == epoch) (8 * first_of_journal g) g.journal (λ s from under.
    let at : s ≡ journal_sector g (s - journal_sector g 0) = omega arith in
    ap (λ k. epoch_in (image k) == epoch) at ∙ free (s - journal_sector g 0) (omega arith) (omega arith)))

later_free : (g : Geometry) (old epoch : ℕ) (image : Image) → old < epoch → HasNoLater g old image → IsFreeFrom g epoch 0 image
later_free g old epoch image later latest place from under = ne_eqb (epoch_in (image (journal_sector g place))) epoch (λ same. let le = latest place under in absurd (omega arith))

earlier_free : (g : Geometry) (epoch : ℕ) (image : Image) → HasEarlier g epoch image → IsFreeFrom g epoch 0 image
earlier_free g epoch image earlier place from under = ne_eqb (epoch_in (image (journal_sector g place))) epoch (λ same. let lt = earlier place under in absurd (omega arith))

pub made : (g : Geometry) (epoch number : ℕ) (state : State) → Leaves (HasEarlier g epoch) state → IsReady g epoch 0 number state
made g epoch number state earlier = record {
  free = λ image left. earlier_free g epoch image (earlier image left);
  latest = λ image left place under. let lt = earlier image left place under in omega arith;
  fresh = λ image left. ap (list_any (reaches number)) (found_none g epoch image (earlier_free g epoch image (earlier image left)));
}

pub made_unused : (g : Geometry) (epoch : ℕ) (state : State) → Leaves (HasEarlier g epoch) state → (txn : ℕ) → IsUnused g epoch txn state
made_unused g epoch state earlier txn image left = ap (list_any (is_of txn)) (found_none g epoch image (earlier_free g epoch image (earlier image left)))

pub restarted : (g : Geometry) (old epoch used number : ℕ) (state : State) → old < epoch → IsReady g old used number state → IsReady g epoch 0 number state
restarted g old epoch used number state later ready = record {
  free = λ image left. later_free g old epoch image later (ready.latest image left);
  latest = λ image left place under. let le = ready.latest image left place under in omega arith;
  fresh = λ image left. ap (list_any (reaches number)) (found_none g epoch image (later_free g old epoch image later (ready.latest image left)));
}

pub restarted_unused : (g : Geometry) (old epoch used number : ℕ) (state : State) → old < epoch → IsReady g old used number state → (txn : ℕ) → IsUnused g epoch txn state
restarted_unused g old epoch used number state later ready txn image left = ap (list_any (is_of txn)) (found_none g epoch image (later_free g old epoch image later (ready.latest image left)))

-- ---- append

module _ (g : Geometry) (epoch used number txn : ℕ) (state : State) (ready : IsReady g epoch used number state) (unused : IsUnused g epoch txn state) where
  pub ready_for : Leaves (IsReadyFor g epoch txn used) state
  ready_for image left = record { free = ready.free image left; unused = unused image left }

pub appended_run : (keeps : Bool) (g : Geometry) (epoch txn place count : ℕ) (first new : Moments) → LeavesOnly keeps (IsAppending g epoch txn place count first.state) first new → LeavesOnly keeps (IsAppended g epoch first.state) first new
appended_run keeps g epoch txn place count first new run = weaker keeps (IsAppending g epoch txn place count first.state) (IsAppended g epoch first.state) (λ image is. record { before = is.before; left = is.left; says = is.says }) first new run

no_later_on : (g : Geometry) (epoch : ℕ) (before image : Image) → DiffersInEpoch g epoch before image → HasNoLater g epoch before → HasNoLater g epoch image
no_later_on g epoch before image differs latest place under = ⊎_elim
    (λ same. let le = latest place under in let e = ap epoch_in same in omega arith)
    (λ is. let e = is.epoch_is in omega arith) (differs (journal_sector g place))

-- a sector of records is no commit
records_reach_nothing : (number : ℕ) (f : FoundSector) → has_records f ≡ true → reaches number f ≡ false
records_reach_nothing number (p, j) is = by j.content is
  where
    by : (content : SectorContent) → is_none (commit_in content) ≡ true → reaches number (p, record { epoch = j.epoch; txn = j.txn; index = j.index; content = content }) ≡ false
    by (HasRecords rs) is = refl
    by (HasCommit m) is = absurd (true≢false (sym is))

module _ (g : Geometry) (epoch used number txn count : ℕ) (state new : State) (ready : IsReady g epoch used number state) (after : Leaves (IsAppending g epoch txn used count state) new) where
  pub ready_appended : (used' : ℕ) → used' ≡ used + count + 1 → IsReady g epoch used' number new
  ready_appended used' is = record {
    free = λ image left place from under. (after image left).free place (omega arith) under;
    latest = λ image left. no_later_on g epoch (after image left).before image (after image left).says.differs (ready.latest (after image left).before (after image left).left);
    fresh = λ image left. (after image left).others (reaches number) (λ f of_txn has. records_reach_nothing number f has) ∙ ready.fresh (after image left).before (after image left).left;
  }

  pub unused_appended : (other : ℕ) → other ≢ txn → IsUnused g epoch other state → IsUnused g epoch other new
  unused_appended other ne unused image left = (after image left).others (is_of other) (λ f of_txn has. ne_eqb f.1.txn other (λ same. ne (sym same ∙ of_txn))) ∙ unused (after image left).before (after image left).left

-- the sectors of one transaction
all_of_txn : (g : Geometry) (epoch txn place index : ℕ) (cs : List (List LogRecord)) → sectors_of_txn txn (sectors_at g epoch txn place index cs) ≡ sectors_at g epoch txn place index cs
all_of_txn g epoch txn place index [] = refl
all_of_txn g epoch txn place index (c ∷ cs) =
    let at : FoundSector = (journal_sector g place, record { epoch = epoch; txn = txn; index = index; content = HasRecords c }) in
    λ i. if eq-eqb txn txn refl i then at ∷ all_of_txn g epoch txn (place + 1) (index + 1) cs i else sectors_of_txn txn (sectors_at g epoch txn (place + 1) (index + 1) cs)

none_of_other : (g : Geometry) (epoch txn other place index : ℕ) (cs : List (List LogRecord)) → txn ≢ other → sectors_of_txn other (sectors_at g epoch txn place index cs) ≡ []
none_of_other g epoch txn other place index [] ne = refl
none_of_other g epoch txn other place index (c ∷ cs) ne =
    let at : FoundSector = (journal_sector g place, record { epoch = epoch; txn = txn; index = index; content = HasRecords c }) in
    λ i. if ne_eqb txn other ne i then at ∷ sectors_of_txn other (sectors_at g epoch txn (place + 1) (index + 1) cs) else none_of_other g epoch txn other (place + 1) (index + 1) cs ne i

module _ (g : Geometry) (epoch used txn : ℕ) (records : List LogRecord) (old new : Image) (has : HasAppended g epoch txn used (sectors_of_records records) old new) where
  -- the new one holds its records
  pub holds_new : (count : ℕ) → used + count < g.journal → count ≡ sector_count_of records → list_any (is_of txn) (found g epoch old) ≡ false → (epoch_in (new (journal_sector g (used + count))) == epoch) ≡ false
      → HoldsRecords g epoch (record { txn = txn; place = used + count; count = count }) records new
  holds_new count inside counted unused blank = record {
    inside = inside;
    blank = blank;
    counted = counted;
    holds =
        let start : used ≡ used + count - count = omega arith in
        ap (sectors_of_txn txn) has.found_more ∙ filter-append (is_of txn) (found g epoch old) (sectors_at g epoch txn used 0 (sectors_of_records records))
        ∙ (λ i. filter_nothing (is_of txn) (found g epoch old) unused i ++ all_of_txn g epoch txn used 0 (sectors_of_records records) i)
        ∙ ap (λ n. sectors_at g epoch txn n 0 (sectors_of_records records)) start;
  }

  -- the others hold theirs
  pub holds_other : (one : Opened) (held : List LogRecord) → one.place < used → one.txn ≢ txn → HoldsRecords g epoch one held old → HoldsRecords g epoch one held new
  holds_other one held before ne holds = record {
    inside = holds.inside;
    blank = ap (λ b. epoch_in b == epoch) (has.elsewhere (journal_sector g one.place) (inl (omega arith))) ∙ holds.blank;
    counted = holds.counted;
    holds = ap (sectors_of_txn one.txn) has.found_more ∙ filter-append (is_of one.txn) (found g epoch old) (sectors_at g epoch txn used 0 (sectors_of_records records))
        ∙ ap (λ l. sectors_of_txn one.txn (found g epoch old) ++ l) (none_of_other g epoch txn one.txn used 0 (sectors_of_records records) (λ same. ne (sym same)))
        ∙ append-nil (sectors_of_txn one.txn (found g epoch old)) ∙ holds.holds;
  }

-- what is listed has its number and its place
pub listed_at : (txn used : ℕ) (opened : List Opened) (one : Opened) → list_all (is_placed used) opened ≡ true → opened_of txn opened ≡ Some one → (one.txn ≡ txn) × (1 ≤ one.txn) × (one.place < used) × (one.count ≤ one.place)
listed_at txn used opened one every is =
    let both = find_passes (is_txn txn) (is_placed used) opened one every is in
    let some = and_parts (nat_le 1 one.txn) (nat_lt one.place used && nat_le one.count one.place) both.1 in
    let places = and_parts (nat_lt one.place used) (nat_le one.count one.place) some.1 in
    (eqb-true one.txn txn both.0, leb-true 1 one.txn some.0, ltb-true one.place used places.0, leb-true one.count one.place places.1)

placed_later : (used later : ℕ) (o : Opened) → used ≤ later → is_placed used o ≡ true → is_placed later o ≡ true
placed_later used later o le is =
    let some = and_parts (nat_le 1 o.txn) (nat_lt o.place used && nat_le o.count o.place) is in
    let places = and_parts (nat_lt o.place used) (nat_le o.count o.place) some.1 in
    let under : o.place < used = ltb-true o.place used places.0 in
    λ i. some.0 i && (lt-ltb o.place later (omega arith) i && places.1 i)

pub all_placed_later : (used later : ℕ) (os : List Opened) → used ≤ later → list_all (is_placed used) os ≡ true → list_all (is_placed later) os ≡ true
all_placed_later used later [] le every = refl
all_placed_later used later (o ∷ os) le every =
    let parts = and_parts (is_placed used o) (list_all (is_placed used) os) every in
    λ i. placed_later used later o le parts.0 i && all_placed_later used later os le parts.1 i

pub all_placed_push : (used : ℕ) (os : List Opened) (o : Opened) → list_all (is_placed used) os ≡ true → is_placed used o ≡ true → list_all (is_placed used) (os ++ o ∷ []) ≡ true
all_placed_push used [] o every is = λ i. is i && true
all_placed_push used (x ∷ xs) o every is =
    let parts = and_parts (is_placed used x) (list_all (is_placed used) xs) every in
    λ i. parts.0 i && all_placed_push used xs o parts.1 is i

pub new_placed : (txn used count : ℕ) → 1 ≤ txn → is_placed (used + count + 1) (record { txn = txn; place = used + count; count = count }) ≡ true
new_placed txn used count some = λ i. le-leb 1 txn some i && (lt-ltb (used + count) (used + count + 1) (omega arith) i && le-leb count (used + count) (omega arith) i)

-- ---- rising places

all_before : (used : ℕ) (x : Opened) (os : List Opened) (o : Opened) → list_all (λ (p : Opened). nat_lt x.place p.place) os ≡ true → x.place < o.place → list_all (λ (p : Opened). nat_lt x.place p.place) (os ++ o ∷ []) ≡ true
all_before used x [] o every lt = λ i. lt-ltb x.place o.place lt i && true
all_before used x (y ∷ ys) o every lt =
    let parts = and_parts (nat_lt x.place y.place) (list_all (λ (p : Opened). nat_lt x.place p.place) ys) every in
    λ i. parts.0 i && all_before used x ys o parts.1 lt i

pub rises_push : (used : ℕ) (os : List Opened) (o : Opened) → rises os ≡ true → list_all (is_placed used) os ≡ true → used ≤ o.place → rises (os ++ o ∷ []) ≡ true
rises_push used [] o rising every le = refl
rises_push used (x ∷ xs) o rising every le =
    let parts = and_parts (list_all (λ (p : Opened). nat_lt x.place p.place) xs) (rises xs) rising in
    let placed = and_parts (is_placed used x) (list_all (is_placed used) xs) every in
    let some = and_parts (nat_le 1 x.txn) (nat_lt x.place used && nat_le x.count x.place) placed.0 in
    let places = and_parts (nat_lt x.place used) (nat_le x.count x.place) some.1 in
    let under : x.place < used = ltb-true x.place used places.0 in
    λ i. all_before used x xs o parts.0 (omega arith) i && rises_push used xs o parts.1 placed.1 le i

pub all_filter : {X : Type 0} (p q : X → Bool) (xs : List X) → list_all p xs ≡ true → list_all p (filter q xs) ≡ true
all_filter p q [] every = refl
all_filter {X} p q (x ∷ xs) every = by (q x) (and_parts (p x) (list_all p xs) every).0 (all_filter p q xs (and_parts (p x) (list_all p xs) every).1)
  where
    by : (b : Bool) → p x ≡ true → list_all p (filter q xs) ≡ true → list_all p (if b then x ∷ filter q xs else filter q xs) ≡ true
    by true here rest = λ i. here i && rest i
    by false here rest = rest

pub rises_filter : (q : Opened → Bool) (os : List Opened) → rises os ≡ true → rises (filter q os) ≡ true
rises_filter q [] rising = refl
rises_filter q (x ∷ xs) rising = by (q x) (all_filter (λ (p : Opened). nat_lt x.place p.place) q xs (and_parts (list_all (λ (p : Opened). nat_lt x.place p.place) xs) (rises xs) rising).0)
    (rises_filter q xs (and_parts (list_all (λ (p : Opened). nat_lt x.place p.place) xs) (rises xs) rising).1)
  where
    by : (b : Bool) → list_all (λ (p : Opened). nat_lt x.place p.place) (filter q xs) ≡ true → rises (filter q xs) ≡ true → rises (if b then x ∷ filter q xs else filter q xs) ≡ true
    by true here rest = λ i. here i && rest i
    by false here rest = rest

pub length_filter : {X : Type 0} (q : X → Bool) (xs : List X) → length (filter q xs) ≤ length xs
length_filter q [] = omega arith
length_filter {X} q (x ∷ xs) = by (q x) (length_filter q xs)
  where
    by : (b : Bool) → length (filter q xs) ≤ length xs → length (if b then x ∷ filter q xs else filter q xs) ≤ suc (length xs)
    by true rest = omega arith
    by false rest = omega arith

-- two of them lie at different places
pub apart : (txn other : ℕ) (os : List Opened) (x y : Opened) → txn ≢ other → rises os ≡ true → opened_of txn os ≡ Some x → opened_of other os ≡ Some y → x.place ≢ y.place
apart txn other [] x y ne rising one two same = grind (arith, one)
apart txn other (z ∷ zs) x y ne rising one two same =
    by (is_txn txn z) (is_txn other z) refl refl one two (and_parts (list_all (λ (p : Opened). nat_lt z.place p.place) zs) (rises zs) rising).0 (λ e f. apart txn other zs x y ne (and_parts (list_all (λ (p : Opened). nat_lt z.place p.place) zs) (rises zs) rising).1 e f same)
  where
    above : list_all (λ (p : Opened). nat_lt z.place p.place) zs ≡ true → (t : ℕ) (w : Opened) → find (is_txn t) zs ≡ Some w → z.place < w.place
    above every t w is = ltb-true z.place w.place (find_passes (is_txn t) (λ (p : Opened). nat_lt z.place p.place) zs w every is).1

    by : (b c : Bool) → is_txn txn z ≡ b → is_txn other z ≡ c → (if b then Some z else find (is_txn txn) zs) ≡ Some x → (if c then Some z else find (is_txn other) zs) ≡ Some y
        → list_all (λ (p : Opened). nat_lt z.place p.place) zs ≡ true → (find (is_txn txn) zs ≡ Some x → find (is_txn other) zs ≡ Some y → ⊥) → ⊥
    by true true at_b at_c e f every rest = ne (sym (eqb-true z.txn txn at_b) ∙ eqb-true z.txn other at_c)
    by true false at_b at_c e f every rest = let z_is : z ≡ x = grind (arith, e) in let lt = above every other y f in let p = ap (λ (o : Opened). o.place) z_is in omega (arith, lt, p, same)
    by false true at_b at_c e f every rest = let z_is : z ≡ y = grind (arith, f) in let lt = above every txn x e in let p = ap (λ (o : Opened). o.place) z_is in omega (arith, lt, p, same)
    by false false at_b at_c e f every rest = rest e f

-- of the others each is still listed
pub find_without : (txn other : ℕ) (os : List Opened) (x : Opened) → other ≢ txn → opened_of other os ≡ Some x → opened_of other (without_txn txn os) ≡ Some x
find_without txn other [] x ne is = is
find_without txn other (z ∷ zs) x ne is = by (is_txn txn z) (is_txn other z) refl refl is (find_without txn other zs x ne)
  where
    by : (b c : Bool) → is_txn txn z ≡ b → is_txn other z ≡ c → (if c then Some z else find (is_txn other) zs) ≡ Some x → (find (is_txn other) zs ≡ Some x → find (is_txn other) (without_txn txn zs) ≡ Some x)
        → find (is_txn other) (if not b then z ∷ without_txn txn zs else without_txn txn zs) ≡ Some x
    by true true at_b at_c e rest = absurd (ne (sym (eqb-true z.txn other at_c) ∙ eqb-true z.txn txn at_b))
    by true false at_b at_c e rest = rest e
    by false true at_b at_c e rest = ap (λ t. if t then Some z else find (is_txn other) (without_txn txn zs)) at_c ∙ e
    by false false at_b at_c e rest = ap (λ t. if t then Some z else find (is_txn other) (without_txn txn zs)) at_c ∙ rest e

-- what is listed is one
pub same_listed : (o : Option Opened) (x y : Opened) → o ≡ Some x → o ≡ Some y → y ≡ x
same_listed o x y one two = ap (λ (t : Option Opened). unwrap_or t x) (sym two ∙ one)
