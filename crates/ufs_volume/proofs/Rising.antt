-- Commit numbers that are apart rise where they are sorted.
use Rattle.std.proofs.Common.{◌≡◌, ◌≢◌, ℕ, zero, suc, ◌+◌, ◌*◌, ◌<◌, ◌≤◌, inl, inr, List, [], ◌∷◌, Bool, true, false, Option, Some, None, map, ap, sym, refl, ◌∙◌, subst, arith}
use Rattle.std.specs.Prelude.{filter, ◌==◌, ◌&&◌, not, nat_lt, nat_le, if◌then◌else◌, IsTrue}
use Rattle.std.specs.List.{range_with_len, filter_map, cons_option, list_any, AllByRecursion}
use Rattle.std.proofs.lemmas.Bool.{lt-ltb, eq-eqb, ne_eqb}
use Rattle.std.proofs.lemmas.Bool.Decides.{nat_tests}
use Rattle.ufs_base.specs.Images.{Image}
use Rattle.ufs_layout.specs.Words.{placed_by, rising_by}
use Rattle.ufs_layout.specs.Areas.{first_of_journal}
use Rattle.ufs_layout.specs.JournalSector.{JournalSector, journal_of}
use Rattle.ufs_layout.specs.declared.geometry.Geometry.{Geometry}
use Rattle.ufs_layout.specs.declared.superblock.Super.{Super}
use Rattle.ufs_image.specs.Journal.{ReadSector, FoundSector, Transaction, epoch_in, sectors_of_epoch, well_spelled, commit_in, records_before, transaction_of, transactions, committed_of, committed}
use Rattle.ufs_image.specs.BadSectors.{is_another, is_old, shares_number, bad_sector}
use Rattle.ufs_image.proofs.Lists.{IsIn, from_filter_map}
use Rattle.ufs_image.proofs.Found.{option_map-some}
use Rattle.ufs_image.proofs.Empty.{list_any_false}
use Rattle.ufs_overlay.specs.Over.{rise_above}
use Rattle.ufs_volume.proofs.Off.{not_off}

-- ---- sorting

module _ {X : Type 0} (key : X → ℕ) where
  abbrev Rises : ℕ → List X → Type 0
  Rises least [] = Unit {0}
  Rises least (x ∷ xs) = (least < key x) × Rises (key x) xs

  abbrev IsAlone : X → List X → Type 0
  IsAlone x = AllByRecursion (λ y. key x ≢ key y)

  abbrev AreApart : List X → Type 0
  AreApart [] = Unit {0}
  AreApart (x ∷ xs) = IsAlone x xs × AreApart xs

  all_placed : (P : X → Type 0) (x : X) (ys : List X) → P x → AllByRecursion P ys → AllByRecursion P (placed_by key x ys)
  all_placed P x [] here all = (here, tt)
  all_placed P x (y ∷ ys) here all = by (nat_le (key x) (key y)) (all_placed P x ys here all.1)
    where
      by : (b : Bool) → AllByRecursion P (placed_by key x ys) → AllByRecursion P (if b then x ∷ y ∷ ys else y ∷ placed_by key x ys)
      by true more = (here, all)
      by false more = (all.0, more)

  pub all_rising : (P : X → Type 0) (xs : List X) → AllByRecursion P xs → AllByRecursion P (rising_by key xs)
  all_rising P [] all = tt
  all_rising P (x ∷ xs) all = all_placed P x (rising_by key xs) all.0 (all_rising P xs all.1)

  placed_rises : (least : ℕ) (x : X) (ys : List X) → least < key x → IsAlone x ys → Rises least ys → Rises least (placed_by key x ys)
  placed_rises least x [] above alone up = (above, tt)
  placed_rises least x (y ∷ ys) above alone up = by (nat_le (key x) (key y)) refl (λ behind. placed_rises (key y) x ys behind alone.1 up.1)
    where
      by : (b : Bool) → nat_le (key x) (key y) ≡ b → (key y < key x → Rises (key y) (placed_by key x ys)) → Rises least (if b then x ∷ y ∷ ys else y ∷ placed_by key x ys)
      by true is more = let ne = alone.0 in (above, ((let t = is in grind (arith, nat_tests, t, ne)), up.1))
      by false is more = (up.0, more (let t = is in grind (arith, nat_tests, t)))

  pub sorted_rises : (least : ℕ) (xs : List X) → AllByRecursion (λ x. least < key x) xs → AreApart xs → Rises least (rising_by key xs)
  sorted_rises least [] above apart = tt
  sorted_rises least (x ∷ xs) above apart =
      placed_rises least x (rising_by key xs) above.0 (all_rising (λ y. key x ≢ key y) xs apart.0) (sorted_rises least xs above.1 apart.1)

-- ---- sectors of a journal, one after the other

abbrev LieFrom : ℕ → List FoundSector → Type 0
LieFrom first [] = Unit {0}
LieFrom first (f ∷ fs) = (first ≤ f.0) × LieFrom (f.0 + 1) fs

lie_sooner : (first other : ℕ) (fs : List FoundSector) → other ≤ first → LieFrom first fs → LieFrom other fs
lie_sooner first other [] less lie = tt
lie_sooner first other (f ∷ fs) less lie = let from = lie.0 in (omega (arith, less, from), lie.1)

lie_behind : (first : ℕ) (fs : List FoundSector) → LieFrom first fs → (o : FoundSector) → IsIn o fs → first ≤ o.0
lie_behind first [] lie o is = absurd is
lie_behind first (f ∷ fs) lie o (inl e) = subst (λ (x : FoundSector). first ≤ x.0) (sym e) lie.0
lie_behind first (f ∷ fs) lie o (inr is) = let from = lie.0 in let rest = lie_behind (f.0 + 1) fs lie.1 o is in omega (arith, from, rest)

found_lie : (epoch first n : ℕ) (image : Image) → LieFrom first (well_spelled (map (λ s. (s, journal_of (image s))) (filter (λ s. epoch_in (image s) == epoch) (range_with_len first n))))
found_lie epoch first zero image = tt
found_lie epoch first (suc n) image = by (epoch_in (image first) == epoch) (found_lie epoch (first + 1) n image)
  where
    read : List ReadSector
    read = map (λ s. (s, journal_of (image s))) (filter (λ s. epoch_in (image s) == epoch) (range_with_len (first + 1) n))

    with_one : (o : Option JournalSector) → LieFrom (first + 1) (well_spelled read) → LieFrom first (well_spelled ((first, o) ∷ read))
    with_one None rest = lie_sooner (first + 1) first (well_spelled read) (omega arith) rest
    with_one (Some j) rest = (omega arith, rest)

    by : (b : Bool) → LieFrom (first + 1) (well_spelled read)
        → LieFrom first (well_spelled (map (λ s. (s, journal_of (image s))) (if b then first ∷ filter (λ s. epoch_in (image s) == epoch) (range_with_len (first + 1) n) else filter (λ s. epoch_in (image s) == epoch) (range_with_len (first + 1) n))))
    by true rest = with_one (journal_of (image first)) rest
    by false rest = lie_sooner (first + 1) first (well_spelled read) (omega arith) rest

-- ---- commit numbers

abbrev has_number : ℕ → Option ℕ → Bool
has_number number None = false
has_number number (Some other) = other == number

-- another commit's number is another one
number_apart : (all : List FoundSector) (f o : FoundSector) (n m : ℕ) → shares_number all f ≡ false → IsIn o all → o.0 ≢ f.0 → commit_in f.1.content ≡ Some n → commit_in o.1.content ≡ Some m → n ≢ m
number_apart all f o n m alone inside other is has same =
    let none : list_any (λ (x : FoundSector). is_another f x && has_number n (commit_in x.1.content)) all ≡ false = sym (ap shared is) ∙ alone in
    let here : (is_another f o && has_number n (commit_in o.1.content)) ≡ false = list_any_false (λ (x : FoundSector). is_another f x && has_number n (commit_in x.1.content)) all none o inside in
    let clash : true ≡ false = sym (λ i. not (ne_eqb o.0 f.0 other i) && (ap (has_number n) has ∙ eq-eqb m n (sym same)) i) ∙ here in
    absurd (let no = clash in cc)
  where
    shared : Option ℕ → Bool
    shared None = false
    shared (Some number) = list_any (λ (x : FoundSector). is_another f x && has_number number (commit_in x.1.content)) all

number_new : (next : ℕ) (f : FoundSector) (n : ℕ) → is_old next f ≡ false → commit_in f.1.content ≡ Some n → next ≤ n
number_new next f n old is = let t : nat_lt n next ≡ false = sym (ap under is) ∙ old in grind (arith, nat_tests, t)
  where
    under : Option ℕ → Bool
    under None = false
    under (Some number) = nat_lt number next

abbrev number_of : Transaction → ℕ
number_of t = t.number

pub each_one : {X : Type 0} (P : X → Type 0) (xs : List X) → ((x : X) → IsIn x xs → P x) → AllByRecursion P xs
each_one P [] each = tt
each_one P (x ∷ xs) each = (each x (inl refl), each_one P xs (λ y is. each y (inr is)))

-- a commit with its transaction
pub record IsOfCommit (all : List FoundSector) (f : FoundSector) (t : Transaction) : Type 0 where
  pub number : commit_in f.1.content ≡ Some t.number
  pub records : t.records ≡ records_before all f

pub of_commit : (all : List FoundSector) (f : FoundSector) (t : Transaction) → transaction_of all f ≡ Some t → IsOfCommit all f t
of_commit all f t is =
    let made = option_map-some (λ number. record { number = number; records = records_before all f }) (commit_in f.1.content) t is in
    subst (IsOfCommit all f) made.2 (record { number = made.1; records = refl })

module _ (all : List FoundSector) (alone : (f : FoundSector) → IsIn f all → shares_number all f ≡ false) where
  apart : (first : ℕ) (fs : List FoundSector) → LieFrom first fs → ((f : FoundSector) → IsIn f fs → IsIn f all) → AreApart number_of (filter_map (transaction_of all) fs)
  apart first [] lie inside = tt
  apart first (f ∷ fs) lie inside = by (transaction_of all f) refl (apart (f.0 + 1) fs lie.1 (λ o is. inside o (inr is)))
    where
      by : (o : Option Transaction) → transaction_of all f ≡ o → AreApart number_of (filter_map (transaction_of all) fs) → AreApart number_of (cons_option o (filter_map (transaction_of all) fs))
      by None is rest = rest
      by (Some t) is rest = (
        each_one (λ u. t.number ≢ u.number) (filter_map (transaction_of all) fs) (λ u there.
            let from = from_filter_map (transaction_of all) fs u there in
            let far = lie_behind (f.0 + 1) fs lie.1 from.0 from.1 in
            number_apart all f from.0 t.number u.number (alone f (inside f (inl refl))) (inside from.0 (inr from.1)) (λ same. omega (arith, far, same)) (of_commit all f t is).number (of_commit all from.0 u from.2).number),
        rest,
      )

-- ---- what is committed

rises_above : (least : ℕ) (ts : List Transaction) → Rises number_of least ts → rise_above least (map committed_of ts) ≡ true
rises_above least [] up = refl
rises_above least (t ∷ ts) up = λ i. lt-ltb least t.number up.0 i && rises_above t.number ts up.1 i

-- Its numbers rise from 1 on, where no sector is off.
pub committed_rise : (g : Geometry) (s : Super) (image : Image) → 1 ≤ s.next → bad_sector g s image ≡ None → IsTrue (rise_above 0 (committed g s.epoch image))
committed_rise g s image from_one none =
    rises_above 0 (transactions all) (sorted_rises number_of 0 (filter_map (transaction_of all) all)
    (each_one (λ t. 0 < t.number) (filter_map (transaction_of all) all) (λ t there.
    let from = from_filter_map (transaction_of all) all t there in
    let new_enough = number_new s.next from.0 t.number (not_off g s image none from.0 from.1).new_enough (of_commit all from.0 t from.2).number in
    omega (arith, new_enough, from_one)))
    (apart all (λ f is. (not_off g s image none f is).alone) (8 * first_of_journal g) all (found_lie s.epoch (8 * first_of_journal g) g.journal image) (λ f is. is)))
  where
    all : List FoundSector
    all = well_spelled (sectors_of_epoch g s.epoch image)
