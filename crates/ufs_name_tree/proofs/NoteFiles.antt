-- Which inodes of files the steps of each call touch.
use Rattle.std.proofs.Common.{◌≡◌, ◌≢◌, ℕ, ◌⊎◌, inl, inr, ◌||◌, List, [], ◌∷◌, ◌++◌, Option, Some, None, Bool, true, false, ap, sym, refl, ◌∙◌, arith}
use Rattle.std.specs.Prelude.{◌==◌, if◌then◌else◌}
use Rattle.std.specs.FinSet as set
use Rattle.std.proofs.lemmas.Bool.{cases_eq, true≢false}
use Rattle.std.proofs.lemmas.Bool.Decides.{nat_tests}
use Rattle.std.proofs.lemmas.List.Folds.{list_any-append}
use Rattle.ufs_bitmap.specs.Blocks.{BlockSet}
use Rattle.ufs_layout.specs.DentryForm.{DentryForm}
use Rattle.ufs_dirs.specs.declared.Slot.{Slot}
use Rattle.ufs_dir_tree.specs.DirTable.{DirTable, found_at}
use Rattle.ufs_dir_tree.specs.Steps.{Step, Born, Grown, Put, Freed, MayMakeAll, adding, moving, growing, clearing, replacing}
use Rattle.ufs_dir_tree.specs.declared.found.Found.{Found}
use Rattle.ufs_dir_tree.specs.declared.found.Found.TheVariants.{Dir, File}
use Rattle.ufs_name_tree.specs.NameTable.{NameTable, IsNameTable, file_at}
use Rattle.ufs_name_tree.specs.Notes.{is_of, is_touched}
use Rattle.ufs_name_tree.proofs.StepOrder.{goes_behind, put_step, ordered}

-- what notes tell of the inodes of files
pub record TouchesFiles (old new : NameTable) (xs : List Step) : Type 0 where
  pub kept : (i f : ℕ) → file_at old i ≡ Some f → file_at new i ≡ Some f → is_touched xs i ≡ false
  pub given : (i f : ℕ) → ((j : ℕ) → file_at old j ≢ Some f) → file_at new i ≡ Some f → is_touched xs i ≡ true
  pub gone : (i f : ℕ) → file_at old i ≡ Some f → file_at new i ≢ Some f → is_touched xs i ≡ true
  pub stayed : (i j f : ℕ) → file_at old j ≡ Some f → file_at new i ≡ Some f → i ≡ j

-- ---- in another order

or_swap : (a b c : Bool) → (a || (b || c)) ≡ (b || (a || c))
or_swap true true c = refl
or_swap true false c = refl
or_swap false true c = refl
or_swap false false c = refl

put_touches : (x : Step) (ys : List Step) (i : ℕ) → is_touched (put_step x ys) i ≡ (is_of i x || is_touched ys i)
put_touches x [] i = refl
put_touches x (y ∷ ys) i = by (goes_behind x y) (put_touches x ys i)
  where
    by : (b : Bool) → is_touched (put_step x ys) i ≡ (is_of i x || is_touched ys i) → is_touched (if b then x ∷ y ∷ ys else y ∷ put_step x ys) i ≡ (is_of i x || (is_of i y || is_touched ys i))
    by true rest = refl
    by false rest = ap (λ (b : Bool). is_of i y || b) rest ∙ or_swap (is_of i y) (is_of i x) (is_touched ys i)

pub ordered_touches : (xs : List Step) (i : ℕ) → is_touched (ordered xs) i ≡ is_touched xs i
ordered_touches [] i = refl
ordered_touches (x ∷ xs) i = put_touches x (ordered xs) i ∙ ap (λ (b : Bool). is_of i x || b) (ordered_touches xs i)

-- ---- some, and some behind them

pub or_none : (a b : Bool) → a ≡ false → b ≡ false → (a || b) ≡ false
or_none true b first second = absurd (true≢false first)
or_none false b first second = second

pub or_first : (a b : Bool) → a ≡ true → (a || b) ≡ true
or_first true b first = refl
or_first false b first = absurd (true≢false (sym first))

pub or_second : (a b : Bool) → b ≡ true → (a || b) ≡ true
or_second true b second = refl
or_second false b second = second

pub touched_on : (xs ys : List Step) (i : ℕ) → is_touched (xs ++ ys) i ≡ (is_touched xs i || is_touched ys i)
touched_on xs ys i = list_any-append (is_of i) xs ys

-- ---- one inode

same_inode : (i : ℕ) (b : Bool) → ((i == i) || b) ≡ true
same_inode i b = or_first (i == i) b (grind (arith, nat_tests))

other_inode : (i j : ℕ) → i ≢ j → ((i == j) || false) ≡ false
other_inode i j other = by (i == j) refl
  where
    by : (b : Bool) → (i == j) ≡ b → (b || false) ≡ false
    by true is = absurd (other (grind (arith, nat_tests, is)))
    by false is = refl

-- ---- the steps that touch no file

module _ (t : NameTable) (is : IsNameTable t) where
  abbrev pub TouchNoFile : List Step → Type 0
  TouchNoFile xs = (j f : ℕ) → file_at t j ≡ Some f → is_touched xs j ≡ false

  no_file_grows : (dir : ℕ) (above : List (List ℕ)) → found_at t.dirs above ≡ Some (Dir dir) → (g : Option ℕ) → TouchNoFile (growing dir g)
  no_file_grows dir above met None j f at = refl
  no_file_grows dir above met (Some b) j f at = other_inode dir j (λ same. is.no_dir j f above at (met ∙ ap (λ k. Some (Dir k)) same))

  pub no_file_cleared : (path : List (List ℕ)) (o : Option Found) → o ≡ found_at t.dirs path → (dir : ℕ) (slot : Slot) → TouchNoFile (clearing dir slot o)
  no_file_cleared path (Some (Dir i)) stood dir slot j f at = other_inode i j (λ same. is.no_dir j f path at (sym stood ∙ ap (λ k. Some (Dir k)) same))
  no_file_cleared path (Some (File i)) stood dir slot j f at = refl
  no_file_cleared path None stood dir slot j f at = refl

  no_file_replaced : (path : List (List ℕ)) (o : Option Found) → o ≡ found_at t.dirs path → (dir : ℕ) (dropped : Option Slot) → TouchNoFile (replacing dir dropped o)
  no_file_replaced path o stood dir None j f at = refl
  no_file_replaced path o stood dir (Some slot) j f at = no_file_cleared path o stood dir slot j f at

  pub no_file_moved : (path : List (List ℕ)) (o : Option Found) → o ≡ found_at t.dirs path → (from to : ℕ) (target : List (List ℕ)) → found_at t.dirs target ≡ Some (Dir to) → (left taken : Slot) (d : DentryForm) (dropped : Option Slot) (g : Option ℕ)
      → TouchNoFile (replacing to dropped o ++ growing to g ++ moving from left to taken d)
  no_file_moved path o stood from to target met left taken d dropped g j f at =
      let before = replacing to dropped o ++ growing to g in
      touched_on before (moving from left to taken d) j
      ∙ or_none (is_touched before j) false
      (touched_on (replacing to dropped o) (growing to g) j ∙ or_none (is_touched (replacing to dropped o) j) (is_touched (growing to g) j) (no_file_replaced path o stood to dropped j f at) (no_file_grows to target met g j f at))
      refl

  -- ---- each change

  -- one that leaves each file its inode
  pub files_stay : (u : NameTable) (xs : List Step) → u.files ≡ t.files → TouchNoFile xs → TouchesFiles t u xs
  files_stay u xs files off = record {
    kept = λ i f at now. off i f at;
    given = λ i f none now. absurd (none i (was i f now));
    gone = λ i f at off. absurd (off (still i f at));
    stayed = λ i j f at now. is.once i j f (was i f now) at;
  }
    where
      was : (i f : ℕ) → file_at u i ≡ Some f → file_at t i ≡ Some f
      was i f now = ap (λ (fs : List (Option ℕ)). file_at (record t { files = fs }) i) (sym files) ∙ now

      still : (i f : ℕ) → file_at t i ≡ Some f → file_at u i ≡ Some f
      still i f at = ap (λ (fs : List (Option ℕ)). file_at (record t { files = fs }) i) files ∙ at

  -- a file's inode is freed
  pub file_goes : (u : NameTable) (i : ℕ) → file_at u i ≡ None → ((j : ℕ) → j ≢ i → file_at u j ≡ file_at t j) → TouchesFiles t u (Freed i ∷ [])
  file_goes u i gone others = record {
    kept = λ j f at now. let was = before j f now (cases_eq j i) in other_inode i j (λ same. was.0 (sym same));
    given = λ j f none now. let was = before j f now (cases_eq j i) in absurd (none j was.1);
    gone = λ j f at off. freed j f at off (cases_eq j i);
    stayed = λ j k f at now. let was = before j f now (cases_eq j i) in is.once j k f was.1 at;
  }
    where
      before : (j f : ℕ) → file_at u j ≡ Some f → (j ≡ i) ⊎ (j ≢ i) → (j ≢ i) × (file_at t j ≡ Some f)
      before j f now (inl same) = let no = sym now ∙ ap (file_at u) same ∙ gone in absurd cc
      before j f now (inr other) = (other, sym (others j other) ∙ now)

      freed : (j f : ℕ) → file_at t j ≡ Some f → file_at u j ≢ Some f → (j ≡ i) ⊎ (j ≢ i) → is_touched (Freed i ∷ []) j ≡ true
      freed j f at off (inl same) = ap (λ (k : ℕ). is_touched (Freed i ∷ []) k) same ∙ same_inode i false
      freed j f at off (inr other) = absurd (off (others j other ∙ at))

  -- a name for a new inode
  module _ (pool : BlockSet) (dir : ℕ) (above : List (List ℕ)) (met : found_at t.dirs above ≡ Some (Dir dir)) (slot : Slot) (d : DentryForm) (g : Option ℕ) (may : MayMakeAll t.dirs pool (growing dir g ++ adding dir slot d)) where
    abbrev added : List Step
    added = growing dir g ++ adding dir slot d

    born : (g : Option ℕ) → MayMakeAll t.dirs pool (growing dir g ++ adding dir slot d) → set.contains t.dirs.free d.inode ≡ true
    born None may = may.0.held
    born (Some b) may = may.1.0.held

    not_born : (j f : ℕ) → file_at t j ≡ Some f → d.inode ≢ j
    not_born j f at same = let used = is.used j f at in true≢false (sym (born g may) ∙ ap (set.contains t.dirs.free) same ∙ used.used)

    no_file_added : TouchNoFile added
    no_file_added j f at = touched_on (growing dir g) (adding dir slot d) j ∙ or_none (is_touched (growing dir g) j) (is_touched (adding dir slot d) j) (no_file_grows dir above met g j f at) (other_inode d.inode j (not_born j f at))

    added_touched : is_touched added d.inode ≡ true
    added_touched = touched_on (growing dir g) (adding dir slot d) d.inode ∙ or_second (is_touched (growing dir g) d.inode) (is_touched (adding dir slot d) d.inode) (same_inode d.inode false)

    pub dir_comes : (u : NameTable) → u.files ≡ t.files → TouchesFiles t u added
    dir_comes u files = files_stay u added files no_file_added

    -- the file that had none has it
    pub file_comes : (u : NameTable) (file : ℕ) → ((j : ℕ) → file_at t j ≢ Some file) → file_at u d.inode ≡ Some file → ((j : ℕ) → j ≢ d.inode → file_at u j ≡ file_at t j) → TouchesFiles t u added
    file_comes u file fresh here others = record {
      kept = λ j f at now. no_file_added j f at;
      given = λ j f none now. by j f none (before j f now (cases_eq j d.inode));
      gone = λ j f at off. absurd (off (others j (λ same. not_born j f at (sym same)) ∙ at));
      stayed = λ j k f at now. of_old j k f at (before j f now (cases_eq j d.inode));
    }
      where
        before : (j f : ℕ) → file_at u j ≡ Some f → (j ≡ d.inode) ⊎ (j ≢ d.inode) → ((j ≡ d.inode) × (f ≡ file)) ⊎ (file_at t j ≡ Some f)
        before j f now (inl same) = let this = sym here ∙ ap (file_at u) (sym same) ∙ now in inl (same, cc)
        before j f now (inr other) = inr (sym (others j other) ∙ now)

        by : (j f : ℕ) → ((k : ℕ) → file_at t k ≢ Some f) → ((j ≡ d.inode) × (f ≡ file)) ⊎ (file_at t j ≡ Some f) → is_touched added j ≡ true
        by j f none (inl new) = ap (is_touched added) new.0 ∙ added_touched
        by j f none (inr was) = absurd (none j was)

        of_old : (j k f : ℕ) → file_at t k ≡ Some f → ((j ≡ d.inode) × (f ≡ file)) ⊎ (file_at t j ≡ Some f) → j ≡ k
        of_old j k f at (inl new) = absurd (fresh k (at ∙ ap Some new.1))
        of_old j k f at (inr was) = is.once j k f was at
