-- The synced changes are those before each entry that syncs them.
use Rattle.std.proofs.Common.{◌≡◌, ◌≤◌, ℕ, ◌+◌, Bool, true, false, cond, ◌||◌, List, [], ◌∷◌, ◌++◌, length, ap, sym, refl, ◌∙◌, arith}
use Rattle.std.specs.List.{list_any, sum_by}
use Rattle.std.proofs.lemmas.List.Concat.{length-flat_map}
use Rattle.std.proofs.lemmas.List.Sums.{sum_by-cons}
use Rattle.ufs_model.specs.PosixTree.{PosixTree}
use Rattle.ufs_model.specs.History.{goes_on}
use Rattle.ufs_model.specs.declared.data.Entry.{Entry}
use Rattle.ufs_crash_laws.specs.Steps.{Step, steps, next_step, before_last}
use Rattle.ufs_crash_laws.specs.Changes.{change_of, changes_of, names_by, name_changes, syncs_file, syncs_names, file_synced, names_synced}

module _ (passes : Step → Bool) (counted : Step → ℕ) where
  -- an entry that passes, with the entries before it and behind it
  record Passing (t : PosixTree) (history : List Entry) : Type 0 where
    before : List Entry
    later : List Entry
    entry : Entry
    is : history ≡ before ++ entry ∷ later
    passed : passes (next_step t before entry) ≡ true
    last : before_last passes counted (steps t history) ≡ sum_by counted (steps t before)

  some_passes : (t : PosixTree) (before later : List Entry) (entry : Entry) → passes (next_step t before entry) ≡ true → list_any passes (steps t (before ++ entry ∷ later)) ≡ true
  some_passes t [] later entry passed = ap (λ b. b || list_any passes (steps (goes_on t entry) later)) passed
  some_passes t (e ∷ before) later entry passed = by (passes (record { before = t; entry = e })) (some_passes (goes_on t e) before later entry passed)
    where
      by : (b : Bool) → list_any passes (steps (goes_on t e) (before ++ entry ∷ later)) ≡ true → (b || list_any passes (steps (goes_on t e) (before ++ entry ∷ later))) ≡ true
      by true is = refl
      by false is = is

  -- what stands before an entry that passes is counted
  counted_before : (t : PosixTree) (before later : List Entry) (entry : Entry) → passes (next_step t before entry) ≡ true → sum_by counted (steps t before) ≤ before_last passes counted (steps t (before ++ entry ∷ later))
  counted_before t [] later entry passed = omega arith
  counted_before t (e ∷ before) later entry passed =
      let rest = counted_before (goes_on t e) before later entry passed in
      let some = ap (λ b. cond b (counted (record { before = t; entry = e }) + before_last passes counted (steps (goes_on t e) (before ++ entry ∷ later))) 0) (some_passes (goes_on t e) before later entry passed) in
      omega (arith, rest, some, sum_by-cons counted (record { before = t; entry = e }) (steps (goes_on t e) before))

  -- where some entry passes, the last one does
  last_passing : (t : PosixTree) (history : List Entry) → list_any passes (steps t history) ≡ true → Passing t history
  last_passing t [] e = cc
  last_passing t (e ∷ history) some = by (list_any passes (steps (goes_on t e) history)) refl (passes (record { before = t; entry = e })) refl (last_passing (goes_on t e) history) some
    where
      step : Step
      step = record { before = t; entry = e }

      by : (b : Bool) → list_any passes (steps (goes_on t e) history) ≡ b → (c : Bool) → passes (record { before = t; entry = e }) ≡ c
          → (list_any passes (steps (goes_on t e) history) ≡ true → Passing (goes_on t e) history) → (passes (record { before = t; entry = e }) || list_any passes (steps (goes_on t e) history)) ≡ true → Passing t (e ∷ history)
      by true is c _ rest h =
          let found = rest is in
          record {
            before = e ∷ found.before;
            later = found.later;
            entry = found.entry;
            is = ap (λ more. e ∷ more) found.is;
            passed = found.passed;
            last = ap (λ b. cond b (counted step + before_last passes counted (steps (goes_on t e) history)) 0) is ∙ ap (λ n. counted step + n) found.last ∙ sym (sum_by-cons counted step (steps (goes_on t e) found.before));
          }
      by false none true is rest h = record {
        before = [];
        later = history;
        entry = e;
        is = refl;
        passed = is;
        last = ap (λ b. cond b (counted step + before_last passes counted (steps (goes_on t e) history)) 0) none;
      }
      by false none false not rest h = let either : (passes step || list_any passes (steps (goes_on t e) history)) ≡ false = (λ i. not i || none i) in cc

  none_before : (ss : List Step) → list_any passes ss ≡ false → before_last passes counted ss ≡ 0
  none_before [] none = refl
  none_before (s ∷ ss) none = by (passes s) (list_any passes ss) refl none
    where
      by : (a b : Bool) → list_any passes ss ≡ b → (a || list_any passes ss) ≡ false → before_last passes counted (s ∷ ss) ≡ 0
      by a false is h = ap (λ b. cond b (counted s + before_last passes counted ss) 0) is
      by true true is h = cc
      by false true is h = cc

  abbrev pub CoversEach : PosixTree → List Entry → ℕ → Type 0
  CoversEach t history count = (before later : List Entry) (entry : Entry) → history ≡ before ++ entry ∷ later → passes (next_step t before entry) ≡ true → sum_by counted (steps t before) ≤ count

  covers_each : (t : PosixTree) (history : List Entry) (count : ℕ) → before_last passes counted (steps t history) ≤ count → CoversEach t history count
  covers_each t history count covers before later entry is passed =
      let most = counted_before t before later entry passed in
      let same = ap (λ (h : List Entry). before_last passes counted (steps t h)) is in
      omega (arith, covers, most, same)

  each_covers : (t : PosixTree) (history : List Entry) (count : ℕ) → CoversEach t history count → before_last passes counted (steps t history) ≤ count
  each_covers t history count each = by (list_any passes (steps t history)) refl
    where
      by : (b : Bool) → list_any passes (steps t history) ≡ b → before_last passes counted (steps t history) ≤ count
      by true some =
          let found = last_passing t history some in
          let most = each found.before found.later found.entry found.is found.passed in
          omega (arith, most, found.last)
      by false none = let zero = none_before (steps t history) none in omega (arith, zero)

pub files_covered : (start : PosixTree) (history : List Entry) (file count : ℕ) → file_synced file start history ≤ count → (before later : List Entry) (entry : Entry)
    → history ≡ before ++ entry ∷ later → syncs_file file (next_step start before entry) ≡ true → length (changes_of file start before) ≤ count
files_covered start history file count covers before later entry is passed =
    let each = covers_each (syncs_file file) (λ s. length (change_of file s)) start history count covers before later entry is passed in
    omega (arith, each, length-flat_map (change_of file) (steps start before))

pub covered_files : (start : PosixTree) (history : List Entry) (file count : ℕ)
    → ((before later : List Entry) (entry : Entry) → history ≡ before ++ entry ∷ later → syncs_file file (next_step start before entry) ≡ true → length (changes_of file start before) ≤ count) → file_synced file start history ≤ count
covered_files start history file count each =
    each_covers (syncs_file file) (λ s. length (change_of file s)) start history count
    (λ before later entry is passed. let most = each before later entry is passed in omega (arith, most, length-flat_map (change_of file) (steps start before)))

pub names_covered : (start : PosixTree) (history : List Entry) (count : ℕ) → names_synced start history ≤ count → (before later : List Entry) (entry : Entry)
    → history ≡ before ++ entry ∷ later → syncs_names (next_step start before entry) ≡ true → length (name_changes start before) ≤ count
names_covered start history count covers before later entry is passed =
    let each = covers_each syncs_names (λ s. length (names_by s)) start history count covers before later entry is passed in
    omega (arith, each, length-flat_map names_by (steps start before))

pub covered_names : (start : PosixTree) (history : List Entry) (count : ℕ)
    → ((before later : List Entry) (entry : Entry) → history ≡ before ++ entry ∷ later → syncs_names (next_step start before entry) ≡ true → length (name_changes start before) ≤ count) → names_synced start history ≤ count
covered_names start history count each =
    each_covers syncs_names (λ s. length (names_by s)) start history count
    (λ before later entry is passed. let most = each before later entry is passed in omega (arith, most, length-flat_map names_by (steps start before)))
