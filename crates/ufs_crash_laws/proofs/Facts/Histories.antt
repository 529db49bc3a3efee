-- Changes and acknowledgements as a history goes on.
use Rattle.std.proofs.Common.{◌≡◌, ◌≤◌, ℕ, ◌+◌, Bool, true, false, cond, ◌||◌, List, [], ◌∷◌, ◌++◌, length, get_or, ap, sym, refl, ◌∙◌, arith}
use Rattle.std.specs.List.{flat_map, list_any, sum_by}
use Rattle.std.proofs.lemmas.List.{append-nil, get_or_append_left}
use Rattle.std.proofs.lemmas.Grind.{flat_map-append}
use Rattle.std.proofs.lemmas.List.Concat.{length-flat_map}
use Rattle.std.proofs.lemmas.List.Sums.{sum_by-cons}
use Rattle.ufs_model.specs.PosixTree.{PosixTree}
use Rattle.ufs_model.specs.History.{goes_on, tree_after}
use Rattle.ufs_model.specs.declared.data.Entry.{Entry}
use Rattle.ufs_crash_laws.specs.Steps.{Step, steps, next_step, before_last}
use Rattle.ufs_crash_laws.specs.Changes.{names_of, change_of, changes_of, names_by, name_changes, names_after, is_fsync_of, syncs_file, syncs_names, file_synced, names_synced, is_fsynced}

pub steps-append : (t : PosixTree) (history more : List Entry) → steps t (history ++ more) ≡ steps t history ++ steps (tree_after t history) more
steps-append t [] more = refl
steps-append t (e ∷ history) more = ap (λ ss. record { before = t; entry = e } ∷ ss) (steps-append (goes_on t e) history more)

pub tree_after-append : (t : PosixTree) (history more : List Entry) → tree_after t (history ++ more) ≡ tree_after (tree_after t history) more
tree_after-append t [] more = refl
tree_after-append t (e ∷ history) more = tree_after-append (goes_on t e) history more

-- ---- changes

pub changes_of-append : (file : ℕ) (start : PosixTree) (history more : List Entry) → changes_of file start (history ++ more) ≡ changes_of file start history ++ changes_of file (tree_after start history) more
changes_of-append file start history more = ap (flat_map (change_of file)) (steps-append start history more) ∙ flat_map-append (change_of file) (steps start history) (steps (tree_after start history) more)

pub name_changes-append : (start : PosixTree) (history more : List Entry) → name_changes start (history ++ more) ≡ name_changes start history ++ name_changes (tree_after start history) more
name_changes-append start history more = ap (flat_map names_by) (steps-append start history more) ∙ flat_map-append names_by (steps start history) (steps (tree_after start history) more)

pub changes_of-push : (file : ℕ) (start : PosixTree) (history : List Entry) (entry : Entry) → changes_of file start (history ++ entry ∷ []) ≡ changes_of file start history ++ change_of file (next_step start history entry)
changes_of-push file start history entry = changes_of-append file start history (entry ∷ []) ∙ ap (λ more. changes_of file start history ++ more) (append-nil _)

pub name_changes-push : (start : PosixTree) (history : List Entry) (entry : Entry) → name_changes start (history ++ entry ∷ []) ≡ name_changes start history ++ names_by (next_step start history entry)
name_changes-push start history entry = name_changes-append start history (entry ∷ []) ∙ ap (λ more. name_changes start history ++ more) (append-nil _)

-- names after so many changes stay
pub names_after-append : (start : PosixTree) (history more : List Entry) (count : ℕ) → count ≤ length (name_changes start history) → names_after start (history ++ more) count ≡ names_after start history count
names_after-append start history more count made =
    ap (λ changes. get_or (names_of start ∷ changes) count (names_of start)) (name_changes-append start history more)
    ∙ get_or_append_left (names_of start ∷ name_changes start history) (name_changes (tree_after start history) more) (names_of start) count (omega arith)

-- ---- what is acknowledged

pub any-push : {X : Type 0} (p : X → Bool) (xs : List X) (x : X) → list_any p (xs ++ x ∷ []) ≡ (list_any p xs || p x)
any-push p [] x = elim (p x) as (λ b. (b || false) ≡ b) [ true ↦ refl | false ↦ refl ]
any-push p (y ∷ xs) x = elim (p y) as (λ b. (b || list_any p (xs ++ x ∷ [])) ≡ ((b || list_any p xs) || p x)) [ true ↦ refl | false ↦ any-push p xs x ]

pub before_last-push : (passes : Step → Bool) (counted : Step → ℕ) (ss : List Step) (s : Step)
    → before_last passes counted (ss ++ s ∷ []) ≡ cond (passes s) (sum_by counted ss) (before_last passes counted ss)
before_last-push passes counted [] s = elim (passes s) as (λ b. ◌≡◌ {A = ℕ} 0 (cond b 0 0)) [ true ↦ refl | false ↦ refl ]
before_last-push passes counted (r ∷ ss) s =
    (λ i. cond (any-push passes ss s i) (counted r + before_last-push passes counted ss s i) 0)
    ∙ by (list_any passes ss) (passes s)
  where
    by : (a b : Bool) → cond (a || b) (counted r + cond b (sum_by counted ss) (before_last passes counted ss)) 0 ≡ cond b (sum_by counted (r ∷ ss)) (cond a (counted r + before_last passes counted ss) 0)
    by true true = sym (sum_by-cons counted r ss)
    by true false = refl
    by false true = sym (sum_by-cons counted r ss)
    by false false = refl

pub file_synced-push : (file : ℕ) (start : PosixTree) (history : List Entry) (entry : Entry)
    → file_synced file start (history ++ entry ∷ []) ≡ cond (syncs_file file (next_step start history entry)) (length (changes_of file start history)) (file_synced file start history)
file_synced-push file start history entry =
    ap (before_last (syncs_file file) (λ s. length (change_of file s))) (steps-append start history (entry ∷ []))
    ∙ before_last-push (syncs_file file) (λ s. length (change_of file s)) (steps start history) (next_step start history entry)
    ∙ ap (λ n. cond (syncs_file file (next_step start history entry)) n (file_synced file start history)) (let e = length-flat_map (change_of file) (steps start history) in omega arith)

pub names_synced-push : (start : PosixTree) (history : List Entry) (entry : Entry)
    → names_synced start (history ++ entry ∷ []) ≡ cond (syncs_names (next_step start history entry)) (length (name_changes start history)) (names_synced start history)
names_synced-push start history entry =
    ap (before_last syncs_names (λ s. length (names_by s))) (steps-append start history (entry ∷ []))
    ∙ before_last-push syncs_names (λ s. length (names_by s)) (steps start history) (next_step start history entry)
    ∙ ap (λ n. cond (syncs_names (next_step start history entry)) n (names_synced start history)) (let e = length-flat_map names_by (steps start history) in omega arith)

pub is_fsynced-push : (file : ℕ) (start : PosixTree) (history : List Entry) (entry : Entry) → is_fsynced file start (history ++ entry ∷ []) ≡ (is_fsynced file start history || is_fsync_of file (next_step start history entry))
is_fsynced-push file start history entry = ap (list_any (is_fsync_of file)) (steps-append start history (entry ∷ [])) ∙ any-push (is_fsync_of file) (steps start history) (next_step start history entry)
