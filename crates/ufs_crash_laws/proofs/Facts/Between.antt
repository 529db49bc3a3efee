-- While a history goes on, a tree with numbers that cover what is acknowledged at the end is explained all the while.
use Rattle.std.proofs.Common.{◌≡◌, ◌≤◌, ◌<◌, ℕ, ◌⊎◌, inl, inr, Bool, true, false, cond, ◌||◌, List, [], ◌∷◌, ◌++◌, length, take, drop, ap, sym, ◌∙◌, subst, arith, length-append, append_assoc}
use Rattle.std.proofs.lemmas.List.{append-nil, take-append-drop, take-take, take-append-le}
use Rattle.std.proofs.lemmas.Bool.{cases_lt}
use Rattle.ufs_model.specs.PosixTree.{PosixTree}
use Rattle.ufs_model.specs.Start.{PathNodes}
use Rattle.ufs_model.specs.declared.data.Entry.{Entry}
use Rattle.ufs_crash_laws.specs.Steps.{next_step}
use Rattle.ufs_crash_laws.specs.Changes.{NameState, name_changes, changes_of, names_by, syncs_file, syncs_names, is_fsync_of, file_synced, names_synced}
use Rattle.ufs_crash_laws.specs.Explained.{IsExplained, IsShownBy, IsCovering, IsExplainedFrom}
use Rattle.ufs_crash_laws.proofs.Facts.Histories.{name_changes-push, names_after-append, file_synced-push, names_synced-push, is_fsynced-push}
use Rattle.ufs_crash_laws.proofs.Facts.Explains.{explained_by, shown_by-append}
use Rattle.ufs_crash_laws.proofs.Facts.Sessions.{file_synced_made, names_synced_made}

-- what is acknowledged only grows

pub file_less : (file : ℕ) (start : PosixTree) (history : List Entry) (entry : Entry) → file_synced file start history ≤ file_synced file start (history ++ entry ∷ [])
file_less file start history entry = subst (λ n. file_synced file start history ≤ n) (sym (file_synced-push file start history entry)) (by (syncs_file file (next_step start history entry)))
  where
    by : (b : Bool) → file_synced file start history ≤ cond b (length (changes_of file start history)) (file_synced file start history)
    by true = file_synced_made file start history
    by false = omega arith

pub names_less : (start : PosixTree) (history : List Entry) (entry : Entry) → names_synced start history ≤ names_synced start (history ++ entry ∷ [])
names_less start history entry = subst (λ n. names_synced start history ≤ n) (sym (names_synced-push start history entry)) (by (syncs_names (next_step start history entry)))
  where
    by : (b : Bool) → names_synced start history ≤ cond b (length (name_changes start history)) (names_synced start history)
    by true = names_synced_made start history
    by false = omega arith

-- what covers it covers what was acknowledged one entry before
pub covering_before : (start : PosixTree) (history : List Entry) (entry : Entry) (names : ℕ) (files : ℕ → ℕ) → names ≤ length (name_changes start history) → IsCovering start (history ++ entry ∷ []) names files → IsCovering start history names files
covering_before start history entry names files made covers = record {
  synced = omega (arith, covers.synced, names_less start history entry);
  born = λ file e. subst (λ (n : NameState). file < n.next) (names_after-append start history (entry ∷ []) names made)
      (covers.born file (is_fsynced-push file start history entry ∙ ap (λ b. b || is_fsync_of file (next_step start history entry)) e));
  each = λ file. omega (arith, covers.each file, file_less file start history entry);
}

-- and at any time before, if the names' changes were made by then
pub covering_less : (start : PosixTree) (history more : List Entry) (names : ℕ) (files : ℕ → ℕ) → names ≤ length (name_changes start history) → IsCovering start (history ++ more) names files → IsCovering start history names files
covering_less start history [] names files made covers = subst (λ (h : List Entry). IsCovering start h names files) (append-nil history) covers
covering_less start history (entry ∷ more) names files made covers =
    covering_before start history entry names files made
    (covering_less start (history ++ entry ∷ []) more names files (longer start history entry names made) (subst (λ (h : List Entry). IsCovering start h names files) (sym (append_assoc history (entry ∷ []) more)) covers))
  where
    longer : (start : PosixTree) (history : List Entry) (entry : Entry) (names : ℕ) → names ≤ length (name_changes start history) → names ≤ length (name_changes start (history ++ entry ∷ []))
    longer start history entry names made = let more = ap length (name_changes-push start history entry) in omega (arith, more, length-append (name_changes start history) (names_by (next_step start history entry)))

-- What shows so many changes after some entries, and covers what is acknowledged some entries later, is explained by
-- the history at each moment between.
pub explained_between : (start : PosixTree) (history meanwhile later : List Entry) (names : ℕ) (files : ℕ → ℕ) (tree : PathNodes) → IsShownBy start history names files tree
    → IsCovering start ((history ++ meanwhile) ++ later) names files → IsExplained tree start (history ++ meanwhile)
explained_between start history meanwhile later names files tree shows covers =
    explained_by start (history ++ meanwhile) names files tree
    (covering_less start (history ++ meanwhile) later names files (shown_by-append start history meanwhile names files tree shows).made covers)
    (shown_by-append start history meanwhile names files tree shows)

-- ---- by how many entries there are

-- more of the first entries are the fewer ones and some others
pub more_of : (history : List Entry) (from to : ℕ) → from ≤ to → take from history ++ drop from (take to history) ≡ take to history
more_of history from to le = ap (λ front. front ++ drop from (take to history)) (sym (take-take from to history le)) ∙ take-append-drop from (take to history)

-- What shows so many changes after the first entries, and covers what is acknowledged by more of them, is explained by each
-- number of entries between.
pub explained_from : (start : PosixTree) (history : List Entry) (from to : ℕ) (names : ℕ) (files : ℕ → ℕ) (tree : PathNodes) → IsShownBy start (take from history) names files tree
    → IsCovering start (take to history) names files → IsExplainedFrom tree start history from to
explained_from start history from to names files tree shows covers count low high =
    subst (IsExplained tree start) (more_of history from count low)
    (explained_between start (take from history) (drop from (take count history)) (drop count (take to history)) names files tree shows
    (subst (λ (h : List Entry). IsCovering start h names files) (sym (ap (λ front. front ++ drop count (take to history)) (more_of history from count low) ∙ more_of history count to high)) covers))

-- entries behind don't matter
pub explained_from_more : (start : PosixTree) (history more : List Entry) (from to : ℕ) (tree : PathNodes) → to ≤ length history → IsExplainedFrom tree start history from to → IsExplainedFrom tree start (history ++ more) from to
explained_from_more start history more from to tree made is count low high = subst (IsExplained tree start) (sym (take-append-le count history more (omega (arith, high, made)))) (is count low high)

-- two stretches are one
pub explained_from_joined : (start : PosixTree) (history : List Entry) (from mid to : ℕ) (tree : PathNodes) → IsExplainedFrom tree start history from mid → IsExplainedFrom tree start history mid to → IsExplainedFrom tree start history from to
explained_from_joined start history from mid to tree first second count low high = by (cases_lt count mid)
  where
    by : (count < mid) ⊎ (mid ≤ count) → IsExplained tree start (take count history)
    by (inl below) = first count low (omega (arith, below))
    by (inr above) = second count above high
