-- The steps of a store, by the numbers that it keeps.
use Rattle.std.proofs.Common.{◌≡◌, ◌≤◌, ◌<◌, ℕ, zero, suc, ◌+◌, ◌⊎◌, inl, inr, Bool, true, false, cond, ◌&&◌, not, List, [], ◌∷◌, ◌++◌, length, take, get_or, Option, Some, None, is_none, ap, sym, refl, ◌∙◌, subst, arith, length-append, bytes_eq}
use Rattle.std.specs.FinMap as fin
use Rattle.std.proofs.lemmas.Bool.{cases_lt}
use Rattle.ufs_model.specs.Paths.{whole_of}
use Rattle.ufs_model.specs.PosixTree.{PosixTree, Paths, IsTree}
use Rattle.ufs_model.specs.Walk.{node_at, file_of}
use Rattle.ufs_model.specs.Directories.{renamed, renamed_path}
use Rattle.ufs_model.specs.Descriptors.{Mode, mode_of_open}
use Rattle.ufs_model.specs.FileBytes.{bytes_of}
use Rattle.ufs_model.specs.Posix.{change, open_node, forget, without_path, rename_path}
use Rattle.ufs_model.specs.Laws.{KeepsTrees}
use Rattle.ufs_model.specs.Start.{PathNodes}
use Rattle.ufs_model.specs.History.{IsLegalFrom, IsReplyTo, goes_on, tree_after}
use Rattle.ufs_model.proofs.Facts.Histories.{tree_after-push}
use Rattle.ufs_model.proofs.Facts.Orders.{path_total, path_same}
use Rattle.ufs_model.proofs.Facts.Lookups.{same_some, one_or_apart, inserted_here, inserted_else, left_was, rekeyed_from}
use Rattle.ufs_model.specs.declared.data.Entry.{Entry}
use Rattle.ufs_model.specs.declared.data.Node.{Node}
use Rattle.ufs_model.specs.declared.data.Node.TheVariants.{Dir, File}
use Rattle.ufs_model.specs.declared.data.Op.{Op}
use Rattle.ufs_model.specs.declared.data.Op.TheVariants as op
use Rattle.ufs_crash_laws.specs.FileChanges.{IsShown}
use Rattle.ufs_crash_laws.specs.Steps.{is_served, next_step}
use Rattle.ufs_crash_laws.specs.Changes.{NameState, names_of, change_of, changes_of, changes_names, names_by, name_changes, names_after}
use Rattle.ufs_crash_laws.specs.Explained.{IsTreeWith, IsFileShown, IsShownBy, IsCovering, IsExplainedFrom}
use Rattle.ufs_crash_laws.specs.Stored.{IsNamed, IsStored}
use Rattle.ufs_crash_laws.proofs.Facts.Shows.{shown_more, shown_now}
use Rattle.ufs_crash_laws.proofs.Facts.Histories.{changes_of-push, name_changes-push, names_after-append}
use Rattle.ufs_crash_laws.proofs.Facts.Entries.{IsDone, Left, Went, done, names_forget, names_still, next_rises}
use Rattle.ufs_crash_laws.proofs.Facts.Contents.{unborn_empty, unborn_still}
use Rattle.ufs_crash_laws.proofs.Facts.Sessions.{tree_goes_on, tree_after_is, next_after, names_last, front_legal, last_replied}
use Rattle.ufs_crash_laws.proofs.Facts.Between.{explained_from}
use Rattle.ufs_crash_laws.proofs.Facts.Explains.{tree_weaker}
use Rattle.ufs_crash_laws.specs.declared.data.FileChange.{FileChange}

-- ---- what opens

-- A tree with the stored names, and in each file what its inode has, shows the stored numbers.
pub stored_opens : (start : PosixTree) (history : List Entry) (names : ℕ) (files : ℕ → ℕ) (content : ℕ → List ℕ) (tree : PathNodes) → IsStored start history names files content
    → IsTreeWith (λ file bytes. bytes ≡ content file) (names_after start history names).paths tree → IsShownBy start history names files tree
stored_opens start history names files content tree stored opens = record {
  made = stored.made;
  shown = tree_weaker (λ file bytes. bytes ≡ content file) (IsFileShown start history files) (names_after start history names).paths tree
      (λ path file bytes at there same. subst (IsFileShown start history files file) (sym same) (stored.each names file (omega arith) stored.made (path, at))) opens;
}

-- ---- commits and write-backs

-- The names are committed up to some later change.
pub stored_names : (start : PosixTree) (history : List Entry) (names more : ℕ) (files : ℕ → ℕ) (content : ℕ → List ℕ) → names ≤ more → more ≤ length (name_changes start history)
    → IsStored start history names files content → IsStored start history more files content
stored_names start history names more files content le made stored = record { made = made; each = λ count file from to named. stored.each count file (omega (arith, le, from)) to named }

-- One file's inode shows other bytes: after a write-back with the same number of changes, after a commit with more.
pub stored_file : (start : PosixTree) (history : List Entry) (names : ℕ) (files others : ℕ → ℕ) (content after : ℕ → List ℕ) (one : ℕ)
    → ((file : ℕ) → (file ≡ one) ⊎ ((files file ≡ others file) × (content file ≡ after file)))
    → IsShown (bytes_of start.bytes one) (changes_of one start history) (others one) (after one)
    → IsStored start history names files content → IsStored start history names others after
stored_file start history names files others content after one apart shown stored = record { made = stored.made; each = λ count file from to named. by file (apart file) (stored.each count file from to named) }
  where
    by : (file : ℕ) → (file ≡ one) ⊎ ((files file ≡ others file) × (content file ≡ after file)) → IsShown (bytes_of start.bytes file) (changes_of file start history) (files file) (content file)
        → IsShown (bytes_of start.bytes file) (changes_of file start history) (others file) (after file)
    by file (inl e) was = subst (λ f. IsShown (bytes_of start.bytes f) (changes_of f start history) (others f) (after f)) (sym e) shown
    by file (inr same) was = subst (λ (x : ℕ × List ℕ). IsShown (bytes_of start.bytes file) (changes_of file start history) x.0 x.1) (λ i. (same.0 i, same.1 i)) was

-- ---- which files an entry names

inserted : (t : PosixTree) (whole : List ℕ) (n : Node) (f : ℕ) → IsNamed (fin.insert t.paths whole n) f → (n ≡ File f) ⊎ IsNamed t.paths f
inserted t whole n f at = by (one_or_apart path_total path_same at.0 whole)
  where
    by : (at.0 ≡ whole) ⊎ (at.0 ≡ whole → ⊥) → (n ≡ File f) ⊎ IsNamed t.paths f
    by (inl e) = inl (same_some n (File f) (sym (inserted_here path_total path_same t.paths whole n) ∙ ap (fin.get (fin.insert t.paths whole n)) (sym e) ∙ at.1))
    by (inr not) = inr (at.0, sym (inserted_else path_total path_same t.paths whole n at.0 not) ∙ at.1)

removed : (paths : Paths) (whole : List ℕ) (f : ℕ) → IsNamed (fin.remove paths whole) f → IsNamed paths f
removed paths whole f at = (at.0, (left_was path_total path_same paths whole at.0 (File f) at.1).1)

moved : (paths : Paths) (from to : List ℕ) (f : ℕ) → IsNamed (renamed paths from to) f → IsNamed paths f
moved paths from to f at =
    let was = rekeyed_from path_total path_same (renamed_path from to) (fin.remove paths to) at.0 (File f) at.1 in
    removed paths to f (was.0, was.1)

forgotten : (t : PosixTree) (o : Option ℕ) (f : ℕ) → IsNamed (forget t o).paths f → IsNamed t.paths f
forgotten t o f = subst (λ (n : NameState). IsNamed n.paths f) (names_forget t o)

abbrev NamesNoOther : PosixTree → PosixTree → ℕ → Type 0
NamesNoOther t after f = IsNamed after.paths f → IsNamed t.paths f ⊎ (f ≡ t.next)

named_open : (t : PosixTree) (client : ℕ) (whole : List ℕ) (m : Mode) (f : ℕ) → NamesNoOther t (open_node t client whole m None) f
named_open t client whole m f at = by (inserted t whole (File t.next) f at)
  where
    by : (File t.next ≡ File f) ⊎ IsNamed t.paths f → IsNamed t.paths f ⊎ (f ≡ t.next)
    by (inl e) = inr (cc)
    by (inr h) = inl h

named_dir : (t : PosixTree) (whole : List ℕ) (f : ℕ) → NamesNoOther t (record t { paths = fin.insert t.paths whole Dir }) f
named_dir t whole f at = by (inserted t whole Dir f at)
  where
    by : (Dir ≡ File f) ⊎ IsNamed t.paths f → IsNamed t.paths f ⊎ (f ≡ t.next)
    by (inl e) = cc
    by (inr h) = inl h

named_less : (t : PosixTree) (whole : List ℕ) (f : ℕ) → NamesNoOther t (without_path t whole) f
named_less t whole f at = inl (removed t.paths whole f (forgotten (record t { paths = fin.remove t.paths whole }) (file_of (fin.get t.paths whole)) f at))

named_moved : (t : PosixTree) (from to : List ℕ) (f : ℕ) → NamesNoOther t (rename_path t from to) f
named_moved t from to f = by (bytes_eq from to)
  where
    by : (b : Bool) → NamesNoOther t (cond b t (forget (record t { paths = renamed t.paths from to }) (file_of (fin.get t.paths to)))) f
    by true at = inl at
    by false at = inl (moved t.paths from to f (forgotten (record t { paths = renamed t.paths from to }) (file_of (fin.get t.paths to)) f at))

opened_or : (o : Option Node) → is_none o ≡ true → o ≡ None
opened_or None e = refl
opened_or (Some n) e = cc

named_change : (t : PosixTree) (client : ℕ) (request : Op) (f : ℕ) → changes_names t request ≡ true → NamesNoOther t (change t client request) f
named_change t client (op.OpenFile path read write creat excl trunc append) f e =
    let m : Mode = mode_of_open read write creat excl trunc append in
    subst (λ (o : Option Node). NamesNoOther t (open_node t client (whole_of path) m o) f) (sym (opened_or (node_at t.paths path) e)) (named_open t client (whole_of path) m f)
named_change t client (op.Mkdir path) f e = named_dir t (whole_of path) f
named_change t client (op.Rmdir path) f e = named_less t (whole_of path) f
named_change t client (op.Unlink path) f e = named_less t (whole_of path) f
named_change t client (op.Rename from to) f e = named_moved t (whole_of from) (whole_of to) f
named_change t client (op.Close fd) f e = cc
named_change t client (op.Read fd n) f e = cc
named_change t client (op.Write fd data') f e = cc
named_change t client (op.Pread fd n at) f e = cc
named_change t client (op.Pwrite fd data' at) f e = cc
named_change t client (op.Seek fd from by) f e = cc
named_change t client (op.Trunc fd size) f e = cc
named_change t client (op.Fsync fd) f e = cc
named_change t client op.Sync f e = cc
named_change t client (op.Stat path) f e = cc
named_change t client (op.List path) f e = cc

-- What an entry's names name was named before, or is new.
pub named_before : (t : PosixTree) (entry : Entry) → IsReplyTo t entry → (f : ℕ) → IsNamed (goes_on t entry).paths f → IsNamed t.paths f ⊎ (f ≡ t.next)
named_before t entry legal f = by (done t entry legal)
  where
    on : (b : Bool) → changes_names t entry.op ≡ b → goes_on t entry ≡ change t entry.client entry.op → is_served entry.reply ≡ true → IsNamed (goes_on t entry).paths f → IsNamed t.paths f ⊎ (f ≡ t.next)
    on true e goes served at = named_change t entry.client entry.op f e (subst (λ (u : PosixTree). IsNamed u.paths f) goes at)
    on false e goes served at = inl (subst (λ (n : NameState). IsNamed n.paths f) (names_still t entry legal ((λ i. served i && e i) ∙ refl)) at)

    by : IsDone t entry → IsNamed (goes_on t entry).paths f → IsNamed t.paths f ⊎ (f ≡ t.next)
    by (Left stays not_served) at = inl (subst (λ (u : PosixTree). IsNamed u.paths f) stays at)
    by (Went passed goes served) at = on (changes_names t entry.op) refl goes served at

-- ---- the history goes on

-- a file that isn't made yet has no bytes at the opening and no changes
pub unborn_changes : KeepsTrees → (ticket : ℕ) (t : PosixTree) → IsTree t → (history : List Entry) → IsLegalFrom ticket t history → (f : ℕ) → (tree_after t history).next ≤ f → (bytes_of t.bytes f ≡ []) × (changes_of f t history ≡ [])
unborn_changes keeps ticket t is [] legal f unborn = (unborn_empty t is f unborn, refl)
unborn_changes keeps ticket t is (e ∷ history) legal f unborn =
    let rest = unborn_changes keeps (ticket + 1) (goes_on t e) (tree_goes_on keeps t is e legal.0.replied) history legal.1 f unborn in
    let low : t.next ≤ f = omega (arith, unborn, next_rises t e legal.0.replied, next_after (ticket + 1) (goes_on t e) history legal.1) in
    (unborn_empty t is f low, (λ i. unborn_still t is e f low i ++ rest.1 i))

-- The next entry leaves what is stored, where the store has nothing yet in the file that is made next.
pub stored-push : KeepsTrees → (start : PosixTree) → IsTree start → (history : List Entry) (entry : Entry) → IsLegalFrom 0 start (history ++ entry ∷ [])
    → (names : ℕ) (files : ℕ → ℕ) (content : ℕ → List ℕ) → files (tree_after start history).next ≡ 0 → content (tree_after start history).next ≡ []
    → IsStored start history names files content → IsStored start (history ++ entry ∷ []) names files content
stored-push keeps start is history entry legal names files content none empty stored = record {
  made = omega (arith, stored.made, longer);
  each = λ count file from to named. by count file from to named (cases_lt (length (name_changes start history)) count);
}
  where
    before : IsLegalFrom 0 start history
    before = front_legal 0 start history (entry ∷ []) legal

    replied : IsReplyTo (tree_after start history) entry
    replied = last_replied 0 start history entry legal

    longer : length (name_changes start (history ++ entry ∷ [])) ≡ length (name_changes start history) + length (names_by (next_step start history entry))
    longer = ap length (name_changes-push start history entry) ∙ length-append (name_changes start history) (names_by (next_step start history entry))

    at_most : (b : Bool) → length (cond b (names_of (goes_on (tree_after start history) entry) ∷ []) []) ≤ 1
    at_most true = omega arith
    at_most false = omega arith

    one : length (names_by (next_step start history entry)) ≤ 1
    one = at_most (is_served entry.reply && changes_names (tree_after start history) entry.op)

    goes : (file : ℕ) → IsShown (bytes_of start.bytes file) (changes_of file start history) (files file) (content file) → IsShown (bytes_of start.bytes file) (changes_of file start (history ++ entry ∷ [])) (files file) (content file)
    goes file shown =
        subst (λ changes. IsShown (bytes_of start.bytes file) changes (files file) (content file)) (sym (changes_of-push file start history entry))
        (shown_more (bytes_of start.bytes file) (changes_of file start history) (change_of file (next_step start history entry)) (files file) (content file) shown)

    -- it is named in the tree before, or new
    by_name : (file : ℕ) → IsNamed (tree_after start history).paths file ⊎ (file ≡ (tree_after start history).next) → IsShown (bytes_of start.bytes file) (changes_of file start (history ++ entry ∷ [])) (files file) (content file)
    by_name file (inl named) =
        goes file (stored.each (length (name_changes start history)) file stored.made (omega arith) (subst (λ (n : NameState). IsNamed n.paths file) (sym (names_last start history before)) named))
    by_name file (inr new) =
        let low : (tree_after start history).next ≤ file = omega (arith, new) in
        let unborn = unborn_changes keeps 0 start is history before file low in
        let still : changes_of file start (history ++ entry ∷ []) ≡ [] = changes_of-push file start history entry ∙ (λ i. unborn.1 i ++ unborn_still (tree_after start history) (tree_after_is keeps 0 start is history before) entry file low i) in
        subst (λ (x : List ℕ × List FileChange × ℕ × List ℕ). IsShown x.0 x.1 x.2 x.3)
        (λ i. (sym unborn.0 i, sym still i, sym (ap files new ∙ none) i, sym (ap content new ∙ empty) i)) (shown_now [] [])

    by : (count file : ℕ) → names ≤ count → count ≤ length (name_changes start (history ++ entry ∷ [])) → IsNamed (names_after start (history ++ entry ∷ []) count).paths file
        → (length (name_changes start history) < count) ⊎ (count ≤ length (name_changes start history)) → IsShown (bytes_of start.bytes file) (changes_of file start (history ++ entry ∷ [])) (files file) (content file)
    by count file from to named (inr old) = goes file (stored.each count file from old (subst (λ (n : NameState). IsNamed n.paths file) (names_after-append start history (entry ∷ []) count old) named))
    by count file from to named (inl more) =
        let last : count ≡ length (name_changes start (history ++ entry ∷ [])) = omega (arith, longer, one, to, more) in
        by_name file (named_before (tree_after start history) entry replied file
        (subst (λ (n : NameState). IsNamed n.paths file) (ap (names_after start (history ++ entry ∷ [])) last ∙ names_last start (history ++ entry ∷ []) legal ∙ ap names_of (tree_after-push start history entry)) named))

-- before any entry all is stored
pub stored_start : (start : PosixTree) → (content : ℕ → List ℕ) → ((file : ℕ) → IsNamed start.paths file → content file ≡ bytes_of start.bytes file) → IsStored start [] 0 (λ _. 0) content
stored_start start content same = record { made = omega arith; each = λ count file from to named. by count file to named }
  where
    by : (count file : ℕ) → count ≤ 0 → IsNamed (names_after start [] count).paths file → IsShown (bytes_of start.bytes file) [] 0 (content file)
    by zero file to named = subst (IsShown (bytes_of start.bytes file) [] 0) (sym (same file named)) (shown_now (bytes_of start.bytes file) [])
    by (suc count) file to named = absurd (omega arith)

-- numbers and contents of files that no names have from the stored ones on may become others
pub stored_others : (start : PosixTree) (history : List Entry) (names : ℕ) (files others : ℕ → ℕ) (content after : ℕ → List ℕ)
    → ((count file : ℕ) → names ≤ count → count ≤ length (name_changes start history) → IsNamed (names_after start history count).paths file → (files file ≡ others file) × (content file ≡ after file))
    → IsStored start history names files content → IsStored start history names others after
stored_others start history names files others content after same stored = record {
  made = stored.made;
  each = λ count file from to named.
      let is = same count file from to named in
      subst (λ (x : ℕ × List ℕ). IsShown (bytes_of start.bytes file) (changes_of file start history) x.0 x.1) (λ i. (is.0 i, is.1 i)) (stored.each count file from to named);
}

-- ---- a file that has lost its name gets none

-- names after so many changes, where the names are those of the tree before any
abbrev At : NameState → PosixTree → List Entry → ℕ → NameState
At d t history count = get_or (names_of t ∷ name_changes t history) count d

abbrev StaysLost : NameState → PosixTree → List Entry → ℕ → Type 0
StaysLost d t history f = (i j : ℕ) → i ≤ j → j ≤ length (name_changes t history) → f < (At d t history i).next → (IsNamed (At d t history i).paths f → ⊥) → IsNamed (At d t history j).paths f → ⊥

lost_none : (d : NameState) (t : PosixTree) (f : ℕ) → StaysLost d t [] f
lost_none d t f zero zero le made below lost = lost
lost_none d t f zero (suc j) le made below lost = absurd (omega arith)
lost_none d t f (suc i) zero le made below lost = absurd (omega arith)
lost_none d t f (suc i) (suc j) le made below lost = absurd (omega arith)

lost_step : (t : PosixTree) (e : Entry) → IsReplyTo t e → (history : List Entry) (d : NameState) (f : ℕ) → StaysLost d (goes_on t e) history f → StaysLost d t (e ∷ history) f
lost_step t e legal history d f rest = by (is_served e.reply && changes_names t e.op) refl
  where
    up : t.next ≤ (goes_on t e).next
    up = next_rises t e legal

    lost_on : f < t.next → (IsNamed t.paths f → ⊥) → IsNamed t.paths f ⊎ (f ≡ t.next) → ⊥
    lost_on below lost (inl named) = lost named
    lost_on below lost (inr new) = omega (arith, below, new)

    later : (i j : ℕ) → i ≤ j → j ≤ suc (length (name_changes (goes_on t e) history))
        → f < (get_or (names_of t ∷ names_of (goes_on t e) ∷ name_changes (goes_on t e) history) i d).next
        → (IsNamed (get_or (names_of t ∷ names_of (goes_on t e) ∷ name_changes (goes_on t e) history) i d).paths f → ⊥)
        → IsNamed (get_or (names_of t ∷ names_of (goes_on t e) ∷ name_changes (goes_on t e) history) j d).paths f → ⊥
    later zero zero le made below lost = lost
    later zero (suc j) le made below lost = rest 0 j (omega arith) (omega arith) (omega (arith, below, up)) (λ named. lost_on below lost (named_before t e legal f named))
    later (suc i) zero le made below lost = absurd (omega arith)
    later (suc i) (suc j) le made below lost = rest i j (omega arith) (omega arith) below lost

    by : (b : Bool) → (is_served e.reply && changes_names t e.op) ≡ b → (i j : ℕ) → i ≤ j → j ≤ length (cond b (names_of (goes_on t e) ∷ []) [] ++ name_changes (goes_on t e) history)
        → f < (get_or (names_of t ∷ (cond b (names_of (goes_on t e) ∷ []) [] ++ name_changes (goes_on t e) history)) i d).next
        → (IsNamed (get_or (names_of t ∷ (cond b (names_of (goes_on t e) ∷ []) [] ++ name_changes (goes_on t e) history)) i d).paths f → ⊥)
        → IsNamed (get_or (names_of t ∷ (cond b (names_of (goes_on t e) ∷ []) [] ++ name_changes (goes_on t e) history)) j d).paths f → ⊥
    by true is = later
    by false is = subst (λ (n : NameState). (i j : ℕ) → i ≤ j → j ≤ length (name_changes (goes_on t e) history) → f < (get_or (n ∷ name_changes (goes_on t e) history) i d).next
        → (IsNamed (get_or (n ∷ name_changes (goes_on t e) history) i d).paths f → ⊥) → IsNamed (get_or (n ∷ name_changes (goes_on t e) history) j d).paths f → ⊥) (names_still t e legal is) rest

lost : (ticket : ℕ) (t : PosixTree) (history : List Entry) (d : NameState) (f : ℕ) → IsLegalFrom ticket t history → StaysLost d t history f
lost ticket t [] d f legal = lost_none d t f
lost ticket t (e ∷ history) d f legal = lost_step t e legal.0.replied history d f (lost (ticket + 1) (goes_on t e) history d f legal.1)

pub stays_lost : (start : PosixTree) (history : List Entry) → IsLegalFrom 0 start history → (f i j : ℕ) → i ≤ j → j ≤ length (name_changes start history)
    → f < (names_after start history i).next → (IsNamed (names_after start history i).paths f → ⊥) → IsNamed (names_after start history j).paths f → ⊥
stays_lost start history legal f i j = lost 0 start history (names_of start) f legal i j

-- ---- the promise

-- What an image opens to, where the disk has these names and files after the first entries and covers what is acknowledged
-- by more of them, is explained by each number of entries between.
pub stored_explained : (start : PosixTree) (history : List Entry) (from to : ℕ) (names : ℕ) (files : ℕ → ℕ) (content : ℕ → List ℕ) (tree : PathNodes) → IsStored start (take from history) names files content
    → IsCovering start (take to history) names files → IsTreeWith (λ file bytes. bytes ≡ content file) (names_after start (take from history) names).paths tree → IsExplainedFrom tree start history from to
stored_explained start history from to names files content tree stored covers opens =
    explained_from start history from to names files tree (stored_opens start (take from history) names files content tree stored opens) covers
