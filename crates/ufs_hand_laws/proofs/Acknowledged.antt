-- A disk that a history explains shows the numbers of changes that it acknowledges.
use Rattle.std.proofs.Common.{◌≡◌, ◌≤◌, ◌<◌, ◌⊎◌, inl, inr, ℕ, Bool, true, false, cond, ◌&&◌, ◌||◌, List, [], ◌∷◌, ◌++◌, length, Some, None, ap, sym, refl, ◌∙◌, subst, arith, append-nil}
use Rattle.std.proofs.lemmas.Bool.{cases_lt}
use Rattle.std.specs.List.{list_any}
use Rattle.std.specs.FinMap as map
use Rattle.ufs_model.specs.PosixTree.{PosixTree, Paths, is_node_of, is_number}
use Rattle.ufs_model.specs.FileBytes.{bytes_of}
use Rattle.ufs_model.specs.Start.{PathNodes}
use Rattle.ufs_model.specs.History.{goes_on, tree_after}
use Rattle.ufs_model.specs.declared.data.Entry.{Entry}
use Rattle.ufs_model.specs.declared.data.Node.TheVariants.{File}
use Rattle.ufs_model.specs.declared.data.PathNode.TheVariants as path_node
use Rattle.ufs_model.specs.declared.data.Op.{Op}
use Rattle.ufs_model.specs.declared.data.Op.TheVariants as op
use Rattle.ufs_model.proofs.Facts.Orders.{path_total, path_same}
use Rattle.ufs_model.proofs.Facts.Lookups.{passes, from_passes}
use Rattle.ufs_model.proofs.Facts.Live.{node_is, is_itself}
use Rattle.ufs_crash_laws.specs.FileChanges.{IsShown}
use Rattle.ufs_crash_laws.specs.Steps.{is_served, is_ok, next_step}
use Rattle.ufs_crash_laws.specs.Changes.{NameState, names_of, file_changed, change_asked, change_of, changes_of, changes_names, names_by, name_changes, names_after, asks_commit, asks_fsync, asks_sync, is_fsync_of, is_fsynced, syncs_file, file_synced, names_synced}
use Rattle.ufs_crash_laws.specs.Explained.{IsTreeWith, ShowsSynced, IsExplained, IsFileShown}
use Rattle.ufs_crash_laws.specs.Stored.{IsNamed}
use Rattle.ufs_crash_laws.proofs.Facts.Between.{file_less, names_less}
use Rattle.ufs_crash_laws.proofs.Facts.Explains.{tree_weaker, file_there}
use Rattle.ufs_crash_laws.proofs.Facts.Histories.{changes_of-push, name_changes-push, names_after-append, file_synced-push, names_synced-push, is_fsynced-push}
use Rattle.ufs_crash_laws.proofs.Facts.Sessions.{names_last, names_synced_made, fsynced_born}
use Rattle.ufs_hand_laws.specs.Acknowledged.{IsNamedOnce, AreFilesAcknowledged, AreNamesAcknowledged, ExplainedShow, AcknowledgedShow, FilesAreAcknowledged, NamesAreAcknowledged, BirthsAreAcknowledged, FilesStayAcknowledged, NamesStayAcknowledged, BirthsStayAcknowledged, BirthsWereCovered, NumbersStayAcknowledged}
use Rattle.ufs_hand_laws.specs.Covers.{SyncsFile}
use Rattle.ufs_hand_laws.specs.Shown.{ShowsAtLeast, nodes_of}
use Rattle.ufs_hand_laws.proofs.NamedOnce.{names_once}

or_true : (b : Bool) → (b || true) ≡ true
or_true true = refl
or_true false = refl

-- ---- the path of a file

named_or : (paths : Paths) (file : ℕ) → IsNamed paths file ⊎ (IsNamed paths file → ⊥)
named_or paths file = by (list_any (is_node_of file) (map.values paths)) refl
  where
    by : (b : Bool) → list_any (is_node_of file) (map.values paths) ≡ b → IsNamed paths file ⊎ (IsNamed paths file → ⊥)
    by true e = let at = passes path_total path_same (is_node_of file) paths e in inl (at.0, at.2 ∙ ap Some (node_is file at.1 at.3))
    by false e = inr (λ at. let some = from_passes path_total path_same (is_node_of file) paths (at.0, File file, at.1, is_itself file) in cc)

same_bytes : (xs ys : List ℕ) → Some (path_node.File xs) ≡ Some (path_node.File ys) → xs ≡ ys
same_bytes xs ys e = cc

-- ---- what is explained shows

-- A tree that is explained tells a number of changes at each path. A file has one path there, and so one number.
module _ (start : PosixTree) (history : List Entry) (files : ℕ → ℕ) (tree : PathNodes) (is : IsExplained tree start history) (once : IsNamedOnce (names_after start history is.names).paths) where
  abbrev Shows : ℕ → List ℕ → Type 0
  Shows file bytes = ShowsSynced (bytes_of start.bytes file) (changes_of file start history) (file_synced file start history) bytes

  there : (file : ℕ) (at : IsNamed (names_after start history is.names).paths file) → (bytes : List ℕ) × (map.get tree at.0 ≡ Some (path_node.File bytes)) × Shows file bytes
  there file at = file_there Shows (map.get (names_after start history is.names).paths at.0) (map.get tree at.0) file at.1 (is.shown at.0)

  -- the number at the file's path, or any that is large enough
  abbrev count_at : (file : ℕ) → IsNamed (names_after start history is.names).paths file ⊎ (IsNamed (names_after start history is.names).paths file → ⊥) → ℕ
  count_at file (inl at) = (there file at).2.count
  count_at file (inr none) = files file

  abbrev counts : ℕ → ℕ
  counts file = count_at file (named_or (names_after start history is.names).paths file)

  most : AreFilesAcknowledged start history files → (file : ℕ) → files file ≤ counts file
  most low file = by (named_or (names_after start history is.names).paths file)
    where
      by : (o : IsNamed (names_after start history is.names).paths file ⊎ (IsNamed (names_after start history is.names).paths file → ⊥)) → files file ≤ count_at file o
      by (inl at) = let a = low file in let b = (there file at).2.covers in omega (arith, a, b)
      by (inr none) = omega arith

  shown_at : (path : List ℕ) (file : ℕ) (bytes : List ℕ) → map.get (names_after start history is.names).paths path ≡ Some (File file) → map.get tree path ≡ Some (path_node.File bytes) → IsFileShown start history counts file bytes
  shown_at path file bytes at has = by (named_or (names_after start history is.names).paths file)
    where
      by : (o : IsNamed (names_after start history is.names).paths file ⊎ (IsNamed (names_after start history is.names).paths file → ⊥)) → IsShown (bytes_of start.bytes file) (changes_of file start history) (count_at file o) bytes
      by (inl named) =
          let same = same_bytes (there file named).0 bytes (sym (there file named).1 ∙ ap (map.get tree) (once named.0 path file named.1 at) ∙ has) in
          subst (IsShown (bytes_of start.bytes file) (changes_of file start history) (there file named).2.count) same (there file named).2.shown
      by (inr none) = absurd (none (path, at))

  shows_counts : (names : ℕ) → AreFilesAcknowledged start history files → AreNamesAcknowledged start history names → ShowsAtLeast start history files names None tree
  shows_counts names low least = record {
    shown_names = is.names;
    shown_files = counts;
    most_names = least is.names is.made is.synced is.born;
    most_files = most low;
    shown = record {
      made = is.made;
      shown = tree_weaker Shows (IsFileShown start history counts) (names_after start history is.names).paths tree (λ path file bytes at has shows. shown_at path file bytes at has) is.shown;
    };
    placed = λ p e. cc;
  }

pub explained_show : ExplainedShow
explained_show start history files names cells keeps is once legal low least explains image at =
    let o = explains image at in
    (o.0, o.1, shows_counts start history files (nodes_of o.0) o.2 (names_once keeps start is once history legal.entries o.2.names) names low least)

-- ---- an entry that acknowledges is no change

nothing : {X : Type 0} (b : Bool) (x : List X) → cond (b && false) x [] ≡ []
nothing true x = refl
nothing false x = refl

commit_stays : (file : ℕ) (t : PosixTree) (e : Entry) → asks_commit e.op ≡ true → change_of file (record { before = t; entry = e }) ≡ []
commit_stays file t e asks = by e.op asks
  where
    by : (o : Op) → asks_commit o ≡ true → cond (is_served e.reply && is_number file (file_changed t e.client o)) (change_asked t e.client o) [] ≡ []
    by (op.Fsync fd) is = nothing (is_served e.reply) _
    by op.Sync is = nothing (is_served e.reply) _
    by _ is = cc

commit_names : (t : PosixTree) (e : Entry) → asks_commit e.op ≡ true → names_by (record { before = t; entry = e }) ≡ []
commit_names t e asks = by e.op asks
  where
    by : (o : Op) → asks_commit o ≡ true → cond (is_served e.reply && changes_names t o) (names_of (goes_on t e) ∷ []) [] ≡ []
    by (op.Fsync fd) is = nothing (is_served e.reply) _
    by op.Sync is = nothing (is_served e.reply) _
    by _ is = cc

-- So what shows the history with it shows the one before it.
module _ (start : PosixTree) (history : List Entry) (e : Entry) (asks : asks_commit e.op ≡ true) where
  same_changes : (file : ℕ) → changes_of file start (history ++ e ∷ []) ≡ changes_of file start history
  same_changes file = changes_of-push file start history e ∙ ap (λ more. changes_of file start history ++ more) (commit_stays file (tree_after start history) e asks) ∙ append-nil (changes_of file start history)

  same_names : name_changes start (history ++ e ∷ []) ≡ name_changes start history
  same_names = name_changes-push start history e ∙ ap (λ more. name_changes start history ++ more) (commit_names (tree_after start history) e asks) ∙ append-nil (name_changes start history)

  shows_before : (files : ℕ → ℕ) (names : ℕ) (tree : PathNodes) → ShowsAtLeast start (history ++ e ∷ []) files names None tree → ShowsAtLeast start history files names None tree
  shows_before files names tree s = record {
    shown_names = s.shown_names;
    shown_files = s.shown_files;
    most_names = s.most_names;
    most_files = s.most_files;
    shown = record {
      made = made;
      shown = tree_weaker (IsFileShown start (history ++ e ∷ []) s.shown_files) (IsFileShown start history s.shown_files) (names_after start history s.shown_names).paths tree
          (λ path file bytes at has shown. subst (λ changes. IsShown (bytes_of start.bytes file) changes (s.shown_files file) bytes) (same_changes file) shown)
          (subst (λ (n : NameState). IsTreeWith (IsFileShown start (history ++ e ∷ []) s.shown_files) n.paths tree) (names_after-append start history (e ∷ []) s.shown_names made) s.shown.shown);
    };
    placed = λ p is. cc;
  }
    where
      made : s.shown_names ≤ length (name_changes start history)
      made = let few = s.shown.made in let same = ap length same_names in omega (arith, few, same)

pub acknowledged_show : AcknowledgedShow
acknowledged_show start history e files names cells keeps is once legal done asks low least explains image at =
    let o = explained_show start (history ++ e ∷ []) files names cells keeps is once legal low least explains image at in
    (o.0, o.1, shows_before start history e asks files names (nodes_of o.0) o.2)

-- ---- what an entry acknowledges

pub files_are_acknowledged : FilesAreAcknowledged
files_are_acknowledged start history e file done asks = file_synced-push file start history e ∙ ap (λ b. cond b (length (changes_of file start history)) (file_synced file start history)) (syncs asks)
  where
    syncs : SyncsFile (tree_after start history) e.client e.op file → syncs_file file (next_step start history e) ≡ true
    syncs (inl f) = λ i. is_ok (done i) && (f i || asks_sync e.op)
    syncs (inr s) = (λ i. is_ok (done i) && (asks_fsync file (tree_after start history) e.client e.op || s.0 i)) ∙ or_true _

pub names_are_acknowledged : NamesAreAcknowledged
names_are_acknowledged start history e done asks =
    names_synced-push start history e ∙ ap (λ b. cond b (length (name_changes start history)) (names_synced start history)) ((λ i. is_ok (done i) && asks i))

pub births_are_acknowledged : BirthsAreAcknowledged
births_are_acknowledged start history e file done asks = is_fsynced-push file start history e ∙ (λ i. is_fsynced file start history || (is_ok (done i) && asks i)) ∙ or_true _

-- ---- what is acknowledged stays so

pub files_stay : FilesStayAcknowledged
files_stay start history e file = file_less file start history e

pub names_stay : NamesStayAcknowledged
names_stay start history e = names_less start history e

pub births_stay : BirthsStayAcknowledged
births_stay start history e file was = is_fsynced-push file start history e ∙ ap (λ b. b || is_fsync_of file (next_step start history e)) was

pub births_were_covered : BirthsWereCovered
births_were_covered start history e n made covers file was =
    subst (λ (x : NameState). file < x.next) (names_after-append start history (e ∷ []) n made) (covers file (births_stay start history e file was))

pub numbers_stay : NumbersStayAcknowledged
numbers_stay start history e names keeps is legal least n made synced born = by (cases_lt (length (name_changes start history)) n)
  where
    -- all changes of names cover what is acknowledged
    few : names ≤ length (name_changes start history)
    few = least (length (name_changes start history)) (omega arith) (names_synced_made start history)
        (λ file fsynced. subst (λ (x : NameState). file < x.next) (sym (names_last start history legal.entries)) (fsynced_born keeps 0 start is history legal.entries file fsynced))

    by : (length (name_changes start history) < n) ⊎ (n ≤ length (name_changes start history)) → names ≤ n
    by (inl more) = omega (arith, few, more)
    by (inr before) = least n before (omega (arith, synced, names_less start history e)) (births_were_covered start history e n before born)
