-- How a tree that a history explains stays explained.
use Rattle.std.proofs.Common.{◌≡◌, ◌≤◌, ◌<◌, ℕ, ◌⊎◌, inl, inr, Bool, true, false, cond, ◌||◌, List, [], ◌∷◌, ◌++◌, length, Option, Some, None, ap, sym, refl, ◌∙◌, subst, arith, length-append}
use Rattle.std.specs.FinMap as map
use Rattle.ufs_model.specs.PosixTree.{PosixTree, Paths}
use Rattle.ufs_model.specs.FileBytes.{bytes_of}
use Rattle.ufs_model.specs.Start.{PathNodes}
use Rattle.ufs_model.specs.History.{tree_after}
use Rattle.ufs_model.specs.declared.data.Entry.{Entry}
use Rattle.ufs_model.specs.declared.data.Node.{Node}
use Rattle.ufs_model.specs.declared.data.Node.TheVariants.{Dir, File}
use Rattle.ufs_model.specs.declared.data.PathNode.{PathNode}
use Rattle.ufs_model.specs.declared.data.PathNode.TheVariants as path_node
use Rattle.ufs_crash_laws.specs.Steps.{next_step}
use Rattle.ufs_crash_laws.specs.FileChanges.{IsShown}
use Rattle.ufs_crash_laws.specs.Changes.{NameState, changes_of, name_changes, names_after, syncs_file, syncs_names, is_fsync_of, file_synced, names_synced, is_fsynced}
use Rattle.ufs_crash_laws.specs.Explained.{IsNodeWith, IsTreeWith, IsExplained, IsFileShown, IsShownBy, IsCovering, IsAckCovered}
use Rattle.ufs_crash_laws.proofs.Facts.Shows.{shown_more}
use Rattle.ufs_crash_laws.proofs.Facts.Histories.{changes_of-append, name_changes-append, names_after-append, file_synced-push, names_synced-push, is_fsynced-push}

-- ---- trees in place of numbers

pub node_weaker : (Has More : ℕ → List ℕ → Type 0) (o : Option Node) (p : Option PathNode) → ((file : ℕ) (bytes : List ℕ) → o ≡ Some (File file) → p ≡ Some (path_node.File bytes) → Has file bytes → More file bytes)
    → IsNodeWith Has o p → IsNodeWith More o p
node_weaker Has More None None weaker h = tt
node_weaker Has More None (Some n) weaker h = absurd h
node_weaker Has More (Some Dir) None weaker h = absurd h
node_weaker Has More (Some Dir) (Some path_node.Dir) weaker h = tt
node_weaker Has More (Some Dir) (Some (path_node.File bytes)) weaker h = absurd h
node_weaker Has More (Some (File f)) None weaker h = absurd h
node_weaker Has More (Some (File f)) (Some path_node.Dir) weaker h = absurd h
node_weaker Has More (Some (File f)) (Some (path_node.File bytes)) weaker h = weaker f bytes refl refl h

-- Where each file that is shown is allowed by one, it is allowed by the other.
pub tree_weaker : (Has More : ℕ → List ℕ → Type 0) (paths : Paths) (tree : PathNodes)
    → ((path : List ℕ) (file : ℕ) (bytes : List ℕ) → map.get paths path ≡ Some (File file) → map.get tree path ≡ Some (path_node.File bytes) → Has file bytes → More file bytes)
    → IsTreeWith Has paths tree → IsTreeWith More paths tree
tree_weaker Has More paths tree weaker shown path = node_weaker Has More (map.get paths path) (map.get tree path) (λ file bytes. weaker path file bytes) (shown path)

-- what stands in a file's place is a file with what it may have
pub file_there : (Has : ℕ → List ℕ → Type 0) (o : Option Node) (p : Option PathNode) (file : ℕ) → o ≡ Some (File file) → IsNodeWith Has o p → (bytes : List ℕ) × (p ≡ Some (path_node.File bytes)) × Has file bytes
file_there Has o p file e h = by p (subst (λ (o : Option Node). IsNodeWith Has o p) e h)
  where
    by : (p : Option PathNode) → IsNodeWith Has (Some (File file)) p → (bytes : List ℕ) × (p ≡ Some (path_node.File bytes)) × Has file bytes
    by None h = absurd h
    by (Some path_node.Dir) h = absurd h
    by (Some (path_node.File bytes)) h = (bytes, refl, h)

-- nothing stands where nothing has to stand
pub none_there : (Has : ℕ → List ℕ → Type 0) (o : Option Node) (p : Option PathNode) → o ≡ None → IsNodeWith Has o p → p ≡ None
none_there Has o p e h = by p (subst (λ (o : Option Node). IsNodeWith Has o p) e h)
  where
    by : (p : Option PathNode) → IsNodeWith Has None p → p ≡ None
    by None h = refl
    by (Some n) h = absurd h

-- ---- explained, by numbers

pub explained_by : (start : PosixTree) (history : List Entry) (names : ℕ) (files : ℕ → ℕ) (tree : PathNodes) → IsCovering start history names files → IsShownBy start history names files tree → IsExplained tree start history
explained_by start history names files tree covers shows = record {
  names = names;
  made = shows.made;
  synced = covers.synced;
  born = covers.born;
  shown = tree_weaker (IsFileShown start history files) _ (names_after start history names).paths tree
      (λ path file bytes at there shown. record { count = files file; covers = covers.each file; shown = shown }) shows.shown;
}

-- ---- the history goes on

-- with the same numbers, whatever the entries are
pub shown_by-append : (start : PosixTree) (history more : List Entry) (names : ℕ) (files : ℕ → ℕ) (tree : PathNodes) → IsShownBy start history names files tree → IsShownBy start (history ++ more) names files tree
shown_by-append start history more names files tree shows = record {
  made = omega (arith, shows.made, ap length (name_changes-append start history more), length-append (name_changes start history) (name_changes (tree_after start history) more));
  shown = subst (λ (n : NameState). IsTreeWith (IsFileShown start (history ++ more) files) n.paths tree) (sym (names_after-append start history more names shows.made))
      (tree_weaker (IsFileShown start history files) (IsFileShown start (history ++ more) files) (names_after start history names).paths tree
      (λ path file bytes at there shown. subst (λ changes. IsShown (bytes_of start.bytes file) changes (files file) bytes) (sym (changes_of-append file start history more))
      (shown_more (bytes_of start.bytes file) (changes_of file start history) (changes_of file (tree_after start history) more) (files file) bytes shown)) shows.shown);
}

pub covering-push : (start : PosixTree) (history : List Entry) (entry : Entry) (names : ℕ) (files : ℕ → ℕ) → IsCovering start history names files → names ≤ length (name_changes start history)
    → IsAckCovered start history entry names files → IsCovering start (history ++ entry ∷ []) names files
covering-push start history entry names files covers made acked = record {
  synced = subst (λ n. n ≤ names) (sym (names_synced-push start history entry)) (at_names (syncs_names (next_step start history entry)) refl);
  born = λ file e. subst (λ (n : NameState). file < n.next) (sym (names_after-append start history (entry ∷ []) names made)) (at_born file (is_fsynced file start history) refl (sym (is_fsynced-push file start history entry) ∙ e));
  each = λ file. subst (λ n. n ≤ files file) (sym (file_synced-push file start history entry)) (at_file file (syncs_file file (next_step start history entry)) refl);
}
  where
    at_names : (b : Bool) → syncs_names (next_step start history entry) ≡ b → cond b (length (name_changes start history)) (names_synced start history) ≤ names
    at_names true e = acked.synced e
    at_names false e = covers.synced

    at_born : (file : ℕ) (b : Bool) → is_fsynced file start history ≡ b → (b || is_fsync_of file (next_step start history entry)) ≡ true → file < (names_after start history names).next
    at_born file true was e = covers.born file was
    at_born file false was e = acked.born file e

    at_file : (file : ℕ) (b : Bool) → syncs_file file (next_step start history entry) ≡ b → cond b (length (changes_of file start history)) (file_synced file start history) ≤ files file
    at_file file true e = acked.each file e
    at_file file false e = covers.each file

-- ---- the numbers go on

-- A commit of a file: at its paths the new tree shows more of its changes, and elsewhere the same.
pub committed_file : (start : PosixTree) (history : List Entry) (names : ℕ) (files more : ℕ → ℕ) (committed : ℕ) (old new : PathNodes)
    → ((file : ℕ) → (file ≡ committed) ⊎ (files file ≡ more file))
    → ((path : List ℕ) → (map.get new path ≡ map.get old path) ⊎ (map.get (names_after start history names).paths path ≡ Some (File committed)))
    → ((path : List ℕ) → map.get (names_after start history names).paths path ≡ Some (File committed) → (bytes : List ℕ) × (map.get new path ≡ Some (path_node.File bytes)) × IsFileShown start history more committed bytes)
    → IsShownBy start history names files old → IsShownBy start history names more new
committed_file start history names files more committed old new others elsewhere here shows = record { made = shows.made; shown = at }
  where
    paths : Paths
    paths = (names_after start history names).paths

    at_file : (path : List ℕ) → map.get (names_after start history names).paths path ≡ Some (File committed) → IsNodeWith (IsFileShown start history more) (map.get (names_after start history names).paths path) (map.get new path)
    at_file path is =
        let there = here path is in
        subst (λ (x : Option Node × Option PathNode). IsNodeWith (IsFileShown start history more) x.0 x.1) (λ i. (sym is i, sym there.1 i)) there.2

    moved : (path : List ℕ) (file : ℕ) (bytes : List ℕ) → (file ≡ committed) ⊎ (files file ≡ more file) → map.get (names_after start history names).paths path ≡ Some (File file) → map.get new path ≡ Some (path_node.File bytes)
        → IsFileShown start history files file bytes → IsFileShown start history more file bytes
    moved path file bytes (inr same) is there shown = subst (λ count. IsShown (bytes_of start.bytes file) (changes_of file start history) count bytes) same shown
    moved path file bytes (inl same) is there shown =
        let it = here path (is ∙ ap (λ f. Some (File f)) same) in
        let bytes_same : bytes ≡ it.0 = cc in
        subst (λ (x : ℕ × List ℕ). IsFileShown start history more x.0 x.1) (λ i. (sym same i, sym bytes_same i)) it.2

    by : (path : List ℕ) → (map.get new path ≡ map.get old path) ⊎ (map.get (names_after start history names).paths path ≡ Some (File committed)) → IsNodeWith (IsFileShown start history more) (map.get (names_after start history names).paths path) (map.get new path)
    by path (inr is) = at_file path is
    by path (inl same) = node_weaker (IsFileShown start history files) (IsFileShown start history more) (map.get (names_after start history names).paths path) (map.get new path)
        (λ file bytes is there shown. moved path file bytes (others file) is there shown)
        (subst (IsNodeWith (IsFileShown start history files) (map.get (names_after start history names).paths path)) (sym same) (shows.shown path))

    at : IsTreeWith (IsFileShown start history more) (names_after start history names).paths new
    at path = by path (elsewhere path)

-- Places of files are written back: each file shows the same changes.
pub written_back : (start : PosixTree) (history : List Entry) (names : ℕ) (files : ℕ → ℕ) (old new : PathNodes)
    → ((path : List ℕ) → (map.get new path ≡ map.get old path) ⊎ ((before : List ℕ) × (after : List ℕ) × (map.get old path ≡ Some (path_node.File before)) × (map.get new path ≡ Some (path_node.File after))
    × ((file : ℕ) → map.get (names_after start history names).paths path ≡ Some (File file) → IsFileShown start history files file before → IsFileShown start history files file after)))
    → IsShownBy start history names files old → IsShownBy start history names files new
written_back start history names files old new back shows = record { made = shows.made; shown = λ path. by path (back path) }
  where
    change : (o : Option Node) (before after : List ℕ) → ((file : ℕ) → o ≡ Some (File file) → IsFileShown start history files file before → IsFileShown start history files file after)
        → IsNodeWith (IsFileShown start history files) o (Some (path_node.File before)) → IsNodeWith (IsFileShown start history files) o (Some (path_node.File after))
    change None before after goes h = absurd h
    change (Some Dir) before after goes h = absurd h
    change (Some (File f)) before after goes h = goes f refl h

    by : (path : List ℕ) → (map.get new path ≡ map.get old path) ⊎ ((before : List ℕ) × (after : List ℕ) × (map.get old path ≡ Some (path_node.File before)) × (map.get new path ≡ Some (path_node.File after))
        × ((file : ℕ) → map.get (names_after start history names).paths path ≡ Some (File file) → IsFileShown start history files file before → IsFileShown start history files file after))
        → IsNodeWith (IsFileShown start history files) (map.get (names_after start history names).paths path) (map.get new path)
    by path (inl same) = subst (IsNodeWith (IsFileShown start history files) (map.get (names_after start history names).paths path)) (sym same) (shows.shown path)
    by path (inr is) =
        subst (IsNodeWith (IsFileShown start history files) (map.get (names_after start history names).paths path)) (sym is.3)
        (change (map.get (names_after start history names).paths path) is.0 is.1 is.4 (subst (IsNodeWith (IsFileShown start history files) (map.get (names_after start history names).paths path)) is.2 (shows.shown path)))

-- A tree is explained where numbers cover what is acknowledged of the names and of each file that it shows.
pub explained_by_named : (start : PosixTree) (history : List Entry) (names : ℕ) (files : ℕ → ℕ) (tree : PathNodes) → names_synced start history ≤ names
    → ((file : ℕ) → is_fsynced file start history ≡ true → file < (names_after start history names).next)
    → ((path : List ℕ) (file : ℕ) → map.get (names_after start history names).paths path ≡ Some (File file) → file_synced file start history ≤ files file)
    → IsShownBy start history names files tree → IsExplained tree start history
explained_by_named start history names files tree synced born each shows = record {
  names = names;
  made = shows.made;
  synced = synced;
  born = born;
  shown = tree_weaker (IsFileShown start history files) _ (names_after start history names).paths tree
      (λ path file bytes at there shown. record { count = files file; covers = each path file at; shown = shown }) shows.shown;
}
