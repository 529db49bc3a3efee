-- The tree at the beginning of a session and at its end, and what an acknowledgement leaves open.
use Rattle.std.proofs.Common.{◌≡◌, ◌≤◌, ◌<◌, ℕ, inl, true, cond, List, [], ◌∷◌, ◌++◌, length, Option, Some, None, is_some, unwrap_or, ap, sym, refl, ◌∙◌, subst, arith, length-append}
use Rattle.std.specs.Option.{option_map}
use Rattle.std.specs.FinMap as map
use Rattle.ufs_model.specs.PosixTree.{PosixTree, Files, IsTree}
use Rattle.ufs_model.specs.FileBytes.{bytes_of}
use Rattle.ufs_model.specs.Laws.{KeepsTrees}
use Rattle.ufs_model.specs.Start.{PathNodes, HasContents, content_of}
use Rattle.ufs_model.specs.History.{IsLegalFrom, tree_after}
use Rattle.ufs_model.proofs.Facts.Live.{HasBytes, held_has}
use Rattle.ufs_model.specs.declared.data.Entry.{Entry}
use Rattle.ufs_model.specs.declared.data.Node.{Node}
use Rattle.ufs_model.specs.declared.data.Node.TheVariants.{Dir, File}
use Rattle.ufs_model.specs.declared.data.PathNode.{PathNode}
use Rattle.ufs_model.specs.declared.data.PathNode.TheVariants as path_node
use Rattle.ufs_crash_laws.specs.Steps.{next_step}
use Rattle.ufs_crash_laws.specs.FileChanges.{all_changed, IsShown}
use Rattle.ufs_crash_laws.specs.Changes.{NameState, change_of, changes_of, names_by, name_changes, names_after, syncs_file, syncs_names, file_synced, names_synced}
use Rattle.ufs_crash_laws.specs.Explained.{IsNodeWith, IsTreeWith, ShowsSynced, IsExplained, IsFileShown, IsShownBy, IsCovering}
use Rattle.ufs_crash_laws.proofs.Facts.Shows.{shown_now, shown_exactly}
use Rattle.ufs_crash_laws.proofs.Facts.Histories.{changes_of-push, name_changes-push, file_synced-push, names_synced-push}
use Rattle.ufs_crash_laws.proofs.Facts.Explains.{tree_weaker, explained_by}
use Rattle.ufs_crash_laws.proofs.Facts.Sessions.{tree_after_is, contents_after, names_last, next_names, file_synced_made, names_synced_made, fsynced_born}

-- ---- bytes in place of numbers

-- a file has the bytes that its number has in the tree
abbrev pub HasBytesOf : Files → ℕ → List ℕ → Type 0
HasBytesOf bytes file v = map.get bytes file ≡ Some v

node_contents : (bytes : Files) (o : Option Node) (p : Option PathNode) → ((file : ℕ) → o ≡ Some (File file) → HasBytes bytes file) → content_of bytes o ≡ p → IsNodeWith (HasBytesOf bytes) o p
node_contents bytes None None live e = tt
node_contents bytes None (Some n) live e = cc
node_contents bytes (Some Dir) None live e = cc
node_contents bytes (Some Dir) (Some path_node.Dir) live e = tt
node_contents bytes (Some Dir) (Some (path_node.File v)) live e = cc
node_contents bytes (Some (File f)) p live e = by (map.get bytes f) refl p e
  where
    by : (o : Option (List ℕ)) → map.get bytes f ≡ o → (p : Option PathNode) → option_map path_node.File (map.get bytes f) ≡ p → IsNodeWith (HasBytesOf bytes) (Some (File f)) p
    by None h p e = let has = live f refl in let none = ap is_some h in cc
    by (Some v) h None e = let some = ap (option_map path_node.File) h in cc
    by (Some v) h (Some path_node.Dir) e = let some = ap (option_map path_node.File) h in cc
    by (Some v) h (Some (path_node.File w)) e = let some = ap (option_map path_node.File) h in cc

contents_node : (bytes : Files) (o : Option Node) (p : Option PathNode) → IsNodeWith (HasBytesOf bytes) o p → content_of bytes o ≡ p
contents_node bytes None None h = refl
contents_node bytes None (Some n) h = absurd h
contents_node bytes (Some Dir) None h = absurd h
contents_node bytes (Some Dir) (Some path_node.Dir) h = refl
contents_node bytes (Some Dir) (Some (path_node.File v)) h = absurd h
contents_node bytes (Some (File f)) None h = absurd h
contents_node bytes (Some (File f)) (Some path_node.Dir) h = absurd h
contents_node bytes (Some (File f)) (Some (path_node.File v)) h = ap (option_map path_node.File) h

-- A tree of paths that stands for a tree has its files' bytes in place of their numbers, and the other way round.
pub tree_contents : (t : PosixTree) → IsTree t → (tree : PathNodes) → HasContents t tree → IsTreeWith (HasBytesOf t.bytes) t.paths tree
tree_contents t is tree same path = node_contents t.bytes (map.get t.paths path) (map.get tree path) (λ file at. held_has t is file (inl (path, at))) (same path)

pub contents_tree : (t : PosixTree) (tree : PathNodes) → IsTreeWith (HasBytesOf t.bytes) t.paths tree → HasContents t tree
contents_tree t tree shown path = contents_node t.bytes (map.get t.paths path) (map.get tree path) (shown path)

-- ---- the whole history

-- all changes of a file
abbrev pub all_files : PosixTree → List Entry → ℕ → ℕ
all_files start history file = length (changes_of file start history)

module _ (keeps : KeepsTrees) (start : PosixTree) (is : IsTree start) (history : List Entry) (legal : IsLegalFrom 0 start history) where
  last : PosixTree
  last = tree_after start history

  last_is : IsTree (tree_after start history)
  last_is = tree_after_is keeps 0 start is history legal

  bytes_now : (file : ℕ) (v : List ℕ) → map.get (tree_after start history).bytes file ≡ Some v → v ≡ all_changed (bytes_of start.bytes file) (changes_of file start history)
  bytes_now file v at = sym (ap (λ o. unwrap_or o []) at) ∙ (contents_after keeps 0 start is history legal file (ap is_some at)).1

  -- The last tree shows all changes.
  pub last_shown : (tree : PathNodes) → HasContents (tree_after start history) tree → IsShownBy start history (length (name_changes start history)) (all_files start history) tree
  last_shown tree same = record {
    made = omega arith;
    shown = subst (λ (n : NameState). IsTreeWith (IsFileShown start history (all_files start history)) n.paths tree) (sym (names_last start history legal))
        (tree_weaker (HasBytesOf (tree_after start history).bytes) (IsFileShown start history (all_files start history)) (tree_after start history).paths tree
        (λ path file bytes at there has. subst (IsShown (bytes_of start.bytes file) (changes_of file start history) (all_files start history file)) (sym (bytes_now file bytes has)) (shown_now (bytes_of start.bytes file) (changes_of file start history)))
        (tree_contents (tree_after start history) last_is tree same));
  }

  -- All changes cover what is acknowledged.
  pub last_covers : IsCovering start history (length (name_changes start history)) (all_files start history)
  last_covers = record {
    synced = names_synced_made start history;
    born = λ file e. subst (λ (n : NameState). file < n.next) (sym (names_last start history legal)) (fsynced_born keeps 0 start is history legal file e);
    each = λ file. file_synced_made file start history;
  }

  -- What a closing leaves, the last tree, is explained.
  pub last_explained : (tree : PathNodes) → HasContents (tree_after start history) tree → IsExplained tree start history
  last_explained tree same = explained_by start history (length (name_changes start history)) (all_files start history) tree last_covers (last_shown tree same)

  file_exactly : (file : ℕ) (bytes : List ℕ) → HasBytes (tree_after start history).bytes file → IsShown (bytes_of start.bytes file) (changes_of file start history) (length (changes_of file start history)) bytes
      → HasBytesOf (tree_after start history).bytes file bytes
  file_exactly file bytes has shown = by (map.get (tree_after start history).bytes file) refl
    where
      by : (o : Option (List ℕ)) → map.get (tree_after start history).bytes file ≡ o → map.get (tree_after start history).bytes file ≡ Some bytes
      by None e = let none = ap is_some e in cc
      by (Some v) e = e ∙ ap Some (bytes_now file v e ∙ sym (shown_exactly (bytes_of start.bytes file) (changes_of file start history) bytes shown))

  -- With all changes nothing else is shown.
  pub shown_exactly_last : (tree : PathNodes) → IsShownBy start history (length (name_changes start history)) (all_files start history) tree → HasContents (tree_after start history) tree
  shown_exactly_last tree shows =
      contents_tree (tree_after start history) tree
      (tree_weaker (IsFileShown start history (all_files start history)) (HasBytesOf (tree_after start history).bytes) (tree_after start history).paths tree
      (λ path file bytes at there shown. file_exactly file bytes (held_has (tree_after start history) last_is file (inl (path, at))) shown)
      (subst (λ (n : NameState). IsTreeWith (IsFileShown start history (all_files start history)) n.paths tree) (names_last start history legal) shows.shown))

  -- numbers of names go on, as each file's do
  pub covering_more : (names more : ℕ) (files others : ℕ → ℕ) → names ≤ more → more ≤ length (name_changes start history) → ((file : ℕ) → files file ≤ others file) → IsCovering start history names files → IsCovering start history more others
  covering_more names more files others le made each covers = record {
    synced = omega (arith, covers.synced);
    born = λ file e. let below = covers.born file e in omega (arith, below, next_names start history legal names more le made);
    each = λ file. omega (arith, covers.each file, each file);
  }

-- The opening tree is explained by the empty history.
pub start_explained : KeepsTrees → (start : PosixTree) → IsTree start → (tree : PathNodes) → HasContents start tree → IsExplained tree start []
start_explained keeps start is tree same = last_explained keeps start is [] tt tree same

-- ---- after an acknowledged `sync` or `fsync`

-- Right after an acknowledged `sync` only the tree itself is explained.
pub synced_exactly : KeepsTrees → (start : PosixTree) → IsTree start → (history : List Entry) (entry : Entry) → IsLegalFrom 0 start (history ++ entry ∷ [])
    → syncs_names (next_step start history entry) ≡ true → ((file : ℕ) → syncs_file file (next_step start history entry) ≡ true)
    → names_by (next_step start history entry) ≡ [] → ((file : ℕ) → change_of file (next_step start history entry) ≡ [])
    → (tree : PathNodes) → IsExplained tree start (history ++ entry ∷ []) → HasContents (tree_after start (history ++ entry ∷ [])) tree
synced_exactly keeps start is history entry legal syncs each no_names none tree explained =
    shown_exactly_last keeps start is more legal tree (record {
      made = omega arith;
      shown = subst (λ (count : ℕ). IsTreeWith (IsFileShown start more (all_files start more)) (names_after start more count).paths tree) all_names
          (tree_weaker (λ file bytes. ShowsSynced (bytes_of start.bytes file) (changes_of file start more) (file_synced file start more) bytes) (IsFileShown start more (all_files start more)) (names_after start more explained.names).paths tree
          (λ path file bytes at there shows. all_of_file file bytes shows) explained.shown);
    })
  where
    more : List Entry
    more = history ++ entry ∷ []

    all_names : explained.names ≡ length (name_changes start (history ++ entry ∷ []))
    all_names =
        let synced = names_synced-push start history entry ∙ ap (λ b. cond b (length (name_changes start history)) (names_synced start history)) syncs in
        let same = name_changes-push start history entry ∙ ap (λ ns. name_changes start history ++ ns) no_names in
        omega (arith, synced, ap length same, length-append (name_changes start history) [], explained.synced, explained.made)

    all_of_file : (file : ℕ) (bytes : List ℕ) → ShowsSynced (bytes_of start.bytes file) (changes_of file start (history ++ entry ∷ [])) (file_synced file start (history ++ entry ∷ [])) bytes
        → IsFileShown start (history ++ entry ∷ []) (all_files start (history ++ entry ∷ [])) file bytes
    all_of_file file bytes shows =
        let synced = file_synced-push file start history entry ∙ ap (λ b. cond b (length (changes_of file start history)) (file_synced file start history)) (each file) in
        let same = changes_of-push file start history entry ∙ ap (λ cs. changes_of file start history ++ cs) (none file) in
        let at : shows.count ≡ length (changes_of file start (history ++ entry ∷ [])) = omega (arith, synced, ap length same, length-append (changes_of file start history) [], shows.covers, shows.shown.made) in
        subst (λ count. IsShown (bytes_of start.bytes file) (changes_of file start (history ++ entry ∷ [])) count bytes) at shows.shown

-- Right after an acknowledged `fsync` of a file it shows its bytes, and none else, wherever it stands.
pub fsynced_exactly : KeepsTrees → (start : PosixTree) → IsTree start → (history : List Entry) (entry : Entry) → IsLegalFrom 0 start (history ++ entry ∷ []) → (file : ℕ)
    → syncs_file file (next_step start history entry) ≡ true → change_of file (next_step start history entry) ≡ []
    → (bytes : List ℕ) → ShowsSynced (bytes_of start.bytes file) (changes_of file start (history ++ entry ∷ [])) (file_synced file start (history ++ entry ∷ [])) bytes
    → bytes ≡ all_changed (bytes_of start.bytes file) (changes_of file start (history ++ entry ∷ []))
fsynced_exactly keeps start is history entry legal file syncs none bytes shows =
    shown_exactly (bytes_of start.bytes file) (changes_of file start (history ++ entry ∷ [])) bytes
    (subst (λ count. IsShown (bytes_of start.bytes file) (changes_of file start (history ++ entry ∷ [])) count bytes) at shows.shown)
  where
    same : changes_of file start (history ++ entry ∷ []) ≡ changes_of file start history ++ []
    same = changes_of-push file start history entry ∙ ap (λ more. changes_of file start history ++ more) none

    synced : file_synced file start (history ++ entry ∷ []) ≡ length (changes_of file start history)
    synced = file_synced-push file start history entry ∙ ap (λ b. cond b (length (changes_of file start history)) (file_synced file start history)) syncs

    at : shows.count ≡ length (changes_of file start (history ++ entry ∷ []))
    at = omega (arith, synced, ap length same, length-append (changes_of file start history) [], shows.covers, shows.shown.made)
