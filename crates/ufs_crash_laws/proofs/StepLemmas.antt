-- The laws on single steps, from the facts.
use Rattle.std.proofs.Common.{◌≡◌, ◌≤◌, ℕ, ◌⊎◌, inl, inr, List, length, take, drop, Option, Some, ap, sym, subst, arith, length-append}
use Rattle.std.specs.FinMap as map
use Rattle.std.proofs.lemmas.List.{take-append-drop}
use Rattle.ufs_model.specs.PosixTree.{Paths}
use Rattle.ufs_model.specs.FileBytes.{bytes_of}
use Rattle.ufs_model.specs.Start.{PathNodes}
use Rattle.ufs_model.specs.Laws.{KeepsTrees, Locality}
use Rattle.ufs_model.specs.History.{IsLegalFrom, tree_after}
use Rattle.ufs_model.specs.declared.data.Entry.{Entry}
use Rattle.ufs_model.specs.declared.data.Node.{Node}
use Rattle.ufs_model.specs.declared.data.Node.TheVariants.{File}
use Rattle.ufs_model.specs.declared.data.PathNode.{PathNode}
use Rattle.ufs_model.specs.declared.data.PathNode.TheVariants as path_node
use Rattle.ufs_crash_laws.specs.FileChanges.{all_changed}
use Rattle.ufs_crash_laws.specs.Changes.{changes_of, name_changes, names_after, file_synced}
use Rattle.ufs_crash_laws.specs.Explained.{IsNodeWith, IsTreeWith, ShowsSynced, IsFileShown, IsCovering}
use Rattle.ufs_crash_laws.specs.StepLaws.{EntriesKeepShown, OthersAcknowledgeNothing, IsSameBut, HasFileWith, FilesAreExplainedAlone, ChangesAreLocal, FileCommitsAreShown, NameCommitsAreShown, CommitsAreExplained, IsWrittenBack, WrittenBackIsShown, WrittenBackTreesAreShown, EntriesAreKept, WriteBacksAreKept, FileCommitsAreKept, NameCommitsAreKept, UnnamedFilesAreKept}
use Rattle.ufs_crash_laws.proofs.Facts.Shows.{shown_written_back}
use Rattle.ufs_crash_laws.proofs.Facts.Histories.{name_changes-append}
use Rattle.ufs_crash_laws.proofs.Facts.Explains.{node_weaker, shown_by-append, committed_file, written_back}
use Rattle.ufs_crash_laws.proofs.Facts.Sessions.{front_legal}
use Rattle.ufs_crash_laws.proofs.Facts.Ends.{covering_more}
use Rattle.ufs_crash_laws.proofs.Facts.Between.{more_of, explained_from}
use Rattle.ufs_crash_laws.proofs.Facts.Acks.{not_ok_covered, no_commit_covered}
use Rattle.ufs_crash_laws.proofs.Facts.Local.{file_alike, names_alike}
use Rattle.ufs_crash_laws.proofs.Facts.Stores.{stored_opens, stored_names}
use Rattle.ufs_crash_laws.proofs.Facts.Keeps.{kept-push, kept_written_back, kept_committed_file, kept_committed_names, kept_unnamed}

-- ---- one more entry

pub keep_shown : EntriesKeepShown
keep_shown start history entry = shown_by-append start history _

pub others_nothing : OthersAcknowledgeNothing
others_nothing start history entry names files (inl not) = not_ok_covered start history entry names files not
others_nothing start history entry names files (inr not) = no_commit_covered start history entry names files not

-- ---- one file by itself

-- A tree where a file gets other bytes that are allowed.
module _ (Has More : ℕ → List ℕ → Type 0) (paths : Paths) (file : ℕ) (old new : PathNodes) (alike : IsSameBut paths file old new) (here : HasFileWith (More file) paths file new)
    (weaker : (other : ℕ) (bytes : List ℕ) → Has other bytes → More other bytes) where
  pub one_file_more : IsTreeWith Has paths old → IsTreeWith More paths new
  one_file_more shown path = by (alike path)
    where
      by : (map.get new path ≡ map.get old path) ⊎ (map.get paths path ≡ Some (File file)) → IsNodeWith More (map.get paths path) (map.get new path)
      by (inl same) = node_weaker Has More (map.get paths path) (map.get new path) (λ other bytes _ _ has. weaker other bytes has) (subst (IsNodeWith Has (map.get paths path)) (sym same) (shown path))
      by (inr named) =
          let there = here path named in
          subst (λ (x : Option Node × Option PathNode). IsNodeWith More x.0 x.1) (λ i. (sym named i, sym there.1 i)) there.2

pub explained_alone : FilesAreExplainedAlone
explained_alone start history file old new is alike here = record {
  names = is.names;
  made = is.made;
  synced = is.synced;
  born = is.born;
  shown = one_file_more Shows Shows (names_after start history is.names).paths file old new alike here (λ other bytes has. has) is.shown;
}
  where
    Shows : ℕ → List ℕ → Type 0
    Shows other bytes = ShowsSynced (bytes_of start.bytes other) (changes_of other start history) (file_synced other start history) bytes

pub local : Locality → ChangesAreLocal
local locality t u entry is is' legal agree = ((λ file. file_alike t u entry legal agree file), names_alike locality t u is is' entry legal agree)

-- ---- commits

pub commits_shown : FileCommitsAreShown
commits_shown start history names files more file old new = committed_file start history names files more file old new

pub name_commits_shown : NameCommitsAreShown
name_commits_shown start history names more files content old new le made stored before after =
    (stored_opens start history names files content old stored before, stored_opens start history more files content new (stored_names start history names more files content le made stored) after)

pub commits_explained : KeepsTrees → CommitsAreExplained
commits_explained keeps start history from to names more files others old new is legal le each covers before after =
    (explained_from start history from to names files old before covers, λ count low high. explained_from start history from to more others new after (covers_more (omega (arith, low, high))) count low high)
  where
    front : IsLegalFrom 0 start (take to history)
    front = front_legal 0 start (take to history) (drop to history) (subst (IsLegalFrom 0 start) (sym (take-append-drop to history)) legal.entries)

    longer : from ≤ to → more ≤ length (name_changes start (take to history))
    longer up =
        let whole = ap (λ (h : List Entry). length (name_changes start h)) (more_of history from to up) in
        let parts = ap length (name_changes-append start (take from history) (drop from (take to history))) in
        let made = after.made in
        omega (arith, whole, parts, made, length-append (name_changes start (take from history)) (name_changes (tree_after start (take from history)) (drop from (take to history))))

    covers_more : from ≤ to → IsCovering start (take to history) more others
    covers_more up = covering_more keeps start is (take to history) front names more files others le (longer up) each covers

-- ---- bytes that are written back early

pub back_shown : WrittenBackIsShown
back_shown opening changes count before after shown back = shown_written_back opening changes count before after shown back.0 back.1

pub back_trees : WrittenBackTreesAreShown
back_trees start history names files old new back =
    written_back start history names files old new (λ path. by path (back path))
  where
    by : (path : List ℕ) → (map.get new path ≡ map.get old path) ⊎ ((before : List ℕ) × (after : List ℕ) × (map.get old path ≡ Some (path_node.File before)) × (map.get new path ≡ Some (path_node.File after))
        × ((file : ℕ) → map.get (names_after start history names).paths path ≡ Some (File file) → IsWrittenBack (all_changed (bytes_of start.bytes file) (changes_of file start history)) before after))
        → (map.get new path ≡ map.get old path) ⊎ ((before : List ℕ) × (after : List ℕ) × (map.get old path ≡ Some (path_node.File before)) × (map.get new path ≡ Some (path_node.File after))
        × ((file : ℕ) → map.get (names_after start history names).paths path ≡ Some (File file) → IsFileShown start history files file before → IsFileShown start history files file after))
    by path (inl same) = inl same
    by path (inr is) = inr (is.0, is.1, is.2, is.3, λ file named shown. back_shown (bytes_of start.bytes file) (changes_of file start history) (files file) is.0 is.1 shown (is.4 file named))

-- ---- a store

pub entries_kept : KeepsTrees → EntriesAreKept
entries_kept keeps start history entry names files content is legal = kept-push keeps start is history entry legal.entries names files content

pub backs_kept : WriteBacksAreKept
backs_kept start history names files content after file made apart shown back kept =
    kept_written_back start history names files content kept file made after (λ other. by other (apart other)) shown back.0 back.1
  where
    by : (other : ℕ) → (other ≡ file) ⊎ ((files other ≡ files other) × (content other ≡ after other)) → (other ≡ file) ⊎ (content other ≡ after other)
    by other (inl e) = inl e
    by other (inr same) = inr same.1

pub file_commits_kept : FileCommitsAreKept
file_commits_kept start history names files others content after file made apart below all now kept =
    kept_committed_file start history names files content kept file made others after apart below all now

pub name_commits_kept : KeepsTrees → NameCommitsAreKept
name_commits_kept keeps start history names more files content is legal le made kept =
    kept_committed_names start history names files content kept keeps is legal.entries more le made

pub unnamed_kept : UnnamedFilesAreKept
unnamed_kept start history names files others content after same grows fresh kept = kept_unnamed start history names files content kept others after same grows fresh
