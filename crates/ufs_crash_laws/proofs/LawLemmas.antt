-- The laws, from the facts.
use Rattle.std.proofs.Common.{◌≡◌, ℕ, Bool, true, false, cond, ◌&&◌, ◌||◌, List, [], ◌∷◌, ◌++◌, Some, is_some, unwrap_or, ap, sym, refl, ◌∙◌, subst}
use Rattle.std.specs.FinMap as map
use Rattle.std.proofs.lemmas.Bool.{and_parts}
use Rattle.std.proofs.lemmas.List.{append-nil}
use Rattle.ufs_model.specs.PosixTree.{PosixTree, is_number}
use Rattle.ufs_model.specs.FileBytes.{bytes_of}
use Rattle.ufs_model.specs.Laws.{KeepsTrees, RenameLeaves}
use Rattle.ufs_model.specs.History.{IsLegalFrom, goes_on, tree_after}
use Rattle.ufs_model.specs.declared.data.Op.{Op}
use Rattle.ufs_model.specs.declared.data.Op.TheVariants as op
use Rattle.ufs_model.specs.declared.data.PathNode.TheVariants as path_node
use Rattle.ufs_crash_laws.specs.FileChanges.{all_changed}
use Rattle.ufs_crash_laws.specs.Steps.{Step, is_served, is_ok, next_step}
use Rattle.ufs_crash_laws.specs.Changes.{names_of, change_asked, file_changed, change_of, changes_of, changes_names, names_after, asks_fsync, asks_sync, asks_dir_fsync, file_synced}
use Rattle.ufs_crash_laws.specs.Explained.{ShowsSynced}
use Rattle.ufs_crash_laws.specs.Laws.{NamesGoByChanges, BytesGoByChanges, NameChangesAreExact, SyncsCountFiles, SyncsCountNames, PlacesShowChanges, SyncedBytesStand, OpeningsAreExplained, EndsAreExplained, ExplainedMeanwhile, SyncsAreExact, FsyncsAreExact, FsyncedFilesAreThere, SyncedBytesAreThere}
use Rattle.ufs_crash_laws.proofs.Facts.Histories.{changes_of-push}
use Rattle.ufs_crash_laws.proofs.Facts.Counts.{files_covered, covered_files, names_covered, covered_names}
use Rattle.ufs_crash_laws.proofs.Facts.Sessions.{tree_after_is, contents_after, names_then, bytes_then, fsynced_live, front_legal}
use Rattle.ufs_crash_laws.proofs.Facts.Explains.{file_there}
use Rattle.ufs_crash_laws.proofs.Facts.Places.{may_show_listed, listed_may_show, untouched_stands}
use Rattle.ufs_crash_laws.proofs.Facts.Differ.{no_change_still, still_no_change}
use Rattle.ufs_crash_laws.proofs.Facts.Ends.{last_explained, start_explained, synced_exactly, fsynced_exactly}
use Rattle.ufs_crash_laws.proofs.Facts.Between.{explained_from}

pub names_go : NamesGoByChanges
names_go start history more legal = names_then start history more legal.entries

pub bytes_go : KeepsTrees → BytesGoByChanges
bytes_go keeps start history more file bytes is legal at = bytes_then keeps start is history more legal.entries file (ap is_some at) ∙ ap (λ o. unwrap_or o []) at

pub exact : RenameLeaves → NameChangesAreExact
exact leaves t entry is legal = (no_change_still t entry legal, still_no_change leaves t is entry legal)

pub count_files : SyncsCountFiles
count_files start history file count = (files_covered start history file count, covered_files start history file count)

pub count_names : SyncsCountNames
count_names start history count = (names_covered start history count, covered_names start history count)

pub places_show : PlacesShowChanges
places_show opening changes count place byte made = (may_show_listed opening changes count place byte, listed_may_show opening changes count place byte made)

pub bytes_stand : SyncedBytesStand
bytes_stand opening changes synced bytes place shows none below = untouched_stands opening changes synced bytes place none below shows

pub openings : KeepsTrees → OpeningsAreExplained
openings keeps start tree is same = start_explained keeps start is tree same

pub ends : KeepsTrees → EndsAreExplained
ends keeps start history tree is legal same = last_explained keeps start is history legal.entries tree same

pub meanwhile : ExplainedMeanwhile
meanwhile = explained_from

-- ---- what is acknowledged

-- a request that changes neither names nor bytes
nothing_changed : (request : Op) (s : Step) → s.entry.op ≡ request → ((file : ℕ) → (is_served s.entry.reply && is_number file (file_changed s.before s.entry.client request)) ≡ false) → (file : ℕ) → change_of file s ≡ []
nothing_changed request s e none file =
    ap (λ b. cond b (change_asked s.before s.entry.client s.entry.op) []) (ap (λ o. is_served s.entry.reply && is_number file (file_changed s.before s.entry.client o)) e ∙ none file)

and_false : (b : Bool) → (b && false) ≡ false
and_false true = refl
and_false false = refl

or_true : (b : Bool) → (b || true) ≡ true
or_true true = refl
or_true false = refl

pub syncs : KeepsTrees → SyncsAreExact
syncs keeps start history entry tree is legal asked told = (
  λ explained. synced_exactly keeps start is history entry legal.entries
      ((λ i. is_ok (told i) && (asks_dir_fsync (tree_after start history) entry.client (asked i) || asks_sync (asked i))) ∙ refl)
      (λ file. (λ i. is_ok (told i) && (asks_fsync file (tree_after start history) entry.client (asked i) || asks_sync (asked i))) ∙ refl)
      (ap (λ b. cond b (names_of (goes_on (tree_after start history) entry) ∷ []) []) (ap (λ o. is_served entry.reply && changes_names (tree_after start history) o) asked ∙ and_false (is_served entry.reply)))
      (nothing_changed op.Sync (next_step start history entry) asked (λ file. and_false (is_served entry.reply)))
      tree explained,
  last_explained keeps start is (history ++ entry ∷ []) legal.entries tree,
)

-- an `fsync` changes no bytes
fsync_still : (t : PosixTree) (client : ℕ) (request : Op) (file other : ℕ) → asks_fsync file t client request ≡ true → is_number other (file_changed t client request) ≡ false
fsync_still t client (op.OpenFile path read write creat excl trunc append) file other e = cc
fsync_still t client (op.Close fd) file other e = refl
fsync_still t client (op.Read fd n) file other e = refl
fsync_still t client (op.Write fd data') file other e = cc
fsync_still t client (op.Pread fd n at) file other e = refl
fsync_still t client (op.Pwrite fd data' at) file other e = cc
fsync_still t client (op.Seek fd from by) file other e = refl
fsync_still t client (op.Trunc fd size) file other e = cc
fsync_still t client (op.Fsync fd) file other e = refl
fsync_still t client op.Sync file other e = refl
fsync_still t client (op.Mkdir path) file other e = refl
fsync_still t client (op.Rmdir path) file other e = refl
fsync_still t client (op.Unlink path) file other e = refl
fsync_still t client (op.Rename from to) file other e = refl
fsync_still t client (op.Stat path) file other e = refl
fsync_still t client (op.List path) file other e = refl

pub fsyncs : KeepsTrees → FsyncsAreExact
fsyncs keeps start history entry file tree is legal asked explained path at =
    there.1 ∙ ap (λ bytes. Some (path_node.File bytes))
    (fsynced_exactly keeps start is history entry legal.entries file ((λ i. parts.0 i && (parts.1 i || asks_sync entry.op)) ∙ refl) none there.0 there.2
    ∙ ap (all_changed (bytes_of start.bytes file)) (changes_of-push file start history entry ∙ ap (λ more. changes_of file start history ++ more) none ∙ append-nil _)
    ∙ sym (contents_after keeps 0 start is history before file (fsynced_live (tree_after start history) (tree_after_is keeps 0 start is history before) entry.client entry.op file parts.1)).1)
  where
    parts : (is_ok entry.reply ≡ true) × (asks_fsync file (tree_after start history) entry.client entry.op ≡ true)
    parts = and_parts _ _ asked

    before : IsLegalFrom 0 start history
    before = front_legal 0 start history (entry ∷ []) legal.entries

    none : change_of file (next_step start history entry) ≡ []
    none = nothing_changed entry.op (next_step start history entry) refl (λ other. ap (λ b. is_served entry.reply && b) (fsync_still (tree_after start history) entry.client entry.op file other parts.1) ∙ and_false (is_served entry.reply)) file

    there : (bytes : List ℕ) × (map.get tree path ≡ Some (path_node.File bytes)) × ShowsSynced (bytes_of start.bytes file) (changes_of file start (history ++ entry ∷ [])) (file_synced file start (history ++ entry ∷ [])) bytes
    there = file_there _ (map.get (names_after start (history ++ entry ∷ []) explained.names).paths path) (map.get tree path) file at (explained.shown path)

-- ---- what was synced before

pub synced_there : SyncedBytesAreThere
synced_there start history file path tree is bytes named there place below none =
    let shown = file_there _ (map.get (names_after start history is.names).paths path) (map.get tree path) file named (is.shown path) in
    let same : shown.0 ≡ bytes = let e = sym shown.1 ∙ there in cc in
    untouched_stands (bytes_of start.bytes file) (changes_of file start history) (file_synced file start history) bytes place none below
    (subst (ShowsSynced (bytes_of start.bytes file) (changes_of file start history) (file_synced file start history)) same shown.2)

pub fsynced_there : FsyncedFilesAreThere
fsynced_there start history file path tree is fsynced named =
    let shown = file_there _ (map.get (names_after start history is.names).paths path) (map.get tree path) file (named is.names is.made (is.born file fsynced)) (is.shown path) in (shown.0, shown.1)
