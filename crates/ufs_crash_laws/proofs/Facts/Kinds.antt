-- What each kind of request changes, and what it acknowledges, from its reply and the tree before it.
use Rattle.std.proofs.Common.{◌≡◌, ℕ, true, false, cond, ◌&&◌, ◌||◌, [], ◌∷◌, Some, ap, refl, ◌∙◌}
use Rattle.std.proofs.lemmas.Bool.{eq-eqb}
use Rattle.ufs_model.specs.PosixTree.{PosixTree, is_number}
use Rattle.ufs_model.specs.History.{goes_on}
use Rattle.ufs_model.specs.declared.data.Op.{Op}
use Rattle.ufs_model.specs.declared.data.Op.TheVariants as op
use Rattle.ufs_crash_laws.specs.Steps.{Step, is_served, is_ok}
use Rattle.ufs_crash_laws.specs.Changes.{names_of, file_changed, change_asked, change_of, changes_names, names_by, asks_sync, asks_dir_fsync, asks_fsync, asks_commit, is_fsync_of, syncs_file, syncs_names}

module _ (s : Step) where
  -- ---- changes

  -- the file that the request is on has the request's change
  pub this_changes : (file : ℕ) → is_served s.entry.reply ≡ true → file_changed s.before s.entry.client s.entry.op ≡ Some file → change_of file s ≡ change_asked s.before s.entry.client s.entry.op
  this_changes file served on = (λ i. cond (served i && is_number file (on i)) (change_asked s.before s.entry.client s.entry.op) []) ∙ ap (λ b. cond b (change_asked s.before s.entry.client s.entry.op) []) (eq-eqb file file refl)

  -- an entry that is refused or excused changes nothing
  pub unserved_stays : (file : ℕ) → is_served s.entry.reply ≡ false → change_of file s ≡ []
  unserved_stays file not = ap (λ b. cond (b && is_number file (file_changed s.before s.entry.client s.entry.op)) (change_asked s.before s.entry.client s.entry.op) []) not

  pub unserved_names : is_served s.entry.reply ≡ false → names_by s ≡ []
  unserved_names not = ap (λ b. cond (b && changes_names s.before s.entry.op) (names_of (goes_on s.before s.entry) ∷ []) []) not

  -- ---- acknowledgements

  -- any reply but `ok` acknowledges nothing
  pub file_unsynced : (file : ℕ) → is_ok s.entry.reply ≡ false → syncs_file file s ≡ false
  file_unsynced file not = ap (λ b. b && (asks_fsync file s.before s.entry.client s.entry.op || asks_sync s.entry.op)) not

  pub names_unsynced : is_ok s.entry.reply ≡ false → syncs_names s ≡ false
  names_unsynced not = ap (λ b. b && (asks_dir_fsync s.before s.entry.client s.entry.op || asks_sync s.entry.op)) not

  pub not_fsynced : (file : ℕ) → is_ok s.entry.reply ≡ false → is_fsync_of file s ≡ false
  not_fsynced file not = ap (λ b. b && asks_fsync file s.before s.entry.client s.entry.op) not

-- and so does any request but `fsync` and `sync`
pub asks_none : (t : PosixTree) (client : ℕ) (request : Op) (file : ℕ) → asks_commit request ≡ false → (asks_fsync file t client request ≡ false) × (asks_dir_fsync t client request ≡ false) × (asks_sync request ≡ false)
asks_none t client (op.OpenFile path read write creat excl trunc append) file e = (refl, refl, refl)
asks_none t client (op.Close fd) file e = (refl, refl, refl)
asks_none t client (op.Read fd n) file e = (refl, refl, refl)
asks_none t client (op.Write fd data') file e = (refl, refl, refl)
asks_none t client (op.Pread fd n at) file e = (refl, refl, refl)
asks_none t client (op.Pwrite fd data' at) file e = (refl, refl, refl)
asks_none t client (op.Seek fd from by) file e = (refl, refl, refl)
asks_none t client (op.Trunc fd size) file e = (refl, refl, refl)
asks_none t client (op.Fsync fd) file e = cc
asks_none t client op.Sync file e = cc
asks_none t client (op.Mkdir path) file e = (refl, refl, refl)
asks_none t client (op.Rmdir path) file e = (refl, refl, refl)
asks_none t client (op.Unlink path) file e = (refl, refl, refl)
asks_none t client (op.Rename from to) file e = (refl, refl, refl)
asks_none t client (op.Stat path) file e = (refl, refl, refl)
asks_none t client (op.List path) file e = (refl, refl, refl)
