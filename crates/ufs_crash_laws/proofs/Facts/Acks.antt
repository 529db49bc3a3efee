-- When the next entry's acknowledgement is covered, by kinds of entry.
use Rattle.std.proofs.Common.{◌≡◌, ◌≤◌, ◌<◌, ℕ, Bool, true, false, ◌&&◌, ◌||◌, List, length, Some, None, is_none, ap, sym, refl, ◌∙◌, subst}
use Rattle.std.proofs.lemmas.Bool.{eqb-true}
use Rattle.ufs_model.specs.PosixTree.{PosixTree, is_number}
use Rattle.ufs_model.specs.Descriptors.{opened}
use Rattle.ufs_model.specs.History.{tree_after}
use Rattle.ufs_model.specs.declared.data.Entry.{Entry}
use Rattle.ufs_model.specs.declared.data.Op.TheVariants as op
use Rattle.ufs_crash_laws.specs.Steps.{Step, is_ok, next_step}
use Rattle.ufs_crash_laws.specs.Changes.{name_changes, changes_of, names_after, asks_sync, asks_dir_fsync, asks_fsync, asks_commit, is_fsync_of, syncs_file, syncs_names}
use Rattle.ufs_crash_laws.specs.Explained.{IsAckCovered}
use Rattle.ufs_crash_laws.proofs.Facts.Kinds.{file_unsynced, names_unsynced, not_fsynced, asks_none}

both_false : (a b c : Bool) → b ≡ false → c ≡ false → (a && (b || c)) ≡ false
both_false true b c e f = λ i. e i || f i
both_false false b c e f = refl

no_true : (b : Bool) → b ≡ false → b ≡ true → ⊥
no_true b e f = cc

module _ (start : PosixTree) (history : List Entry) (entry : Entry) (names : ℕ) (files : ℕ → ℕ) where
  abbrev step : Step
  step = next_step start history entry

  -- nothing is acknowledged
  silent : ((file : ℕ) → syncs_file file (next_step start history entry) ≡ false) → syncs_names (next_step start history entry) ≡ false → ((file : ℕ) → is_fsync_of file (next_step start history entry) ≡ false) → IsAckCovered start history entry names files
  silent each all born = record {
    synced = λ e. absurd (no_true _ all e);
    born = λ file e. absurd (no_true _ (born file) e);
    each = λ file e. absurd (no_true _ (each file) e);
  }

  -- a reply that isn't `ok`: a refusal, an excuse, a read, a write
  pub not_ok_covered : is_ok entry.reply ≡ false → IsAckCovered start history entry names files
  not_ok_covered not =
      silent (λ file. file_unsynced (next_step start history entry) file not) (names_unsynced (next_step start history entry) not) (λ file. not_fsynced (next_step start history entry) file not)

  -- a request that isn't `fsync` or `sync`
  pub no_commit_covered : asks_commit entry.op ≡ false → IsAckCovered start history entry names files
  no_commit_covered not = silent (λ file. each file) all (λ file. born file)
    where
      none : (file : ℕ) → (asks_fsync file (tree_after start history) entry.client entry.op ≡ false) × (asks_dir_fsync (tree_after start history) entry.client entry.op ≡ false) × (asks_sync entry.op ≡ false)
      none file = asks_none (tree_after start history) entry.client entry.op file not

      each : (file : ℕ) → syncs_file file (next_step start history entry) ≡ false
      each file = both_false (is_ok entry.reply) _ _ (none file).0 (none file).2

      all : syncs_names (next_step start history entry) ≡ false
      all = both_false (is_ok entry.reply) _ _ (none 0).1 (none 0).2

      born : (file : ℕ) → is_fsync_of file (next_step start history entry) ≡ false
      born file = by (is_ok entry.reply)
        where
          by : (b : Bool) → (b && asks_fsync file (tree_after start history) entry.client entry.op) ≡ false
          by true = (none file).0
          by false = refl

  right : (a b : Bool) → (a && b) ≡ true → b ≡ true
  right true b e = e
  right false b e = cc

  -- an `fsync` of a file: its changes so far are covered, and its birth is
  pub fsync_covered : (fd file : ℕ) → entry.op ≡ op.Fsync fd → (opened (tree_after start history) entry.client fd).file ≡ Some file
      → length (changes_of file start history) ≤ files file → file < (names_after start history names).next → IsAckCovered start history entry names files
  fsync_covered fd file asked on synced born = record {
    synced = λ e. absurd (no_dir (right (is_ok entry.reply) _ (subst (λ o. (is_ok entry.reply && (asks_dir_fsync (tree_after start history) entry.client o || asks_sync o)) ≡ true) asked e)));
    born = λ other e. subst (λ f. f < (names_after start history names).next) (same other (right (is_ok entry.reply) _ (subst (λ o. (is_ok entry.reply && asks_fsync other (tree_after start history) entry.client o) ≡ true) asked e))) born;
    each = λ other e. subst (λ f. length (changes_of f start history) ≤ files f) (same other (or_left _ (right (is_ok entry.reply) _ (subst (λ o. (is_ok entry.reply && (asks_fsync other (tree_after start history) entry.client o || asks_sync o)) ≡ true) asked e)))) synced;
  }
    where
      or_left : (b : Bool) → (b || false) ≡ true → b ≡ true
      or_left true e = refl
      or_left false e = cc

      no_dir : (is_none (opened (tree_after start history) entry.client fd).file || false) ≡ true → ⊥
      no_dir e = let none : (is_none (Some file) || false) ≡ true = ap (λ o. is_none o || false) (sym on) ∙ e in cc

      same : (other : ℕ) → is_number other (opened (tree_after start history) entry.client fd).file ≡ true → file ≡ other
      same other e = eqb-true file other (ap (is_number other) (sym on) ∙ e)

  -- an `fsync` of a directory: the changes of names so far are covered
  pub dir_fsync_covered : (fd : ℕ) → entry.op ≡ op.Fsync fd → (opened (tree_after start history) entry.client fd).file ≡ None → length (name_changes start history) ≤ names → IsAckCovered start history entry names files
  dir_fsync_covered fd asked on synced = record {
    synced = λ e. synced;
    born = λ other e. absurd (no_file other (right (is_ok entry.reply) _ (subst (λ o. (is_ok entry.reply && asks_fsync other (tree_after start history) entry.client o) ≡ true) asked e)));
    each = λ other e. absurd (no_file other (or_left _ (right (is_ok entry.reply) _ (subst (λ o. (is_ok entry.reply && (asks_fsync other (tree_after start history) entry.client o || asks_sync o)) ≡ true) asked e))));
  }
    where
      or_left : (b : Bool) → (b || false) ≡ true → b ≡ true
      or_left true e = refl
      or_left false e = cc

      no_file : (other : ℕ) → is_number other (opened (tree_after start history) entry.client fd).file ≡ true → ⊥
      no_file other e = let none : is_number other None ≡ true = ap (is_number other) (sym on) ∙ e in cc

  -- a `sync`: all changes so far are covered
  pub sync_covered : entry.op ≡ op.Sync → length (name_changes start history) ≤ names → ((file : ℕ) → length (changes_of file start history) ≤ files file) → IsAckCovered start history entry names files
  sync_covered asked synced each = record {
    synced = λ e. synced;
    born = λ other e. absurd (no_file (is_ok entry.reply) (subst (λ o. (is_ok entry.reply && asks_fsync other (tree_after start history) entry.client o) ≡ true) asked e));
    each = λ other e. each other;
  }
    where
      no_file : (b : Bool) → (b && false) ≡ true → ⊥
      no_file true e = cc
      no_file false e = cc
