-- Counts that have what is known cover what is acknowledged of it.
use Rattle.std.proofs.Common.{◌≡◌, ℕ, ◌<◌, ◌≤◌, List, [], ◌∷◌, ◌++◌, Bool, Some, None, true, false, length, ap, sym, refl, subst, arith}
use Rattle.std.specs.Prelude.{◌==◌, if◌then◌else◌}
use Rattle.std.proofs.lemmas.Bool.Decides.{nat_tests}
use Rattle.ufs_ledger.specs.Kept.{Counts}
use Rattle.ufs_model.specs.Descriptors.{opened}
use Rattle.ufs_model.specs.History.{tree_after}
use Rattle.ufs_model.specs.PosixTree.{PosixTree}
use Rattle.ufs_model.specs.declared.data.Entry.{Entry}
use Rattle.ufs_model.specs.declared.data.Op.TheVariants as op
use Rattle.ufs_crash_laws.specs.Changes.{NameState, changes_of, name_changes, names_by}
use Rattle.ufs_crash_laws.specs.Explained.{IsAckCovered}
use Rattle.ufs_crash_laws.specs.StepLaws.{DirFsyncsAcknowledge, FsyncsAcknowledge}
use Rattle.ufs_crash_laws.specs.Steps.{next_step}
use Rattle.ufs_crash_laws.proofs.Facts.Histories.{name_changes-push, names_after-append}
use Rattle.std.proofs.lemmas.List.{length-append}
use Rattle.ufs_file.specs.Hand.{FileState}
use Rattle.ufs_file_commits.specs.Committing.{all_shown}
use Rattle.ufs_promise_laws.specs.Known.{AreNamesKnown, Covers, IsFileKnown, Known, with_file_known}

-- So they do behind one more entry.
pub covers_on : (start : PosixTree) (history : List Entry) (entry : Entry) (k : Counts) (known : Known) → Covers start history k known → Covers start (history ++ entry ∷ []) k known
covers_on start history entry k known c = record {
  made = let more : length (name_changes start (history ++ entry ∷ [])) ≡ length (name_changes start history ++ names_by (next_step start history entry)) = ap (λ (xs : List NameState). length xs) (name_changes-push start history entry) in
      let long = length-append (name_changes start history) (names_by (next_step start history entry)) in
      let was = c.made in
      omega (arith, more, long, was);
  names = c.names;
  files = c.files;
  born = λ file is. subst (λ (n : NameState). file < n.next) (sym (names_after-append start history (entry ∷ []) k.names c.made)) (c.born file is);
}

module _ (start : PosixTree) (history : List Entry) (entry : Entry) (k : Counts) (known : Known) (c : Covers start history k known) where
  pub file_acked : FsyncsAcknowledge → (fd file : ℕ) → entry.op ≡ op.Fsync fd → (opened (tree_after start history) entry.client fd).file ≡ Some file → IsFileKnown start history known file → IsAckCovered start history entry k.names k.files
  file_acked acks fd file is named it =
      acks start history entry k.names k.files fd file is named (let most = it.changes in let has = c.files file in omega (arith, most, has)) (c.born file it.born)

  pub dir_acked : DirFsyncsAcknowledge → (fd : ℕ) → entry.op ≡ op.Fsync fd → (opened (tree_after start history) entry.client fd).file ≡ None → AreNamesKnown start history known → IsAckCovered start history entry k.names k.files
  dir_acked acks fd is named it = acks start history entry k.names k.files fd is named (let has = c.names in omega (arith, it, has))

-- ---- once all changes of a file are shown

module _ (start : PosixTree) (history : List Entry) (f : FileState) (k : Counts) (known : Known) (c : Covers start history k known) where
  abbrev count : ℕ
  count = length (changes_of f.file start history)

  pub file_covers : Covers start history (all_shown f start history k) (with_file_known f.file count known)
  file_covers = record { made = c.made; names = c.names; files = λ file. by file (file == f.file); born = c.born }
    where
      by : (file : ℕ) (b : Bool) → (if b then count else known.files file) ≤ (if b then count else k.files file)
      by file true = omega arith
      by file false = c.files file

  pub shown_covers : k.files f.file ≤ count → Covers start history (all_shown f start history k) known
  shown_covers made = record { made = c.made; names = c.names; files = λ file. by file (file == f.file) refl; born = c.born }
    where
      by : (file : ℕ) (b : Bool) → (file == f.file) ≡ b → known.files file ≤ (if b then count else k.files file)
      by file true e =
          let same : file ≡ f.file = grind (arith, nat_tests, e) in
          let has = subst (λ n. known.files n ≤ k.files n) same (c.files file) in
          let one : known.files file ≡ known.files f.file = ap known.files same in
          omega (arith, made, has, one)
      by file false e = c.files file
