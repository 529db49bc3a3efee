-- A file whose birth is known is born by now.
use Rattle.std.proofs.Common.{◌≡◌, ℕ, ◌<◌, List, [], true, length, subst, arith}
use Rattle.std.proofs.lemmas.List.{append-nil}
use Rattle.ufs_ledger.specs.Kept.{Counts}
use Rattle.ufs_model.specs.History.{IsLegal, tree_after}
use Rattle.ufs_model.specs.PosixTree.{PosixTree}
use Rattle.ufs_model.specs.declared.data.Entry.{Entry}
use Rattle.ufs_crash_laws.specs.Changes.{NameState, name_changes, names_after, names_of}
use Rattle.ufs_crash_laws.specs.Laws.{NamesGoByChanges}
use Rattle.ufs_crash_laws.proofs.Facts.Sessions.{next_names}
use Rattle.ufs_promise_laws.specs.Known.{Covers, Known}

module _ (start : PosixTree) (history : List Entry) (legal : IsLegal start history) (k : Counts) (known : Known) (c : Covers start history k known) where
  -- by all changes of names
  pub born_by_all : (file : ℕ) → known.born file ≡ true → file < (names_after start history (length (name_changes start history))).next
  born_by_all file is =
      let then = c.born file is in
      let rises = next_names start history legal.entries k.names (length (name_changes start history)) c.made (omega arith) in
      omega (arith, then, rises)

  -- so it isn't the next one
  pub born_before : NamesGoByChanges → (file : ℕ) → known.born file ≡ true → file < (tree_after start history).next
  born_before by file is =
      subst (λ (n : NameState). file < n.next) (subst (λ (h : List Entry). names_after start h (length (name_changes start history)) ≡ names_of (tree_after start history)) (append-nil history) (by start history [] legal)) (born_by_all file is)
