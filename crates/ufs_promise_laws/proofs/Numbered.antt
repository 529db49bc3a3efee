-- The files of a server have the inodes that its names tell.
use Rattle.std.proofs.Common.{◌≡◌, ℕ, ◌<◌, inl, true, List, [], Option, Some, None, is_some, length, ap, sym, refl, ◌∙◌, subst}
use Rattle.std.specs.Prelude.{IsSome}
use Rattle.std.specs.Option.{option_map}
use Rattle.std.specs.FinMap as map
use Rattle.std.proofs.lemmas.List.{append-nil}
use Rattle.ufs_bitmap.specs.Blocks.{BlockSet}
use Rattle.ufs_file.specs.Hand.{FileState}
use Rattle.ufs_ledger.specs.Kept.{Counts}
use Rattle.ufs_ledger.specs.Ledger.{Ledger}
use Rattle.ufs_model.specs.History.{tree_after}
use Rattle.ufs_model.specs.PosixTree.{PosixTree}
use Rattle.ufs_model.specs.declared.data.Entry.{Entry}
use Rattle.ufs_model.proofs.Facts.Live.{held_has}
use Rattle.ufs_model.proofs.Facts.Lookups.{from_some, same_some}
use Rattle.ufs_name_tree.specs.NameTable.{file_at}
use Rattle.ufs_names.specs.NamesPart.{NamesPart}
use Rattle.ufs_names.specs.declared.holding.Holding.{Holding}
use Rattle.ufs_promise_laws.specs.PathNumbers.{numbers_of}
use Rattle.ufs_crash_laws.specs.Changes.{NameState, name_changes, names_after, names_of}
use Rattle.ufs_crash_laws.specs.Laws.{NamesGoByChanges}
use Rattle.ufs_crash_laws.specs.Stored.{IsNamed}
use Rattle.ufs_promise_laws.specs.Parts.{Parts}
use Rattle.ufs_promise_laws.specs.Stored.{IsStored}

-- a live file has an inode
pub has_inode : (n : NamesPart) (file : ℕ) → IsSome (map.get n.held file) → IsSome ((numbers_of n).inode file)
has_inode n file is = by (map.get n.held file) is
  where
    by : (o : Option Holding) → IsSome o → IsSome (option_map (λ (h : Holding). h.inode) o)
    by None is = is
    by (Some h) is = refl

module _ (l : Ledger) (u : BlockSet) (start : PosixTree) (history : List Entry) (k : Counts) (p : Parts) (st : IsStored l u start history k p) where
  abbrev tree : PosixTree
  tree = tree_after start history

  abbrev more : ℕ
  more = length (name_changes start history)

  pub live : (file : ℕ) → IsNamed tree.paths file → IsSome (map.get p.names.held file)
  live file named = st.parts.names.told file ∙ held_has tree st.parts.names.tree file (inl named)

  pub names_now : NamesGoByChanges → names_after start history more ≡ names_of tree
  names_now by = subst (λ (h : List Entry). names_after start h more ≡ names_of tree) (append-nil history) (by start history [] st.legal)

  -- the file is live, with its own inode
  pub numbered : (file : ℕ) (s : FileState) → map.get p.files file ≡ Some s → IsSome (map.get p.names.held file) × ((numbers_of p.names).inode file ≡ Some s.inode)
  numbered file s here = by (from_some (map.get p.names.held file) there)
    where
      is : s.file ≡ file
      is = (st.parts.files file s here).0

      there : is_some (map.get p.names.held file) ≡ true
      there = st.parts.names.told file ∙ ap (λ f. is_some (map.get tree.bytes f)) (sym is) ∙ ap is_some (st.parts.files file s here).1.has

      by : (h : Holding) × (map.get p.names.held file ≡ Some h) → IsSome (map.get p.names.held file) × ((numbers_of p.names).inode file ≡ Some s.inode)
      by (h, at) = (there, ap (option_map (λ (h : Holding). h.inode)) at ∙ ap Some (sym (st.parts.inodes file s h here at)))

  holding : (file : ℕ) (o : Option Holding) → map.get p.names.held file ≡ o → IsSome (option_map (λ (h : Holding). h.inode) o) → IsSome (map.get p.names.held file)
  holding file None e some = (let off = some in absurd cc)
  holding file (Some h) e some = ap is_some e

  pub born_now : NamesGoByChanges → (file : ℕ) → IsSome ((numbers_of p.names).inode file) → file < (names_after start history more).next
  born_now by file some =
      let there : is_some (map.get tree.bytes file) ≡ true = sym (st.parts.names.told file) ∙ holding file (map.get p.names.held file) refl some in
      subst (λ (s : NameState). file < s.next) (sym (names_now by)) (st.parts.names.tree.numbered file there)

  at_inode : (file inode : ℕ) (o : Option Holding) → map.get p.names.held file ≡ o → option_map (λ (h : Holding). h.inode) o ≡ Some inode → file_at p.names.tree inode ≡ Some file
  at_inode file inode None e is = (let off = is in absurd cc)
  at_inode file inode (Some h) e is = ap (file_at p.names.tree) (sym (same_some h.inode inode is)) ∙ st.parts.names.inodes.inode file h e

  pub alone_now : (file other inode : ℕ) → (numbers_of p.names).inode file ≡ Some inode → (numbers_of p.names).inode other ≡ Some inode → other ≡ file
  alone_now file other inode a b = same_some other file (sym (at_inode other inode (map.get p.names.held other) refl b) ∙ at_inode file inode (map.get p.names.held file) refl a)
