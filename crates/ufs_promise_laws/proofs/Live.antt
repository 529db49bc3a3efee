-- Files that are here are live.
use Rattle.std.proofs.Common.{◌≡◌, ℕ, Some, is_some, ap, sym, ◌∙◌}
use Rattle.std.specs.Prelude.{IsSome}
use Rattle.std.specs.Option.{option_map}
use Rattle.std.specs.FinMap as map
use Rattle.ufs_file.specs.Hand.{FileState}
use Rattle.ufs_model.specs.PosixTree.{PosixTree}
use Rattle.ufs_model.proofs.Facts.Lookups.{from_some}
use Rattle.ufs_name_tree.specs.NameTable.{file_at}
use Rattle.ufs_names.specs.declared.holding.Holding.{Holding}
use Rattle.ufs_promise_laws.specs.PathNumbers.{numbers_of}
use Rattle.ufs_promise_laws.specs.Parts.{Parts}
use Rattle.ufs_promise_laws.specs.Stored.{ArePartsOf}

module _ (p : Parts) (t : PosixTree) (parts : ArePartsOf p t) (file : ℕ) (s : FileState) (here : map.get p.files file ≡ Some s) where
  pub live : IsSome (map.get p.names.held file)
  live = parts.names.told file ∙ ap (λ f. is_some (map.get t.bytes f)) (sym (parts.files file s here).0) ∙ ap is_some (parts.files file s here).1.has

  holding : (h : Holding) × (map.get p.names.held file ≡ Some h)
  holding = from_some (map.get p.names.held file) live

  -- the names tell its inode
  pub has_number : (numbers_of p.names).inode file ≡ Some s.inode
  has_number = ap (option_map (λ (h : Holding). h.inode)) holding.1 ∙ ap Some (sym (parts.inodes file s holding.0 here holding.1))

  -- and that the inode is the file
  pub is_file : file_at p.names.tree s.inode ≡ Some file
  is_file = ap (file_at p.names.tree) (parts.inodes file s holding.0 here holding.1) ∙ parts.names.inodes.inode file holding.0 holding.1
