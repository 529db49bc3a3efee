-- Files that a hand has are among all, and of the tree's sizes.
use Rattle.std.proofs.Common.{◌≡◌, ℕ, Some, is_some, sym, ap, ◌∙◌}
use Rattle.std.specs.FinMap as fin
use Rattle.ufs_file.specs.Hand.{FileState}
use Rattle.ufs_files.specs.Files.{AreFilesOf, AreSizedAs, Files}
use Rattle.ufs_model.specs.PosixTree.{PosixTree}
use Rattle.ufs_promise_laws.specs.Parts.{Commits, Parts}
use Rattle.ufs_joint.specs.Cells.{View}
use Rattle.ufs_joint.specs.NamesHands.{AreFilesOfCells}
use Rattle.ufs_joint.specs.Whole.{HasCells}

module _ (v : View) (files : Files) (commits : Commits) (are : AreFilesOfCells v.files files commits) (p : Parts) (cells : HasCells v p) where
  pub in_all : (file : ℕ) (s : FileState) → fin.get files file ≡ Some s → fin.get p.files file ≡ Some s
  in_all file s at =
      let c = are.back file (ap is_some at) in
      (cells.files file c.0 c.1).file_is ∙ sym (are.here file c.0 c.1).0 ∙ at

  pub sized : (t : PosixTree) → AreFilesOf p.files t → AreSizedAs files t
  sized t parts file s at =
      let of = parts file s (in_all file s at) in
      record { number = of.0; bytes = of.1.bytes; here = ap (fin.get t.bytes) (sym of.0) ∙ of.1.has; size = of.1.may.long }
