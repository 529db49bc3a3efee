-- Files that are a tree's have the sizes that it has for them.
use Rattle.std.proofs.Common.{sym, ap, ◌∙◌}
use Rattle.std.specs.FinMap as map
use Rattle.ufs_model.specs.PosixTree.{PosixTree}
use Rattle.ufs_files.specs.Files.{Files, AreFilesOf, AreSizedAs}

pub files_are_sized : (files : Files) (t : PosixTree) → AreFilesOf files t → AreSizedAs files t
files_are_sized files t are f s there =
    let is = are f s there in record { number = is.0; bytes = is.1.bytes; here = ap (map.get t.bytes) (sym is.0) ∙ is.1.has; size = is.1.may.long }
