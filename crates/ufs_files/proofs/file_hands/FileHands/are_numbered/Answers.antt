use Rattle.std.proofs.Common.{subst}
use Rattle.ufs_files.specs.Files.{AreNumbered}
use Rattle.ufs_files.proofs.file_hands.FileHands.are_numbered.Goals as goal

pub returns : goal.returns
returns c = subst AreNumbered c.self.view_is c.self.invariant
