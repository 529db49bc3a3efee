-- What a request on a file leaves of the names.
use Rattle.std.specs.Prelude.{◌≡◌, true, IsSome}
use Rattle.ufs_model.specs.Asks.{IsAsk, file_in}
use Rattle.ufs_model.specs.FileCalls.{is_on_file}
use Rattle.ufs_model.specs.Posix.{posix}
use Rattle.ufs_model.specs.PosixTree.{PosixTree}
use Rattle.ufs_model.specs.declared.data.Ask.{Ask}
use Rattle.ufs_names.specs.NamesPart.{NamesPart, IsNamesPart}

-- A request on a descriptor of a file that touches no more than that file leaves the part of the names as it is: it is
-- that of POSIX's next tree too.
abbrev pub KeepsNames : Type 0
KeepsNames = (n : NamesPart) (t : PosixTree) (ask : Ask) → IsNamesPart n t → IsAsk t ask → is_on_file ask.op ≡ true → IsSome (file_in ask.desc) → IsNamesPart n (posix t ask.client ask.op).0
