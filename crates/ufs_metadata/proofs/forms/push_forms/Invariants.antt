use Rattle.std.proofs.Common.{◌≡◌, ◌++◌}
use Rattle.ufs_metadata.specs.Told.{forms_in}
use Rattle.ufs_metadata.proofs.forms.push_forms.Given as goal

abbrev pub invariant-loop-i : goal.invariant-loop-i
invariant-loop-i l = l.forms.items ≡ l.fn.forms.items ++ forms_in l.i l.bytes
