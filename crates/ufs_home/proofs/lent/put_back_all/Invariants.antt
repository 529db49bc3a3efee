use Rattle.std.proofs.Common.{◌≡◌}
use Rattle.ufs_home.specs.Lending.{AreAway, put_all}
use Rattle.ufs_home.proofs.lent.put_back_all.Given as goal

abbrev pub invariant-loop-held : goal.invariant-loop-held
invariant-loop-held g l = record {
  away : AreAway l.shelf l.held-iterator.rest.items;
  put : put_all l.shelf l.held-iterator.rest.items ≡ put_all l.fn.shelf l.fn.files.items;
}
