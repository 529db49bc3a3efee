use Rattle.std.proofs.Common.{◌≡◌, take}
use Rattle.ufs_model.specs.History.{tickets_of}
use Rattle.ufs_value_tests.proofs.model.closes.Given as goal

abbrev pub invariant-loop-ticket : goal.invariant-loop-ticket
invariant-loop-ticket l = tickets_of l.list.items ≡ take l.ticket-index l.tickets
