use Rattle.std.proofs.Common.{sym, ap, ◌∙◌, arith, subst}
use Rattle.std.specs.FinMap as map
use Rattle.ufs_fds.specs.Descriptors.{AreInRange}
use Rattle.ufs_fds.proofs.SlotLemmas.{get-below, get-above, get-inside, in_range}
use Rattle.ufs_fds.proofs.table.FdTable.get.Goals as goal
use Rattle.ufs_fds.proofs.table.FdTable.get.Goals.{then-fd-via-then-fd, then-fd-via-else-fd+then-fd-2}

pub returns-then-fd-clause-value : goal.returns-then-fd-clause-value
returns-then-fd-clause-value c =
    elim c.then-fd.branch [
      | then-fd-via-then-fd w ↦ sym (get-below c.self.inside.slots c.args.fd w.if-fd.true) ∙ ap (λ m. map.get m c.args.fd) c.self.view_is
      | then-fd-via-else-fd+then-fd-2 w ↦ sym (get-above c.self.inside.slots c.args.fd c.self.invariant.count w.if-fd-2.true) ∙ ap (λ m. map.get m c.args.fd) c.self.view_is
    ]

pub returns-then-fd-clause-range : goal.returns-then-fd-clause-range
returns-then-fd-clause-range c = subst AreInRange c.self.view_is (in_range c.self.inside.slots c.self.invariant.count)

pub returns-clause-value : goal.returns-clause-value
returns-clause-value c = sym (get-inside c.self.inside.slots c.args.fd (omega arith)) ∙ ap (λ m. map.get m c.args.fd) c.self.view_is

pub returns-clause-range : goal.returns-clause-range
returns-clause-range c = subst AreInRange c.self.view_is (in_range c.self.inside.slots c.self.invariant.count)
