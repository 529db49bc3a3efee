use Rattle.std.proofs.Common.{◌-◌, ◌<◌, ap, arith, ◌∙◌, length}
use Rattle.std.specs.FinMap as map
use Rattle.ufs_fds.proofs.SlotLemmas.{AreMarked-set, table_of-set_Some}
use Rattle.ufs_fds.proofs.table.FdTable.set.Goals as goal

pub invariant_of-self : goal.invariant_of-self
invariant_of-self c = AreMarked-set c.self.inside.used c.self.inside.slots (c.args.fd - 3) c.args.desc c.self.invariant (omega arith)

pub returns : goal.returns
returns c =
    let below : c.args.fd - 3 < length c.self.inside.slots = omega (arith, c.self.invariant.count) in
    table_of-set_Some c.self.inside.slots (c.args.fd - 3) c.args.fd c.args.desc below (omega arith) ∙ ap (λ m. map.insert m c.args.fd c.args.desc) c.self.view_is
