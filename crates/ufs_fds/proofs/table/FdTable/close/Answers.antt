use Rattle.std.proofs.Common.{◌-◌, ◌<◌, IsSome, subst, sym, ap, arith, ◌∙◌, length}
use Rattle.std.specs.FinMap as map
use Rattle.ufs_fds.proofs.SlotLemmas.{in_range, AreMarked-clear, table_of-set_None}
use Rattle.ufs_fds.proofs.table.FdTable.close.Goals as goal

pub overflow_sub-place : goal.overflow_sub-place
overflow_sub-place c = (in_range c.self.inside.slots c.self.invariant.count c.args.fd (subst (λ m. IsSome (map.get m c.args.fd)) (sym c.self.view_is) c.requires)).0

pub bounds-self-inside-place : goal.bounds-self-inside-place
bounds-self-inside-place c =
    let range = in_range c.self.inside.slots c.self.invariant.count c.args.fd (subst (λ m. IsSome (map.get m c.args.fd)) (sym c.self.view_is) c.requires) in
    omega (arith, range.0, range.1)

pub overflow_shl-self : goal.overflow_shl-self
overflow_shl-self c =
    let range = in_range c.self.inside.slots c.self.invariant.count c.args.fd (subst (λ m. IsSome (map.get m c.args.fd)) (sym c.self.view_is) c.requires) in
    omega (arith, range.0, range.1)

pub invariant_of-self : goal.invariant_of-self
invariant_of-self c =
    let range = in_range c.self.inside.slots c.self.invariant.count c.args.fd (subst (λ m. IsSome (map.get m c.args.fd)) (sym c.self.view_is) c.requires) in
    AreMarked-clear c.self.inside.used c.self.inside.slots (c.args.fd - 3) c.self.invariant (omega (arith, range.0, range.1))

pub returns : goal.returns
returns c =
    let range = in_range c.self.inside.slots c.self.invariant.count c.args.fd (subst (λ m. IsSome (map.get m c.args.fd)) (sym c.self.view_is) c.requires) in
    let below : c.args.fd - 3 < length c.self.inside.slots = omega (arith, range.0, range.1, c.self.invariant.count) in
    table_of-set_None c.self.inside.slots (c.args.fd - 3) c.args.fd below (omega (arith, range.0)) ∙ ap (λ m. map.remove m c.args.fd) c.self.view_is
