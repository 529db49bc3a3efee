use Rattle.std.proofs.Common.{ap, sym, ◌∙◌}
use Rattle.std.specs.FinMap as map
use Rattle.ufs_model.specs.declared.data.Desc.{Desc}
use Rattle.ufs_tree.proofs.HolderLemmas.{counted_moved}
use Rattle.ufs_tree.proofs.fd_map.FdMap.set_offset.Goals as goal

pub invariant_of-self : goal.invariant_of-self
invariant_of-self c =
    counted_moved c.self.inside.entries c.self.inside.opens c.self.invariant c.insert.new.self (c.args.client, c.args.fd) c.in-Some.desc c.moved.result
    (ap (λ m. map.get m (c.args.client, c.args.fd)) c.self.view_is ∙ sym c.in-Some.ensures) (ap (λ (d : Desc). d.file) c.moved.ensures) c.in-Ok.ensures.ok
