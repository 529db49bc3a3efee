use Rattle.std.proofs.Common.{ap, sym, ◌∙◌}
use Rattle.std.specs.FinMap as map
use Rattle.ufs_model.proofs.Facts.Orders.{fd_total, fd_same}
use Rattle.ufs_calls.proofs.Facts.Inserts.{remove_absent}
use Rattle.ufs_tree.proofs.HolderLemmas.{counted_closed}
use Rattle.ufs_tree.proofs.fd_map.FdMap.close.Goals as goal

pub invariant_of-self : goal.invariant_of-self
invariant_of-self c =
    counted_closed c.self.inside.entries c.self.inside.opens c.self.invariant c.remove.new.self c.lower_file.new.counts (c.args.client, c.args.fd) c.in-Some.desc
    (ap (λ m. map.get m (c.args.client, c.args.fd)) c.self.view_is ∙ sym c.in-Some.ensures) c.remove.ensures c.lower_file.ensures

pub returns-in_default : goal.returns-in_default
returns-in_default c = sym (remove_absent fd_total fd_same c.args.self.now (c.args.client, c.args.fd) (sym c.get.ensures ∙ c.in_default.is))
