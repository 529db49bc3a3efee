use Rattle.std.proofs.Common.{ap, ◌∙◌}
use Rattle.std.specs.FinMap as map
use Rattle.ufs_tree.proofs.HolderLemmas.{counted_opened}
use Rattle.ufs_tree.proofs.fd_map.FdMap.open.Goals as goal

pub invariant_of-self-in-Ok : goal.invariant_of-self-in-Ok
invariant_of-self-in-Ok c =
    counted_opened c.self.inside.entries c.self.inside.opens c.self.invariant c.insert.new.self c.raise_file.new.counts (c.args.client, c.args.fd) c.args.desc
    (ap (λ m. map.get m (c.args.client, c.args.fd)) c.self.view_is ∙ c.requires) c.in-Ok.ensures.ok c.in_ok-raise_file.ensures.ok
