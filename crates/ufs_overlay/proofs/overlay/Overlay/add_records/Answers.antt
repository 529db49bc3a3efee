use Rattle.ufs_overlay.specs.Lists.{lists_of}
use Rattle.ufs_overlay.proofs.ListLemmas.{are_after}
use Rattle.ufs_overlay.proofs.overlay.Overlay.add_records.Goals as goal

pub invariant_of-self : goal.invariant_of-self
invariant_of-self c = record {
  limits = c.args.self.now.limits;
  each_of_its_sector = are_after c.args.self.now.geometry c.args.number c.args.records.now (lists_of c.args.self.now.lists) (lists_of c.put_all.new.lists) c.put_all.result c.put_all.ensures.ok c.put_all.ensures.err
      c.requires.form c.args.self.now.each_of_its_sector;
}
