use Rattle.std.proofs.Common.{List, map, sym, subst, ◌∙◌}
use Rattle.ufs_model.specs.declared.data.Load.{Load}
use Rattle.ufs_loads.specs.Loads.{AreLoads, NotedLoads, entry_load}
use Rattle.ufs_loads.proofs.Noting.{are_loads}
use Rattle.ufs_loads.proofs.loads.Loads.list.Goals as goal

pub returns : goal.returns
returns c =
    let es = c.self.inside.noted.entries in
    subst (AreLoads c.args.self.now) (sym (c.from_vec.ensures ∙ c.list_all.ensures)) (subst (λ (m : NotedLoads). AreLoads m (map entry_load es)) c.self.view_is (are_loads es c.len.ensures.unique))
