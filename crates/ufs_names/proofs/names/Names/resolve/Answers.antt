use Rattle.std.proofs.Common.{Some, ap, sym, ◌∙◌}
use Rattle.ufs_names.specs.NamesPart.{NamesPart}
use Rattle.ufs_names.proofs.ResolveLemmas.{names_of_whole, node_resolved, walk_resolved, missing_resolved, refused_resolved}
use Rattle.ufs_names.proofs.names.Names.resolve.Goals as goal

pub returns-in-Some-clause-found : goal.returns-in-Some-clause-found
returns-in-Some-clause-found c t part =
    let some = c.in-Some.is in
    node_resolved c.args.self.now t part c.self.inside.tree (ap (λ (n : NamesPart). n.tree) c.self.view_is) c.args.path.now (names_of_whole c.args.path.now (c.names_stay_in_whole_paths.ensures c.args.path.now c.len-count.ensures.names) (c.whole_paths_may_stand.ensures c.args.path.now c.len-count.ensures.names)) (Some c.in-Some.found) (sym some ∙ c.in-Ok.ensures.found)

pub returns-in-Some-clause-passed : goal.returns-in-Some-clause-passed
returns-in-Some-clause-passed c t part = walk_resolved c.args.self.now t part c.self.inside.tree (ap (λ (n : NamesPart). n.tree) c.self.view_is) c.args.path.now (names_of_whole c.args.path.now (c.names_stay_in_whole_paths.ensures c.args.path.now c.len-count.ensures.names) (c.whole_paths_may_stand.ensures c.args.path.now c.len-count.ensures.names)) _ c.in-Ok.ensures.passed

pub returns-in-None-clause-refused : goal.returns-in-None-clause-refused
returns-in-None-clause-refused c t part =
    let none = c.in-None.is in
    missing_resolved c.args.self.now t part c.self.inside.tree (ap (λ (n : NamesPart). n.tree) c.self.view_is) c.args.path.now (names_of_whole c.args.path.now (c.names_stay_in_whole_paths.ensures c.args.path.now c.len-count.ensures.names) (c.whole_paths_may_stand.ensures c.args.path.now c.len-count.ensures.names)) c.in-Ok.ensures.passed (sym none ∙ c.in-Ok.ensures.found)

pub returns-in-Err-clause-refused : goal.returns-in-Err-clause-refused
returns-in-Err-clause-refused c t part = refused_resolved c.args.self.now t part c.self.inside.tree (ap (λ (n : NamesPart). n.tree) c.self.view_is) c.args.path.now (names_of_whole c.args.path.now (c.names_stay_in_whole_paths.ensures c.args.path.now c.len-count.ensures.names) (c.whole_paths_may_stand.ensures c.args.path.now c.len-count.ensures.names)) c.in-Err.e c.in-Err.ensures.refused
