use Rattle.std.proofs.Common.{◌≡◌, ℕ, [], Option, Some, ap, sym, subst, ◌∙◌}
use Rattle.ufs_model.specs.Touched.{reached}
use Rattle.ufs_model.specs.Walk.{file_of}
use Rattle.ufs_name_tree.specs.NameTable.{NameTable, node_at}
use Rattle.ufs_name_tree.specs.Nodes.{refusal_by}
use Rattle.ufs_names.specs.NamesPart.{NamesPart}
use Rattle.ufs_names.specs.Needs.{IsFileIn}
use Rattle.ufs_names.proofs.NeedsLemmas.{path_refused, path_needs}
use Rattle.ufs_names.proofs.PathRefusals.{refused_by_walk, refused_by_look}
use Rattle.ufs_names.proofs.names.Names.need_at.Goals as goal

pub returns-in_default : goal.returns-in_default
returns-in_default c t part own = path_refused c.args.self.now t part c.args.ask.now.client c.args.ask.now.op c.args.path.now own c.requires.path c.in_default.field-0
    (refused_by_walk c.args.self.now t part c.args.ask.now.client c.args.ask.now.op c.args.path.now own c.requires.path c.in_default.field-0
    (subst (λ (d : NameTable). refusal_by (node_at d) [] c.args.path.now ≡ Some c.in_default.field-0) (ap (λ (n : NamesPart). n.tree) c.self.view_is) c.in_default.ensures.refused))

pub returns-in-Some : goal.returns-in-Some
returns-in-Some c t part own =
    path_refused c.args.self.now t part c.args.ask.now.client c.args.ask.now.op c.args.path.now own c.requires.path c.in-Some.field-0
    (refused_by_look c.args.self.now t part c.args.ask.now.client c.args.ask.now.op c.args.path.now own c.requires.path c.self.inside.tree (ap (λ (n : NamesPart). n.tree) c.self.view_is) c.in-Ok.ensures.table c.in-Ok.ensures.passed c.in-Ok.look.found c.in-Ok.ensures.found c.is_root.result c.has_entries-has_entries.result c.is_root.ensures c.has_entries-has_entries.ensures c.node-node.result c.node-node.ensures c.end_refusal.result c.end_refusal.ensures ∙ c.in-Some.is)

pub returns-in-None : goal.returns-in-None
returns-in-None c t part own =
    let free = refused_by_look c.args.self.now t part c.args.ask.now.client c.args.ask.now.op c.args.path.now own c.requires.path c.self.inside.tree (ap (λ (n : NamesPart). n.tree) c.self.view_is) c.in-Ok.ensures.table c.in-Ok.ensures.passed c.in-Ok.look.found c.in-Ok.ensures.found c.is_root.result c.has_entries-has_entries.result c.is_root.ensures c.has_entries-has_entries.ensures c.node-node.result c.node-node.ensures c.end_refusal.result c.end_refusal.ensures ∙ c.in-None.is in
    subst (λ (o : Option ℕ). IsFileIn t (reached t c.args.ask.now.client c.args.ask.now.op) o) (sym c.need_found.ensures)
    (path_needs c.args.self.now t part c.args.ask.now.client c.args.ask.now.op c.args.path.now own c.requires.path free c.self.inside.tree (ap (λ (n : NamesPart). n.tree) c.self.view_is) c.in-Ok.look.found c.in-Ok.ensures.found c.file_of.result (c.file_of.ensures ∙ ap file_of c.node-node.ensures))
