use Rattle.ufs_name_tree.proofs.NoteChains.{notes_stay}
use Rattle.std.proofs.Common.{◌≡◌, [], Some, sym, ◌∙◌, ap, subst}
use Rattle.ufs_dir_tree.specs.DirTable.{found_at}
use Rattle.ufs_model.specs.declared.data.Reply.{Reply}
use Rattle.ufs_name_tree.specs.NameTable.{NameTable, IsNameTable, node_at}
use Rattle.ufs_name_tree.specs.Nodes.{refusal_by}
use Rattle.ufs_names.specs.Calls.{IsServed}
use Rattle.ufs_names.specs.NamesPart.{NamesPart}
use Rattle.ufs_names.specs.PathCalls.{IsAllowed}
use Rattle.ufs_names.proofs.RefusedLemmas.{served_refused}
use Rattle.ufs_names.proofs.PathRefusals.{refused_by_walk, refused_by_look}
use Rattle.ufs_names.proofs.NotedLemmas.{one_told}
use Rattle.ufs_names.proofs.names.Names.serve_path.Goals as goal

pub returns-in-Err-clause-ok : goal.returns-in-Err-clause-ok
returns-in-Err-clause-ok c t asked own =
    served_refused c.args.self.now t c.args.ask.now c.args.files.now c.in-Err.e c.refused.result.reply c.refused.result.desc asked.part asked.files asked.asked
    (refused_by_walk c.args.self.now t asked.part c.args.ask.now.client c.args.ask.now.op c.args.path.now own c.requires.path c.in-Err.e
    (subst (λ (d : NameTable). refusal_by (node_at d) [] c.args.path.now ≡ Some c.in-Err.e) (ap (λ (n : NamesPart). n.tree) c.self.view_is) c.in-Err.ensures.refused))
    c.refused.ensures.reply c.refused.ensures.desc

pub returns-in-Some-clause-ok : goal.returns-in-Some-clause-ok
returns-in-Some-clause-ok c t asked own =
    served_refused c.args.self.now t c.args.ask.now c.args.files.now c.in-Some.e c.refused-in-Some.result.reply c.refused-in-Some.result.desc asked.part asked.files asked.asked
    (refused_by_look c.args.self.now t asked.part c.args.ask.now.client c.args.ask.now.op c.args.path.now own c.requires.path c.self.inside.tree (ap (λ (n : NamesPart). n.tree) c.self.view_is) c.in-Ok.ensures.table c.in-Ok.ensures.passed c.in-Ok.look.found c.in-Ok.ensures.found c.is_root.result c.has_entries-has_entries.result c.is_root.ensures c.has_entries-has_entries.ensures c.node-node.result c.node-node.ensures c.end_refusal.result c.end_refusal.ensures ∙ c.in-Some.is)
    c.refused-in-Some.ensures.reply c.refused-in-Some.ensures.desc

pub answer_found-requires : goal.answer_found-requires
answer_found-requires c =
    let a = c.requires.asked in
    let t = a.0 in
    let asked = a.1 in
    let own = a.2 in (
      t,
      (
        c.args.path.now,
        record {
          all = asked;
          allowed = refused_by_look c.args.self.now t asked.part c.args.ask.now.client c.args.ask.now.op c.args.path.now own c.requires.path c.self.inside.tree (ap (λ (n : NamesPart). n.tree) c.self.view_is) c.in-Ok.ensures.table c.in-Ok.ensures.passed c.in-Ok.look.found c.in-Ok.ensures.found c.is_root.result c.has_entries-has_entries.result c.is_root.ensures c.has_entries-has_entries.ensures c.node-node.result c.node-node.ensures c.end_refusal.result c.end_refusal.ensures ∙ c.in_default.is;
          path = c.requires.path;
          met = c.in-Ok.ensures.found ∙ ap (λ (n : NamesPart). found_at n.tree.dirs c.args.path.now) c.self.view_is;
          table = subst IsNameTable (ap (λ (n : NamesPart). n.tree) c.self.view_is) c.in-Ok.ensures.table;
        },
      ),
    )

pub change_found-requires-clause-allowed : goal.change_found-requires-clause-allowed
change_found-requires-clause-allowed c =
    let a = c.requires.asked in
    let t = a.0 in
    let asked = a.1 in
    let own = a.2 in (
      t,
      record {
        all = asked;
        allowed = refused_by_look c.args.self.now t asked.part c.args.ask.now.client c.args.ask.now.op c.args.path.now own c.requires.path c.self.inside.tree (ap (λ (n : NamesPart). n.tree) c.self.view_is) c.in-Ok.ensures.table c.in-Ok.ensures.passed c.in-Ok.look.found c.in-Ok.ensures.found c.is_root.result c.has_entries-has_entries.result c.is_root.ensures c.has_entries-has_entries.ensures c.node-node.result c.node-node.ensures c.end_refusal.result c.end_refusal.ensures ∙ c.in_default.is;
        path = c.requires.path;
        met = c.in-Ok.ensures.found ∙ ap (λ (n : NamesPart). found_at n.tree.dirs c.args.path.now) c.self.view_is;
        table = subst IsNameTable (ap (λ (n : NamesPart). n.tree) c.self.view_is) c.in-Ok.ensures.table;
      },
    )

pub returns-in-Err-change_found-clause-fits : goal.returns-in-Err-change_found-clause-fits
returns-in-Err-change_found-clause-fits c t asked own =
    let is : IsAllowed t c.args.ask.now c.args.self.now c.args.files.now c.args.path.now c.in-Ok.look.found = record {
      all = asked;
      allowed = refused_by_look c.args.self.now t asked.part c.args.ask.now.client c.args.ask.now.op c.args.path.now own c.requires.path c.self.inside.tree (ap (λ (n : NamesPart). n.tree) c.self.view_is) c.in-Ok.ensures.table c.in-Ok.ensures.passed c.in-Ok.look.found c.in-Ok.ensures.found c.is_root.result c.has_entries-has_entries.result c.is_root.ensures c.has_entries-has_entries.ensures c.node-node.result c.node-node.ensures c.end_refusal.result c.end_refusal.ensures ∙ c.in_default.is;
      path = c.requires.path;
      met = c.in-Ok.ensures.found ∙ ap (λ (n : NamesPart). found_at n.tree.dirs c.args.path.now) c.self.view_is;
      table = subst IsNameTable (ap (λ (n : NamesPart). n.tree) c.self.view_is) c.in-Ok.ensures.table;
    } in
    c.in-Err-change_found.ensures.fits t is

pub returns-in-Ok-change_found-clause-ok : goal.returns-in-Ok-change_found-clause-ok
returns-in-Ok-change_found-clause-ok c t asked own =
    let is : IsAllowed t c.args.ask.now c.args.self.now c.args.files.now c.args.path.now c.in-Ok.look.found = record {
      all = asked;
      allowed = refused_by_look c.args.self.now t asked.part c.args.ask.now.client c.args.ask.now.op c.args.path.now own c.requires.path c.self.inside.tree (ap (λ (n : NamesPart). n.tree) c.self.view_is) c.in-Ok.ensures.table c.in-Ok.ensures.passed c.in-Ok.look.found c.in-Ok.ensures.found c.is_root.result c.has_entries-has_entries.result c.is_root.ensures c.has_entries-has_entries.ensures c.node-node.result c.node-node.ensures c.end_refusal.result c.end_refusal.ensures ∙ c.in_default.is;
      path = c.requires.path;
      met = c.in-Ok.ensures.found ∙ ap (λ (n : NamesPart). found_at n.tree.dirs c.args.path.now) c.self.view_is;
      table = subst IsNameTable (ap (λ (n : NamesPart). n.tree) c.self.view_is) c.in-Ok.ensures.table;
    } in
    subst (λ (r : Reply). IsServed t c.args.ask.now c.change_found.new.self c.args.files.now c.change_found.new.files r c.in-Ok-change_found.desc) (sym (c.in_ok-reply.ensures t c.args.path.now is)) (c.in-Ok-change_found.ensures.ok t is)

pub returns-in-Err-clause-noted : goal.returns-in-Err-clause-noted
returns-in-Err-clause-noted c = notes_stay c.args.self.now.tree c.args.pool.now (one_told c.args.self.now.tree c.args.self.now.held c.requires.asked.1.part.inodes)

pub returns-in-Some-clause-noted : goal.returns-in-Some-clause-noted
returns-in-Some-clause-noted c = notes_stay c.args.self.now.tree c.args.pool.now (one_told c.args.self.now.tree c.args.self.now.held c.requires.asked.1.part.inodes)
