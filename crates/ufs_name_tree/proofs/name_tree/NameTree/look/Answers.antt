use Rattle.std.proofs.Common.{◌≡◌, ℕ, List, [], Some, None, Option, ap, sym, ◌∙◌}
use Rattle.std.proofs.lemmas.Result.{IfOk-weaker, IfErr-weaker}
use Rattle.ufs_model.specs.declared.data.Errno.{Errno}
use Rattle.ufs_name_tree.specs.Nodes.{refusal_by}
use Rattle.ufs_name_tree.specs.NameTable.{NameTable, node_at}
use Rattle.ufs_dir_tree.specs.DirTable.{found_at}
use Rattle.ufs_dir_tree.specs.DirCalls as founds
use Rattle.ufs_name_tree.proofs.NodeMaps.{refusals_same}
use Rattle.ufs_name_tree.proofs.name_tree.NameTree.look.Goals as goal

told : (t now : NameTable) → t ≡ now → (names : List (List ℕ)) (e : Option Errno) → founds.refusal_by (found_at t.dirs) [] names ≡ e → refusal_by (node_at now) [] names ≡ e
told t now same names e is = ap (λ (t : NameTable). refusal_by (node_at t) [] names) (sym same) ∙ sym (refusals_same t [] names) ∙ is

pub returns-clause-refused : goal.returns-clause-refused
returns-clause-refused c =
    let t : NameTable = record { dirs = c.self.inside.dirs; files = c.self.inside.files.items; noted = c.self.inside.notes; lost = c.self.inside.lost } in
    IfErr-weaker c.look.result _ _ (λ e is. told t c.args.self.now c.self.view_is c.args.path.now (Some e) is) c.look.ensures.refused

pub returns-clause-passed : goal.returns-clause-passed
returns-clause-passed c =
    let t : NameTable = record { dirs = c.self.inside.dirs; files = c.self.inside.files.items; noted = c.self.inside.notes; lost = c.self.inside.lost } in
    IfOk-weaker c.look.result _ _ (λ l is. told t c.args.self.now c.self.view_is c.args.path.now None is) c.look.ensures.passed
