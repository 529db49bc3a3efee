use Rattle.std.proofs.Common.{sym, subst}
use Rattle.ufs_dir_tree.specs.DirTable.{slots_at}
use Rattle.ufs_dir_tree.specs.DirCalls.{IsBare}
use Rattle.ufs_name_tree.specs.NameTable.{NameTable}
use Rattle.ufs_name_tree.proofs.name_tree.NameTree.is_empty.Goals as goal

pub returns : goal.returns
returns c = (
  (λ empty. subst (λ (t : NameTable). IsBare (slots_at t.dirs c.args.dir)) c.self.view_is (c.is_empty.ensures.0 empty)),
  (λ bare. c.is_empty.ensures.1 (subst (λ (t : NameTable). IsBare (slots_at t.dirs c.args.dir)) (sym c.self.view_is) bare)),
)
