use Rattle.std.proofs.Common.{◌≡◌, List, [], ap, refl, subst, ◌∙◌, arith}
use Rattle.std.specs.Prelude.{slice_index_or}
use Rattle.ufs_dirs.specs.Directory.{Directory, IsDirectory}
use Rattle.ufs_dirs.proofs.KeptLemmas.{kept_none}
use Rattle.ufs_dir_tree.specs.DirTable.{DirTable, dir_at, no_dir}
use Rattle.ufs_dir_tree.proofs.dir_tree.DirTree.blocks.Goals as goal

pub returns-in-None-clause-whole : goal.returns-in-None-clause-whole
returns-in-None-clause-whole c =
    let read : no_dir ≡ dir_at c.args.self.now c.args.dir = c.in-None.ensures.lookup.4 (omega arith) no_dir ∙ ap (λ (ds : List Directory). slice_index_or ds c.args.dir no_dir) c.deref.ensures.value ∙ ap (λ (t : DirTable). dir_at t c.args.dir) c.self.view_is in
    let none = kept_none [] [] [] [] refl refl refl refl in
    subst IsDirectory read none.directory
