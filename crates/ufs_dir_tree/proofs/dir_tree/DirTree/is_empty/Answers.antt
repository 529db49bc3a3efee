use Rattle.std.proofs.Common.{List, ap, sym, subst, ◌∙◌}
use Rattle.std.specs.Prelude.{slice_index_or}
use Rattle.ufs_dirs.specs.Directory.{Directory}
use Rattle.ufs_dir_tree.specs.DirCalls.{IsBare}
use Rattle.ufs_dir_tree.specs.DirTable.{DirTable, dir_at, no_dir}
use Rattle.ufs_dir_tree.proofs.BareLemmas.{bare_from_count, count_from_bare}
use Rattle.ufs_dir_tree.proofs.dir_tree.DirTree.is_empty.Goals as goal

pub returns-in-Some : goal.returns-in-Some
returns-in-Some c =
    let read = c.in-Some.ensures.lookup.3.1 no_dir ∙ ap (λ (ds : List Directory). slice_index_or ds c.args.dir no_dir) c.deref.ensures.value ∙ ap (λ (t : DirTable). dir_at t c.args.dir) c.self.view_is in
    let slots = ap (λ (d : Directory). d.slots) read in (
      (λ empty. subst IsBare slots (bare_from_count c.in-Some.directory.now.slots (c.is_empty.ensures.0 empty))),
      (λ bare. c.is_empty.ensures.1 (count_from_bare c.in-Some.directory.now.slots (subst IsBare (sym slots) bare))),
    )
