use Rattle.std.proofs.Common.{◌≡◌, ℕ, List, length, ap, sym, subst, ◌∙◌, arith}
use Rattle.std.specs.Prelude.{slice_index_or}
use Rattle.ufs_dirs.specs.Directory.{Directory}
use Rattle.ufs_dirs.specs.Names.{AreNamesIn}
use Rattle.ufs_layout.specs.DentryForm.{DentryForm}
use Rattle.ufs_dir_tree.specs.DirTable.{DirTable, dir_at, no_dir}
use Rattle.ufs_dir_tree.proofs.ListedLemmas.{no_names_of}
use Rattle.ufs_dir_tree.proofs.dir_tree.DirTree.count.Goals as goal

pub returns-in-Some : goal.returns-in-Some
returns-in-Some c names are =
    let read = c.in-Some.ensures.lookup.3.1 no_dir ∙ ap (λ (ds : List Directory). slice_index_or ds c.args.dir no_dir) c.deref.ensures.value ∙ ap (λ (t : DirTable). dir_at t c.args.dir) c.self.view_is in
    c.count.ensures.names names (subst (λ (slots : List DentryForm). AreNamesIn slots names) (ap (λ (d : Directory). d.slots) (sym read)) are)

pub returns-in-None : goal.returns-in-None
returns-in-None c names are =
    let read : no_dir ≡ dir_at c.args.self.now c.args.dir = c.in-None.ensures.lookup.4 (omega arith) no_dir ∙ ap (λ (ds : List Directory). slice_index_or ds c.args.dir no_dir) c.deref.ensures.value ∙ ap (λ (t : DirTable). dir_at t c.args.dir) c.self.view_is in
    let none = no_names_of names (subst (λ (slots : List DentryForm). AreNamesIn slots names) (ap (λ (d : Directory). d.slots) (sym read)) are) in
    ap (λ (l : List (List ℕ)). length l) (sym none)
