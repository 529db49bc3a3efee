use Rattle.std.specs.FinSet as set
use Rattle.ufs_name_tree.proofs.NoteChains.{notes_stay}
use Rattle.std.proofs.Common.{◌≡◌, true, false, is_some, ap, sym, ◌∙◌}
use Rattle.std.specs.FinMap as map
use Rattle.ufs_name_tree.specs.NameTable.{file_at}
use Rattle.ufs_names.specs.NamesPart.{NamesPart}
use Rattle.ufs_names.proofs.NotedLemmas.{one_told}
use Rattle.ufs_names.proofs.names.Names.forget_name.Goals as goal

pub unreachable-requires-in_default-get : goal.unreachable-requires-in_default-get
unreachable-requires-in_default-get c =
    let here =
    c.requires.inodes.live c.in-Some-File.inode c.in-Some.file
    (ap (λ (n : NamesPart). file_at n.tree c.in-Some-File.inode) (sym c.self.view_is) ∙ sym c.file.ensures ∙ c.in-Some.is) in
    let none = ap (λ (n : NamesPart). map.get n.held c.in-Some.file) (sym c.self.view_is) ∙ sym c.get.ensures ∙ c.in_default-get.is in
    let no : true ≡ false = sym here ∙ ap is_some none in
    cc

pub returns-in_default-clause-noted : goal.returns-in_default-clause-noted
returns-in_default-clause-noted c = notes_stay c.args.self.now.tree set.empty (one_told c.args.self.now.tree c.args.self.now.held c.requires.inodes)

pub returns-in_default-2-clause-noted : goal.returns-in_default-2-clause-noted
returns-in_default-2-clause-noted c = notes_stay c.args.self.now.tree set.empty (one_told c.args.self.now.tree c.args.self.now.held c.requires.inodes)
