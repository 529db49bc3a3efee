use Rattle.std.proofs.Common.{List, ℕ, Bool, Option, Some, ap, sym, subst, ◌∙◌, bytes_eq}
use Rattle.std.specs.Option.{option_map}
use Rattle.ufs_model.specs.Directories.{is_below}
use Rattle.ufs_model.specs.Paths.{whole_path}
use Rattle.ufs_model.specs.declared.data.Node.{Node}
use Rattle.ufs_name_tree.specs.NameTable.{node_of}
use Rattle.ufs_names.specs.NamesPart.{NamesPart}
use Rattle.ufs_names.proofs.NameLists.{AreNames, names_of}
use Rattle.ufs_names.proofs.RenameRefusals.{replaced, replaced_is}
use Rattle.ufs_names.proofs.names.Names.replace_refusal.Goals as goal

pub returns : goal.returns
returns c t a b part text text' e e' =
    let below = c.is_below.ensures ∙ ap (λ (p : List ℕ). is_below p c.whole-2.result.now) c.whole.ensures.value ∙ ap (is_below (whole_path c.args.from.now)) c.whole-2.ensures.value in
    let same = c.eq.ensures ∙ ap (λ (p : List ℕ). bytes_eq p c.whole-4.result.now) c.whole-3.ensures.value ∙ ap (bytes_eq (whole_path c.args.from.now)) c.whole-4.ensures.value in
    let old = c.node.ensures ∙ ap (λ (n : NamesPart). option_map (node_of n.tree) (Some c.args.old)) c.self.view_is in
    let new = c.node-2.ensures ∙ ap (λ (n : NamesPart). option_map (node_of n.tree) c.args.new) c.self.view_is in
    c.replace_refusal.ensures
    ∙ ap (λ (o : Option Node). replaced o c.node-2.result c.is_below.result c.eq.result c.has_entries.result) old
    ∙ ap (λ (o : Option Node). replaced (Some (node_of c.args.self.now.tree c.args.old)) o c.is_below.result c.eq.result c.has_entries.result) new
    ∙ ap (λ (x : Bool). replaced (Some (node_of c.args.self.now.tree c.args.old)) (option_map (node_of c.args.self.now.tree) c.args.new) x c.eq.result c.has_entries.result) below
    ∙ ap (λ (x : Bool). replaced (Some (node_of c.args.self.now.tree c.args.old)) (option_map (node_of c.args.self.now.tree) c.args.new) (is_below (whole_path c.args.from.now) (whole_path c.args.to.now)) x c.has_entries.result) same
    ∙ replaced_is c.args.self.now t part c.args.from.now c.args.to.now (subst AreNames (sym e) (names_of a text)) (subst AreNames (sym e') (names_of b text')) c.requires.table.table (Some c.args.old) c.args.new c.requires.old c.requires.new c.has_entries.result c.has_entries.ensures
