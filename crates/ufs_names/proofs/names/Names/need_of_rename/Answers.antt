use Rattle.std.proofs.Common.{◌≡◌, ℕ, List, Option, ap, sym, subst, ◌∙◌, bytes_eq}
use Rattle.std.specs.Option.{option_map}
use Rattle.std.specs.FinMap as map
use Rattle.ufs_base.specs.Choices.{first_of}
use Rattle.ufs_dir_tree.specs.declared.found.Found.{Found}
use Rattle.ufs_model.proofs.Facts.Allowed.{first_none}
use Rattle.ufs_model.specs.Paths.{text_refusal, whole_path, whole_of}
use Rattle.ufs_model.specs.Refusals.{rename_refusal}
use Rattle.ufs_model.specs.Touched.{reached}
use Rattle.ufs_model.specs.Walk.{file_of}
use Rattle.ufs_model.specs.declared.data.Errno.{Errno}
use Rattle.ufs_model.specs.declared.data.Op.TheVariants as op
use Rattle.ufs_name_tree.specs.NameTable.{NameTable, node_at, node_of}
use Rattle.ufs_names.specs.NamesPart.{NamesPart}
use Rattle.ufs_names.specs.Needs.{IsFileIn, unkept_unnamed}
use Rattle.ufs_names.proofs.NeedsLemmas.{same_name_needs, new_name_needs}
use Rattle.ufs_names.proofs.WalkLinks.{met_at}
use Rattle.ufs_names.proofs.names.Names.need_of_rename.Goals as goal

-- the whole paths are those of the texts
compared : (p q : List ℕ) (x y : List (List ℕ)) (a b : List ℕ) → p ≡ whole_path x → q ≡ whole_path y → whole_path x ≡ whole_of a → whole_path y ≡ whole_of b → bytes_eq p q ≡ bytes_eq (whole_of a) (whole_of b)
compared p q x y a b e e' h h' = ap (λ p. bytes_eq p q) (e ∙ h) ∙ ap (bytes_eq (whole_of a)) (e' ∙ h')

pub returns-then-eq : goal.returns-then-eq
returns-then-eq c t client a b part own e e' =
    let text = first_none (text_refusal a) (text_refusal b) own in
    let free = ap (λ (o : Option Errno). first_of o (rename_refusal t.paths a b)) own ∙ c.in-Ok.ensures.passed t a b part text.0 text.1 e e' in
    same_name_needs c.args.self.now t part client a b free
    (sym (c.eq.ensures ∙ compared c.whole.result.now c.whole-2.result.now c.args.from.now c.args.to.now a b c.whole.ensures.value c.whole-2.ensures.value (ap whole_path e) (ap whole_path e')) ∙ c.if-eq.true)

pub returns : goal.returns
returns c t client a b part own e e' =
    let text = first_none (text_refusal a) (text_refusal b) own in
    let free = ap (λ (o : Option Errno). first_of o (rename_refusal t.paths a b)) own ∙ c.in-Ok.ensures.passed t a b part text.0 text.1 e e' in
    let other = sym (c.eq.ensures ∙ compared c.whole.result.now c.whole-2.result.now c.args.from.now c.args.to.now a b c.whole.ensures.value c.whole-2.ensures.value (ap whole_path e) (ap whole_path e')) ∙ c.if-eq.false in
    let stood : c.node.result ≡ map.get t.paths (whole_of b) =
    c.node.ensures ∙ ap (λ (d : NameTable). option_map (node_of d) c.in-Ok.step.to.found) (ap (λ (n : NamesPart). n.tree) c.self.view_is)
    ∙ ap (λ (o : Option Found). option_map (node_of c.args.self.now.tree) o) c.in-Ok.ensures.found
    ∙ ap (node_at c.args.self.now.tree) e' ∙ sym (met_at (node_at c.args.self.now.tree) t.paths part.paths b text.1) in
    subst (λ (o : Option ℕ). IsFileIn t (reached t client (op.Rename a b)) o)
    (sym (c.without_name.ensures ∙ ap (unkept_unnamed c.args.self.now.held) (c.file_of.ensures ∙ ap file_of stood)))
    (new_name_needs c.args.self.now t part client a b free other)
