use Rattle.std.proofs.Common.{◌≡◌, ◌+◌, ◌-◌, ℕ, true, false, Option, None, length, take, get_or, refl, ap, sym, ◌∙◌, subst, arith}
use Rattle.std.specs.List.{list_any}
use Rattle.ufs_layout.specs.InodeForm.{InodeForm}
use Rattle.ufs_layout.specs.declared.inode.Extent.{Extent}
use Rattle.std.specs.Prelude.{List, flat_map}
use Rattle.ufs_image.specs.Nodes.{blocks_of, leaves_data}
use Rattle.ufs_image.specs.Images.{block_at}
use Rattle.ufs_opening.specs.Heads.{IsHead, enough_of}
use Rattle.ufs_opening.specs.declared.head.NodeHead.TheVariants.{File}
use Rattle.ufs_opening.proofs.Fronts.{all_there, cut_enough, file_head}
use Rattle.ufs_opening.proofs.Forms.{no_form, dir_node, file_node, is_sized, lies_inside}
use Rattle.ufs_opening.proofs.reading.read_node.Goals as goal

pub returns-in_default-clause-outside : goal.returns-in_default-clause-outside
returns-in_default-clause-outside g c visible image is read in_range =
    let forms = c.args.forms.now in
    let at : c.args.inode - 1 + 1 ≡ c.args.inode = let from = in_range.from_one in omega (arith, from) in
    no_form c.args.geometry.now image forms read c.args.inode in_range (c.args.inode - 1) at
    (sym c.in_default.is ∙ c.index-forms-at.is ∙ ap (λ (o : Option InodeForm). get_or forms (c.args.inode - 1) o) c.in_default.is)

pub returns-then-form-eq-DIRECTORY-clause-node : goal.returns-then-form-eq-DIRECTORY-clause-node
returns-then-form-eq-DIRECTORY-clause-node g c visible image is read in_range =
    let forms = c.args.forms.now in
    let at : c.args.inode - 1 + 1 ≡ c.args.inode = let from = in_range.from_one in omega (arith, from) in
    dir_node c.args.geometry.now image forms read c.args.inode in_range (c.args.inode - 1) at c.in-Some.form
    (sym c.in-Some.is ∙ c.index-forms-at.is ∙ ap (λ (o : Option InodeForm). get_or forms (c.args.inode - 1) o) c.in-Some.is)
    c.args.most (ap (λ (f : InodeForm). f.kind) (sym c.form.view_is) ∙ c.if-form-eq-DIRECTORY.true)

pub returns-then-any_leaves-clause-outside : goal.returns-then-any_leaves-clause-outside
returns-then-any_leaves-clause-outside g c visible image is read in_range =
    let forms = c.args.forms.now in
    let at : c.args.inode - 1 + 1 ≡ c.args.inode = let from = in_range.from_one in omega (arith, from) in
    let inside = lies_inside c.args.geometry.now image forms read c.args.inode in_range (c.args.inode - 1) at c.in-Some.form
    (sym c.in-Some.is ∙ c.index-forms-at.is ∙ ap (λ (o : Option InodeForm). get_or forms (c.args.inode - 1) o) c.in-Some.is) in
    let clash : true ≡ false = sym c.if-any_leaves.true ∙ c.any_leaves.ensures ∙ ap (λ (l : List Extent). list_any (leaves_data c.args.geometry.now) l) c.used_extents.ensures ∙ inside in
    absurd (grind (arith, clash))

pub returns-then-len-enough-clause-outside : goal.returns-then-len-enough-clause-outside
returns-then-len-enough-clause-outside g c visible image is read in_range =
    let forms = c.args.forms.now in
    let form = c.in-Some.form in
    let at : c.args.inode - 1 + 1 ≡ c.args.inode = let from = in_range.from_one in omega (arith, from) in
    let sized = is_sized c.args.geometry.now image forms read c.args.inode in_range (c.args.inode - 1) at form
    (sym c.in-Some.is ∙ c.index-forms-at.is ∙ ap (λ (o : Option InodeForm). get_or forms (c.args.inode - 1) o) c.in-Some.is) in
    let size : c.form.inside.size ≡ form.size = ap (λ (f : InodeForm). f.size) c.form.view_is in
    let enough : c.wanted-enough.result ≡ enough_of c.args.most form.size = c.wanted-enough.ensures ∙ ap (enough_of c.args.most) size in
    let whole : List ℕ = flat_map (block_at image) (blocks_of form) in
    let there : length c.in_ok-bytes.bytes.items ≡ enough_of c.args.most form.size = all_there c.args.most form.size c.in_ok-bytes.bytes.items whole (c.in_ok-bytes.ensures.bytes visible image is ∙ ap (λ n. take n whole) enough) sized in
    let short = c.if-len-enough.true in
    absurd (omega (arith, short, there, enough))

pub returns-clause-node : goal.returns-clause-node
returns-clause-node g c visible image is read in_range =
    let forms = c.args.forms.now in
    let at : c.args.inode - 1 + 1 ≡ c.args.inode = let from = in_range.from_one in omega (arith, from) in
    let size : c.form.inside.size ≡ c.in-Some.form.size = ap (λ (f : InodeForm). f.size) c.form.view_is in
    let whole : List ℕ = flat_map (block_at image) (blocks_of c.in-Some.form) in
    file_node c.args.geometry.now image forms read c.args.inode in_range (c.args.inode - 1) at c.in-Some.form
    (sym c.in-Some.is ∙ c.index-forms-at.is ∙ ap (λ (o : Option InodeForm). get_or forms (c.args.inode - 1) o) c.in-Some.is)
    c.args.most (λ dir. c.if-form-eq-DIRECTORY.false (ap (λ (f : InodeForm). f.kind) c.form.view_is ∙ dir))
    c.form.inside.size size c.from_vec.result
    (c.from_vec.ensures ∙ c.in_ok-bytes.ensures.bytes visible image is ∙ ap (λ n. take n whole) (c.wanted-enough.ensures ∙ ap (enough_of c.args.most) size) ∙ cut_enough c.args.most c.in-Some.form.size whole)

pub returns-then-form-eq-DIRECTORY-clause-shape : goal.returns-then-form-eq-DIRECTORY-clause-shape
returns-then-form-eq-DIRECTORY-clause-shape g c = (None, refl)

pub returns-clause-shape : goal.returns-clause-shape
returns-clause-shape g c =
    let few = c.in_ok-bytes.ensures.few in
    let many = c.if-len-enough.false in
    let long : length c.in_ok-bytes.bytes.items ≡ c.wanted-enough.result = omega (arith, few, many) in
    subst (λ (l : List ℕ). IsHead c.args.most (File c.form.inside.size l)) (sym c.from_vec.ensures) (file_head c.args.most c.form.inside.size c.in_ok-bytes.bytes.items (long ∙ c.wanted-enough.ensures))
