-- What stands at an inode whose form was read.
use Rattle.std.proofs.Common.{◌≡◌, ◌≢◌, ℕ, ◌+◌, List, true, false, Option, Some, None, length, get_or, ap, sym, ◌∙◌, arith, eq-eqb}
use Rattle.std.specs.Prelude.{if◌then◌else◌, not, ◌&&◌, unwrap_or}
use Rattle.std.specs.List.{list_any}
use Rattle.std.proofs.lemmas.Bool.{ne_eqb}
use Rattle.std.proofs.lemmas.List.FromFn.{get_or-map-range_with_len}
use Rattle.ufs_base.specs.Images.{Image}
use Rattle.ufs_layout.specs.InodeForm.{InodeForm, free_inode}
use Rattle.ufs_layout.specs.declared.geometry.Geometry.{Geometry}
use Rattle.ufs_image.specs.Images.{inode_at, form_at}
use Rattle.ufs_image.specs.Catalog.{IsInode}
use Rattle.ufs_image.specs.Nodes.{is_bad_form, leaves_data}
use Rattle.ufs_image.specs.Opens.{file_bytes, node_bytes}
use Rattle.ufs_opening.specs.Heads.{cut, node_head}
use Rattle.ufs_opening.specs.Shown.{AreReadable}
use Rattle.ufs_opening.specs.declared.head.NodeHead.TheVariants.{Dir, File}

module _ (g : Geometry) (disk : Image) (forms : List (Option InodeForm)) (read : AreReadable g disk forms) (inode : ℕ) (in_range : IsInode g inode) (at : ℕ) (place : at + 1 ≡ inode) where
  form_there : (o : Option InodeForm) → o ≡ get_or forms at o → inode_at g disk inode ≡ o
  form_there o is =
      let within = in_range.within in
      sym (is ∙ ap (λ (l : List (Option InodeForm)). get_or l at o) read.forms_are ∙ get_or-map-range_with_len (inode_at g disk) 1 g.inodes at inode o (omega (arith, place, within)) (omega (arith, place)))

  pub no_form : None ≡ get_or forms at None → ⊥
  no_form is = let clash : true ≡ false = sym (ap (is_bad_form inode) (form_there None is)) ∙ read.on_form inode in_range in absurd (grind (arith, clash))

  module _ (form : InodeForm) (is : Some form ≡ get_or forms at (Some form)) where
    form_is : form_at g disk inode ≡ form
    form_is = ap (λ (o : Option InodeForm). unwrap_or o (free_inode 0)) (form_there (Some form) is)

    pub dir_node : (most : Option ℕ) → form.kind ≡ 2 → Dir ≡ node_head most (node_bytes disk (form_at g disk inode))
    dir_node most dir = sym (ap (λ (f : InodeForm). node_head most (node_bytes disk f)) form_is ∙ ap (λ b. node_head most (if b then None else Some (file_bytes disk form))) (eq-eqb form.kind 2 dir))

    has_size : form.size ≡ length (file_bytes disk form)
    has_size = sym (ap (λ (f : InodeForm). length (file_bytes disk f)) (sym form_is) ∙ read.sized inode in_range ∙ ap (λ (f : InodeForm). f.size) form_is)

    pub is_sized : length (file_bytes disk form) ≡ form.size
    is_sized = sym has_size

    pub file_node : (most : Option ℕ) → form.kind ≢ 2 → (size : ℕ) → size ≡ form.size → (bytes : List ℕ) → bytes ≡ cut most (file_bytes disk form) → File size bytes ≡ node_head most (node_bytes disk (form_at g disk inode))
    file_node most file size size_is bytes are =
        (λ i. File ((size_is ∙ has_size) i) (are i))
        ∙ sym (ap (λ (f : InodeForm). node_head most (node_bytes disk f)) form_is ∙ ap (λ b. node_head most (if b then None else Some (file_bytes disk form))) (ne_eqb form.kind 2 file))

    pub lies_inside : list_any (leaves_data g) form.extents ≡ false
    lies_inside = sym (λ i. not (read.on_form inode in_range i) && list_any (leaves_data g) (form_is i).extents) ∙ read.inside inode in_range
