-- What is read of bytes fits its types.
use Rattle.std.proofs.Common.{◌≡◌, ℕ, zero, suc, ◌<◌, ◌≤◌, ◌^◌, List, drop, Option, Some, None, Bool, true, false, map, unwrap_or, ap, refl, subst, arith}
use Rattle.std.specs.Prelude.{IsTrue, ◌&&◌}
use Rattle.std.specs.List.{AllByRecursion}
use Rattle.std.specs.Str.{bytes_eq}
use Rattle.std.proofs.Math.Nat.{pow-succ'}
use Rattle.std.proofs.lemmas.Bool.{and_parts}
use Rattle.byteorder.specs.Endian.{little_from}
use Rattle.ufs_base.specs.Images.{IsBytes, Image}
use Rattle.ufs_layout.specs.Areas.{IsGeometry, sector_of_inode, sector_count, first_of_data}
use Rattle.ufs_layout.specs.InodeForm.{InodeForm, inode_of, inode_fields, inode_bytes, is_inode, extents_at, free_inode, FitsExtent}
use Rattle.ufs_image.specs.Images.{IsImageOf, inode_at, form_at}
use Rattle.ufs_layout.specs.declared.geometry.Geometry.{Geometry}
use Rattle.ufs_image.specs.Catalog.{Catalog, IsInode, IsCatalogOf, catalog_at}
use Rattle.ufs_image.specs.Nodes.{read_block}
use Rattle.ufs_image.specs.Folding.{FitsForm, Spells}
use Rattle.ufs_layout.proofs.Compared.{IsBytes-drop}
use Rattle.ufs_layout.proofs.Spelled.{some_if-some}

pub number_below : (i n : ℕ) (xs : List ℕ) → IsBytes xs → little_from i n xs < 256 ^ n
number_below i zero xs is = omega arith
number_below i (suc n) xs is =
    let byte = is i in
    let rest = number_below (suc i) n xs is in
    let power = pow-succ' 256 n in
    omega (arith, byte, rest, power)

pub extents_fit : (n : ℕ) (bytes : List ℕ) → IsBytes bytes → AllByRecursion FitsExtent (extents_at n bytes)
extents_fit zero bytes is = tt
extents_fit (suc n) bytes is = (record { start = number_below 0 4 (drop 0 bytes) (IsBytes-drop 0 bytes is); length = number_below 0 4 (drop 4 bytes) (IsBytes-drop 4 bytes is) }, extents_fit n (drop 8 bytes) (IsBytes-drop 8 bytes is))

pub form_fits : (bytes : List ℕ) (form : InodeForm) → IsBytes bytes → inode_of bytes ≡ Some form → FitsForm form
form_fits bytes form is e =
    let parts = some_if-some (is_inode (inode_fields bytes) && bytes_eq (inode_bytes (inode_fields bytes)) bytes) (inode_fields bytes) form e in
    subst FitsForm parts.1 (record {
      spelled = (and_parts (is_inode (inode_fields bytes)) _ parts.0).0;
      size = number_below 0 8 (drop 8 bytes) (IsBytes-drop 8 bytes is);
      number = number_below 0 8 (drop 16 bytes) (IsBytes-drop 16 bytes is);
      extents = extents_fit _ (drop 64 bytes) (IsBytes-drop 64 bytes is);
    })

free_zero : FitsForm (free_inode 0)
free_zero = record { spelled = refl; size = omega arith; number = omega arith; extents = tt }

module _ (g : Geometry) (sectors : ℕ) (image : Image) (is : IsGeometry g) (room : sector_count g ≤ sectors) (bytes : IsImageOf sectors image) where
  there : (inode : ℕ) → IsInode g inode → sector_of_inode g inode < sectors
  there inode in_range = let from = in_range.from_one in let most = in_range.within in let left = is.data_left in omega (arith, from, most, left, room)

  pub shown_fits : (inode : ℕ) → IsInode g inode → FitsForm (form_at g image inode)
  shown_fits inode in_range = by (inode_at g image inode) refl
    where
      by : (o : Option InodeForm) → inode_at g image inode ≡ o → FitsForm (unwrap_or o (free_inode 0))
      by None e = free_zero
      by (Some form) e = form_fits (image (sector_of_inode g inode)) form (bytes (sector_of_inode g inode) (there inode in_range)).in_range e

  -- each image shows its catalog
  pub shows : Spells g false (λ _. false) image (catalog_at g image)
  shows = record {
    forms = λ inode in_range. refl;
    on_form = λ e. let no = e in cc;
    fit = shown_fits;
    in_data = λ block e. let no = e in cc;
    slots = λ block e. let no = e in cc;
    sized = λ block sector e of. let no = e in cc;
  }

  -- and spells one that it has
  pub spells : (c : Catalog) (these : ℕ → Bool) → IsCatalogOf g image c → ((block : ℕ) → IsTrue (these block) → (first_of_data g ≤ block) × (block < g.blocks) × (read_block image block ≡ map Some (c.slots block))) → Spells g true these image c
  spells c these cat each = record {
    forms = λ inode in_range. ap (λ o. unwrap_or o (free_inode 0)) (cat.forms inode in_range);
    on_form = λ e. cat.forms;
    fit = λ inode in_range. form_fits (image (sector_of_inode g inode)) (c.forms inode) (bytes (sector_of_inode g inode) (there inode in_range)).in_range (cat.forms inode in_range);
    in_data = λ block e. (each block e).0;
    slots = λ block e. (each block e).2;
    sized = λ block sector e of. let at = of.same in let in_block = of.in_block in let below = (each block e).1 in (bytes sector (omega (arith, at, in_block, below, room))).sized;
  }
