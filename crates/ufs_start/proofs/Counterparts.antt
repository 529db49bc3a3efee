-- What is said of names and files over an image's catalog is true over that of an image that agrees with it.
use Rattle.std.proofs.Common.{◌≡◌, ℕ, List, [], Bool, true, false, Some, length, map, ap, sym, refl, ◌∙◌}
use Rattle.std.specs.Prelude.{◌==◌, ◌&&◌, not, if◌then◌else◌, IsSome}
use Rattle.std.specs.FinMap as fin
use Rattle.std.specs.List.{slice_get}
use Rattle.ufs_base.specs.Images.{Image}
use Rattle.ufs_bitmap.specs.Space.{is_between}
use Rattle.ufs_dir_laws.specs.Tables.{IsTableOf, is_free_inode}
use Rattle.ufs_dir_tree.specs.DirTable.{DirTable}
use Rattle.ufs_file.specs.Content.{block_count, unread}
use Rattle.ufs_file.specs.Hand.{FileState}
use Rattle.ufs_files.specs.Files.{Files}
use Rattle.ufs_image.specs.Agree.{AgreeOn}
use Rattle.ufs_image.specs.Catalog.{IsInode, catalog_at}
use Rattle.ufs_image.specs.Changes.{IsUnreached}
use Rattle.ufs_image.specs.Images.{form_at}
use Rattle.ufs_image.specs.Nodes as nodes
use Rattle.ufs_image.specs.Opens.{file_bytes}
use Rattle.ufs_image.specs.Sound.{IsSoundCatalog}
use Rattle.ufs_image.specs.Nodes.{Node}
use Rattle.ufs_image.proofs.Depth.{has_root, root_in_range}
use Rattle.ufs_image.proofs.Found.{reached}
use Rattle.ufs_layout.specs.Areas.{IsGeometry, first_of_data, is_inode_number}
use Rattle.ufs_layout.specs.InodeForm.{InodeForm, is_used}
use Rattle.ufs_layout.specs.declared.geometry.Geometry.{Geometry}
use Rattle.ufs_load_image.specs.Loaded.{is_free_block}
use Rattle.ufs_model.specs.PosixTree.{Paths, PosixTree}
use Rattle.ufs_name_tree.specs.NameTable.{NameTable, file_at}
use Rattle.ufs_names.specs.NamesPart.{NamesPart}
use Rattle.ufs_promise_laws.specs.Loaded.{AreRead}
use Rattle.ufs_promise_laws.specs.Numbered.{IsNumberedAs}
use Rattle.ufs_promise_laws.specs.TreeParts.{IsNamesOf}
use Rattle.ufs_start.specs.Extents.{run_of}
use Rattle.ufs_start.specs.Files.{AreLaid, AreUnread}
use Rattle.ufs_start.specs.Refused.{HasNoneCutOff, IsCutOff, IsUnnamedFile}
use Rattle.ufs_start.proofs.Alike.{IsUsedHere, form_same, met_same, nodes_same, number_is, slots_in_same}
use Rattle.ufs_start.proofs.FileLemmas.{may_be}

no_right : (b : Bool) → (b && false) ≡ false
no_right true = refl
no_right false = refl

module _ (g : Geometry) (geometry : IsGeometry g) (one other : Image) (agree : AgreeOn (IsUsedHere g one) one other) where
  pub free_there : (block : ℕ) → is_free_block g one block ≡ is_free_block g other block
  free_there block = ap (λ (ns : List Node). is_between (first_of_data g) g.blocks block && not (nodes.is_taken g ns block)) (nodes_same g geometry one other agree)

  free_inode_there : (inode : ℕ) → is_free_inode g (catalog_at g one) inode ≡ is_free_inode g (catalog_at g other) inode
  free_inode_there inode = by (is_inode_number g inode) refl
    where
      by : (b : Bool) → is_inode_number g inode ≡ b → is_free_inode g (catalog_at g one) inode ≡ is_free_inode g (catalog_at g other) inode
      by true e = ap (λ (f : InodeForm). not (is_used f) && is_inode_number g inode) (form_same g geometry one other agree inode (number_is g inode e))
      by false e =
          ap (λ b. not (is_used (form_at g one inode)) && b) e ∙ no_right (not (is_used (form_at g one inode)))
          ∙ sym (ap (λ b. not (is_used (form_at g other inode)) && b) e ∙ no_right (not (is_used (form_at g other inode))))

  module _ (sound : IsSoundCatalog g (catalog_at g one)) where
    table_there : (t : DirTable) → IsTableOf g (catalog_at g one) t → IsTableOf g (catalog_at g other) t
    table_there t is = record {
      counted = is.counted;
      none = is.none;
      slots = λ inode in_range. is.slots inode in_range ∙ sym (slots_in_same g geometry one other agree sound inode in_range);
      blocks = λ inode in_range. is.blocks inode in_range ∙ ap (λ (f : InodeForm). if f.kind == 2 then nodes.blocks_of f else []) (form_same g geometry one other agree inode in_range);
      free = λ inode. is.free inode ∙ free_inode_there inode;
    }

    numbers_there : (n : NameTable) (paths : Paths) → IsNumberedAs (catalog_at g one) n paths → IsNumberedAs (catalog_at g other) n paths
    numbers_there n paths is = record {
      counted = is.counted;
      each = λ inode file at. is.each inode file (record { names = at.names; met = sym (met_same g geometry one other agree sound at.names) ∙ at.met; stands = at.stands });
      only = λ inode file e. let at = is.only inode file e in record { names = at.names; met = met_same g geometry one other agree sound at.names ∙ at.met; stands = at.stands };
    }

    pub names_there : (t : PosixTree) (n : NamesPart) → IsNamesOf g (catalog_at g one) t n → IsNamesOf g (catalog_at g other) t n
    names_there t n is = record { dirs = table_there n.tree.dirs is.dirs; numbers = numbers_there n.tree t.paths is.numbers; closed = is.closed; next = is.next }

    pub unreached_there : (inode : ℕ) → IsUnreached (catalog_at g one) inode → IsUnreached (catalog_at g other) inode
    unreached_there inode none names met = none names (sym (met_same g geometry one other agree sound names) ∙ met)

    pub cut_off_there : (inode : ℕ) → IsCutOff g (catalog_at g one) inode → IsCutOff g (catalog_at g other) inode
    cut_off_there inode is = record {
      place = is.place;
      dentry = is.dentry;
      stands = record {
        in_range = is.stands.in_range;
        there = ap (λ slots. slice_get slots is.place) (slots_in_same g geometry one other agree sound inode is.stands.in_range) ∙ is.stands.there;
        named = is.stands.named;
      };
      unreached = unreached_there inode is.unreached;
    }

    -- and back
    cut_off_back : (inode : ℕ) → IsCutOff g (catalog_at g other) inode → IsCutOff g (catalog_at g one) inode
    cut_off_back inode is = record {
      place = is.place;
      dentry = is.dentry;
      stands = record {
        in_range = is.stands.in_range;
        there = ap (λ slots. slice_get slots is.place) (sym (slots_in_same g geometry one other agree sound inode is.stands.in_range)) ∙ is.stands.there;
        named = is.stands.named;
      };
      unreached = λ names met. is.unreached names (met_same g geometry one other agree sound names ∙ met);
    }

    pub none_cut_there : HasNoneCutOff g (catalog_at g one) → HasNoneCutOff g (catalog_at g other)
    none_cut_there none inode is = none inode (cut_off_back inode is)

    pub unnamed_there : (inode : ℕ) → IsUnnamedFile g (catalog_at g one) inode → IsUnnamedFile g (catalog_at g other) inode
    unnamed_there inode is = record {
      in_range = is.in_range;
      file = ap (λ (f : InodeForm). f.kind) (sym (form_same g geometry one other agree inode is.in_range)) ∙ is.file;
      unreached = unreached_there inode is.unreached;
    }

    -- ---- files

    module _ (n : NamesPart) (paths : Paths) (is : IsNumberedAs (catalog_at g one) n.tree paths) (files : Files) (are : AreRead one (catalog_at g one) n files) where
      of_file : (file : ℕ) (s : FileState) → fin.get files file ≡ Some s → IsInode g s.inode
      of_file file s got =
          let at = is.only s.inode file (are file s got).inode in
          (reached g (catalog_at g one) sound 1 at.names s.inode (root_in_range g (catalog_at g one) sound (has_root g geometry)) at.met).0

      form_of : (file : ℕ) (s : FileState) → fin.get files file ≡ Some s → form_at g one s.inode ≡ form_at g other s.inode
      form_of file s got = form_same g geometry one other agree s.inode (of_file file s got)

      pub unread_there : AreUnread (catalog_at g one) files → AreUnread (catalog_at g other) files
      unread_there have file s got = have file s got ∙ ap (λ (f : InodeForm). unread f.size) (form_of file s got)

      -- of which nothing was read
      pub read_there : AreUnread (catalog_at g one) files → ((inode : ℕ) → IsInode g inode → length (file_bytes other (form_at g other inode)) ≡ (form_at g other inode).size) → AreRead other (catalog_at g other) n files
      read_there have sized file s got = let this = are file s got in record {
        number = this.number;
        inode = this.inode;
        may = may_be s.content (form_at g other s.inode).size (file_bytes other (form_at g other s.inode)) (unread_there have file s got) (sized s.inode (of_file file s got));
        blocks = this.blocks ∙ ap nodes.blocks_of (form_of file s got);
      }

      pub laid_there : AreLaid (catalog_at g one) files → AreLaid (catalog_at g other) files
      laid_there have file s got =
          let form = form_of file s got in
          let this = have file s got in
          record {
            extents = this.extents ∙ ap (λ (f : InodeForm). map run_of f.extents) form;
            count = this.count ∙ ap (λ (f : InodeForm). block_count f.size) form;
            marks = this.marks;
          }

    pub named_there : (t : NameTable) → ((inode : ℕ) → IsInode g inode → (form_at g one inode).kind ≡ 1 → IsSome (file_at t inode)) → (inode : ℕ) → IsInode g inode → (form_at g other inode).kind ≡ 1 → IsSome (file_at t inode)
    named_there t are inode in_range file = are inode in_range (ap (λ (f : InodeForm). f.kind) (form_same g geometry one other agree inode in_range) ∙ file)
