-- A server's start is what its image has.
use Rattle.std.proofs.Common.{◌≡◌, ℕ, List, [], ◌∷◌, true, false, length, map as mapped, Some, ap, sym, refl, ◌∙◌}
use Rattle.std.specs.Prelude.{not, slice_get}
use Rattle.std.specs.FinMap as map
use Rattle.std.specs.FinSet as set
use Rattle.std.proofs.lemmas.Bool.{and_parts}
use Rattle.ufs_base.specs.Images.{Image}
use Rattle.ufs_bitmap.specs.Space.{is_between}
use Rattle.ufs_bitmap.proofs.SetLemmas.{between_tells}
use Rattle.ufs_file.specs.Content.{Content}
use Rattle.ufs_file.specs.Hand.{FileState}
use Rattle.ufs_ilog.specs.Deltas.{extents_of}
use Rattle.ufs_image.specs.Catalog.{Catalog}
use Rattle.ufs_image.specs.Changes.{IsTakenBlock}
use Rattle.ufs_image.specs.Nodes as nodes
use Rattle.ufs_image.proofs.Bits.{is_taken_block}
use Rattle.ufs_layout.specs.Areas.{first_of_data}
use Rattle.ufs_layout.specs.declared.geometry.Geometry.{Geometry}
use Rattle.ufs_layout.specs.declared.inode.Extent.{Extent}
use Rattle.ufs_ledger.specs.Ledger.{IsDataBlock}
use Rattle.ufs_start_laws.specs.Parts.{IsLaid, IsOpened}
use Rattle.ufs_start.specs.Begun.{IsBegun, catalog_under, image_under, volume_under}
use Rattle.ufs_start.specs.Extents.{run_of}
use Rattle.ufs_start.specs.declared.parts.Start.{Start}
use Rattle.ufs_start_laws.specs.MountedLaws.{StartsAreOpened}

-- the extents of an inode's runs are the inode's
extents_back : (es : List Extent) → es ≡ extents_of (mapped run_of es)
extents_back [] = refl
extents_back (e ∷ es) = ap (λ (rest : List Extent). e ∷ rest) (extents_back es)

module _ (sectors : ℕ) (disk : Image) (s : Start) (is : IsBegun sectors disk s) where
  abbrev g : Geometry
  g = s.superblock.geometry

  abbrev c : Catalog
  c = catalog_under s.superblock disk

  abbrev image : Image
  image = image_under s.superblock disk

  untaken : (block : ℕ) → set.contains s.free.free block ≡ true → IsDataBlock g block × (IsTakenBlock g c block → ⊥)
  untaken block there =
      let parts = and_parts (is_between (first_of_data g) g.blocks block) (not (nodes.is_taken g (nodes.sound_nodes g image) block)) (sym (is.free block) ∙ there) in
      let ends = between_tells (first_of_data g) g.blocks block parts.0 in
      (record { from = ends.0; under = ends.1 }, λ taken. (let clash : false ≡ true = sym (ap not (is_taken_block g image c is.standing.catalog is.standing.sound block taken)) ∙ parts.1 in absurd cc))

  -- none of its blocks is dirty, and none in memory
  laid : (file : ℕ) (f : FileState) → map.get s.files file ≡ Some f → IsLaid c f
  laid file f at =
      let l = is.laid file f at in
      let unread = is.unread file f at in
      record {
        extents = extents_back (c.forms f.inode).extents ∙ ap extents_of (sym l.extents);
        marks = l.marks;
        held = ap (λ (x : Content). length x.there) unread ∙ sym (ap (λ (x : Content). length x.dirty) unread);
        written = λ place on. ap (λ (x : Content). slice_get x.there place) unread ∙ sym (ap (λ (x : Content). slice_get x.dirty place) unread) ∙ on;
      }

  opened : IsOpened sectors disk (volume_under s.superblock disk) s.names s.files s.free.free
  opened = record {
    standing = is.standing;
    table = is.table;
    names = is.names;
    reached = is.reached;
    read = is.read;
    parts = is.files;
    inodes = is.inodes;
    here = is.here;
    laid = laid;
    untaken = untaken;
    apart = is.apart;
  }

pub starts_opened : StartsAreOpened
starts_opened sectors disk s is = opened sectors disk s is
