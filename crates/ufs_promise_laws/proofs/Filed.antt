-- The files of an image are parts of the tree that it opens to.
use Rattle.std.proofs.Common.{◌≡◌, ℕ, ◌≤◌, List, Bool, true, false, Option, Some, None, ap, sym, ◌∙◌}
use Rattle.std.specs.Prelude.{◌==◌, if◌then◌else◌}
use Rattle.std.specs.Option.{option_map}
use Rattle.std.specs.FinMap as map
use Rattle.std.specs.FinMap.{from_entries}
use Rattle.ufs_base.specs.Images.{Image}
use Rattle.ufs_image.specs.Catalog.{Catalog}
use Rattle.ufs_image.specs.Opens.{file_bytes, walked}
use Rattle.ufs_image.specs.Standing.{IsVolumeOf}
use Rattle.ufs_image.specs.Volume.{Volume}
use Rattle.ufs_image.specs.Walks as cat
use Rattle.ufs_image.proofs.Depth.{has_root, root_in_range}
use Rattle.ufs_image.proofs.Found.{reached, same_some}
use Rattle.ufs_image.proofs.Opening.{has_geometry}
use Rattle.ufs_image.proofs.Paths.{stands}
use Rattle.ufs_file.specs.Hand.{FileState}
use Rattle.ufs_files.specs.Files.{Files, AreFilesOf}
use Rattle.ufs_model.specs.PosixTree.{PosixTree}
use Rattle.ufs_model.specs.Start.{content_of}
use Rattle.ufs_model.specs.declared.data.PathNode.TheVariants as path_node
use Rattle.ufs_ledger.specs.Kept.{path_node_of}
use Rattle.ufs_names.specs.Calls.{HaveInodes}
use Rattle.ufs_names.specs.NamesPart.{NamesPart}
use Rattle.ufs_names.specs.declared.holding.Holding.{Holding}
use Rattle.ufs_promise_laws.specs.Loaded.{AreRead}
use Rattle.ufs_promise_laws.specs.Numbered.{HasImage, IsFileAt}
use Rattle.ufs_promise_laws.specs.TreeParts.{closed_file, IsNamesOf}

-- what has a file's bytes is no directory
with_bytes : (b : Bool) (o : Option (List ℕ)) (bytes : List ℕ) → option_map path_node.File o ≡ Some (path_node_of (if b then None else Some bytes)) → o ≡ Some bytes
with_bytes b None bytes e = cc
with_bytes true (Some has) bytes e = cc
with_bytes false (Some has) bytes e = let same : has ≡ bytes = cc in ap Some same

module _ (sectors : ℕ) (image : Image) (v : Volume) (c : Catalog) (t : PosixTree) (n : NamesPart) (files : Files) (is : IsVolumeOf sectors image v c) (has : HasImage t (from_entries (walked v)))
    (of : IsNamesOf v.geometry c t n) (read : AreRead v.image c n files) where
  some : 1 ≤ v.geometry.inodes
  some = has_root v.geometry (has_geometry sectors image v is.taken).0

  bytes_at : (i f : ℕ) → IsFileAt c t.paths i f → map.get t.bytes f ≡ Some (file_bytes v.image (c.forms i))
  bytes_at i f at =
      let pieces = (reached v.geometry c is.sound 1 at.names i (root_in_range v.geometry c is.sound some) at.met).1 in
      with_bytes ((c.forms i).kind == 2) (map.get t.bytes f) (file_bytes v.image (c.forms i))
      (sym (ap (content_of t.bytes) at.stands) ∙ has (cat.path_text at.names)
      ∙ ap (option_map path_node_of) (stands v.geometry v.image c is.catalog is.sound some at.names pieces ∙ ap (option_map (cat.node_of v.image c)) at.met))

  -- the tree has the bytes that the image has
  pub has_bytes : (f : ℕ) (s : FileState) → map.get files f ≡ Some s → map.get t.bytes f ≡ Some (file_bytes v.image (c.forms s.inode))
  has_bytes f s e = bytes_at s.inode f (of.numbers.only s.inode f (read f s e).inode)

  pub are_files : AreFilesOf files t
  are_files f s e =
      let r = read f s e in
      (r.number, record { bytes = file_bytes v.image (c.forms s.inode); has = ap (map.get t.bytes) r.number ∙ has_bytes f s e; may = r.may })

  pub have_inodes : HaveInodes n.held files
  have_inodes f s h e held =
      let known : Some h ≡ Some (closed_file s.inode) = sym held ∙ of.closed.each s.inode f (read f s e).inode in
      sym (ap (λ (k : Holding). k.inode) (same_some h (closed_file s.inode) known))
