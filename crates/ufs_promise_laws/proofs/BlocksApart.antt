-- No block of an image is in two places.
use Rattle.std.proofs.Common.{◌≡◌, ◌≢◌, ℕ, ◌≤◌, ◌<◌, inr, [], true, false, length, Option, Some, None, ap, sym, refl, ◌∙◌, subst, arith, get_or}
use Rattle.std.specs.Prelude.{nat_eq}
use Rattle.std.specs.List.{IsDistinct}
use Rattle.std.specs.FinMap as map
use Rattle.std.specs.FinMap.{from_entries}
use Rattle.std.specs.FinSet as set
use Rattle.std.specs.FinSet.{contains-from_list_nat}
use Rattle.std.proofs.lemmas.Bool.{false_from_ne_true}
use Rattle.std.proofs.lemmas.Bool.Decides.{nat_tests}
use Rattle.std.proofs.lemmas.Map.Keys.{IsDistinct-from_apart}
use Rattle.std.proofs.lemmas.Option.{slice_get-get_or}
use Rattle.ufs_base.specs.Images.{Image}
use Rattle.ufs_bitmap.specs.Blocks.{BlockSet}
use Rattle.ufs_bitmap.specs.Taking.{has}
use Rattle.ufs_dirs.specs.Directory.{has_block}
use Rattle.ufs_image.specs.Catalog.{Catalog, IsInode, HasBlock}
use Rattle.ufs_image.specs.Nodes.{blocks_of}
use Rattle.ufs_image.specs.Opens.{walked}
use Rattle.ufs_image.specs.Standing.{IsVolumeOf}
use Rattle.ufs_image.specs.Volume.{Volume}
use Rattle.ufs_image.proofs.Depth.{has_root, root_in_range}
use Rattle.ufs_image.proofs.Found.{reached, same_some}
use Rattle.ufs_image.proofs.Opening.{has_geometry}
use Rattle.ufs_dir_tree.specs.DirTable.{blocks_at}
use Rattle.ufs_dir_laws.proofs.Tables.{holds, place_of_block}
use Rattle.ufs_file.specs.Hand.{FileState}
use Rattle.ufs_files.specs.Files as file_set
use Rattle.ufs_files.specs.Files.{Files}
use Rattle.ufs_files.proofs.MapLemmas.{blocks_there, blocks_none}
use Rattle.ufs_model.specs.PosixTree.{PosixTree, IsTree}
use Rattle.ufs_name_tree.specs.NameTable.{file_at}
use Rattle.ufs_names.specs.NamesPart.{NamesPart, IsNamedOnce}
use Rattle.ufs_names.specs.Space.{AreApart}
use Rattle.ufs_promise_laws.specs.Loaded.{AreRead, IsUntaken}
use Rattle.ufs_promise_laws.specs.Numbered.{HasImage}
use Rattle.ufs_promise_laws.specs.TreeParts.{IsNamesOf}
use Rattle.ufs_promise_laws.proofs.TreeNamed.{bare}

module _ (sectors : ℕ) (image : Image) (v : Volume) (c : Catalog) (t : PosixTree) (n : NamesPart) (files : Files) (pool : BlockSet) (is : IsVolumeOf sectors image v c) (tree : IsTree t)
    (like : HasImage t (from_entries (walked v))) (once : IsNamedOnce t.paths) (of : IsNamesOf v.geometry c t n) (read : AreRead v.image c n files) (untaken : IsUntaken v.geometry c pool) where
  some : 1 ≤ v.geometry.inodes
  some = has_root v.geometry (has_geometry sectors image v is.taken).0

  inside : (i f : ℕ) → file_at n.tree i ≡ Some f → IsInode v.geometry i
  inside i f e = let at = of.numbers.only i f e in (reached v.geometry c is.sound 1 at.names i (root_in_range v.geometry c is.sound some) at.met).0

  -- a file's block is its inode's
  file_holds : (f b : ℕ) → has (file_set.blocks_at files f) b ≡ true → (s : FileState) × (map.get files f ≡ Some s) × (place : ℕ) × HasBlock v.geometry c s.inode place b
  file_holds f b held = by (map.get files f) refl
    where
      by : (o : Option FileState) → map.get files f ≡ o → (s : FileState) × (map.get files f ≡ Some s) × (place : ℕ) × HasBlock v.geometry c s.inode place b
      by None e = let none : false ≡ true = sym (ap (λ bs. has bs b) (blocks_none files f e) ∙ contains-from_list_nat [] b) ∙ held in absurd cc
      by (Some s) e =
          let r = read f s e in
          let blocks : file_set.blocks_at files f ≡ blocks_of (c.forms s.inode) = blocks_there files f s e ∙ r.blocks in
          let at = place_of_block (blocks_of (c.forms s.inode)) b (sym (ap (λ bs. has bs b) blocks ∙ contains-from_list_nat (blocks_of (c.forms s.inode)) b) ∙ held) in
          (s, e, at.0, record { in_range = inside s.inode f r.inode; there = at.1 })

  dir_holds : (i b : ℕ) → has_block (blocks_at n.tree.dirs i) b ≡ true → (place : ℕ) × HasBlock v.geometry c i place b
  dir_holds = holds v.geometry v.image c n.tree.dirs some is.catalog is.sound of.dirs

  dirs_apart : (i b : ℕ) → has_block (blocks_at n.tree.dirs i) b ≡ true → set.contains pool b ≡ false
  dirs_apart i b held = false_from_ne_true (set.contains pool b) (λ e. let at = dir_holds i b held in untaken b e (inr (i, at.0, at.1)))

  files_absent : (f b : ℕ) → has (file_set.blocks_at files f) b ≡ true → set.contains pool b ≡ false
  files_absent f b held = false_from_ne_true (set.contains pool b) (λ e. let at = file_holds f b held in untaken b e (inr (at.0.inode, at.2, at.3)))

  -- an inode has a block once
  form_once : (i : ℕ) → IsInode v.geometry i → IsDistinct nat_eq (blocks_of (c.forms i))
  form_once i within = IsDistinct-from_apart nat_eq (blocks_of (c.forms i)) (λ j k d less inner. false_from_ne_true _ (λ e. twice j k d less inner e))
    where
      twice : (j k d : ℕ) → j < k → k < length (blocks_of (c.forms i)) → nat_eq (get_or (blocks_of (c.forms i)) j d) (get_or (blocks_of (c.forms i)) k d) ≡ true → ⊥
      twice j k d less inner e =
          let bs = blocks_of (c.forms i) in
          let same : get_or bs k d ≡ get_or bs j d = grind (arith, nat_tests, e) in
          let first : HasBlock v.geometry c i j (get_or bs j d) = record { in_range = within; there = slice_get-get_or bs j d (omega (arith, less, inner)) } in
          let second : HasBlock v.geometry c i k (get_or bs j d) = record { in_range = within; there = slice_get-get_or bs k d inner ∙ ap Some same } in
          let places = (is.sound.blocks_once i i j k (get_or bs j d) first second).1 in
          omega (arith, places, less)

  file_once : (f : ℕ) → IsDistinct nat_eq (file_set.blocks_at files f)
  file_once f = by (map.get files f) refl
    where
      by : (o : Option FileState) → map.get files f ≡ o → IsDistinct nat_eq (file_set.blocks_at files f)
      by None e = subst (IsDistinct nat_eq) (sym (blocks_none files f e)) (IsDistinct-from_apart nat_eq [] (λ i j d less within. absurd (omega (arith, within))))
      by (Some s) e =
          let r = read f s e in
          subst (IsDistinct nat_eq) (sym (blocks_there files f s e ∙ r.blocks)) (form_once s.inode (inside s.inode f r.inode))

  pairwise : (f h b : ℕ) → f ≢ h → has (file_set.blocks_at files f) b ≡ true → has (file_set.blocks_at files h) b ≡ false
  pairwise f h b other held = false_from_ne_true (has (file_set.blocks_at files h) b) twice
    where
      twice : has (file_set.blocks_at files h) b ≡ true → ⊥
      twice too =
          let p = file_holds f b held in
          let q = file_holds h b too in
          let inode = (is.sound.blocks_once p.0.inode q.0.inode p.2 q.2 b p.3 q.3).0 in
          other (same_some f h (sym (read f p.0 p.1).inode ∙ ap (file_at n.tree) inode ∙ (read h q.0 q.1).inode))

  mixed : (i f b : ℕ) → has_block (blocks_at n.tree.dirs i) b ≡ true → has (file_set.blocks_at files f) b ≡ false
  mixed i f b held = false_from_ne_true (has (file_set.blocks_at files f) b) twice
    where
      twice : has (file_set.blocks_at files f) b ≡ true → ⊥
      twice too =
          let p = dir_holds i b held in
          let q = file_holds f b too in
          let inode = (is.sound.blocks_once i q.0.inode p.0 q.2 b p.1 q.3).0 in
          let none_of : blocks_at n.tree.dirs i ≡ [] = bare sectors image v c n.tree t is tree like once of.dirs of.numbers i f (ap (file_at n.tree) inode ∙ (read f q.0 q.1).inode) in
          let none : false ≡ true = subst (λ bs. has_block bs b ≡ true) none_of held in
          absurd cc

  pub are_apart : AreApart n.tree.dirs files pool
  are_apart = record {
    dirs = dirs_apart;
    files = record { each = λ f. record { absent = files_absent f; once = file_once f }; pairwise = pairwise };
    mixed = mixed;
  }
