-- A catalog is sound exactly where nothing of its image's tree is damaged.
use Rattle.std.proofs.Common.{◌≡◌, ◌≢◌, ℕ, ◌-◌, ◌*◌, ◌<◌, ◌≤◌, List, [], ◌++◌, length, map, ap, refl, arith}
use Rattle.std.specs.Prelude.{flat_map, filter}
use Rattle.std.specs.List.{filter_map, AllByRecursion}
use Rattle.ufs_layout.specs.Areas.{all_inodes, first_of_data, data_blocks}
use Rattle.ufs_layout.specs.DentryForm.{DentryForm}
use Rattle.ufs_base.specs.Images.{Image}
use Rattle.ufs_image.specs.Nodes.{Node, is_bad_inode, is_bad_extent, sound_nodes, blocks_of, ReadSlot, Dir, dirs_of, NamedSlot, names_of}
use Rattle.ufs_image.specs.Damage.{Damage, BadInode, BadExtent, ShortExtents, BadDentry, FreeInode, NameTwice, TwoNames, holders, shared_block, is_short, is_bad_dentry, names_no_inode, is_name_twice, has_two_names, inode_damage, block_damage, name_damage, node_damage, tree_damage}
use Rattle.ufs_layout.specs.declared.geometry.Geometry.{Geometry}
use Rattle.ufs_image.specs.Catalog.{Catalog, IsInode, HasBlock, IsCatalogOf}
use Rattle.ufs_image.specs.Sound.{IsSoundCatalog, HasDentry, IsInData}
use Rattle.ufs_image.proofs.Lists.{IsIn}
use Rattle.ufs_image.proofs.Listed.{in_at_place}
use Rattle.ufs_image.proofs.Empty.{both_empty, append_empty, map_empty, empty_filter, filter_empty, empty_filter_map, filter_map_empty, in_range}
use Rattle.ufs_image.proofs.Holders.{AreRead, inode_in, in_inodes, forms_read, root_read, extents_read, extents_stay, few_holders, holders_few, two_blocks, blocks_two, none_short, short_none, block_in_data}
use Rattle.ufs_image.proofs.Slots.{no_bad_dentry, plain_dentry, no_free_inode, free_inode_none, no_name_twice, name_twice_none, no_two_names, two_names_none, root_unnamed}

map_none : {X Y : Type 0} (f : X → Y) (xs : List X) → xs ≡ [] → map f xs ≡ []
map_none f xs e = ap (map f) e

data_block : (g : Geometry) (b : ℕ) → (first_of_data g ≤ b) × (b < g.blocks) → IsIn b (data_blocks g)
data_block g b at = in_range (first_of_data g) (g.blocks - first_of_data g) b at.0 (omega (arith, at.0, at.1))

module _ (g : Geometry) (image : Image) where
  -- where the first two kinds are away
  pub read_from : inode_damage g image ≡ [] → AreRead g image
  read_from none =
      let parts = both_empty (map BadInode (filter (is_bad_inode g image) (all_inodes g))) (map BadExtent (filter (is_bad_extent g image) (all_inodes g))) none in
      record {
        forms = λ k in_range. filter_empty (is_bad_inode g image) (all_inodes g) (map_empty BadInode (filter (is_bad_inode g image) (all_inodes g)) parts.0) k (in_inodes g k in_range);
        extents = λ k in_range. filter_empty (is_bad_extent g image) (all_inodes g) (map_empty BadExtent (filter (is_bad_extent g image) (all_inodes g)) parts.1) k (in_inodes g k in_range);
      }

  read_to : AreRead g image → inode_damage g image ≡ []
  read_to read = append_empty (map BadInode (filter (is_bad_inode g image) (all_inodes g))) (map BadExtent (filter (is_bad_extent g image) (all_inodes g)))
      (map_none BadInode (filter (is_bad_inode g image) (all_inodes g)) (empty_filter (is_bad_inode g image) (all_inodes g) (λ k there. read.forms k (inode_in g k there))))
      (map_none BadExtent (filter (is_bad_extent g image) (all_inodes g)) (empty_filter (is_bad_extent g image) (all_inodes g) (λ k there. read.extents k (inode_in g k there))))

  -- ---- where no damage is

  pub whole_read : tree_damage g image ≡ [] → AreRead g image
  whole_read none = read_from (both_empty (inode_damage g image) (node_damage g image (sound_nodes g image)) none).0

  pub spelled_all : tree_damage g image ≡ [] → flat_map (λ (d : Dir). map (λ (s : ReadSlot). BadDentry d.inode s.0) (filter is_bad_dentry d.slots)) (dirs_of image (sound_nodes g image)) ≡ []
  spelled_all none =
      let halves = both_empty (inode_damage g image) (node_damage g image (sound_nodes g image)) none in
      let quarters = both_empty (block_damage g (sound_nodes g image)) (name_damage g image (dirs_of image (sound_nodes g image))) halves.1 in
      let counted = both_empty _ (map TwoNames (filter (has_two_names (dirs_of image (sound_nodes g image))) (all_inodes g))) quarters.1 in
      let named = both_empty _ (flat_map (λ (d : Dir). map (λ (n : NamedSlot). NameTwice d.inode n.0) (filter (is_name_twice d) (names_of d))) (dirs_of image (sound_nodes g image))) counted.0 in
      (both_empty _ _ named.0).0

  module _ (c : Catalog) (is : IsCatalogOf g image c) where
    pub sound_read : IsSoundCatalog g c → AreRead g image
    sound_read sound = record {
      forms = λ k in_range. forms_read g image c is sound.root k in_range;
      extents = λ k in_range. extents_read g image c is k in_range (forms_read g image c is sound.root k in_range) (sound.in_data k in_range);
    }

    -- ---- a sound catalog's image is undamaged

    abbrev nodes : List Node
    nodes = sound_nodes g image

    abbrev dirs : List Dir
    dirs = dirs_of image (sound_nodes g image)

    abbrev bad_dentries : List Damage
    bad_dentries = flat_map (λ (d : Dir). map (λ (s : ReadSlot). BadDentry d.inode s.0) (filter is_bad_dentry d.slots)) dirs

    abbrev free_inodes : List Damage
    free_inodes = flat_map (λ (d : Dir). map (λ (n : NamedSlot). FreeInode d.inode n.0 n.1.inode) (filter (names_no_inode g image) (names_of d))) dirs

    abbrev names_twice : List Damage
    names_twice = flat_map (λ (d : Dir). map (λ (n : NamedSlot). NameTwice d.inode n.0) (filter (is_name_twice d) (names_of d))) dirs

    abbrev two_names : List Damage
    two_names = map TwoNames (filter (has_two_names dirs) (all_inodes g))

    blocks_whole : IsSoundCatalog g c → block_damage g nodes ≡ []
    blocks_whole sound = append_empty (filter_map (shared_block nodes) (data_blocks g)) (map (λ (n : Node). ShortExtents n.0) (filter (λ (n : Node). is_short n.1) nodes))
        (empty_filter_map (shared_block nodes) (data_blocks g) (λ b there. two_blocks nodes b (holders nodes b) refl (few_holders g image c is (sound_read sound) b (λ i j p q. sound.blocks_once i j p q b))))
        (map_none (λ (n : Node). ShortExtents n.0) (filter (λ (n : Node). is_short n.1) nodes) (none_short g image c is (sound_read sound) sound.room sound.whole))

    names_whole : IsSoundCatalog g c → name_damage g image dirs ≡ []
    names_whole sound = append_empty (bad_dentries ++ free_inodes ++ names_twice) two_names
        (append_empty (bad_dentries ++ free_inodes) names_twice
        (append_empty bad_dentries free_inodes
        (no_bad_dentry g image c is (sound_read sound) (λ k place d has. (sound.fit k place d has).plain))
        (no_free_inode g image c is (sound_read sound) (λ k place d has. let fit = sound.fit k place d has in (fit.in_range, fit.kind, fit.used))))
        (no_name_twice g image c is (sound_read sound) sound.names_once))
        (map_none TwoNames (filter (has_two_names dirs) (all_inodes g)) (no_two_names g image c is (sound_read sound) sound.inodes_once (λ k place d has. (sound.fit k place d has).no_root)))

    pub sound_whole : IsSoundCatalog g c → tree_damage g image ≡ []
    sound_whole sound = append_empty (inode_damage g image) (node_damage g image nodes) (read_to (sound_read sound))
        (append_empty (block_damage g nodes) (name_damage g image dirs) (blocks_whole sound) (names_whole sound))

    -- ---- an undamaged image's catalog is sound

    module _ (some : 1 ≤ g.inodes) (none : tree_damage g image ≡ []) where
      halves : (inode_damage g image ≡ []) × (node_damage g image nodes ≡ [])
      halves = both_empty (inode_damage g image) (node_damage g image nodes) none

      read : AreRead g image
      read = read_from halves.0

      quarters : (block_damage g nodes ≡ []) × (name_damage g image dirs ≡ [])
      quarters = both_empty (block_damage g nodes) (name_damage g image dirs) halves.1

      sharing : (filter_map (shared_block nodes) (data_blocks g) ≡ []) × (map (λ (n : Node). ShortExtents n.0) (filter (λ (n : Node). is_short n.1) nodes) ≡ [])
      sharing = both_empty (filter_map (shared_block nodes) (data_blocks g)) (map (λ (n : Node). ShortExtents n.0) (filter (λ (n : Node). is_short n.1) nodes)) quarters.0

      counted : (bad_dentries ++ free_inodes ++ names_twice ≡ []) × (two_names ≡ [])
      counted = both_empty (bad_dentries ++ free_inodes ++ names_twice) two_names quarters.1

      named : (bad_dentries ++ free_inodes ≡ []) × (names_twice ≡ [])
      named = both_empty (bad_dentries ++ free_inodes) names_twice counted.0

      spelled : (bad_dentries ≡ []) × (free_inodes ≡ [])
      spelled = both_empty bad_dentries free_inodes named.0

      once_only : filter (has_two_names dirs) (all_inodes g) ≡ []
      once_only = map_empty TwoNames (filter (has_two_names dirs) (all_inodes g)) counted.1

      root_there : IsInode g 1
      root_there = record { from_one = omega arith; within = some }

      stay : (k : ℕ) → IsInode g k → AllByRecursion (IsInData g) (c.forms k).extents
      stay k in_range = extents_stay g image c is k in_range (read.forms k in_range) (read.extents k in_range)

      fits : (k place : ℕ) (d : DentryForm) → HasDentry g c k place d → IsInode g d.inode × ((c.forms d.inode).kind ≡ d.kind) × (d.kind ≢ 0)
      fits = free_inode_none g image c is read spelled.1

      sizes : (k : ℕ) → IsInode g k → ((c.forms k).size ≤ 4096 * length (blocks_of (c.forms k))) × ((c.forms k).kind ≡ 2 → (c.forms k).size ≡ 4096 * length (blocks_of (c.forms k)))
      sizes = short_none g image c is read (map_empty (λ (n : Node). ShortExtents n.0) (filter (λ (n : Node). is_short n.1) nodes) sharing.1)

      apart : (i j p q block : ℕ) → HasBlock g c i p block → HasBlock g c j q block → (i ≡ j) × (p ≡ q)
      apart i j p q block a b =
          let at = block_in_data g (c.forms i).extents block (stay i a.in_range) (in_at_place block (blocks_of (c.forms i)) p a.there) in
          let free = filter_map_empty (shared_block nodes) (data_blocks g) sharing.0 block (data_block g block at) in
          holders_few g image c is read block (blocks_two nodes block (holders nodes block) refl free) i j p q a b

      pub whole_sound : IsSoundCatalog g c
      whole_sound = record {
        root = root_read g image c is root_there (read.forms 1 root_there);
        in_data = stay;
        blocks_once = apart;
        room = λ k in_range. (sizes k in_range).0;
        whole = λ k in_range dir. (sizes k in_range).1 dir;
        fit = λ k place d has. let fit = fits k place d has in record {
          plain = plain_dentry g image c is read spelled.0 k place d has;
          in_range = fit.0;
          kind = fit.1;
          used = fit.2;
          no_root = root_unnamed g image c is read root_there once_only k place d has;
        };
        names_once = name_twice_none g image c is read named.1;
        inodes_once = two_names_none g image c is read once_only (λ k place d has. (fits k place d has).0);
      }
