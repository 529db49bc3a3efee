-- A file without the blocks that its size doesn't need: all else stays.
use Rattle.std.proofs.Common.{◌≡◌, ◌≢◌, ℕ, ◌+◌, ◌*◌, ◌/◌, ◌<◌, ◌≤◌, ◌⊎◌, inl, inr, List, [], length, map, take, drop, Bool, true, false, Some, None, unwrap_or, ap, sym, refl, ◌∙◌, subst, arith}
use Rattle.std.specs.Prelude.{flat_map, ◌==◌, min, if◌then◌else◌}
use Rattle.std.specs.List.{slice_get}
use Rattle.std.proofs.lemmas.Bool.{cases_eq}
use Rattle.std.proofs.lemmas.Bool.Decides.{nat_tests}
use Rattle.std.proofs.lemmas.Grind.{flat_map-append}
use Rattle.std.proofs.lemmas.List.{length-take, take-append-drop, take-append-le}
use Rattle.ufs_base.specs.Images.{Image}
use Rattle.ufs_layout.specs.Areas.{sector_of_inode, first_of_inodes, first_of_journal, first_of_data}
use Rattle.ufs_layout.specs.InodeForm.{InodeForm, inode_of, free_inode}
use Rattle.ufs_layout.specs.DentryForm.{DentryForm, free_slot}
use Rattle.ufs_layout.specs.Superblock.{geometry_of}
use Rattle.ufs_layout.specs.declared.geometry.Geometry.{Geometry}
use Rattle.ufs_layout.specs.declared.superblock.Super.{Super}
use Rattle.ufs_image.specs.Agree.{IsOfBlock}
use Rattle.ufs_image.specs.Catalog.{Catalog, IsInode, IsCatalogOf, catalog_at, slots_in}
use Rattle.ufs_image.specs.Changes.{MayBecome}
use Rattle.ufs_image.specs.Folding.{with_form}
use Rattle.ufs_image.specs.Images.{IsImageOf, block_at, inode_at, form_at}
use Rattle.ufs_image.specs.Nodes.{blocks_of, read_block}
use Rattle.ufs_image.specs.Opens.{opens, file_bytes}
use Rattle.ufs_image.specs.Sound.{IsSoundCatalog}
use Rattle.ufs_image.specs.Walks.{inode_of as met_by, node_of}
use Rattle.ufs_image.proofs.Blocks.{read_same, file_same, file_length}
use Rattle.ufs_image.proofs.Changed.{file_sound, walks_same}
use Rattle.ufs_image.proofs.Depth.{root_in_range}
use Rattle.ufs_image.proofs.Found.{reached}
use Rattle.ufs_image.proofs.Holders.{block_in_data}
use Rattle.ufs_image.proofs.Listed.{place_of_in}
use Rattle.ufs_image.proofs.Lists.{IsIn, flat_map-same}
use Rattle.ufs_image.proofs.OneTree.{alike_tree, node_same}
use Rattle.ufs_recovery.specs.Fitted.{HasFormPut, fitted}
use Rattle.ufs_recovery.specs.Home.{IsAtHome}
use Rattle.ufs_recovery.proofs.FirstBlocks.{at_taken, first_blocks, first_in_data}
use Rattle.ufs_recovery.proofs.Home.{is_geometry, stays_home, block_low}

-- ---- the form

abbrev wanted : InodeForm → ℕ
wanted form = (form.size + 4095) / 4096

pub short_blocks : (form : InodeForm) → blocks_of (fitted form) ≡ take ((form.size + 4095) / 4096) (blocks_of form)
short_blocks form = first_blocks form.extents ((form.size + 4095) / 4096)

-- of blocks that are enough
short_count : (form : InodeForm) → form.size ≤ 4096 * length (blocks_of form) → length (blocks_of (fitted form)) ≡ (form.size + 4095) / 4096
short_count form room =
    let n = length (blocks_of form) in
    let enough : (form.size + 4095) / 4096 ≤ length (blocks_of form) = omega (arith, room) in
    ap (length {A = ℕ}) (short_blocks form) ∙ length-take ((form.size + 4095) / 4096) (blocks_of form) ∙ (let least : min ((form.size + 4095) / 4096) (length (blocks_of form)) ≡ (form.size + 4095) / 4096 = omega (arith, enough) in least)

short_room : (form : InodeForm) → form.size ≤ 4096 * length (blocks_of form) → form.size ≤ 4096 * length (blocks_of (fitted form))
short_room form room = let count = short_count form room in let n = length (blocks_of (fitted form)) in omega (arith, count)

pub short_fits : (form : InodeForm) → form.size ≤ 4096 * length (blocks_of form) → (form.size + 4095) / 4096 ≡ length (blocks_of (fitted form))
short_fits form room = sym (short_count form room)

-- a block that is kept was there
kept_block : (form : InodeForm) (p b : ℕ) → slice_get (blocks_of (fitted form)) p ≡ Some b → slice_get (blocks_of form) p ≡ Some b
kept_block form p b is = at_taken ((form.size + 4095) / 4096) (blocks_of form) p b (ap (λ (bs : List ℕ). slice_get bs p) (sym (short_blocks form)) ∙ is)

-- The first of these blocks have the bytes, if they have so many.
enough_bytes : (f : ℕ → List ℕ) (bs : List ℕ) (n size : ℕ) → size ≤ length (flat_map f (take n bs)) → take size (flat_map f (take n bs)) ≡ take size (flat_map f bs)
enough_bytes f bs n size most =
    sym (take-append-le size (flat_map f (take n bs)) (flat_map f (drop n bs)) most) ∙ ap (take size) (sym (flat_map-append f (take n bs) (drop n bs)) ∙ ap (flat_map f) (take-append-drop n bs))

-- ---- the image

module _ (sectors : ℕ) (superblock : Super) (image : Image) (home : IsAtHome sectors superblock image) (sized : IsImageOf sectors image) (inode : ℕ) (ranged : IsInode (geometry_of superblock) inode)
    (file : (form_at (geometry_of superblock) image inode).kind ≡ 1) (mix : Image) (has : HasFormPut (geometry_of superblock) inode (fitted (form_at (geometry_of superblock) image inode)) image mix) where
  abbrev g : Geometry
  g = geometry_of superblock

  abbrev c : Catalog
  c = catalog_at (geometry_of superblock) image

  abbrev form : InodeForm
  form = form_at (geometry_of superblock) image inode

  some : 1 ≤ (geometry_of superblock).inodes
  some = let least = (is_geometry sectors superblock image home).0.least_inodes in omega (arith, least)

  sound : IsSoundCatalog (geometry_of superblock) (catalog_at (geometry_of superblock) image)
  sound = home.is.sound

  room : (form_at (geometry_of superblock) image inode).size ≤ 4096 * length (blocks_of (form_at (geometry_of superblock) image inode))
  room = sound.room inode ranged

  may : MayBecome (geometry_of superblock) (catalog_at (geometry_of superblock) image) inode (fitted (form_at (geometry_of superblock) image inode))
  may = record {
    in_range = ranged;
    was_file = file;
    file = file;
    in_data = first_in_data g form.extents ((form.size + 4095) / 4096) (sound.in_data inode ranged);
    room = short_room form room;
    once = λ p q b at_p at_q. (sound.blocks_once inode inode p q b (record { in_range = ranged; there = kept_block form p b at_p }) (record { in_range = ranged; there = kept_block form q b at_q })).1;
    apart = λ p j q b at_p at_q. sym (sound.blocks_once inode j p q b (record { in_range = ranged; there = kept_block form p b at_p }) at_q).0;
  }

  abbrev d : Catalog
  d = with_form inode (fitted (form_at (geometry_of superblock) image inode)) (catalog_at (geometry_of superblock) image)

  -- what lies off the inode table stands
  off_table : (sector : ℕ) → (sector < 8 * first_of_inodes (geometry_of superblock)) ⊎ (8 * first_of_journal (geometry_of superblock) ≤ sector) → mix sector ≡ image sector
  off_table sector off = has.others sector (λ same.
      let from = ranged.from_one in let most = ranged.within in
      elim off [
        | inl low ↦ omega (arith, same, low)
        | inr high ↦ omega (arith, same, high, from, most)
      ])

  block_same : (block sector : ℕ) → first_of_data (geometry_of superblock) ≤ block → IsOfBlock block sector → image sector ≡ mix sector
  block_same block sector from of = let at = of.same in sym (off_table sector (inr (omega (arith, from, at))))

  pub inode_else : (k : ℕ) → IsInode (geometry_of superblock) k → k ≢ inode → inode_at (geometry_of superblock) mix k ≡ inode_at (geometry_of superblock) image k
  inode_else k at other = ap inode_of (has.others (sector_of_inode (geometry_of superblock) k) (λ same. let one = at.from_one in let from = ranged.from_one in other (omega (arith, same, one, from))))

  pub form_else : (k : ℕ) → IsInode (geometry_of superblock) k → k ≢ inode → form_at (geometry_of superblock) mix k ≡ form_at (geometry_of superblock) image k
  form_else k at other = ap (λ o. unwrap_or o (free_inode 0)) (inode_else k at other)

  pub form_here : form_at (geometry_of superblock) mix inode ≡ fitted (form_at (geometry_of superblock) image inode)
  form_here = ap (λ o. unwrap_or o (free_inode 0)) has.there

  -- A file's form says what it said.
  each : (P : InodeForm → InodeForm → Type 0) → ((f : InodeForm) → P f f) → P (fitted (form_at (geometry_of superblock) image inode)) (form_at (geometry_of superblock) image inode)
      → (k : ℕ) → IsInode (geometry_of superblock) k → P (form_at (geometry_of superblock) mix k) (form_at (geometry_of superblock) image k)
  each P same short k at = by (cases_eq k inode)
    where
      by : (k ≡ inode) ⊎ (k ≢ inode) → P (form_at (geometry_of superblock) mix k) (form_at (geometry_of superblock) image k)
      by (inl e) = subst (λ n. P (form_at (geometry_of superblock) mix n) (form_at (geometry_of superblock) image n)) (sym e) (subst (λ f. P f (form_at (geometry_of superblock) image inode)) (sym form_here) short)
      by (inr other) = subst (λ f. P f (form_at (geometry_of superblock) image k)) (sym (form_else k at other)) (same (form_at (geometry_of superblock) image k))

  pub kinds : (k : ℕ) → IsInode (geometry_of superblock) k → (form_at (geometry_of superblock) mix k).kind ≡ (form_at (geometry_of superblock) image k).kind
  kinds k at = each (λ f h. f.kind ≡ h.kind) (λ f. refl) refl k at

  pub numbers : (k : ℕ) → IsInode (geometry_of superblock) k → (form_at (geometry_of superblock) mix k).number ≡ (form_at (geometry_of superblock) image k).number
  numbers k at = each (λ f h. f.number ≡ h.number) (λ f. refl) refl k at

  -- ---- at home

  new_form : (k : ℕ) → (b : Bool) → (k == inode) ≡ b → IsInode (geometry_of superblock) k → inode_at (geometry_of superblock) mix k ≡ Some (if b then fitted (form_at (geometry_of superblock) image inode) else form_at (geometry_of superblock) image k)
  new_form k true t at = let same : k ≡ inode = grind (arith, nat_tests, t) in ap (inode_at (geometry_of superblock) mix) same ∙ has.there
  new_form k false t at = let other : k ≢ inode = grind (arith, nat_tests, t) in inode_else k at other ∙ home.is.catalog.forms k at

  slots_same : (b : ℕ) → first_of_data (geometry_of superblock) ≤ b → read_block mix b ≡ read_block image b
  slots_same b from = sym (read_same image mix b (λ s of. block_same b s from of))

  -- a directory's blocks are as they were
  dir_low : (k p b : ℕ) → (h : Bool) → (k == inode) ≡ h → IsInode (geometry_of superblock) k → slice_get (blocks_of (if h then fitted (form_at (geometry_of superblock) image inode) else form_at (geometry_of superblock) image k)) p ≡ Some b
      → slice_get (blocks_of (form_at (geometry_of superblock) image k)) p ≡ Some b
  dir_low k p b true t at there = let same : k ≡ inode = grind (arith, nat_tests, t) in ap (λ n. slice_get (blocks_of (form_at (geometry_of superblock) image n)) p) same ∙ kept_block form p b there
  dir_low k p b false t at there = there

  dir_kind : (k : ℕ) → (h : Bool) → (k == inode) ≡ h → (if h then fitted (form_at (geometry_of superblock) image inode) else form_at (geometry_of superblock) image k).kind ≡ (form_at (geometry_of superblock) image k).kind
  dir_kind k true t = let same : k ≡ inode = grind (arith, nat_tests, t) in ap (λ n. (form_at (geometry_of superblock) image n).kind) (sym same)
  dir_kind k false t = refl

  spelled : IsCatalogOf (geometry_of superblock) mix (with_form inode (fitted (form_at (geometry_of superblock) image inode)) (catalog_at (geometry_of superblock) image))
  spelled = record {
    forms = λ k at. new_form k (k == inode) refl at;
    slots = λ b in_dir.
        let there = dir_low in_dir.inode in_dir.place b (in_dir.inode == inode) refl in_dir.has.in_range in_dir.has.there in
        slots_same b (block_low (geometry_of superblock) (catalog_at (geometry_of superblock) image) sound in_dir.inode in_dir.place b in_dir.has.in_range there)
        ∙ home.is.catalog.slots b (record {
          inode = in_dir.inode;
          place = in_dir.place;
          has = record { in_range = in_dir.has.in_range; there = there };
          dir = sym (dir_kind in_dir.inode (in_dir.inode == inode) refl) ∙ in_dir.dir;
        });
  }

  pub cut_home : IsAtHome sectors superblock mix
  cut_home = stays_home sectors superblock image home mix (off_table 0 (inl (omega arith))) (λ s of. let from = of.from in off_table s (inr from))
      (with_form inode (fitted (form_at (geometry_of superblock) image inode)) (catalog_at (geometry_of superblock) image)) spelled
      (file_sound (geometry_of superblock) (catalog_at (geometry_of superblock) image) inode (fitted (form_at (geometry_of superblock) image inode)) sound may)

  -- ---- walks

  slots_by : (k : ℕ) (f : InodeForm) → IsInode (geometry_of superblock) k → f ≡ form_at (geometry_of superblock) image k → (b : Bool) → (f.kind == 2) ≡ b
      → (if f.kind == 2 then flat_map (catalog_at (geometry_of superblock) mix).slots (blocks_of f) else []) ≡ (if f.kind == 2 then flat_map (catalog_at (geometry_of superblock) image).slots (blocks_of f) else [])
  slots_by k f at e true t = ap (λ (l : List DentryForm). if f.kind == 2 then l else []) (flat_map-same (catalog_at (geometry_of superblock) mix).slots (catalog_at (geometry_of superblock) image).slots (blocks_of f) (λ b there.
      let place = place_of_in b (blocks_of f) there in
      ap (map (λ o. unwrap_or o free_slot)) (slots_same b (block_low (geometry_of superblock) (catalog_at (geometry_of superblock) image) sound k place.0 b at (ap (λ (h : InodeForm). slice_get (blocks_of h) place.0) (sym e) ∙ place.1)))))
  slots_by k f at e false t =
      ap (λ b. if b then flat_map (catalog_at (geometry_of superblock) mix).slots (blocks_of f) else []) t ∙ sym (ap (λ b. if b then flat_map (catalog_at (geometry_of superblock) image).slots (blocks_of f) else []) t)

  no_dir : (k : ℕ) (c : Catalog) → (c.forms k).kind ≡ 1 → slots_in c k ≡ []
  no_dir k c kind = ap (λ n. if n == 2 then flat_map c.slots (blocks_of (c.forms k)) else []) kind

  same_slots : (k : ℕ) → IsInode (geometry_of superblock) k → slots_in (catalog_at (geometry_of superblock) mix) k ≡ slots_in (catalog_at (geometry_of superblock) image) k
  same_slots k at = by (cases_eq k inode)
    where
      by : (k ≡ inode) ⊎ (k ≢ inode) → slots_in (catalog_at (geometry_of superblock) mix) k ≡ slots_in (catalog_at (geometry_of superblock) image) k
      by (inl e) =
          let was : (form_at (geometry_of superblock) image k).kind ≡ 1 = ap (λ n. (form_at (geometry_of superblock) image n).kind) e ∙ file in
          no_dir k (catalog_at (geometry_of superblock) mix) (kinds k at ∙ was) ∙ sym (no_dir k (catalog_at (geometry_of superblock) image) was)
      by (inr other) =
          slots_by k (form_at (geometry_of superblock) mix k) at (form_else k at other) ((form_at (geometry_of superblock) mix k).kind == 2) refl
          ∙ ap (λ (f : InodeForm). if f.kind == 2 then flat_map (catalog_at (geometry_of superblock) image).slots (blocks_of f) else []) (form_else k at other)

  pub cut_walks : (names : List (List ℕ)) → met_by (catalog_at (geometry_of superblock) mix) names ≡ met_by (catalog_at (geometry_of superblock) image) names
  cut_walks = walks_same (catalog_at (geometry_of superblock) image) (catalog_at (geometry_of superblock) mix)
      (λ k is. same_slots k (reached (geometry_of superblock) (catalog_at (geometry_of superblock) image) sound 1 is.names k (root_in_range (geometry_of superblock) (catalog_at (geometry_of superblock) image) sound some) is.met).0)

  -- ---- bytes

  within : (b : ℕ) → IsIn b (blocks_of (fitted (form_at (geometry_of superblock) image inode))) → 8 * b + 8 ≤ sectors
  within b there =
      let at = block_in_data (geometry_of superblock) (fitted form).extents b may.in_data there in
      let end = at.1 in
      let large = (is_geometry sectors superblock image home).1 in omega (arith, end, large)

  many : (form_at (geometry_of superblock) image inode).size ≤ length (flat_map (block_at image) (take ((form.size + 4095) / 4096) (blocks_of form)))
  many =
      let count = file_length image sectors sized (fitted form) within may.room in
      let least = length-take form.size (flat_map (block_at image) (blocks_of (fitted form))) in
      subst (λ (bs : List ℕ). form.size ≤ length (flat_map (block_at image) bs)) (short_blocks form) (omega (arith, count, least))

  pub cut_bytes : file_bytes mix (fitted (form_at (geometry_of superblock) image inode)) ≡ file_bytes image (form_at (geometry_of superblock) image inode)
  cut_bytes =
      sym (file_same image mix (fitted form) (λ s of. block_same of.block s (block_low (geometry_of superblock) (catalog_at (geometry_of superblock) image) sound inode of.place of.block ranged (kept_block form of.place of.block of.there)) of.of_block))
      ∙ ap (λ (bs : List ℕ). take form.size (flat_map (block_at image) bs)) (short_blocks form) ∙ enough_bytes (block_at image) (blocks_of form) ((form.size + 4095) / 4096) form.size many

  nodes : (names : List (List ℕ)) (i : ℕ) → met_by (catalog_at (geometry_of superblock) image) names ≡ Some i → node_of image (catalog_at (geometry_of superblock) image) i ≡ node_of mix (catalog_at (geometry_of superblock) mix) i
  nodes names i met = by (cases_eq i inode)
    where
      at : IsInode (geometry_of superblock) i
      at = (reached (geometry_of superblock) (catalog_at (geometry_of superblock) image) sound 1 names i (root_in_range (geometry_of superblock) (catalog_at (geometry_of superblock) image) sound some) met).0

      by : (i ≡ inode) ⊎ (i ≢ inode) → node_of image (catalog_at (geometry_of superblock) image) i ≡ node_of mix (catalog_at (geometry_of superblock) mix) i
      by (inl e) =
          ap (node_of image (catalog_at (geometry_of superblock) image)) e
          ∙ ap (λ bytes. if form.kind == 2 then None else Some bytes) (sym cut_bytes)
          ∙ ap (λ (f : InodeForm). node_of mix (record { forms = λ _. f; slots = (catalog_at (geometry_of superblock) image).slots }) inode) (sym form_here)
          ∙ ap (node_of mix (catalog_at (geometry_of superblock) mix)) (sym e)
      by (inr other) =
          node_same image mix (catalog_at (geometry_of superblock) image) i (λ s of. block_same of.block s (block_low (geometry_of superblock) (catalog_at (geometry_of superblock) image) sound i of.place of.block at of.there) of.of_block)
          ∙ sym (ap (λ (f : InodeForm). node_of mix (record { forms = λ _. f; slots = (catalog_at (geometry_of superblock) image).slots }) i) (form_else i at other))

  pub cut_tree : opens sectors mix ≡ opens sectors image
  cut_tree = alike_tree sectors image mix (record { superblock = superblock; geometry = geometry_of superblock; image = image }) (record { superblock = superblock; geometry = geometry_of superblock; image = mix })
      (catalog_at (geometry_of superblock) image) (catalog_at (geometry_of superblock) mix) home.is cut_home.is cut_walks nodes
