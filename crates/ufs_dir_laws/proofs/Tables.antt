-- The table of a sound catalog's directories is one.
use Rattle.std.proofs.Common.{◌≡◌, ◌≢◌, ℕ, zero, suc, ◌≤◌, ◌<◌, ◌⊎◌, inl, inr, List, [], ◌∷◌, Bool, true, false, length, Option, Some, None, ap, sym, refl, ◌∙◌, subst, arith}
use Rattle.std.specs.Prelude.{◌==◌, ◌&&◌, ◌||◌, not, nat_le, IsSome, flat_map, if◌then◌else◌}
use Rattle.std.specs.FinSet as set
use Rattle.std.specs.List.{slice_get}
use Rattle.std.specs.Str.{bytes_eq}
use Rattle.std.proofs.lemmas.Bool.{and_parts, false_from_ne_true, ne_eqb}
use Rattle.std.proofs.lemmas.Bool.Decides.{nat_tests}
use Rattle.std.proofs.lemmas.List.{get_or_past}
use Rattle.std.proofs.lemmas.Slice.Eq.{bytes_eq-Decides}
use Rattle.ufs_base.specs.Images.{Image}
use Rattle.ufs_layout.specs.Words.{pieces}
use Rattle.ufs_layout.specs.Areas.{is_inode_number, sectors_of_block, sector_of_inode}
use Rattle.ufs_layout.specs.InodeForm.{inode_fields, inode_bytes, is_inode, is_used}
use Rattle.ufs_layout.specs.DentryForm.{DentryForm, dentry_fields, dentry_bytes, dentry_of, is_dentry, is_named}
use Rattle.ufs_layout.specs.declared.geometry.Geometry.{Geometry}
use Rattle.ufs_dirs.specs.Directory.{Directory, IsDirectory, entry_of, has_name, has_block}
use Rattle.ufs_path.specs.Names.{IsName}
use Rattle.ufs_image.specs.Nodes.{blocks_of, read_sector}
use Rattle.ufs_image.specs.Catalog.{Catalog, IsInode, HasBlock, IsCatalogOf, slots_in}
use Rattle.ufs_image.specs.Sound.{IsSoundCatalog, HasDentry}
use Rattle.ufs_image.specs.Walks as cat
use Rattle.ufs_image.proofs.Lists.{IsIn, in_map, from_flat_map, from_map, found-some}
use Rattle.ufs_image.proofs.Listed.{place_of_in, in_at_place}
use Rattle.ufs_image.proofs.Found.{option_map-some, same_some, first_step, child-some, names_inode, reached}
use Rattle.ufs_image.proofs.Depth.{once}
use Rattle.ufs_image.proofs.Slots.{dir_kind}
use Rattle.ufs_image.proofs.Holders.{on_form}
use Rattle.ufs_dir_tree.specs.Space.{extents_of}
use Rattle.ufs_dir_tree.specs.DirTable.{DirTable, IsDirTable, IsReached, IsUsed, IsFree, no_dir, dir_at, slots_at, blocks_at, inode_of, found_at}
use Rattle.ufs_dir_tree.specs.declared.found.Found.{Found}
use Rattle.ufs_dir_tree.specs.declared.found.Found.TheVariants.{Dir, File}
use Rattle.ufs_dir_laws.specs.Meets.{found_in}
use Rattle.ufs_dir_laws.specs.Tables.{dir_blocks, IsTableOf}
use Rattle.ufs_dir_laws.proofs.Walked.{meets}
use Rattle.ufs_dir_laws.proofs.Extents.{few_extents}
use Rattle.ufs_dir_laws.proofs.PlainNames.{plain-name}

and_false : (b : Bool) → (b && false) ≡ false
and_false true = refl
and_false false = refl

-- a block of a list stands at a place
pub place_of_block : (blocks : List ℕ) (b : ℕ) → has_block blocks b ≡ true → (place : ℕ) × (slice_get blocks place ≡ Some b)
place_of_block [] b e = absurd cc
place_of_block (x ∷ xs) b e = by (x == b) refl e (place_of_block xs b)
  where
    by : (v : Bool) → (x == b) ≡ v → has_block (x ∷ xs) b ≡ true → (has_block xs b ≡ true → (place : ℕ) × (slice_get xs place ≡ Some b)) → (place : ℕ) × (slice_get (x ∷ xs) place ≡ Some b)
    by true is e more = let same : x ≡ b = grind (arith, nat_tests, is) in (0, ap Some same)
    by false is e more = let rest = more (ap (λ v. v || has_block xs b) (sym is) ∙ e) in (suc rest.0, rest.1)

bare_dir : (d : Directory) → d.blocks ≡ [] → d.slots ≡ [] → d ≡ no_dir
bare_dir d blocks slots i = record { blocks = blocks i; slots = slots i }

module _ (g : Geometry) (image : Image) (c : Catalog) (is : IsCatalogOf g image c) (sound : IsSoundCatalog g c) where
  -- what a directory's slot has is on its form
  pub slot_form : (i place : ℕ) (d : DentryForm) → IsInode g i → slice_get (slots_in c i) place ≡ Some d → is_dentry d ≡ true
  slot_form i place d inside there =
      let kind = dir_kind c i place d there in
      let dir : (c.forms i).kind ≡ 2 = grind (arith, nat_tests, kind) in
      let slots : slots_in c i ≡ flat_map c.slots (blocks_of (c.forms i)) = ap (λ b. if b then flat_map c.slots (blocks_of (c.forms i)) else []) kind in
      let from = from_flat_map c.slots (blocks_of (c.forms i)) d (subst (IsIn d) slots (in_at_place d (slots_in c i) place there)) in
      let at = place_of_in from.0 (blocks_of (c.forms i)) from.1 in
      let read = is.slots from.0 (record { inode = i; place = at.0; has = record { in_range = inside; there = at.1 }; dir = dir }) in
      let of_sector = from_flat_map (λ s. read_sector (image s)) (sectors_of_block from.0) (Some d) (subst (IsIn (Some d)) (sym read) (in_map Some (c.slots from.0) d from.2)) in
      let piece = from_map dentry_of (pieces 8 64 (image of_sector.0)) (Some d) of_sector.2 in
      on_form dentry_fields dentry_bytes is_dentry piece.0 d (sym piece.2)

  -- so its name may stand in a path
  pub dentry_name : (i place : ℕ) (d : DentryForm) → HasDentry g c i place d → IsName d.name
  dentry_name i place d has =
      let form = (and_parts (nat_le (length d.name) 58) _ (slot_form i place d has.in_range has.there)).0 in
      plain-name d.name (sound.fit i place d has).plain has.named form

module _ (g : Geometry) (image : Image) (c : Catalog) (t : DirTable) (some : 1 ≤ g.inodes) (is : IsCatalogOf g image c) (sound : IsSoundCatalog g c) (of : IsTableOf g c t) where
  pub root_inside : IsInode g 1
  root_inside = record { from_one = omega arith; within = some }

  pub inside_or_none : (i : ℕ) → IsInode g i ⊎ (dir_at t i ≡ no_dir)
  inside_or_none zero = inr of.none
  inside_or_none (suc i) = by (nat_le (suc i) g.inodes) refl
    where
      by : (b : Bool) → nat_le (suc i) g.inodes ≡ b → IsInode g (suc i) ⊎ (dir_at t (suc i) ≡ no_dir)
      by true e = inl (record { from_one = omega arith; within = grind (arith, nat_tests, e) })
      by false e =
          let over : g.inodes < suc i = grind (arith, nat_tests, e) in
          inr (get_or_past t.dirs (suc i) no_dir (omega (arith, over, of.counted)))

  -- ---- what is met

  pub met_inode : (names : List (List ℕ)) (f : Found) → found_at t names ≡ Some f → (i : ℕ) × (cat.inode_of c names ≡ Some i) × (found_in c i ≡ f)
  met_inode names f e = option_map-some (found_in c) (cat.inode_of c names) f (sym (meets g c t sound of.slots root_inside names) ∙ e)

  pub found_number : (i : ℕ) → inode_of (found_in c i) ≡ i
  found_number i = by ((c.forms i).kind == 2)
    where
      by : (b : Bool) → inode_of (if b then Dir i else File i) ≡ i
      by true = refl
      by false = refl

  -- a walk from a used inode meets used ones
  reached_used : (at : ℕ) (names : List (List ℕ)) (i : ℕ) → IsInode g at → (c.forms at).kind ≢ 0 → cat.walk_from c (Some at) names ≡ Some i → (c.forms i).kind ≢ 0
  reached_used at [] i inside used e = subst (λ k. (c.forms k).kind ≢ 0) (same_some at i e) used
  reached_used at (name ∷ names) i inside used e =
      let next = first_step c (cat.child_of c at name) names i e in
      let named = child-some g c sound at name next.0 inside next.1 in
      let fit = sound.fit at named.place named.dentry named.has in
      reached_used next.0 names i (names_inode g c sound at name next.0 named)
      (λ none. fit.used (sym fit.kind ∙ ap (λ k. (c.forms k).kind) named.inode_is ∙ none)) (ap (λ o. cat.walk_from c o names) (sym next.1) ∙ e)

  is_used_at : (i : ℕ) → IsInode g i → (c.forms i).kind ≢ 0 → IsUsed t i
  is_used_at i inside used = record {
    from_one = inside.from_one;
    within = omega (arith, inside.within, of.counted);
    used = of.free i ∙ ap (λ b. not (not b) && is_inode_number g i) (ne_eqb (c.forms i).kind 0 used);
  }

  pub met : (names : List (List ℕ)) (f : Found) → found_at t names ≡ Some f → IsUsed t (inode_of f)
  met names f e =
      let at = met_inode names f e in
      let root_used : (c.forms 1).kind ≢ 0 = λ none. let unlike : 2 ≡ 0 = sym sound.root ∙ none in absurd (omega (arith, unlike)) in
      let used = reached_used 1 names at.0 root_inside root_used at.1 in
      let inside = (reached g c sound 1 names at.0 root_inside at.1).0 in
      let same : at.0 ≡ inode_of f = sym (found_number at.0) ∙ ap inode_of at.2 in
      subst (IsUsed t) same (is_used_at at.0 inside used)

  met_once : (names others : List (List ℕ)) (f h : Found) → found_at t names ≡ Some f → found_at t others ≡ Some h → inode_of f ≡ inode_of h → names ≡ others
  met_once names others f h e o same =
      let a = met_inode names f e in
      let b = met_inode others h o in
      let one : b.0 ≡ a.0 = sym (found_number b.0) ∙ ap inode_of b.2 ∙ sym same ∙ sym (ap inode_of a.2) ∙ found_number a.0 in
      once g c sound some names others a.0 a.1 (b.1 ∙ ap Some one)

  -- ---- free inodes

  free : (i : ℕ) → set.contains t.free i ≡ true → IsFree t i
  free i e =
      let parts = and_parts (not (is_used (c.forms i))) (is_inode_number g i) (sym (of.free i) ∙ e) in
      let ends = and_parts (nat_le 1 i) (nat_le i g.inodes) parts.1 in
      let low = ends.0 in
      let high = ends.1 in
      let unused = parts.0 in
      let first : 1 ≤ i = grind (arith, nat_tests, low) in
      let last : i ≤ g.inodes = grind (arith, nat_tests, high) in
      let inside : IsInode g i = record { from_one = first; within = last } in
      let no_kind : ((c.forms i).kind == 2) ≡ false = by_kind ((c.forms i).kind) unused in
      let blocks : blocks_at t i ≡ [] = of.blocks i inside ∙ ap (λ b. if b then blocks_of (c.forms i) else []) no_kind in
      let slots : slots_at t i ≡ [] = of.slots i inside ∙ ap (λ b. if b then flat_map c.slots (blocks_of (c.forms i)) else []) no_kind in
      record { from_one = first; within = omega (arith, last, of.counted); bare = bare_dir (dir_at t i) blocks slots }
    where
      by_kind : (k : ℕ) → not (not (k == 0)) ≡ true → (k == 2) ≡ false
      by_kind kind e = grind (arith, nat_tests, e)

  -- ---- names

  entry_name : (i : ℕ) (name : List ℕ) (d : DentryForm) → IsInode g i → entry_of (slots_in c i) name ≡ Some d → IsName name
  entry_name i name d inside e =
      let there = found-some (has_name name) (slots_in c i) d e in
      let parts = and_parts (is_named d) (bytes_eq d.name name) there.2 in
      subst IsName ((bytes_eq-Decides d.name name).0 parts.1) (dentry_name g image c is sound i there.0 d (record { in_range = inside; there = there.1; named = parts.0 }))

  names : (i : ℕ) (name : List ℕ) → IsSome (entry_of (slots_at t i) name) → IsName name
  names i name has = by (inside_or_none i)
    where
      entry : IsInode g i → (o : Option DentryForm) → entry_of (slots_in c i) name ≡ o → IsSome o → IsName name
      entry inside None e has = absurd cc
      entry inside (Some d) e has = entry_name i name d inside e

      by : IsInode g i ⊎ (dir_at t i ≡ no_dir) → IsName name
      by (inl inside) = entry inside (entry_of (slots_in c i) name) refl (subst (λ slots. IsSome (entry_of slots name)) (of.slots i inside) has)
      by (inr none) = let unlike : false ≡ true = subst (λ (d : Directory). IsSome (entry_of d.slots name)) none has in absurd cc

  -- ---- blocks

  dir_has : (i b : ℕ) → has_block (dir_blocks c i) b ≡ true → (place : ℕ) × (slice_get (blocks_of (c.forms i)) place ≡ Some b)
  dir_has i b has = by ((c.forms i).kind == 2) has
    where
      by : (v : Bool) → has_block (if v then blocks_of (c.forms i) else []) b ≡ true → (place : ℕ) × (slice_get (blocks_of (c.forms i)) place ≡ Some b)
      by true has = place_of_block (blocks_of (c.forms i)) b has
      by false has = absurd cc

  pub holds : (i b : ℕ) → has_block (blocks_at t i) b ≡ true → (place : ℕ) × HasBlock g c i place b
  holds i b has = by (inside_or_none i)
    where
      by : IsInode g i ⊎ (dir_at t i ≡ no_dir) → (place : ℕ) × HasBlock g c i place b
      by (inl inside) = let at = dir_has i b (subst (λ blocks. has_block blocks b ≡ true) (of.blocks i inside) has) in (at.0, record { in_range = inside; there = at.1 })
      by (inr none) = let unlike : false ≡ true = subst (λ (d : Directory). has_block d.blocks b ≡ true) none has in absurd cc

  apart : (i j b : ℕ) → i ≢ j → has_block (blocks_at t i) b ≡ true → has_block (blocks_at t j) b ≡ false
  apart i j b other has = false_from_ne_true (has_block (blocks_at t j) b) (λ too. let p = holds i b has in let q = holds j b too in other (sound.blocks_once i j p.0 q.0 b p.1 q.1).0)

  form_extents : (i : ℕ) → IsInode g i → length (c.forms i).extents ≤ 56
  form_extents i inside =
      let form = on_form inode_fields inode_bytes is_inode (image (sector_of_inode g i)) (c.forms i) (is.forms i inside) in
      let few = (and_parts (nat_le (length (c.forms i).extents) 56) _ (and_parts (nat_le (c.forms i).kind 2) _ form).1).0 in
      grind (arith, nat_tests, few)

  extents : (i : ℕ) → length (extents_of (blocks_at t i)) ≤ 56
  extents i = by (inside_or_none i)
    where
      of_kind : (b : Bool) → IsInode g i → length (extents_of (if b then blocks_of (c.forms i) else [])) ≤ 56
      of_kind true inside = let most = few_extents (c.forms i).extents in let few = form_extents i inside in omega (arith, most, few)
      of_kind false inside = omega arith

      by : IsInode g i ⊎ (dir_at t i ≡ no_dir) → length (extents_of (blocks_at t i)) ≤ 56
      by (inl inside) = subst (λ blocks. length (extents_of blocks) ≤ 56) (sym (of.blocks i inside)) (of_kind ((c.forms i).kind == 2) inside)
      by (inr none) = subst (λ (d : Directory). length (extents_of d.blocks) ≤ 56) (sym none) (omega arith)

  pub is_dir_table : ((i : ℕ) → IsDirectory (dir_at t i)) → IsReached t → IsDirTable t
  is_dir_table whole reached = record {
    root = omega (arith, some, of.counted);
    met = met;
    once = met_once;
    free = free;
    names = names;
    apart = apart;
    extents = extents;
    whole = whole;
    reached = reached;
  }
