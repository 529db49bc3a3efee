-- The table that is made of what was read of an image is that of its catalog.
use Rattle.std.proofs.Common.{◌≡◌, ◌≢◌, ℕ, ◌+◌, ◌-◌, ◌<◌, ◌≤◌, List, [], ◌∷◌, Bool, true, false, length, Option, Some, None, get_or, map, refl, ap, sym, ◌∙◌, subst, arith}
use Rattle.std.specs.Prelude.{flat_map, ◌==◌, ◌&&◌, not, nat_le, if◌then◌else◌}
use Rattle.std.specs.List.{slice_get, enumerate_from}
use Rattle.std.specs.FinSet as set
use Rattle.std.proofs.lemmas.Bool.{eqb-true, and_parts}
use Rattle.std.proofs.lemmas.Bool.Decides.{nat_tests}
use Rattle.std.proofs.lemmas.Option.{slice_get_within}
use Rattle.std.proofs.lemmas.List.FromFn.{get_or-map-range_with_len}
use Rattle.ufs_base.specs.Images.{Image}
use Rattle.ufs_bitmap.specs.Space.{is_between}
use Rattle.ufs_layout.specs.Areas.{is_inode_number}
use Rattle.ufs_layout.specs.InodeForm.{InodeForm, is_used}
use Rattle.ufs_layout.specs.DentryForm.{DentryForm}
use Rattle.ufs_layout.specs.declared.geometry.Geometry.{Geometry}
use Rattle.ufs_damage.specs.Findings.{CatalogRead}
use Rattle.ufs_image.specs.Images.{form_at, inode_at}
use Rattle.ufs_image.specs.Nodes.{Dir, Node, ReadSlot, blocks_of, slots_of}
use Rattle.ufs_image.specs.Catalog.{Catalog, IsInode, IsCatalogOf, catalog_at, slots_in}
use Rattle.ufs_image.specs.Sound.{IsSoundCatalog}
use Rattle.ufs_image.proofs.Blamed.{undamaged}
use Rattle.ufs_image.proofs.Listed.{place_of_in, in_at_place, slots_are}
use Rattle.ufs_image.proofs.Lists.{IsIn}
use Rattle.ufs_image.proofs.Whole.{whole_read}
use Rattle.ufs_walk.proofs.Told.{from_dirs, in_dirs}
use Rattle.ufs_dirs.specs.Directory.{Directory}
use Rattle.ufs_dir_tree.specs.DirTable.{DirTable, blocks_at, dir_at, no_dir, slots_at}
use Rattle.ufs_dir_laws.specs.Tables.{IsTableOf, dir_blocks, is_free_inode}
use Rattle.ufs_start.specs.Starts.{IsUndamaged}
use Rattle.ufs_start.specs.Tables.{AreReadIn, IsAsRead, form_in, is_used_form, is_used_in}

-- ---- the same read slots are the same slots

same_first : {X : Type 0} (x y : X) (xs ys : List X) → x ∷ xs ≡ y ∷ ys → x ≡ y
same_first x y xs ys e = cc

same_rest : {X : Type 0} (x y : X) (xs ys : List X) → x ∷ xs ≡ y ∷ ys → xs ≡ ys
same_rest x y xs ys e = cc

abbrev read_slot : ℕ → Option DentryForm → ReadSlot
read_slot n o = (n, o)

-- what was read is told by its places
pub same_placed : (n : ℕ) (xs ys : List (Option DentryForm)) → enumerate_from n xs ≡ enumerate_from n ys → xs ≡ ys
same_placed n [] [] e = refl
same_placed n [] (y ∷ ys) e = cc
same_placed n (x ∷ xs) [] e = cc
same_placed n (x ∷ xs) (y ∷ ys) e =
    let first : x ≡ y = ap {B = Option DentryForm} (λ (s : ReadSlot). s.1) (same_first (read_slot n x) (read_slot n y) (enumerate_from (n + 1) xs) (enumerate_from (n + 1) ys) e) in
    let rest = same_placed (n + 1) xs ys (same_rest (read_slot n x) (read_slot n y) (enumerate_from (n + 1) xs) (enumerate_from (n + 1) ys) e) in
    λ i. first i ∷ rest i

abbrev slot : ℕ → DentryForm → ReadSlot
slot n x = (n, Some x)

same_read : (n : ℕ) (x y : DentryForm) → slot n x ≡ slot n y → x ≡ y
same_read n x y e = let same : Some x ≡ Some y = ap {B = Option DentryForm} (λ (s : ReadSlot). s.1) e in cc

same_slots : (n : ℕ) (xs ys : List DentryForm) → enumerate_from n (map Some xs) ≡ enumerate_from n (map Some ys) → xs ≡ ys
same_slots n [] [] e = refl
same_slots n [] (y ∷ ys) e = cc
same_slots n (x ∷ xs) [] e = cc
same_slots n (x ∷ xs) (y ∷ ys) e =
    let first = same_read n x y (same_first (slot n x) (slot n y) (enumerate_from (n + 1) (map Some xs)) (enumerate_from (n + 1) (map Some ys)) e) in
    let rest = same_slots (n + 1) xs ys (same_rest (slot n x) (slot n y) (enumerate_from (n + 1) (map Some xs)) (enumerate_from (n + 1) (map Some ys)) e) in
    λ i. first i ∷ rest i

module _ (g : Geometry) (image : Image) (f : CatalogRead) (u : IsUndamaged g image f) where
  abbrev c : Catalog
  c = catalog_at g image

  -- ---- the directories that were read

  record IsDirOf (d : Dir) : Type 0 where
    in_range : IsInode g d.inode
    dir : ((c.forms d.inode).kind == 2) ≡ true

  abbrev dir_of : Node → Dir
  dir_of n = record { inode = n.0; slots = slots_of image n.1 }

  from_read : (p : ℕ) (d : Dir) → slice_get f.dirs p ≡ Some d → IsDirOf d
  from_read p d there =
      let from = from_dirs g image d (subst (IsIn d) u.found.dirs (in_at_place d f.dirs p there)) in
      let inode : from.inode ≡ d.inode = ap (λ (x : Dir). x.inode) (sym from.same) in
      record {
        in_range = subst (IsInode g) inode from.in_range;
        dir = subst (λ (k : ℕ). ((form_at g image k).kind == 2) ≡ true) inode from.dir;
      }

  is_read : (inode : ℕ) → IsInode g inode → ((c.forms inode).kind == 2) ≡ true → (p : ℕ) × (slice_get f.dirs p ≡ Some (dir_of (inode, c.forms inode)))
  is_read inode in_range dir =
      place_of_in (dir_of (inode, c.forms inode)) f.dirs (subst (IsIn (dir_of (inode, c.forms inode))) (sym u.found.dirs) (in_dirs g image (whole_read g image (undamaged g image u.whole)) inode in_range dir))

  module _ (is : IsCatalogOf g image c) (sound : IsSoundCatalog g c) where
    form_is : (inode : ℕ) → IsInode g inode → form_in f.forms inode ≡ Some (c.forms inode)
    form_is inode in_range =
        ap (λ (l : List (Option InodeForm)). get_or l (inode - 1) None) u.found.forms
        ∙ get_or-map-range_with_len (inode_at g image) 1 g.inodes (inode - 1) inode None (let from = in_range.from_one in let most = in_range.within in omega (arith, from, most)) (let from = in_range.from_one in omega (arith, from))
        ∙ is.forms inode in_range

    -- ---- free inodes

    used_is : (inode : ℕ) → IsInode g inode → is_used_in f.forms inode ≡ is_used (c.forms inode)
    used_is inode in_range = ap is_used_form (form_is inode in_range)

    outside : (n i : ℕ) → (nat_le 1 i && nat_le i n) ≡ false → is_between 2 (n + 1) i ≡ false
    outside n i out = grind (arith, nat_tests, out)

    and_none : (b : Bool) → false ≡ (b && false)
    and_none true = refl
    and_none false = refl

    past_root : (n i : ℕ) → 1 < i → i ≤ n → is_between 2 (n + 1) i ≡ true
    past_root n i from most = grind (arith, nat_tests, from, most)

    and_true : (b : Bool) → (true && b) ≡ (b && true)
    and_true true = refl
    and_true false = refl

    root_used : not (is_used (c.forms 1)) ≡ false
    root_used = ap (λ k. not (not (k == 0))) sound.root

    free_is : (i : ℕ) → (is_between 2 (g.inodes + 1) i && not (is_used_in f.forms i)) ≡ is_free_inode g c i
    free_is i = by (is_inode_number g i) refl
      where
        within : (nat_le 1 i && nat_le i g.inodes) ≡ true → IsInode g i
        within e =
            let parts = and_parts (nat_le 1 i) (nat_le i g.inodes) e in
            let low = parts.0 in
            let high = parts.1 in
            record { from_one = grind (arith, nat_tests, low); within = grind (arith, nat_tests, high) }

        inside : IsInode g i → is_inode_number g i ≡ true → (b : Bool) → (i == 1) ≡ b → (is_between 2 (g.inodes + 1) i && not (is_used_in f.forms i)) ≡ is_free_inode g c i
        inside in_range number true root =
            let one : i ≡ 1 = eqb-true i 1 root in
            ap (λ (k : ℕ). is_between 2 (g.inodes + 1) k && not (is_used_in f.forms k)) one
            ∙ sym (ap (λ (b : Bool). b && is_inode_number g 1) root_used)
            ∙ sym (ap (is_free_inode g c) one)
        inside in_range number false other =
            let from = in_range.from_one in
            let most = in_range.within in
            let above : 1 < i = grind (arith, nat_tests, other, from) in
            (λ j. past_root g.inodes i above most j && not (used_is i in_range j))
            ∙ and_true (not (is_used (c.forms i)))
            ∙ ap (λ (b : Bool). not (is_used (c.forms i)) && b) (sym number)

        by : (b : Bool) → is_inode_number g i ≡ b → (is_between 2 (g.inodes + 1) i && not (is_used_in f.forms i)) ≡ is_free_inode g c i
        by true e = inside (within e) e (i == 1) refl
        by false e =
            ap (λ (b : Bool). b && not (is_used_in f.forms i)) (outside g.inodes i e)
            ∙ and_none (not (is_used (c.forms i)))
            ∙ ap (λ (b : Bool). not (is_used (c.forms i)) && b) (sym e)

    -- ---- the table

    module _ (t : DirTable) (counted : length t.dirs ≡ g.inodes + 1) (read : AreReadIn f.forms f.dirs (length f.dirs) t.dirs)
        (free : (i : ℕ) → set.contains t.free i ≡ (is_between 2 (g.inodes + 1) i && not (is_used_in f.forms i))) where
      record HasDirOf (inode : ℕ) : Type 0 where
        slots : slots_at t inode ≡ slots_in c inode
        blocks : blocks_at t inode ≡ dir_blocks c inode

      none_at : (inode : ℕ) → ((p : ℕ) (d : Dir) → slice_get f.dirs p ≡ Some d → d.inode ≢ inode) → dir_at t inode ≡ no_dir
      none_at inode none = read.others inode (λ p d less there. none p d there)

      has : (inode : ℕ) → IsInode g inode → HasDirOf inode
      has inode in_range = by ((c.forms inode).kind == 2) refl
        where
          by : (b : Bool) → ((c.forms inode).kind == 2) ≡ b → HasDirOf inode
          by true dir =
              let at = is_read inode in_range dir in
              let as_read : IsAsRead (form_in f.forms inode) (slots_of image (c.forms inode)) (dir_at t inode) = read.each at.0 (dir_of (inode, c.forms inode)) (slice_get_within f.dirs at.0 (dir_of (inode, c.forms inode)) at.1) at.1 in
              let slots : slots_at t inode ≡ flat_map c.slots (blocks_of (c.forms inode)) =
              same_slots 0 (slots_at t inode) (flat_map c.slots (blocks_of (c.forms inode))) (sym as_read.slots ∙ slots_are g image c is inode in_range (eqb-true (c.forms inode).kind 2 dir)) in
              record {
                slots = slots ∙ sym (ap (λ (b : Bool). if b then flat_map c.slots (blocks_of (c.forms inode)) else []) dir);
                blocks = as_read.blocks (c.forms inode) (form_is inode in_range) ∙ sym (ap (λ (b : Bool). if b then blocks_of (c.forms inode) else []) dir);
              }
          by false file =
              let none = none_at inode (λ p d there same. let unlike : true ≡ false = sym (from_read p d there).dir ∙ ap (λ (k : ℕ). (c.forms k).kind == 2) same ∙ file in absurd cc) in
              record {
                slots = ap (λ (d : Directory). d.slots) none ∙ sym (ap (λ (b : Bool). if b then flat_map c.slots (blocks_of (c.forms inode)) else []) file);
                blocks = ap (λ (d : Directory). d.blocks) none ∙ sym (ap (λ (b : Bool). if b then blocks_of (c.forms inode) else []) file);
              }

      pub is_table : IsTableOf g c t
      is_table = record {
        counted = counted;
        none = none_at 0 (λ p d there same. let from = (from_read p d there).in_range.from_one in absurd (omega (arith, from, same)));
        slots = λ inode in_range. (has inode in_range).slots;
        blocks = λ inode in_range. (has inode in_range).blocks;
        free = λ i. free i ∙ free_is i;
      }
