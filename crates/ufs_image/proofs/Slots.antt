-- Names of an undamaged image, and of a sound catalog.
use Rattle.std.proofs.Common.{◌≡◌, ◌≢◌, ℕ, zero, suc, ◌+◌, ◌<◌, ◌≤◌, List, [], ◌∷◌, Bool, true, false, cond, length, Option, Some, map, ap, sym, refl, ◌∙◌, subst, arith}
use Rattle.std.specs.Prelude.{flat_map, filter, ◌==◌, ◌&&◌, ◌||◌, not, nat_le, nat_lt, if◌then◌else◌}
use Rattle.std.specs.List.{slice_get, enumerate_from}
use Rattle.std.specs.Str.{bytes_eq}
use Rattle.std.proofs.lemmas.Bool.{and_parts}
use Rattle.std.proofs.lemmas.Bool.Decides.{nat_tests}
use Rattle.std.proofs.lemmas.List.Folds.{flat_map-map}
use Rattle.std.proofs.lemmas.Slice.Eq.{bytes_eq-Decides}
use Rattle.ufs_base.specs.Choices.{some_if}
use Rattle.ufs_layout.specs.Areas.{all_inodes, is_inode_number}
use Rattle.ufs_layout.specs.InodeForm.{InodeForm, is_used}
use Rattle.ufs_layout.specs.DentryForm.{DentryForm, is_named}
use Rattle.ufs_base.specs.Images.{Image}
use Rattle.ufs_image.specs.Images.{form_at}
use Rattle.ufs_image.specs.Nodes.{Node, sound_node, sound_nodes, blocks_of, ReadSlot, Dir, slots_of, dirs_of, NamedSlot, names_of, kind_at}
use Rattle.ufs_image.specs.Damage.{Damage, BadDentry, FreeInode, NameTwice, is_plain_name, is_bad_dentry, names_no_inode, is_name_twice, has_two_names}
use Rattle.ufs_layout.specs.declared.geometry.Geometry.{Geometry}
use Rattle.ufs_image.specs.Catalog.{Catalog, IsInode, IsCatalogOf, slots_in}
use Rattle.ufs_image.specs.Sound.{HasDentry}
use Rattle.ufs_image.proofs.Lists.{IsIn, in_flat_map, in_filter, from_filter, flat_map-same, in_enumerated, from_enumerated}
use Rattle.ufs_image.proofs.Listed.{form_is, slots_are, used, names_of-used, in_used, from_used}
use Rattle.ufs_image.proofs.Found.{same_some}
use Rattle.ufs_image.proofs.Empty.{empty, empty_filter, filter_empty, empty_flat_map, flat_map_empty, map_empty, false_if_not, not_both, list_any_false, false_list_any, flat_map-filter_map, flat_map-filter, filter-flat_map, by_option, both_true}
use Rattle.ufs_image.proofs.Few.{some_in, few_filter, filter_few, few_flat_map, flat_map_each, flat_map_one}
use Rattle.ufs_image.proofs.Holders.{AreRead, node_is, inode_in, in_inodes}

-- ---- slots and names

get-map : {X Y : Type 0} (f : X → Y) (xs : List X) (place : ℕ) (x : X) → slice_get xs place ≡ Some x → slice_get (map f xs) place ≡ Some (f x)
get-map f [] place x e = let no = e in cc
get-map f (y ∷ xs) zero x e = ap (λ z. Some (f z)) (same_some y x e)
get-map f (y ∷ xs) (suc place) x e = get-map f xs place x e

map-get : {X Y : Type 0} (f : X → Y) (xs : List X) (place : ℕ) (y : Y) → slice_get (map f xs) place ≡ Some y → (x : X) × (slice_get xs place ≡ Some x) × (y ≡ f x)
map-get f [] place y e = let no = e in cc
map-get f (x ∷ xs) zero y e = (x, refl, sym (same_some (f x) y e))
map-get f (x ∷ xs) (suc place) y e = map-get f xs place y e

get-enumerate : {X : Type 0} (n : ℕ) (xs : List X) (k : ℕ) (s : ℕ × X) → slice_get (enumerate_from n xs) k ≡ Some s → (s.0 ≡ n + k) × (slice_get xs k ≡ Some s.1)
get-enumerate n [] k s e = let no = e in cc
get-enumerate n (x ∷ xs) zero s e = let same = same_some (n, x) s e in let number : n ≡ s.0 = ap (λ q. q.0) same in (omega (arith, number), ap (λ q. Some q.1) same)
get-enumerate n (x ∷ xs) (suc k) s e = let rest = get-enumerate (n + 1) xs k s e in let number = rest.0 in (omega (arith, number), rest.1)

enumerate-get : {X : Type 0} (n : ℕ) (xs : List X) (k : ℕ) (x : X) → slice_get xs k ≡ Some x → slice_get (enumerate_from n xs) k ≡ Some (n + k, x)
enumerate-get n [] k x e = let no = e in cc
enumerate-get n (y ∷ xs) zero x e = let same : y ≡ x = same_some y x e in let at : n ≡ n + 0 = omega arith in λ i. Some (at i, same i)
enumerate-get n (y ∷ xs) (suc k) x e = let at : n + 1 + k ≡ n + suc k = omega arith in enumerate-get (n + 1) xs k x e ∙ ap (λ m. Some (m, x)) at

-- two filters are one
filter-filter : {X : Type 0} (p q : X → Bool) (xs : List X) → filter p (filter q xs) ≡ filter (λ x. q x && p x) xs
filter-filter p q [] = refl
filter-filter {X} p q (x ∷ xs) = by (q x) (filter-filter p q xs)
  where
    by : (b : Bool) → filter p (filter q xs) ≡ filter (λ y. q y && p y) xs → filter p (cond b (x ∷ filter q xs) (filter q xs)) ≡ cond (b && p x) (x ∷ filter (λ y. q y && p y) xs) (filter (λ y. q y && p y) xs)
    by true more = ap (λ ys. cond (p x) (x ∷ ys) ys) more
    by false more = more

-- the directory that a catalog has with this number
abbrev pub dir_of : Catalog → ℕ → Dir
dir_of c k = record { inode = k; slots = enumerate_from 0 (map Some (slots_in c k)) }

cond_empty : {X : Type 0} (b : Bool) (xs : List X) → cond b xs [] ≡ [] → b ≡ true → xs ≡ []
cond_empty true xs e t = e
cond_empty false xs e t = let no = t in cc

empty_cond : {X : Type 0} (b : Bool) (xs : List X) → (b ≡ true → xs ≡ []) → cond b xs [] ≡ []
empty_cond true xs e = e refl
empty_cond false xs e = refl

-- who has a slot is a directory
pub dir_kind : (c : Catalog) (k place : ℕ) (d : DentryForm) → slice_get (slots_in c k) place ≡ Some d → ((c.forms k).kind == 2) ≡ true
dir_kind c k place d = by ((c.forms k).kind == 2)
  where
    by : (b : Bool) → slice_get (if b then flat_map c.slots (blocks_of (c.forms k)) else []) place ≡ Some d → b ≡ true
    by true e = refl
    by false e = let no = e in cc

module _ (g : Geometry) (image : Image) (c : Catalog) (is : IsCatalogOf g image c) (read : AreRead g image) where
  -- what is listed of each directory
  dirs_are : {Y : Type 0} (f : Dir → List Y) → flat_map f (dirs_of image (sound_nodes g image)) ≡ flat_map (λ k. cond ((c.forms k).kind == 2) (f (dir_of c k)) []) (all_inodes g)
  dirs_are {Y} f =
      flat_map-map f made (filter (λ (n : Node). n.1.kind == 2) (sound_nodes g image))
      ∙ flat_map-filter (λ n. f (made n)) (λ (n : Node). n.1.kind == 2) (sound_nodes g image)
      ∙ flat_map-filter_map each (sound_node g image) (all_inodes g)
      ∙ flat_map-same (λ k. by_option each (sound_node g image k)) (λ k. cond ((c.forms k).kind == 2) (f (dir_of c k)) []) (all_inodes g) (λ k there. one k (inode_in g k there))
    where
      made : Node → Dir
      made n = record { inode = n.0; slots = slots_of image n.1 }

      each : Node → List Y
      each n = cond (n.1.kind == 2) (f (made n)) []

      one : (k : ℕ) → IsInode g k → by_option each (sound_node g image k) ≡ cond ((c.forms k).kind == 2) (f (dir_of c k)) []
      one k in_range = ap (by_option each) (node_is g image c is read k in_range) ∙ by (is_used (c.forms k)) refl
        where
          slots_there : ((c.forms k).kind == 2) ≡ true → slots_of image (c.forms k) ≡ enumerate_from 0 (map Some (slots_in c k))
          slots_there e = slots_are g image c is k in_range (grind (arith, nat_tests, e)) ∙ ap (λ b. enumerate_from 0 (map Some (if b then flat_map c.slots (blocks_of (c.forms k)) else []))) (sym e)

          dir_there : (b : Bool) → ((c.forms k).kind == 2) ≡ b → cond b (f (made (k, c.forms k))) [] ≡ cond b (f (dir_of c k)) []
          dir_there true e = ap (λ slots. f (record { inode = k; slots = slots })) (slots_there e)
          dir_there false e = refl

          no_dir : (kind : ℕ) → not (kind == 0) ≡ false → (kind == 2) ≡ false
          no_dir kind e = let free : kind ≡ 0 = grind (arith, nat_tests, e) in ap (λ n. n == 2) free

          by : (b : Bool) → is_used (c.forms k) ≡ b → by_option each (some_if b (k, c.forms k)) ≡ cond ((c.forms k).kind == 2) (f (dir_of c k)) []
          by true e = dir_there ((c.forms k).kind == 2) refl
          by false e = sym (ap (λ b. cond b (f (dir_of c k)) []) (no_dir (c.forms k).kind e))

  -- a list that is made of each directory is empty exactly where each part is
  none_of_dirs : {Y : Type 0} (f : Dir → List Y) → ((k : ℕ) → IsInode g k → f (dir_of c k) ≡ []) → flat_map f (dirs_of image (sound_nodes g image)) ≡ []
  none_of_dirs f none = dirs_are f ∙ empty_flat_map (λ k. cond ((c.forms k).kind == 2) (f (dir_of c k)) []) (all_inodes g) (λ k there. empty_cond ((c.forms k).kind == 2) (f (dir_of c k)) (λ e. none k (inode_in g k there)))

  dirs_none : {Y : Type 0} (f : Dir → List Y) → flat_map f (dirs_of image (sound_nodes g image)) ≡ [] → (k place : ℕ) (d : DentryForm) → HasDentry g c k place d → f (dir_of c k) ≡ []
  dirs_none f none k place d has = cond_empty ((c.forms k).kind == 2) (f (dir_of c k)) (flat_map_empty (λ k. cond ((c.forms k).kind == 2) (f (dir_of c k)) []) (all_inodes g) (sym (dirs_are f) ∙ none) k (in_inodes g k has.in_range)) (dir_kind c k place d has.there)

  -- ---- dentries

  bad_dentries : Dir → List Damage
  bad_dentries d = map (λ (s : ReadSlot). BadDentry d.inode s.0) (filter is_bad_dentry d.slots)

  pub no_bad_dentry : ((k place : ℕ) (d : DentryForm) → HasDentry g c k place d → is_plain_name d.name ≡ true) → flat_map (λ (d : Dir). map (λ (s : ReadSlot). BadDentry d.inode s.0) (filter is_bad_dentry d.slots)) (dirs_of image (sound_nodes g image)) ≡ []
  no_bad_dentry plain = none_of_dirs (λ (d : Dir). map (λ (s : ReadSlot). BadDentry d.inode s.0) (filter is_bad_dentry d.slots)) (λ k in_range. ap (map (λ (s : ReadSlot). BadDentry k s.0)) (empty_filter is_bad_dentry (enumerate_from 0 (map Some (slots_in c k))) (λ s there. good k in_range s there)))
    where
      named : (k place : ℕ) (d : DentryForm) → IsInode g k → slice_get (slots_in c k) place ≡ Some d → (is_named d && not (is_plain_name d.name)) ≡ false
      named k place d in_range at = by (is_named d) refl
        where
          by : (b : Bool) → is_named d ≡ b → (b && not (is_plain_name d.name)) ≡ false
          by true e = ap not (plain k place d (record { in_range = in_range; there = at; named = e }))
          by false e = refl

      good : (k : ℕ) → IsInode g k → (s : ReadSlot) → IsIn s (enumerate_from 0 (map Some (slots_in c k))) → is_bad_dentry s ≡ false
      good k in_range s there =
          let at = from_enumerated 0 (map Some (slots_in c k)) s.0 s.1 there in
          let read = map-get Some (slots_in c k) at.0 s.1 at.2 in
          ap (λ o. is_bad_dentry (s.0, o)) read.2 ∙ named k at.0 read.0 in_range read.1

  pub plain_dentry : flat_map (λ (d : Dir). map (λ (s : ReadSlot). BadDentry d.inode s.0) (filter is_bad_dentry d.slots)) (dirs_of image (sound_nodes g image)) ≡ []
      → (k place : ℕ) (d : DentryForm) → HasDentry g c k place d → is_plain_name d.name ≡ true
  plain_dentry none k place d has =
      let part = map_empty (λ (s : ReadSlot). BadDentry k s.0) (filter is_bad_dentry (enumerate_from 0 (map Some (slots_in c k)))) (dirs_none (λ (d : Dir). map (λ (s : ReadSlot). BadDentry d.inode s.0) (filter is_bad_dentry d.slots)) none k place d has) in
      let there : IsIn (0 + place, Some d) (enumerate_from 0 (map Some (slots_in c k))) = in_enumerated 0 (map Some (slots_in c k)) place (Some d) (get-map Some (slots_in c k) place d has.there) in
      let good : (is_named d && not (is_plain_name d.name)) ≡ false = filter_empty is_bad_dentry (enumerate_from 0 (map Some (slots_in c k))) part (0 + place, Some d) there in
      by (is_plain_name d.name) (sym (ap (λ b. b && not (is_plain_name d.name)) has.named) ∙ good)
    where
      by : (b : Bool) → not b ≡ false → b ≡ true
      by true e = refl
      by false e = let no = e in cc

  -- ---- the inodes that are named

  used_are : (k : ℕ) → names_of (dir_of c k) ≡ used 0 (slots_in c k)
  used_are k = names_of-used k 0 (slots_in c k)

  fits_kind : (d : DentryForm) → IsInode g d.inode → (c.forms d.inode).kind ≡ d.kind → d.kind ≢ 0 → (place : ℕ) → names_no_inode g image (place, d) ≡ false
  fits_kind d in_range kind some_kind place = ap (λ n. n == 0 || not (n == d.kind)) (there ∙ kind) ∙ same d.kind some_kind
    where
      number : is_inode_number g d.inode ≡ true
      number = let from = in_range.from_one in let most = in_range.within in grind (arith, nat_tests, from, most)

      there : kind_at g image d.inode ≡ (c.forms d.inode).kind
      there = ap (λ b. if b then (form_at g image d.inode).kind else 0) number ∙ ap (λ (f : InodeForm). f.kind) (form_is g image c is d.inode in_range)

      same : (n : ℕ) → n ≢ 0 → (n == 0 || not (n == n)) ≡ false
      same n some = let other : (n == 0) ≡ false = false_if_not (n == 0) (λ e. some (grind (arith, nat_tests, e))) in let self : (n == n) ≡ true = grind (arith, nat_tests) in λ i. other i || not (self i)

  kind_fits : (d : DentryForm) (place : ℕ) → names_no_inode g image (place, d) ≡ false → IsInode g d.inode × ((c.forms d.inode).kind ≡ d.kind) × (d.kind ≢ 0)
  kind_fits d place e = by (is_inode_number g d.inode) refl e
    where
      by : (b : Bool) → is_inode_number g d.inode ≡ b → ((if b then (form_at g image d.inode).kind else 0) == 0 || not ((if b then (form_at g image d.inode).kind else 0) == d.kind)) ≡ false
          → IsInode g d.inode × ((c.forms d.inode).kind ≡ d.kind) × (d.kind ≢ 0)
      by false t e = let no = e in cc
      by true t e =
          let parts = and_parts (nat_le 1 d.inode) (nat_le d.inode g.inodes) t in
          let low = parts.0 in
          let high = parts.1 in
          let in_range : IsInode g d.inode = record { from_one = grind (arith, nat_tests, low); within = grind (arith, nat_tests, high) } in
          let kind : (c.forms d.inode).kind ≡ d.kind = sym (ap (λ (f : InodeForm). f.kind) (form_is g image c is d.inode in_range)) ∙ same (form_at g image d.inode).kind d.kind e in
          (in_range, kind, λ zero. some (form_at g image d.inode).kind d.kind e zero)
        where
          same : (n m : ℕ) → (n == 0 || not (n == m)) ≡ false → n ≡ m
          same n m h = grind (arith, nat_tests, h)

          some : (n m : ℕ) → (n == 0 || not (n == m)) ≡ false → m ≡ 0 → ⊥
          some n m h z = let at = same n m h in let zero : n ≡ 0 = at ∙ z in let yes : (n == 0) ≡ true = ap (λ k. k == 0) zero in let no : (n == 0 || not (n == m)) ≡ true = ap (λ b. b || not (n == m)) yes in let off = sym h ∙ no in cc

  pub no_free_inode : ((k place : ℕ) (d : DentryForm) → HasDentry g c k place d → IsInode g d.inode × ((c.forms d.inode).kind ≡ d.kind) × (d.kind ≢ 0))
      → flat_map (λ (d : Dir). map (λ (n : NamedSlot). FreeInode d.inode n.0 n.1.inode) (filter (names_no_inode g image) (names_of d))) (dirs_of image (sound_nodes g image)) ≡ []
  no_free_inode fits = none_of_dirs (λ (d : Dir). map (λ (n : NamedSlot). FreeInode d.inode n.0 n.1.inode) (filter (names_no_inode g image) (names_of d)))
      (λ k in_range. ap (map (λ (n : NamedSlot). FreeInode k n.0 n.1.inode)) (empty_filter (names_no_inode g image) (names_of (dir_of c k)) (λ n there. good k in_range n (subst (IsIn n) (used_are k) there))))
    where
      good : (k : ℕ) → IsInode g k → (n : NamedSlot) → IsIn n (used 0 (slots_in c k)) → names_no_inode g image n ≡ false
      good k in_range n there = let fit = fits k n.0 n.1 (from_used g c k n.0 n.1 in_range there) in fits_kind n.1 fit.0 fit.1 fit.2 n.0

  pub free_inode_none : flat_map (λ (d : Dir). map (λ (n : NamedSlot). FreeInode d.inode n.0 n.1.inode) (filter (names_no_inode g image) (names_of d))) (dirs_of image (sound_nodes g image)) ≡ []
      → (k place : ℕ) (d : DentryForm) → HasDentry g c k place d → IsInode g d.inode × ((c.forms d.inode).kind ≡ d.kind) × (d.kind ≢ 0)
  free_inode_none none k place d has =
      let part = map_empty (λ (n : NamedSlot). FreeInode k n.0 n.1.inode) (filter (names_no_inode g image) (names_of (dir_of c k))) (dirs_none (λ (d : Dir). map (λ (n : NamedSlot). FreeInode d.inode n.0 n.1.inode) (filter (names_no_inode g image) (names_of d))) none k place d has) in
      kind_fits d place (filter_empty (names_no_inode g image) (names_of (dir_of c k)) part (place, d) (subst (IsIn (place, d)) (sym (used_are k)) (in_used g c k place d has)))

  -- ---- a name twice

  same_name : (x y : List ℕ) → bytes_eq x y ≡ true → x ≡ y
  same_name x y e = (bytes_eq-Decides x y).0 e

  pub no_name_twice : ((k p q : ℕ) (d e : DentryForm) → HasDentry g c k p d → HasDentry g c k q e → d.name ≡ e.name → p ≡ q)
      → flat_map (λ (d : Dir). map (λ (n : NamedSlot). NameTwice d.inode n.0) (filter (is_name_twice d) (names_of d))) (dirs_of image (sound_nodes g image)) ≡ []
  no_name_twice once = none_of_dirs (λ (d : Dir). map (λ (n : NamedSlot). NameTwice d.inode n.0) (filter (is_name_twice d) (names_of d)))
      (λ k in_range. ap (map (λ (n : NamedSlot). NameTwice k n.0)) (empty_filter (is_name_twice (dir_of c k)) (names_of (dir_of c k)) (λ n there. good k in_range n (from_used g c k n.0 n.1 in_range (subst (IsIn n) (used_are k) there)))))
    where
      good : (k : ℕ) → IsInode g k → (n : NamedSlot) → HasDentry g c k n.0 n.1 → is_name_twice (dir_of c k) n ≡ false
      good k in_range n has = false_list_any (λ (o : NamedSlot). nat_lt o.0 n.0 && bytes_eq o.1.name n.1.name) (names_of (dir_of c k)) (λ o there. other o (from_used g c k o.0 o.1 in_range (subst (IsIn o) (used_are k) there)))
        where
          other : (o : NamedSlot) → HasDentry g c k o.0 o.1 → (nat_lt o.0 n.0 && bytes_eq o.1.name n.1.name) ≡ false
          other o too = false_if_not (nat_lt o.0 n.0 && bytes_eq o.1.name n.1.name) (λ e.
              let parts = and_parts (nat_lt o.0 n.0) (bytes_eq o.1.name n.1.name) e in
              let same : o.0 ≡ n.0 = once k o.0 n.0 o.1 n.1 too has (same_name o.1.name n.1.name parts.1) in
              let less : o.0 < n.0 = let t = parts.0 in grind (arith, nat_tests, t) in
              omega (arith, same, less))

  pub name_twice_none : flat_map (λ (d : Dir). map (λ (n : NamedSlot). NameTwice d.inode n.0) (filter (is_name_twice d) (names_of d))) (dirs_of image (sound_nodes g image)) ≡ []
      → (k p q : ℕ) (d e : DentryForm) → HasDentry g c k p d → HasDentry g c k q e → d.name ≡ e.name → p ≡ q
  name_twice_none none k p q d e a b same = by (nat_lt p q) refl (nat_lt q p) refl
    where
      no_other : (n : NamedSlot) → HasDentry g c k n.0 n.1 → (o : NamedSlot) → HasDentry g c k o.0 o.1 → (nat_lt o.0 n.0 && bytes_eq o.1.name n.1.name) ≡ false
      no_other n has o too =
          let part = map_empty (λ (n : NamedSlot). NameTwice k n.0) (filter (is_name_twice (dir_of c k)) (names_of (dir_of c k))) (dirs_none (λ (d : Dir). map (λ (n : NamedSlot). NameTwice d.inode n.0) (filter (is_name_twice d) (names_of d))) none k n.0 n.1 has) in
          let good : is_name_twice (dir_of c k) n ≡ false = filter_empty (is_name_twice (dir_of c k)) (names_of (dir_of c k)) part n (subst (IsIn n) (sym (used_are k)) (in_used g c k n.0 n.1 has)) in
          list_any_false (λ (o : NamedSlot). nat_lt o.0 n.0 && bytes_eq o.1.name n.1.name) (names_of (dir_of c k)) good o (subst (IsIn o) (sym (used_are k)) (in_used g c k o.0 o.1 too))

      by : (s : Bool) → nat_lt p q ≡ s → (t : Bool) → nat_lt q p ≡ t → p ≡ q
      by true less t more = absurd (not_both _ (no_other (q, e) b (p, d) a) (both_true (nat_lt p q) (bytes_eq d.name e.name) less ((bytes_eq-Decides d.name e.name).1 same)))
      by false less true more = absurd (not_both _ (no_other (p, d) a (q, e) b) (both_true (nat_lt q p) (bytes_eq e.name d.name) more ((bytes_eq-Decides e.name d.name).1 (sym same))))
      by false less false more = grind (arith, nat_tests, less, more)

  -- ---- two names

  abbrev names_to : ℕ → ℕ → List NamedSlot
  names_to inode k = filter (λ (n : NamedSlot). n.1.inode == inode) (used 0 (slots_in c k))

  count_is : (inode : ℕ) → filter (λ (n : NamedSlot). n.1.inode == inode) (flat_map names_of (dirs_of image (sound_nodes g image))) ≡ flat_map (names_to inode) (all_inodes g)
  count_is inode =
      ap (filter (λ (n : NamedSlot). n.1.inode == inode)) (dirs_are names_of)
      ∙ filter-flat_map (λ (n : NamedSlot). n.1.inode == inode) (λ k. cond ((c.forms k).kind == 2) (names_of (dir_of c k)) []) (all_inodes g)
      ∙ flat_map-same (λ k. filter (λ (n : NamedSlot). n.1.inode == inode) (cond ((c.forms k).kind == 2) (names_of (dir_of c k)) [])) (names_to inode) (all_inodes g) (λ k there. ap (filter (λ (n : NamedSlot). n.1.inode == inode)) (one k))
    where
      one : (k : ℕ) → cond ((c.forms k).kind == 2) (names_of (dir_of c k)) [] ≡ used 0 (slots_in c k)
      one k = ap (λ ns. cond ((c.forms k).kind == 2) ns []) (used_are k) ∙ by ((c.forms k).kind == 2)
        where
          by : (b : Bool) → cond b (used 0 (if b then flat_map c.slots (blocks_of (c.forms k)) else [])) [] ≡ used 0 (if b then flat_map c.slots (blocks_of (c.forms k)) else [])
          by true = refl
          by false = refl

  -- the places of such names
  names_to_is : (inode k : ℕ) → names_to inode k ≡ filter (λ (n : NamedSlot). is_named n.1 && n.1.inode == inode) (enumerate_from 0 (slots_in c k))
  names_to_is inode k = filter-filter (λ (n : NamedSlot). n.1.inode == inode) (λ (n : NamedSlot). is_named n.1) (enumerate_from 0 (slots_in c k))

  from_names_to : (inode k : ℕ) → IsInode g k → (n : NamedSlot) → IsIn n (names_to inode k) → HasDentry g c k n.0 n.1 × (n.1.inode ≡ inode)
  from_names_to inode k in_range n there =
      let kept = from_filter (λ (n : NamedSlot). n.1.inode == inode) (used 0 (slots_in c k)) n there in
      let e = kept.1 in
      (from_used g c k n.0 n.1 in_range kept.0, grind (arith, nat_tests, e))

  in_names_to : (k place : ℕ) (d : DentryForm) → HasDentry g c k place d → IsIn (place, d) (names_to d.inode k)
  in_names_to k place d has = in_filter (λ (n : NamedSlot). n.1.inode == d.inode) (used 0 (slots_in c k)) (place, d) (in_used g c k place d has) (grind (arith, nat_tests))

  few_names : ((k l p q : ℕ) (d e : DentryForm) → HasDentry g c k p d → HasDentry g c l q e → d.inode ≡ e.inode → (k ≡ l) × (p ≡ q)) → (inode : ℕ) → length (flat_map (names_to inode) (all_inodes g)) ≤ 1
  few_names once inode = few_flat_map (names_to inode) 1 g.inodes each one
    where
      within : (k : ℕ) → 1 ≤ k → k < 1 + g.inodes → IsInode g k
      within k from under = record { from_one = from; within = omega (arith, under) }

      each : (k : ℕ) → 1 ≤ k → k < 1 + g.inodes → length (names_to inode k) ≤ 1
      each k from under = subst (λ (ns : List NamedSlot). length ns ≤ 1) (sym (names_to_is inode k)) (few_filter (λ (n : NamedSlot). is_named n.1 && n.1.inode == inode) (enumerate_from 0 (slots_in c k)) (λ a b x y at there is_x is_y. same a b x y at there is_x is_y))
        where
          same : (a b : ℕ) (x y : NamedSlot) → slice_get (enumerate_from 0 (slots_in c k)) a ≡ Some x → slice_get (enumerate_from 0 (slots_in c k)) b ≡ Some y
              → (is_named x.1 && x.1.inode == inode) ≡ true → (is_named y.1 && y.1.inode == inode) ≡ true → a ≡ b
          same a b x y at there is_x is_y =
              let first = get-enumerate 0 (slots_in c k) a x at in
              let second = get-enumerate 0 (slots_in c k) b y there in
              let px = and_parts (is_named x.1) (x.1.inode == inode) is_x in
              let py = and_parts (is_named y.1) (y.1.inode == inode) is_y in
              let ex : x.1.inode ≡ inode = let t = px.1 in grind (arith, nat_tests, t) in
              let ey : y.1.inode ≡ inode = let t = py.1 in grind (arith, nat_tests, t) in
              (once k k a b x.1 y.1 (record { in_range = within k from under; there = first.1; named = px.0 }) (record { in_range = within k from under; there = second.1; named = py.0 }) (ex ∙ sym ey)).1

      one : (k l : ℕ) (x y : NamedSlot) → 1 ≤ k → k < 1 + g.inodes → 1 ≤ l → l < 1 + g.inodes → IsIn x (names_to inode k) → IsIn y (names_to inode l) → k ≡ l
      one k l x y fk uk fl ul here there =
          let a = from_names_to inode k (within k fk uk) x here in
          let b = from_names_to inode l (within l fl ul) y there in
          (once k l x.0 y.0 x.1 y.1 a.0 b.0 (a.1 ∙ sym b.1)).0

  no_names_of_root : ((k place : ℕ) (d : DentryForm) → HasDentry g c k place d → d.inode ≢ 1) → flat_map (names_to 1) (all_inodes g) ≡ []
  no_names_of_root unnamed = empty_flat_map (names_to 1) (all_inodes g) (λ k there. empty (names_to 1 k) (λ n is_in. let from = from_names_to 1 k (inode_in g k there) n is_in in unnamed k n.0 n.1 from.0 from.1))

  pub no_two_names : ((k l p q : ℕ) (d e : DentryForm) → HasDentry g c k p d → HasDentry g c l q e → d.inode ≡ e.inode → (k ≡ l) × (p ≡ q))
      → ((k place : ℕ) (d : DentryForm) → HasDentry g c k place d → d.inode ≢ 1)
      → filter (has_two_names (dirs_of image (sound_nodes g image))) (all_inodes g) ≡ []
  no_two_names once unnamed = empty_filter (has_two_names (dirs_of image (sound_nodes g image))) (all_inodes g) (λ inode there. good inode)
    where
      good : (inode : ℕ) → has_two_names (dirs_of image (sound_nodes g image)) inode ≡ false
      good inode = ap (λ (ns : List NamedSlot). nat_lt (if inode == 1 then 0 else 1) (length ns)) (count_is inode) ∙ by (inode == 1) refl
        where
          by : (b : Bool) → (inode == 1) ≡ b → nat_lt (if b then 0 else 1) (length (flat_map (names_to inode) (all_inodes g))) ≡ false
          by true e = let same : inode ≡ 1 = grind (arith, nat_tests, e) in ap (λ k. nat_lt 0 (length (flat_map (names_to k) (all_inodes g)))) same ∙ ap (λ (ns : List NamedSlot). nat_lt 0 (length ns)) (no_names_of_root unnamed)
          by false e = let few = few_names once inode in grind (arith, nat_tests, few)

  count_two : filter (has_two_names (dirs_of image (sound_nodes g image))) (all_inodes g) ≡ [] → (inode : ℕ) → IsInode g inode → nat_lt (if inode == 1 then 0 else 1) (length (flat_map (names_to inode) (all_inodes g))) ≡ false
  count_two none inode in_range = sym (ap (λ (ns : List NamedSlot). nat_lt (if inode == 1 then 0 else 1) (length ns)) (count_is inode)) ∙ filter_empty (has_two_names (dirs_of image (sound_nodes g image))) (all_inodes g) none inode (in_inodes g inode in_range)

  at_most : (b : Bool) (n : ℕ) → nat_lt (if b then 0 else 1) n ≡ false → n ≤ 1
  at_most true n e = grind (arith, nat_tests, e)
  at_most false n e = grind (arith, nat_tests, e)

  pub two_names_none : filter (has_two_names (dirs_of image (sound_nodes g image))) (all_inodes g) ≡ [] → ((k place : ℕ) (d : DentryForm) → HasDentry g c k place d → IsInode g d.inode)
      → (k l p q : ℕ) (d e : DentryForm) → HasDentry g c k p d → HasDentry g c l q e → d.inode ≡ e.inode → (k ≡ l) × (p ≡ q)
  two_names_none none ranged k l p q d e a b same =
      let few : length (flat_map (names_to d.inode) (all_inodes g)) ≤ 1 = at_most (d.inode == 1) _ (count_two none d.inode (ranged k p d a)) in
      let there : IsIn (q, e) (names_to d.inode l) = subst (λ i. IsIn (q, e) (names_to i l)) (sym same) (in_names_to l q e b) in
      let dirs : k ≡ l = flat_map_one (names_to d.inode) 1 g.inodes few k l (p, d) (q, e) (in_inodes g k a.in_range) (in_inodes g l b.in_range) (in_names_to k p d a) there in
      let each = flat_map_each (names_to d.inode) 1 g.inodes few k (in_inodes g k a.in_range) in
      let slots : length (filter (λ (n : NamedSlot). is_named n.1 && n.1.inode == d.inode) (enumerate_from 0 (slots_in c k))) ≤ 1 = subst (λ (ns : List NamedSlot). length ns ≤ 1) (names_to_is d.inode k) each in (
        dirs,
        filter_few (λ (n : NamedSlot). is_named n.1 && n.1.inode == d.inode) (enumerate_from 0 (slots_in c k)) slots p q (p, d) (q, e)
            (enumerate-get 0 (slots_in c k) p d a.there ∙ zero_on p d) (ap (λ m. slice_get (enumerate_from 0 (slots_in c m)) q) dirs ∙ enumerate-get 0 (slots_in c l) q e b.there ∙ zero_on q e)
            (both_true (is_named d) (d.inode == d.inode) a.named (grind (arith, nat_tests))) (both_true (is_named e) (e.inode == d.inode) b.named (test e.inode d.inode (sym same))),
      )
    where
      zero_on : (m : ℕ) (x : DentryForm) → ◌≡◌ {A = Option NamedSlot} (Some (0 + m, x)) (Some (m, x))
      zero_on m x = let at : 0 + m ≡ m = omega arith in ap (λ j. Some (j, x)) at

      test : (m n : ℕ) → m ≡ n → (m == n) ≡ true
      test m n h = grind (arith, nat_tests, h)

  pub root_unnamed : IsInode g 1 → filter (has_two_names (dirs_of image (sound_nodes g image))) (all_inodes g) ≡ [] → (k place : ℕ) (d : DentryForm) → HasDentry g c k place d → d.inode ≢ 1
  root_unnamed root none k place d has same =
      let few : nat_lt 0 (length (flat_map (names_to 1) (all_inodes g))) ≡ false = count_two none 1 root in
      let there : IsIn (place, d) (names_to 1 k) = subst (λ i. IsIn (place, d) (names_to i k)) same (in_names_to k place d has) in
      let some = some_in (flat_map (names_to 1) (all_inodes g)) (place, d) (in_flat_map (names_to 1) (all_inodes g) k (place, d) (in_inodes g k has.in_range) there) in
      grind (arith, nat_tests, few, some)
