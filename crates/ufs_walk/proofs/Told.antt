-- The places of an image and its paths.
use Rattle.std.proofs.Common.{◌≡◌, ◌≢◌, ℕ, zero, suc, inl, inr, List, [], ◌∷◌, ◌++◌, Bool, true, false, Some, None, refl, ap, sym, ◌∙◌, subst, eq-eqb}
use Rattle.std.specs.Prelude.{flat_map, map, filter, ◌==◌, not, ◌&&◌, if◌then◌else◌}
use Rattle.std.specs.List.{slice_get, AllByRecursion}
use Rattle.std.proofs.lemmas.Bool.{eqb-true}
use Rattle.ufs_base.specs.Choices.{some_if}
use Rattle.ufs_base.specs.Images.{Image}
use Rattle.ufs_layout.specs.Areas.{all_inodes}
use Rattle.ufs_layout.proofs.Spelled.{some_if-some}
use Rattle.ufs_layout.specs.declared.geometry.Geometry.{Geometry}
use Rattle.ufs_image.specs.Images.{form_at}
use Rattle.ufs_image.specs.Nodes.{Node, Dir, NamedSlot, names_of, slots_of, sound_node, sound_nodes, dirs_of}
use Rattle.ufs_image.specs.Catalog.{IsInode, IsCatalogOf, catalog_at}
use Rattle.ufs_image.specs.Sound.{IsSoundCatalog}
use Rattle.ufs_image.specs.Damage.{bad_tree}
use Rattle.ufs_image.specs.Opens.{NodeBytes, names_in, node_bytes, below, file_bytes, root_entry, walked}
use Rattle.ufs_image.specs.Volume.{Volume}
use Rattle.ufs_image.proofs.Lists.{IsIn, in_filter, from_filter, in_map, from_map, in_filter_map, from_filter_map}
use Rattle.ufs_image.proofs.Listed.{place_of_in, in_at_place, map-flat_map, is_listed}
use Rattle.ufs_image.proofs.Holders.{AreRead, inode_in, in_inodes}
use Rattle.ufs_image.proofs.Blamed.{undamaged}
use Rattle.ufs_image.proofs.Whole.{whole_read}
use Rattle.ufs_walk.specs.Walked.{AreInodes, Place, place_and_below, places_below, places, entry_of}
use Rattle.ufs_walk.specs.Found.{HasNames}

-- ---- what stands at the places

pub below_places : (depth : ℕ) (g : Geometry) (image : Image) (path : List ℕ) (inode : ℕ) → below depth g image path inode ≡ map (entry_of g image) (places_below depth g image path inode)
below_places zero g image path inode = refl
below_places (suc depth) g image path inode =
    (λ i. flat_map (λ (n : NamedSlot). (path ++ 47 ∷ n.1.name, node_bytes image (form_at g image n.1.inode)) ∷ below_places depth g image (path ++ 47 ∷ n.1.name) n.1.inode i) (names_in image inode (form_at g image inode)))
    ∙ map-flat_map (entry_of g image) (place_and_below (places_below depth g image) path) (names_in image inode (form_at g image inode))

pub all_places : (g : Geometry) (image : Image) → (form_at g image 1).kind ≡ 2 → root_entry ∷ below g.inodes g image [] 1 ≡ map (entry_of g image) (places g image)
all_places g image root =
    (λ i. (47 ∷ [], ap {B = NodeBytes} (λ b. if b then None else Some (file_bytes image (form_at g image 1))) (sym (eq-eqb (form_at g image 1).kind 2 root)) i) ∷ below_places g.inodes g image [] 1 i)

pub walked_places : (v : Volume) → (form_at v.geometry v.image 1).kind ≡ 2 → walked v ≡ map (entry_of v.geometry v.image) (places v.geometry v.image)
walked_places v root = all_places v.geometry v.image root

-- ---- the directories of an undamaged image

pub record IsDirOf (g : Geometry) (image : Image) (d : Dir) : Type 0 where
  pub inode : ℕ
  pub in_range : IsInode g inode
  pub same : d ≡ record { inode = inode; slots = slots_of image (form_at g image inode) }
  pub dir : ((form_at g image inode).kind == 2) ≡ true

module _ (g : Geometry) (image : Image) where
  pub from_dirs : (d : Dir) → IsIn d (dirs_of image (sound_nodes g image)) → IsDirOf g image d
  from_dirs d there =
      let mapped = from_map {Y = Dir} (λ (n : Node). record { inode = n.0; slots = slots_of image n.1 }) (filter (λ (n : Node). n.1.kind == 2) (sound_nodes g image)) d there in
      let kept = from_filter (λ (n : Node). n.1.kind == 2) (sound_nodes g image) mapped.0 mapped.1 in
      let node = from_filter_map (sound_node g image) (all_inodes g) mapped.0 kept.0 in
      let same : (node.0, form_at g image node.0) ≡ mapped.0 = (some_if-some _ (node.0, form_at g image node.0) mapped.0 node.2).1 in
      record {
        inode = node.0;
        in_range = inode_in g node.0 node.1;
        same = mapped.2 ∙ ap (λ (n : Node). record { inode = n.0; slots = slots_of image n.1 }) (sym same);
        dir = ap (λ (n : Node). n.1.kind == 2) same ∙ kept.1;
      }

  used_dir : (kind : ℕ) → (kind == 2) ≡ true → not (kind == 0) ≡ true
  used_dir kind is = ap (λ k. not (k == 0)) (eqb-true kind 2 is)

  pub in_dirs : AreRead g image → (inode : ℕ) → IsInode g inode → ((form_at g image inode).kind == 2) ≡ true → IsIn (record { inode = inode; slots = slots_of image (form_at g image inode) }) (dirs_of image (sound_nodes g image))
  in_dirs read inode in_range dir =
      let sound : sound_node g image inode ≡ Some (inode, form_at g image inode) =
      (λ i. some_if (not (read.forms inode in_range i) && (not (read.extents inode in_range i) && used_dir (form_at g image inode).kind dir i)) (inode, form_at g image inode)) in
      in_map {Y = Dir} (λ (n : Node). record { inode = n.0; slots = slots_of image n.1 }) (filter (λ (n : Node). n.1.kind == 2) (sound_nodes g image)) (inode, form_at g image inode)
      (in_filter (λ (n : Node). n.1.kind == 2) (sound_nodes g image) (inode, form_at g image inode)
      (in_filter_map (sound_node g image) (all_inodes g) inode (inode, form_at g image inode) (in_inodes g inode in_range) sound) dir)

  -- Their names are those of all inodes.
  pub has_names : (dirs : List Dir) → dirs ≡ dirs_of image (sound_nodes g image) → bad_tree g image ≡ None → IsCatalogOf g image (catalog_at g image) → IsSoundCatalog g (catalog_at g image) → HasNames g image dirs
  has_names dirs are none is sound = record {
    each = λ p d at.
        let from = from_dirs d (subst (IsIn d) are (in_at_place d dirs p at)) in
        ap names_of from.same
        ∙ ap (λ b. names_of (record { inode = from.inode; slots = if b then slots_of image (form_at g image from.inode) else [] })) (sym from.dir)
        ∙ ap (λ (k : ℕ). names_in image k (form_at g image k)) (ap (λ (x : Dir). x.inode) (sym from.same));
    none = λ inode in_range absent. by inode in_range absent ((form_at g image inode).kind == 2) refl;
    named = λ inode place n in_range at.
        let has = is_listed g image (catalog_at g image) is inode n.0 n.1 in_range (in_at_place n (names_in image inode (form_at g image inode)) place at) in
        (sound.fit inode n.0 n.1 has).in_range;
  }
    where
      by : (inode : ℕ) → IsInode g inode → ((p : ℕ) (d : Dir) → slice_get dirs p ≡ Some d → d.inode ≢ inode) → (b : Bool) → ((form_at g image inode).kind == 2) ≡ b
          → names_of (record { inode = inode; slots = if b then slots_of image (form_at g image inode) else [] }) ≡ []
      by inode in_range absent false e = refl
      by inode in_range absent true e =
          let there = place_of_in _ dirs (subst (IsIn (record { inode = inode; slots = slots_of image (form_at g image inode) })) (sym are) (in_dirs (whole_read g image (undamaged g image none)) inode in_range e)) in
          absurd (absent there.0 _ there.1 refl)

-- ---- inodes in range

all_append : {X : Type 0} (P : X → Type 0) (xs ys : List X) → AllByRecursion P xs → AllByRecursion P ys → AllByRecursion P (xs ++ ys)
all_append P [] ys left right = right
all_append P (x ∷ xs) ys left right = (left.0, all_append P xs ys left.1 right)

all_flat : {X Y : Type 0} (P : Y → Type 0) (f : X → List Y) (xs : List X) → ((x : X) → IsIn x xs → AllByRecursion P (f x)) → AllByRecursion P (flat_map f xs)
all_flat P f [] each = tt
all_flat P f (x ∷ xs) each = all_append P (f x) (flat_map f xs) (each x (inl refl)) (all_flat P f xs (λ y there. each y (inr there)))

pub below_in_range : (g : Geometry) (image : Image) (dirs : List Dir) → HasNames g image dirs → (depth : ℕ) (path : List ℕ) (inode : ℕ) → IsInode g inode → AreInodes g (places_below depth g image path inode)
below_in_range g image dirs has zero path inode in_range = tt
below_in_range g image dirs has (suc depth) path inode in_range =
    all_flat (λ (p : Place). IsInode g p.1) (place_and_below (places_below depth g image) path) (names_in image inode (form_at g image inode))
    (λ n there.
    let at = place_of_in n (names_in image inode (form_at g image inode)) there in
    let here = has.named inode at.0 n in_range at.1 in
    (here, below_in_range g image dirs has depth (path ++ 47 ∷ n.1.name) n.1.inode here))
