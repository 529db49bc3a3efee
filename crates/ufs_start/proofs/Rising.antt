-- The directories that are read of an image stand by rising inode.
use Rattle.std.proofs.Common.{◌≡◌, ℕ, zero, suc, ◌+◌, ◌<◌, ◌≤◌, List, [], ◌∷◌, Bool, true, false, cond, Option, Some, None, map, refl, ap, sym, subst, arith}
use Rattle.std.specs.Prelude.{filter, ◌==◌}
use Rattle.std.specs.List.{cons_option, filter_map, slice_get, range_with_len}
use Rattle.ufs_base.specs.Images.{Image}
use Rattle.ufs_image.specs.Images.{form_at}
use Rattle.ufs_image.specs.Nodes.{Dir, Node, dirs_of, slots_of, sound_node, sound_nodes}
use Rattle.ufs_layout.proofs.Spelled.{some_if-some}
use Rattle.ufs_layout.specs.declared.geometry.Geometry.{Geometry}

-- the first is at least so much, and each is above the one before it
abbrev Rises : {X : Type 0} → (X → ℕ) → ℕ → List X → Type 0
Rises key least [] = Unit {0}
Rises key least (x ∷ xs) = (least ≤ key x) × Rises key (key x + 1) xs

module _ {X : Type 0} (key : X → ℕ) where
  lower : (low least : ℕ) (xs : List X) → low ≤ least → Rises key least xs → Rises key low xs
  lower low least [] under r = tt
  lower low least (x ∷ xs) under r = let first = r.0 in (omega (arith, first, under), r.1)

  kept : (p : X → Bool) (least : ℕ) (xs : List X) → Rises key least xs → Rises key least (filter p xs)
  kept p least [] r = tt
  kept p least (x ∷ xs) r = by (p x) (kept p (key x + 1) xs r.1)
    where
      by : (b : Bool) → Rises key (key x + 1) (filter p xs) → Rises key least (cond b (x ∷ filter p xs) (filter p xs))
      by true rest = (r.0, rest)
      by false rest = let first = r.0 in lower least (key x + 1) (filter p xs) (omega (arith, first)) rest

  from_range : (h : ℕ → Option X) → ((k : ℕ) (x : X) → h k ≡ Some x → key x ≡ k) → (a n : ℕ) → Rises key a (filter_map h (range_with_len a n))
  from_range h is a zero = tt
  from_range h is a (suc n) = by (h a) refl (from_range h is (a + 1) n)
    where
      by : (o : Option X) → h a ≡ o → Rises key (a + 1) (filter_map h (range_with_len (a + 1) n)) → Rises key a (cons_option o (filter_map h (range_with_len (a + 1) n)))
      by None e rest = lower a (a + 1) (filter_map h (range_with_len (a + 1) n)) (omega arith) rest
      by (Some x) e rest = let same = is a x e in (omega (arith, same), subst (λ k. Rises key (k + 1) (filter_map h (range_with_len (a + 1) n))) (sym same) rest)

  above : (least : ℕ) (xs : List X) → Rises key least xs → (q : ℕ) (y : X) → slice_get xs q ≡ Some y → least ≤ key y
  above least [] r q y e = let no = e in cc
  above least (x ∷ xs) r zero y e = let same : x ≡ y = cc in subst (λ z. least ≤ key z) same r.0
  above least (x ∷ xs) r (suc q) y e = let rest = above (key x + 1) xs r.1 q y e in let first = r.0 in omega (arith, rest, first)

  apart : (least : ℕ) (xs : List X) → Rises key least xs → (p q : ℕ) (x y : X) → p < q → slice_get xs p ≡ Some x → slice_get xs q ≡ Some y → key x < key y
  apart least [] r p q x y less a b = let no = a in cc
  apart least (z ∷ xs) r p zero x y less a b = absurd (omega (arith, less))
  apart least (z ∷ xs) r zero (suc q) x y less a b =
      let same : z ≡ x = cc in
      let more = above (key z + 1) xs r.1 q y b in
      let first : key z < key y = omega (arith, more) in
      subst (λ w. key w < key y) same first
  apart least (z ∷ xs) r (suc p) (suc q) x y less a b = apart (key z + 1) xs r.1 p q x y (omega (arith, less)) a b

-- the inodes of directories are those of their nodes
mapped : (image : Image) (least : ℕ) (ns : List Node) → Rises (λ (n : Node). n.0) least ns → Rises (λ (d : Dir). d.inode) least (map (λ (n : Node). record { inode = n.0; slots = slots_of image n.1 }) ns)
mapped image least [] r = tt
mapped image least (n ∷ ns) r = (r.0, mapped image (n.0 + 1) ns r.1)

pub dirs_rise : (g : Geometry) (image : Image) (dirs : List Dir) → dirs ≡ dirs_of image (sound_nodes g image) → (p q : ℕ) (d e : Dir) → p < q → slice_get dirs p ≡ Some d → slice_get dirs q ≡ Some e → d.inode < e.inode
dirs_rise g image dirs are =
    let number : (k : ℕ) (n : Node) → sound_node g image k ≡ Some n → n.0 ≡ k = λ k n e. sym (ap {B = ℕ} (λ (m : Node). m.0) (some_if-some _ (k, form_at g image k) n e).1) in
    let nodes = from_range (λ (n : Node). n.0) (sound_node g image) number 1 g.inodes in
    let dirs_there = mapped image 1 (filter (λ (n : Node). n.1.kind == 2) (sound_nodes g image)) (kept (λ (n : Node). n.0) (λ (n : Node). n.1.kind == 2) 1 (sound_nodes g image) nodes) in
    apart (λ (d : Dir). d.inode) 1 dirs (subst (Rises (λ (d : Dir). d.inode) 1) (sym are) dirs_there)
