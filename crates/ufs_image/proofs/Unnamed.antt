-- Inodes that no name stands for may be freed one by one.
use Rattle.std.proofs.Common.{◌≡◌, ℕ, ◌*◌, ◌≤◌, ◌⊎◌, inl, inr, List, [], ◌∷◌, ◌++◌, length, Some, None, ap, sym, refl, ◌∙◌, subst, arith}
use Rattle.std.specs.Prelude.{flat_map, ◌==◌, if◌then◌else◌}
use Rattle.std.specs.List.{slice_get, range_with_len, AllByRecursion}
use Rattle.ufs_layout.specs.InodeForm.{InodeForm}
use Rattle.ufs_layout.specs.DentryForm.{DentryForm}
use Rattle.ufs_image.specs.Nodes.{blocks_of}
use Rattle.ufs_layout.specs.declared.geometry.Geometry.{Geometry}
use Rattle.ufs_layout.specs.declared.inode.Extent.{Extent}
use Rattle.ufs_image.specs.Catalog.{Catalog, IsInode, HasBlock, slots_in}
use Rattle.ufs_image.specs.Sound.{IsSoundCatalog, HasDentry, IsInData}
use Rattle.ufs_image.specs.Walks.{inode_of}
use Rattle.ufs_image.specs.Changes.{IsFree, IsUnnamed, FreesUnnamed}
use Rattle.ufs_image.proofs.Found.{same_some, step-some, back, turned, walk-back, child-some}
use Rattle.ufs_image.proofs.Depth.{root_in_range, met_in_range}
use Rattle.ufs_image.proofs.Changed.{walks_same}

module _ (g : Geometry) (c d : Catalog) (sound : IsSoundCatalog g c) (some : 1 ≤ g.inodes) (frees : FreesUnnamed g c d) where
  flat_slots : (bs : List ℕ) → flat_map d.slots bs ≡ flat_map c.slots bs
  flat_slots [] = refl
  flat_slots (b ∷ bs) = let head = frees.slots b in let rest = flat_slots bs in λ i. head i ++ rest i

  slots_by : (f h : InodeForm) → f ≡ h → (if f.kind == 2 then flat_map d.slots (blocks_of f) else []) ≡ (if h.kind == 2 then flat_map c.slots (blocks_of h) else [])
  slots_by f h e = ap (λ (x : InodeForm). if x.kind == 2 then flat_map d.slots (blocks_of x) else []) e ∙ ap (λ ys. if h.kind == 2 then ys else []) (flat_slots (blocks_of h))

  pub named_same : (k : ℕ) → IsInode g k → (IsUnnamed g c k → ⊥) → d.forms k ≡ c.forms k
  named_same k in_range named = by (frees.each k in_range)
    where
      by : (d.forms k ≡ c.forms k) ⊎ (IsUnnamed g c k × IsFree (d.forms k)) → d.forms k ≡ c.forms k
      by (inl e) = e
      by (inr b) = absurd (named b.0)

  no_slots : (k : ℕ) → IsFree (d.forms k) → slots_in d k ≡ []
  no_slots k free = ap (λ n. if n == 2 then flat_map d.slots (blocks_of (d.forms k)) else []) free.kind

  had : (k place : ℕ) (x : DentryForm) → HasDentry g d k place x → HasDentry g c k place x
  had k place x has = by (frees.each k has.in_range)
    where
      by : (d.forms k ≡ c.forms k) ⊎ (IsUnnamed g c k × IsFree (d.forms k)) → HasDentry g c k place x
      by (inl e) = record { in_range = has.in_range; there = ap (λ slots. slice_get slots place) (sym (slots_by (d.forms k) (c.forms k) e)) ∙ has.there; named = has.named }
      by (inr b) = let no : None ≡ Some x = sym (ap (λ slots. slice_get slots place) (no_slots k b.1)) ∙ has.there in absurd cc

  target_same : (k place : ℕ) (x : DentryForm) → HasDentry g d k place x → d.forms x.inode ≡ c.forms x.inode
  target_same k place x has = let was = had k place x has in named_same x.inode (sound.fit k place x was).in_range (λ un. un.unnamed k place x was refl)

  root_same : d.forms 1 ≡ c.forms 1
  root_same = named_same 1 (root_in_range g c sound some) (λ un. un.no_root refl)

  each_freed : (P : InodeForm → Type 0) → ((f : InodeForm) → IsFree f → P f) → (k : ℕ) → IsInode g k → P (c.forms k) → P (d.forms k)
  each_freed P free k in_range old = by (frees.each k in_range)
    where
      by : (d.forms k ≡ c.forms k) ⊎ (IsUnnamed g c k × IsFree (d.forms k)) → P (d.forms k)
      by (inl e) = subst P (sym e) old
      by (inr b) = free (d.forms k) b.1

  pub had_block : (k p block : ℕ) → HasBlock g d k p block → HasBlock g c k p block
  had_block k p block has = by (frees.each k has.in_range)
    where
      by : (d.forms k ≡ c.forms k) ⊎ (IsUnnamed g c k × IsFree (d.forms k)) → HasBlock g c k p block
      by (inl e) = record { in_range = has.in_range; there = ap (λ (f : InodeForm). slice_get (blocks_of f) p) (sym e) ∙ has.there }
      by (inr b) = let none : blocks_of (d.forms k) ≡ [] = ap (flat_map (λ (e : Extent). range_with_len e.start e.length)) b.1.extents in let no : None ≡ Some block = sym (ap (λ bs. slice_get bs p) none) ∙ has.there in absurd cc

  pub unnamed_sound : IsSoundCatalog g d
  unnamed_sound = record {
    root = ap (λ (f : InodeForm). f.kind) root_same ∙ sound.root;
    in_data = λ k in_range. each_freed (λ f. AllByRecursion (IsInData g) f.extents) (λ f free. subst (AllByRecursion (IsInData g)) (sym free.extents) tt) k in_range (sound.in_data k in_range);
    blocks_once = λ i j p q block a b. sound.blocks_once i j p q block (had_block i p block a) (had_block j q block b);
    room = λ k in_range. each_freed (λ f. f.size ≤ 4096 * length (blocks_of f)) (λ f free. let size = free.size in omega (arith, size)) k in_range (sound.room k in_range);
    whole = λ k in_range. each_freed (λ f. f.kind ≡ 2 → f.size ≡ 4096 * length (blocks_of f)) (λ f free dir. let no : 0 ≡ 2 = sym free.kind ∙ dir in absurd (omega (arith, no))) k in_range (sound.whole k in_range);
    fit = λ k place x has. let fit = sound.fit k place x (had k place x has) in record {
      plain = fit.plain;
      in_range = fit.in_range;
      kind = ap (λ (f : InodeForm). f.kind) (target_same k place x has) ∙ fit.kind;
      used = fit.used;
      no_root = fit.no_root;
    };
    names_once = λ k p q x y a b same. sound.names_once k p q x y (had k p x a) (had k q y b) same;
    inodes_once = λ k l p q x y a b same. sound.inodes_once k l p q x y (had k p x a) (had l q y b) same;
  }

  -- who is reached is the root, or named
  pub reached_named : (xs : List (List ℕ)) (k : ℕ) → back c xs ≡ Some k → IsUnnamed g c k → ⊥
  reached_named [] k e un = un.no_root (sym (same_some 1 k e))
  reached_named (x ∷ xs) k e un =
      let from = step-some c (back c xs) x k e in
      let named = child-some g c sound from.0 x k (met_in_range g c sound some xs from.0 from.1) from.2 in
      un.unnamed from.0 named.place named.dentry named.has named.inode_is

  pub unnamed_walks : (names : List (List ℕ)) → inode_of d names ≡ inode_of c names
  unnamed_walks = walks_same c d (λ k is. let e = sym (walk-back c is.names []) ∙ is.met in slots_by (d.forms k) (c.forms k) (named_same k (met_in_range g c sound some (turned c is.names []) k e) (reached_named (turned c is.names []) k e)))
