-- Inodes that no walk meets lose their blocks.
use Rattle.std.proofs.Common.{◌≡◌, ℕ, ◌*◌, ◌≤◌, ◌⊎◌, inl, inr, List, [], Bool, true, false, length, Some, None, ap, sym, refl, ◌∙◌, subst, arith}
use Rattle.std.specs.Prelude.{flat_map, ◌==◌, if◌then◌else◌}
use Rattle.std.specs.List.{slice_get, range_with_len, AllByRecursion}
use Rattle.std.proofs.lemmas.Bool.{eqb-true}
use Rattle.ufs_layout.specs.InodeForm.{InodeForm}
use Rattle.ufs_layout.specs.DentryForm.{DentryForm}
use Rattle.ufs_layout.specs.declared.geometry.Geometry.{Geometry}
use Rattle.ufs_layout.specs.declared.inode.Extent.{Extent}
use Rattle.ufs_image.specs.Nodes.{blocks_of}
use Rattle.ufs_image.specs.Catalog.{Catalog, IsInode, HasBlock, slots_in}
use Rattle.ufs_image.specs.Changes.{IsReached, IsUnreached}
use Rattle.ufs_image.specs.Sound.{IsSoundCatalog, HasDentry, IsInData}
use Rattle.ufs_image.specs.Walks.{inode_of}
use Rattle.ufs_image.proofs.Changed.{walks_same, reached_on}
use Rattle.ufs_image.proofs.Depth.{root_in_range}
use Rattle.ufs_image.proofs.Found.{child_is, reached}
use Rattle.ufs_image.proofs.Listed.{place_of_in}
use Rattle.ufs_image.proofs.Lists.{flat_map-same}

-- an inode that holds no block
pub record HasNoBlocks (form : InodeForm) : Type 0 where
  pub extents : form.extents ≡ []
  pub size : form.size ≡ 0

-- Some inodes that no walk meets hold no blocks now, all others are as before, and what is named keeps its kind.
pub record Prunes (g : Geometry) (c d : Catalog) : Type 0 where
  pub slots : (inode place block : ℕ) → HasBlock g d inode place block → (d.forms inode).kind ≡ 2 → d.slots block ≡ c.slots block
  pub each : (inode : ℕ) → IsInode g inode → (d.forms inode ≡ c.forms inode) ⊎ (IsUnreached c inode × HasNoBlocks (d.forms inode))
  pub named : (dir place : ℕ) (x : DentryForm) → HasDentry g c dir place x → HasDentry g d dir place x → (d.forms x.inode).kind ≡ (c.forms x.inode).kind

no_blocks : (f : InodeForm) → HasNoBlocks f → blocks_of f ≡ []
no_blocks f is = ap (flat_map (λ (e : Extent). range_with_len e.start e.length)) is.extents

-- no slots without blocks
pub no_slots : (d : Catalog) (k : ℕ) → HasNoBlocks (d.forms k) → slots_in d k ≡ []
no_slots d k is = by ((d.forms k).kind == 2)
  where
    by : (b : Bool) → (if b then flat_map d.slots (blocks_of (d.forms k)) else []) ≡ []
    by true = ap (flat_map d.slots) (no_blocks (d.forms k) is)
    by false = refl

module _ (g : Geometry) (c d : Catalog) (sound : IsSoundCatalog g c) (some : 1 ≤ g.inodes) (prunes : Prunes g c d) where
  -- the slots of an inode that stayed
  pub same_slots : (k : ℕ) → IsInode g k → d.forms k ≡ c.forms k → slots_in d k ≡ slots_in c k
  same_slots k in_range e = by ((d.forms k).kind == 2) refl ∙ ap (λ (f : InodeForm). if f.kind == 2 then flat_map c.slots (blocks_of f) else []) e
    where
      by : (b : Bool) → ((d.forms k).kind == 2) ≡ b → (if b then flat_map d.slots (blocks_of (d.forms k)) else []) ≡ (if b then flat_map c.slots (blocks_of (d.forms k)) else [])
      by true t = flat_map-same d.slots c.slots (blocks_of (d.forms k)) (λ block there.
          let at = place_of_in block (blocks_of (d.forms k)) there in
          prunes.slots k at.0 block (record { in_range = in_range; there = at.1 }) (eqb-true (d.forms k).kind 2 t))
      by false t = refl

  had : (k place : ℕ) (x : DentryForm) → HasDentry g d k place x → HasDentry g c k place x
  had k place x has = by (prunes.each k has.in_range)
    where
      by : (d.forms k ≡ c.forms k) ⊎ (IsUnreached c k × HasNoBlocks (d.forms k)) → HasDentry g c k place x
      by (inl e) = record { in_range = has.in_range; there = ap (λ slots. slice_get slots place) (sym (same_slots k has.in_range e)) ∙ has.there; named = has.named }
      by (inr b) = let no : None ≡ Some x = sym (ap (λ slots. slice_get slots place) (no_slots d k b.1)) ∙ has.there in absurd cc

  -- a reached inode is as before
  pub reached_same : (k : ℕ) → IsReached c k → d.forms k ≡ c.forms k
  reached_same k is = by (prunes.each k (reached g c sound 1 is.names k (root_in_range g c sound some) is.met).0)
    where
      by : (d.forms k ≡ c.forms k) ⊎ (IsUnreached c k × HasNoBlocks (d.forms k)) → d.forms k ≡ c.forms k
      by (inl e) = e
      by (inr b) = absurd (b.0 is.names is.met)

  root_same : d.forms 1 ≡ c.forms 1
  root_same = reached_same 1 (record { names = []; met = refl })

  each_pruned : (P : InodeForm → Type 0) → ((f : InodeForm) → HasNoBlocks f → P f) → (k : ℕ) → IsInode g k → P (c.forms k) → P (d.forms k)
  each_pruned P bare k in_range old = by (prunes.each k in_range)
    where
      by : (d.forms k ≡ c.forms k) ⊎ (IsUnreached c k × HasNoBlocks (d.forms k)) → P (d.forms k)
      by (inl e) = subst P (sym e) old
      by (inr b) = bare (d.forms k) b.1

  pub had_block : (k p block : ℕ) → HasBlock g d k p block → HasBlock g c k p block × (d.forms k ≡ c.forms k)
  had_block k p block has = by (prunes.each k has.in_range)
    where
      by : (d.forms k ≡ c.forms k) ⊎ (IsUnreached c k × HasNoBlocks (d.forms k)) → HasBlock g c k p block × (d.forms k ≡ c.forms k)
      by (inl e) = (record { in_range = has.in_range; there = ap (λ (f : InodeForm). slice_get (blocks_of f) p) (sym e) ∙ has.there }, e)
      by (inr b) = let no : None ≡ Some block = sym (ap (λ bs. slice_get bs p) (no_blocks (d.forms k) b.1)) ∙ has.there in absurd cc

  pub pruned_sound : IsSoundCatalog g d
  pruned_sound = record {
    root = ap (λ (f : InodeForm). f.kind) root_same ∙ sound.root;
    in_data = λ k in_range. each_pruned (λ f. AllByRecursion (IsInData g) f.extents) (λ f bare. subst (AllByRecursion (IsInData g)) (sym bare.extents) tt) k in_range (sound.in_data k in_range);
    blocks_once = λ i j p q block a b. sound.blocks_once i j p q block (had_block i p block a).0 (had_block j q block b).0;
    room = λ k in_range. each_pruned (λ f. f.size ≤ 4096 * length (blocks_of f)) (λ f bare. let size = bare.size in omega (arith, size)) k in_range (sound.room k in_range);
    whole = λ k in_range. each_pruned (λ f. f.kind ≡ 2 → f.size ≡ 4096 * length (blocks_of f)) (λ f bare dir. bare.size ∙ ap (λ (bs : List ℕ). 4096 * length bs) (sym (no_blocks f bare))) k in_range (sound.whole k in_range);
    fit = λ k place x has. let fit = sound.fit k place x (had k place x has) in record {
      plain = fit.plain;
      in_range = fit.in_range;
      kind = prunes.named k place x (had k place x has) has ∙ fit.kind;
      used = fit.used;
      no_root = fit.no_root;
    };
    names_once = λ k p q x y a b same. sound.names_once k p q x y (had k p x a) (had k q y b) same;
    inodes_once = λ k l p q x y a b same. sound.inodes_once k l p q x y (had k p x a) (had l q y b) same;
  }

  pub pruned_walks : (names : List (List ℕ)) → inode_of d names ≡ inode_of c names
  pruned_walks = walks_same c d (λ k is. same_slots k (reached g c sound 1 is.names k (root_in_range g c sound some) is.met).0 (reached_same k is))

-- Whoever has a name in a reached directory is reached.
pub named_reached : (g : Geometry) (c : Catalog) → IsSoundCatalog g c → (dir place : ℕ) (x : DentryForm) → HasDentry g c dir place x → IsReached c dir → IsReached c x.inode
named_reached g c sound dir place x has is = reached_on c dir x.name x.inode is (child_is g c sound dir place x has)
