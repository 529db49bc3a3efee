-- Changes that leave a catalog sound.
use Rattle.std.proofs.Common.{◌≡◌, ℕ, ◌*◌, ◌≤◌, ◌⊎◌, inl, inr, List, [], ◌∷◌, ◌++◌, length, Option, Some, None, Bool, true, false, ap, sym, refl, ◌∙◌, subst, arith}
use Rattle.std.specs.Prelude.{flat_map, ◌==◌, if◌then◌else◌}
use Rattle.std.specs.Option.{option_map}
use Rattle.std.specs.List.{slice_get, find, range_with_len, AllByRecursion}
use Rattle.std.proofs.lemmas.Bool.Decides.{nat_tests}
use Rattle.ufs_layout.specs.InodeForm.{InodeForm}
use Rattle.ufs_layout.specs.DentryForm.{DentryForm}
use Rattle.ufs_base.specs.Images.{Image}
use Rattle.ufs_image.specs.Nodes.{blocks_of}
use Rattle.ufs_image.specs.Fold.{with_committed, folded}
use Rattle.ufs_layout.specs.declared.geometry.Geometry.{Geometry}
use Rattle.ufs_layout.specs.declared.inode.Extent.{Extent}
use Rattle.ufs_layout.specs.declared.records.Committed.{Committed}
use Rattle.ufs_image.specs.Catalog.{Catalog, IsInode, HasBlock, HasDirBlocks, IsCatalogOf, slots_in}
use Rattle.ufs_image.specs.Sound.{IsSoundCatalog, HasDentry, IsInData}
use Rattle.ufs_image.specs.Walks.{has_name, child_of, step, walk_from, inode_of}
use Rattle.ufs_image.specs.Folding.{with_form, Spells}
use Rattle.ufs_image.specs.Changes.{IsReached, IsUnreached, IsFree, MayBecome, FreesOrphans}
use Rattle.ufs_image.proofs.Found.{walk-append, child_is}
use Rattle.ufs_image.proofs.Depth.{root_in_range}

-- ---- walks

-- a step further
pub reached_on : (c : Catalog) (k : ℕ) (name : List ℕ) (j : ℕ) → IsReached c k → child_of c k name ≡ Some j → IsReached c j
reached_on c k name j is e = record { names = is.names ++ name ∷ []; met = walk-append c (Some 1) is.names (name ∷ []) ∙ ap (λ o. step c o name) is.met ∙ e }

-- Where each directory that is reached has the same slots, all walks are the same.
pub walks_same : (c d : Catalog) → ((k : ℕ) → IsReached c k → slots_in d k ≡ slots_in c k) → (names : List (List ℕ)) → inode_of d names ≡ inode_of c names
walks_same c d same names = from names 1 (record { names = []; met = refl })
  where
    none : (c : Catalog) (names : List (List ℕ)) → walk_from c None names ≡ None
    none c [] = refl
    none c (name ∷ names) = none c names

    child : (k : ℕ) (name : List ℕ) → IsReached c k → child_of d k name ≡ child_of c k name
    child k name is = ap (λ slots. option_map (λ (x : DentryForm). x.inode) (find (has_name name) slots)) (same k is)

    from : (names : List (List ℕ)) (k : ℕ) → IsReached c k → walk_from d (Some k) names ≡ walk_from c (Some k) names
    from [] k is = refl
    from (name ∷ names) k is = ap (λ o. walk_from d o names) (child k name is) ∙ by (child_of c k name) refl (λ j there. from names j there)
      where
        by : (o : Option ℕ) → child_of c k name ≡ o → ((j : ℕ) → IsReached c j → walk_from d (Some j) names ≡ walk_from c (Some j) names) → walk_from d (child_of c k name) names ≡ walk_from c (child_of c k name) names
        by None e more = ap (λ o. walk_from d o names) e ∙ none d names ∙ sym (none c names) ∙ ap (λ o. walk_from c o names) (sym e)
        by (Some j) e more = ap (λ o. walk_from d o names) e ∙ more j (reached_on c k name j is e) ∙ ap (λ o. walk_from c o names) (sym e)

-- ---- a file

not_two : (k : ℕ) → k ≡ 1 → (k == 2) ≡ false
not_two k e = ap (λ n. n == 2) e

module _ (g : Geometry) (c : Catalog) (inode : ℕ) (form : InodeForm) (sound : IsSoundCatalog g c) (may : MayBecome g c inode form) where
  abbrev pub new : Catalog
  new = with_form inode form c

  -- the forms afterwards
  form_here : (k : ℕ) → k ≡ inode → new.forms k ≡ form
  form_here k e = let t : (k == inode) ≡ true = grind (arith, nat_tests, e) in ap (λ b. if b then form else c.forms k) t

  form_else : (k : ℕ) → (k == inode) ≡ false → new.forms k ≡ c.forms k
  form_else k e = ap (λ b. if b then form else c.forms k) e

  pub kinds : (k : ℕ) → (new.forms k).kind ≡ (c.forms k).kind
  kinds k = by (k == inode) refl
    where
      by : (b : Bool) → (k == inode) ≡ b → (if k == inode then form else c.forms k).kind ≡ (c.forms k).kind
      by true e = let same : k ≡ inode = grind (arith, nat_tests, e) in ap (λ b. (if b then form else c.forms k).kind) e ∙ may.file ∙ sym may.was_file ∙ ap (λ n. (c.forms n).kind) (sym same)
      by false e = ap (λ b. (if b then form else c.forms k).kind) e

  same_slots : (k : ℕ) → slots_in new k ≡ slots_in c k
  same_slots k = by (k == inode) refl
    where
      by : (b : Bool) → (k == inode) ≡ b → slots_in new k ≡ slots_in c k
      by true e =
          let same : k ≡ inode = grind (arith, nat_tests, e) in
          let was : ((c.forms k).kind == 2) ≡ false = not_two (c.forms k).kind (ap (λ n. (c.forms n).kind) same ∙ may.was_file) in
          let now : ((new.forms k).kind == 2) ≡ false = ap (λ n. n == 2) (kinds k) ∙ was in
          ap (λ t. if t then flat_map c.slots (blocks_of (new.forms k)) else []) now ∙ ap (λ t. if t then flat_map c.slots (blocks_of (c.forms k)) else []) (sym was)
      by false e = ap (λ (f : InodeForm). if f.kind == 2 then flat_map c.slots (blocks_of f) else []) (form_else k e)

  had : (k place : ℕ) (d : DentryForm) → HasDentry g new k place d → HasDentry g c k place d
  had k place d has = record { in_range = has.in_range; there = ap (λ slots. slice_get slots place) (sym (same_slots k)) ∙ has.there; named = has.named }

  -- what holds of the new form, and of each other one
  each_form : (P : ℕ → InodeForm → Type 0) → P inode form → ((k : ℕ) → IsInode g k → P k (c.forms k)) → (k : ℕ) → IsInode g k → P k (new.forms k)
  each_form P here rest k in_range = by (k == inode) refl
    where
      by : (b : Bool) → (k == inode) ≡ b → P k (new.forms k)
      by true e = let same : k ≡ inode = grind (arith, nat_tests, e) in let back = sym (form_here k same) in subst (P k) back (subst (λ n. P n form) (sym same) here)
      by false e = subst (P k) (sym (form_else k e)) (rest k in_range)

  block_now : (k p block : ℕ) → HasBlock g new k p block → ((k ≡ inode) × (slice_get (blocks_of form) p ≡ Some block)) ⊎ HasBlock g c k p block
  block_now k p block has = by (k == inode) refl
    where
      by : (b : Bool) → (k == inode) ≡ b → ((k ≡ inode) × (slice_get (blocks_of form) p ≡ Some block)) ⊎ HasBlock g c k p block
      by true e = let same : k ≡ inode = grind (arith, nat_tests, e) in inl (same, ap (λ (f : InodeForm). slice_get (blocks_of f) p) (sym (form_here k same)) ∙ has.there)
      by false e = inr (record { in_range = has.in_range; there = ap (λ (f : InodeForm). slice_get (blocks_of f) p) (sym (form_else k e)) ∙ has.there })

  once : (i j p q block : ℕ) → ((i ≡ inode) × (slice_get (blocks_of form) p ≡ Some block)) ⊎ HasBlock g c i p block → HasBlock g new i p block
      → ((j ≡ inode) × (slice_get (blocks_of form) q ≡ Some block)) ⊎ HasBlock g c j q block → HasBlock g new j q block → (i ≡ j) × (p ≡ q)
  once i j p q block (inl a) a' (inl b) b' = (a.0 ∙ sym b.0, may.once p q block a.1 b.1)
  once i j p q block (inl a) a' (inr b) b' =
      let same = may.apart p j q block a.1 b in
      (a.0 ∙ sym same, may.once p q block a.1 (ap (λ (f : InodeForm). slice_get (blocks_of f) q) (sym (form_here j same)) ∙ b'.there))
  once i j p q block (inr a) a' (inl b) b' =
      let same = may.apart q i p block b.1 a in
      (same ∙ sym b.0, may.once p q block (ap (λ (f : InodeForm). slice_get (blocks_of f) p) (sym (form_here i same)) ∙ a'.there) b.1)
  once i j p q block (inr a) a' (inr b) b' = sound.blocks_once i j p q block a b

  pub file_sound : IsSoundCatalog g new
  file_sound = record {
    root = kinds 1 ∙ sound.root;
    in_data = each_form (λ k f. AllByRecursion (IsInData g) f.extents) may.in_data sound.in_data;
    blocks_once = λ i j p q block a b. once i j p q block (block_now i p block a) a (block_now j q block b) b;
    room = each_form (λ k f. f.size ≤ 4096 * length (blocks_of f)) may.room sound.room;
    whole = λ k in_range. each_form (λ k f. f.kind ≡ 2 → f.size ≡ 4096 * length (blocks_of f)) (λ dir. let no : 1 ≡ 2 = sym may.file ∙ dir in absurd (omega (arith, no))) sound.whole k in_range;
    fit = λ k place d has. let fit = sound.fit k place d (had k place d has) in record {
      plain = fit.plain;
      in_range = fit.in_range;
      kind = kinds d.inode ∙ fit.kind;
      used = fit.used;
      no_root = fit.no_root;
    };
    names_once = λ k p q d e a b same. sound.names_once k p q d e (had k p d a) (had k q e b) same;
    inodes_once = λ k l p q d e a b same. sound.inodes_once k l p q d e (had k p d a) (had l q e b) same;
  }

  pub file_walks : (names : List (List ℕ)) → inode_of new names ≡ inode_of c names
  file_walks = walks_same c new (λ k is. same_slots k)

-- ---- orphans

module _ (g : Geometry) (c d : Catalog) (sound : IsSoundCatalog g c) (some : 1 ≤ g.inodes) (frees : FreesOrphans g c d) where
  flat_slots : (bs : List ℕ) → flat_map d.slots bs ≡ flat_map c.slots bs
  flat_slots [] = refl
  flat_slots (b ∷ bs) = let head = frees.slots b in let rest = flat_slots bs in λ i. head i ++ rest i

  slots_by : (f h : InodeForm) → f ≡ h → (if f.kind == 2 then flat_map d.slots (blocks_of f) else []) ≡ (if h.kind == 2 then flat_map c.slots (blocks_of h) else [])
  slots_by f h e = ap (λ (x : InodeForm). if x.kind == 2 then flat_map d.slots (blocks_of x) else []) e ∙ ap (λ ys. if h.kind == 2 then ys else []) (flat_slots (blocks_of h))

  -- a reached inode is as before
  reached_same : (k : ℕ) → IsInode g k → IsReached c k → d.forms k ≡ c.forms k
  reached_same k in_range is = by (frees.each k in_range)
    where
      by : (IsReached c k × (d.forms k ≡ c.forms k)) ⊎ (IsUnreached c k × IsFree (d.forms k)) → d.forms k ≡ c.forms k
      by (inl a) = a.1
      by (inr b) = absurd (b.0 is.names is.met)

  no_slots : (k : ℕ) → IsFree (d.forms k) → slots_in d k ≡ []
  no_slots k free = ap (λ n. if n == 2 then flat_map d.slots (blocks_of (d.forms k)) else []) free.kind

  -- who has a dentry is reached, and had it
  had_by : (k place : ℕ) (x : DentryForm) → HasDentry g d k place x → IsReached c k × HasDentry g c k place x
  had_by k place x has = by (frees.each k has.in_range)
    where
      by : (IsReached c k × (d.forms k ≡ c.forms k)) ⊎ (IsUnreached c k × IsFree (d.forms k)) → IsReached c k × HasDentry g c k place x
      by (inl a) = (a.0, record { in_range = has.in_range; there = ap (λ slots. slice_get slots place) (sym (slots_by (d.forms k) (c.forms k) a.1)) ∙ has.there; named = has.named })
      by (inr b) = let no : None ≡ Some x = sym (ap (λ slots. slice_get slots place) (no_slots k b.1)) ∙ has.there in absurd cc

  target_same : (k place : ℕ) (x : DentryForm) → HasDentry g d k place x → d.forms x.inode ≡ c.forms x.inode
  target_same k place x has =
      let was = had_by k place x has in
      reached_same x.inode (sound.fit k place x was.1).in_range (reached_on c k x.name x.inode was.0 (child_is g c sound k place x was.1))

  root_same : d.forms 1 ≡ c.forms 1
  root_same = reached_same 1 (root_in_range g c sound some) (record { names = []; met = refl })

  -- what is true of each old form and of a free one
  each_freed : (P : InodeForm → Type 0) → ((f : InodeForm) → IsFree f → P f) → (k : ℕ) → IsInode g k → P (c.forms k) → P (d.forms k)
  each_freed P free k in_range old = by (frees.each k in_range)
    where
      by : (IsReached c k × (d.forms k ≡ c.forms k)) ⊎ (IsUnreached c k × IsFree (d.forms k)) → P (d.forms k)
      by (inl a) = subst P (sym a.1) old
      by (inr b) = free (d.forms k) b.1

  no_blocks : (f : InodeForm) → IsFree f → blocks_of f ≡ []
  no_blocks f free = ap (flat_map (λ (e : Extent). range_with_len e.start e.length)) free.extents

  had_block : (k p block : ℕ) → HasBlock g d k p block → HasBlock g c k p block
  had_block k p block has = by (frees.each k has.in_range)
    where
      by : (IsReached c k × (d.forms k ≡ c.forms k)) ⊎ (IsUnreached c k × IsFree (d.forms k)) → HasBlock g c k p block
      by (inl a) = record { in_range = has.in_range; there = ap (λ (f : InodeForm). slice_get (blocks_of f) p) (sym a.1) ∙ has.there }
      by (inr b) = let no : None ≡ Some block = sym (ap (λ bs. slice_get bs p) (no_blocks (d.forms k) b.1)) ∙ has.there in absurd cc

  pub freed_sound : IsSoundCatalog g d
  freed_sound = record {
    root = ap (λ (f : InodeForm). f.kind) root_same ∙ sound.root;
    in_data = λ k in_range. each_freed (λ f. AllByRecursion (IsInData g) f.extents) (λ f free. subst (AllByRecursion (IsInData g)) (sym free.extents) tt) k in_range (sound.in_data k in_range);
    blocks_once = λ i j p q block a b. sound.blocks_once i j p q block (had_block i p block a) (had_block j q block b);
    room = λ k in_range. each_freed (λ f. f.size ≤ 4096 * length (blocks_of f)) (λ f free. let size = free.size in omega (arith, size)) k in_range (sound.room k in_range);
    whole = λ k in_range. each_freed (λ f. f.kind ≡ 2 → f.size ≡ 4096 * length (blocks_of f)) (λ f free dir. let no : 0 ≡ 2 = sym free.kind ∙ dir in absurd (omega (arith, no))) k in_range (sound.whole k in_range);
    fit = λ k place x has. let fit = sound.fit k place x (had_by k place x has).1 in record {
      plain = fit.plain;
      in_range = fit.in_range;
      kind = ap (λ (f : InodeForm). f.kind) (target_same k place x has) ∙ fit.kind;
      used = fit.used;
      no_root = fit.no_root;
    };
    names_once = λ k p q x y a b same. sound.names_once k p q x y (had_by k p x a).1 (had_by k q y b).1 same;
    inodes_once = λ k l p q x y a b same. sound.inodes_once k l p q x y (had_by k p x a).1 (had_by l q y b).1 same;
  }

  pub freed_walks : ((k : ℕ) → IsReached c k → IsInode g k) → (names : List (List ℕ)) → inode_of d names ≡ inode_of c names
  freed_walks ranged = walks_same c d (λ k is. slots_by (d.forms k) (c.forms k) (reached_same k (ranged k is) is))

-- ---- folding

pub folded-more : (g : Geometry) (ts : List Committed) (t : Committed) (image : Image) → folded g (ts ++ t ∷ []) image ≡ with_committed g t (folded g ts image)
folded-more g [] t image = refl
folded-more g (x ∷ ts) t image = folded-more g ts t (with_committed g x image)

pub spells_catalog : (g : Geometry) (these : ℕ → Bool) (image : Image) (c : Catalog) → Spells g true these image c
    → HasDirBlocks g c these → IsCatalogOf g image c
spells_catalog g these image c is dirs = record { forms = is.on_form refl; slots = λ block dir. is.slots block (dirs block dir) }
