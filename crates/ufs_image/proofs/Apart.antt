-- No path is listed twice.
use Rattle.std.proofs.Common.{◌≡◌, ◌≢◌, ℕ, zero, suc, ◌+◌, ◌<◌, ◌≤◌, ◌⊎◌, inl, inr, List, [], ◌∷◌, ◌++◌, length, Some, Bool, true, false, cond, ap, sym, refl, ◌∙◌, subst, arith, length-append}
use Rattle.std.specs.Prelude.{flat_map}
use Rattle.std.specs.List.{slice_get, enumerate_from}
use Rattle.ufs_layout.specs.DentryForm.{DentryForm, is_named}
use Rattle.ufs_base.specs.Images.{Image}
use Rattle.ufs_image.specs.Images.{form_at}
use Rattle.ufs_image.specs.Nodes.{NamedSlot}
use Rattle.ufs_image.specs.Opens.{PathEntry, names_in, below, entry_and_below}
use Rattle.ufs_layout.specs.declared.geometry.Geometry.{Geometry}
use Rattle.ufs_image.specs.Catalog.{Catalog, IsInode, IsCatalogOf, slots_in}
use Rattle.ufs_image.specs.Sound.{IsSoundCatalog, HasDentry}
use Rattle.ufs_image.specs.Walks.{joined, is_piece, ArePieces}
use Rattle.ufs_image.proofs.Lists.{IsIn, in_one, from_flat_map, from_filter, from_enumerated}
use Rattle.ufs_image.proofs.Listed.{used, names_are, from_used, in_at_place, is_listed}
use Rattle.ufs_image.proofs.Texts.{same_joined, joined-onto, no_root}
use Rattle.ufs_image.proofs.Found.{same_some, names_piece}
use Rattle.ufs_image.proofs.Depth.{root_in_range}
use Rattle.ufs_image.proofs.Below.{from_below}
use Rattle.ufs_image.proofs.Paths.{listed_from}
use Rattle.std.proofs.lemmas.List.{append-nil}

-- each path is other than those behind it
abbrev Apart : List PathEntry → Type 0
Apart [] = Unit {0}
Apart (e ∷ es) = ((f : PathEntry) → IsIn f es → e.0 ≢ f.0) × Apart es

apart_append : (es fs : List PathEntry) → Apart es → Apart fs → ((e f : PathEntry) → IsIn e es → IsIn f fs → e.0 ≢ f.0) → Apart (es ++ fs)
apart_append [] fs a b cross = b
apart_append (e ∷ es) fs a b cross = ((λ f is. by f (in_one f es fs is)), apart_append es fs a.1 b (λ x y is are. cross x y (inr is) are))
  where
    by : (f : PathEntry) → IsIn f es ⊎ IsIn f fs → e.0 ≢ f.0
    by f (inl is) = a.0 f is
    by f (inr is) = cross e f (inl refl) is

apart_places : (es : List PathEntry) → Apart es → (i j : ℕ) (a b : PathEntry) → slice_get es i ≡ Some a → slice_get es j ≡ Some b → a.0 ≡ b.0 → i ≡ j
apart_places [] apart i j a b at there e = let no = at in cc
apart_places (x ∷ es) apart zero zero a b at there e = refl
apart_places (x ∷ es) apart zero (suc j) a b at there e = absurd (apart.0 b (in_at_place b es j there) (ap (λ (y : PathEntry). y.0) (same_some x a at) ∙ e))
apart_places (x ∷ es) apart (suc i) zero a b at there e = absurd (apart.0 a (in_at_place a es i at) (ap (λ (y : PathEntry). y.0) (same_some x b there) ∙ sym e))
apart_places (x ∷ es) apart (suc i) (suc j) a b at there e = ap suc (apart_places es apart.1 i j a b at there e)

cancel : (p x y : List ℕ) → p ++ x ≡ p ++ y → x ≡ y
cancel [] x y e = e
cancel (b ∷ p) x y e = cancel p x y (let is = e in cc)

-- the names of a list of slots differ
abbrev Differ : List NamedSlot → Type 0
Differ [] = Unit {0}
Differ (n ∷ ns) = ((m : NamedSlot) → IsIn m ns → n.1.name ≢ m.1.name) × Differ ns

module _ (g : Geometry) (image : Image) (c : Catalog) (is : IsCatalogOf g image c) (sound : IsSoundCatalog g c) where
  differ_from : (inode n : ℕ) (ds : List DentryForm) → ((place : ℕ) (d : DentryForm) → IsIn (place, d) (used n ds) → HasDentry g c inode place d) → Differ (used n ds)
  differ_from inode n [] has = tt
  differ_from inode n (d ∷ ds) has = by (is_named d) refl (differ_from inode (n + 1) ds)
    where
      by : (b : Bool) → is_named d ≡ b → (((place : ℕ) (x : DentryForm) → IsIn (place, x) (used (n + 1) ds) → HasDentry g c inode place x) → Differ (used (n + 1) ds)) → Differ (cond b ((n, d) ∷ used (n + 1) ds) (used (n + 1) ds))
      by true t more =
          let whole : (place : ℕ) (x : DentryForm) → IsIn (place, x) ((n, d) ∷ used (n + 1) ds) → HasDentry g c inode place x = λ place x there. has place x (subst (λ b. IsIn (place, x) (cond b ((n, d) ∷ used (n + 1) ds) (used (n + 1) ds))) (sym t) there) in (
            (λ m there same. let at = from_enumerated (n + 1) ds m.0 m.1 (from_filter (λ (s : NamedSlot). is_named s.1) (enumerate_from (n + 1) ds) m there).0 in
                let place : n ≡ m.0 = sound.names_once inode n m.0 d m.1 (whole n d (inl refl)) (whole m.0 m.1 (inr there)) same in
                let later = at.1 in omega (arith, place, later)),
            more (λ place x there. whole place x (inr there)),
          )
      by false t more = more (λ place x there. has place x (subst (λ b. IsIn (place, x) (cond b ((n, d) ∷ used (n + 1) ds) (used (n + 1) ds))) (sym t) there))

  names_differ : (inode : ℕ) → IsInode g inode → Differ (names_in image inode (form_at g image inode))
  names_differ inode in_range = subst Differ (sym (names_are g image c is inode in_range)) (differ_from inode 0 (slots_in c inode) (λ place d there. from_used g c inode place d in_range there))

  -- an entry below a name begins with that name
  pub record Begins (path : List ℕ) (name : List ℕ) (e : PathEntry) : Type 0 where
    pub rest : List (List ℕ)
    pub text : e.0 ≡ path ++ joined (name ∷ rest)
    pub pieces : ArePieces (name ∷ rest)

  begins : (depth : ℕ) (path : List ℕ) (inode : ℕ) (n : NamedSlot) (e : PathEntry) → HasDentry g c inode n.0 n.1 → IsIn e (entry_and_below (below depth g image) g image path n) → Begins path n.1.name e
  begins depth path inode n e has (inl same) = record { rest = []; text = ap (λ (x : PathEntry). x.0) same ∙ ap (λ t. path ++ 47 ∷ t) (sym (append-nil n.1.name)); pieces = (piece, tt) }
    where
      piece : is_piece n.1.name ≡ true
      piece = names_piece g c sound inode n.1.name n.1.inode (record { place = n.0; dentry = n.1; has = has; name_is = refl; inode_is = refl })
  begins depth path inode n e has (inr there) =
      let met = from_below g image c is sound depth (path ++ 47 ∷ n.1.name) n.1.inode e (sound.fit inode n.0 n.1 has).in_range there in
      record { rest = met.first ∷ met.rest; text = met.text ∙ joined-onto path n.1.name (met.first ∷ met.rest); pieces = (names_piece g c sound inode n.1.name n.1.inode (record { place = n.0; dentry = n.1; has = has; name_is = refl; inode_is = refl }), met.pieces) }

  same_name : (path x y : List ℕ) (e f : PathEntry) → Begins path x e → Begins path y f → e.0 ≡ f.0 → x ≡ y
  same_name path x y e f a b same =
      let texts : joined (x ∷ a.rest) ≡ joined (y ∷ b.rest) = cancel path (joined (x ∷ a.rest)) (joined (y ∷ b.rest)) (sym a.text ∙ same ∙ b.text) in
      let lists : x ∷ a.rest ≡ y ∷ b.rest = same_joined (x ∷ a.rest) (y ∷ b.rest) a.pieces b.pieces texts in
      cc

  -- the entries of a list of names
  apart_names : (depth : ℕ) (path : List ℕ) (inode : ℕ) (ns : List NamedSlot) → ((n : NamedSlot) → IsIn n ns → HasDentry g c inode n.0 n.1) → Differ ns
      → ((n : NamedSlot) → IsIn n ns → Apart (below depth g image (path ++ 47 ∷ n.1.name) n.1.inode)) → Apart (flat_map (entry_and_below (below depth g image) g image path) ns)
  apart_names depth path inode [] has differ deeper = tt
  apart_names depth path inode (n ∷ ns) has differ deeper =
      apart_append (entry_and_below (below depth g image) g image path n) (flat_map (entry_and_below (below depth g image) g image path) ns)
      (head_apart, deeper n (inl refl)) (apart_names depth path inode ns (λ m there. has m (inr there)) differ.1 (λ m there. deeper m (inr there))) cross
    where
      head_apart : (f : PathEntry) → IsIn f (below depth g image (path ++ 47 ∷ n.1.name) n.1.inode) → path ++ 47 ∷ n.1.name ≢ f.0
      head_apart f there same =
          let met = from_below g image c is sound depth (path ++ 47 ∷ n.1.name) n.1.inode f (sound.fit inode n.0 n.1 (has n (inl refl))).in_range there in
          let sizes : length (path ++ 47 ∷ n.1.name) ≡ length ((path ++ 47 ∷ n.1.name) ++ joined (met.first ∷ met.rest)) = ap length (same ∙ met.text) in
          let whole = length-append (path ++ 47 ∷ n.1.name) (joined (met.first ∷ met.rest)) in
          let longer : 0 < length (joined (met.first ∷ met.rest)) = omega arith in
          omega (arith, sizes, whole, longer)

      cross : (e f : PathEntry) → IsIn e (entry_and_below (below depth g image) g image path n) → IsIn f (flat_map (entry_and_below (below depth g image) g image path) ns) → e.0 ≢ f.0
      cross e f here there same =
          let from = from_flat_map (entry_and_below (below depth g image) g image path) ns f there in
          differ.0 from.0 from.1 (same_name path n.1.name from.0.1.name e f (begins depth path inode n e (has n (inl refl)) here) (begins depth path inode from.0 f (has from.0 (inr from.1)) from.2) same)

  apart_below : (depth : ℕ) (path : List ℕ) (inode : ℕ) → IsInode g inode → Apart (below depth g image path inode)
  apart_below zero path inode in_range = tt
  apart_below (suc depth) path inode in_range =
      apart_names depth path inode (names_in image inode (form_at g image inode)) (λ n there. is_listed g image c is inode n.0 n.1 in_range there) (names_differ inode in_range)
      (λ n there. apart_below depth (path ++ 47 ∷ n.1.name) n.1.inode (sound.fit inode n.0 n.1 (is_listed g image c is inode n.0 n.1 in_range there)).in_range)

  pub lists_once : (some : 1 ≤ g.inodes) (i j : ℕ) (a b : PathEntry) → slice_get (listed_from g.inodes g image) i ≡ Some a → slice_get (listed_from g.inodes g image) j ≡ Some b → a.0 ≡ b.0 → i ≡ j
  lists_once some = apart_places (listed_from g.inodes g image) (root_apart, apart_below g.inodes [] 1 (root_in_range g c sound some))
    where
      root_apart : (f : PathEntry) → IsIn f (below g.inodes g image [] 1) → 47 ∷ [] ≢ f.0
      root_apart f there same =
          let met = from_below g image c is sound g.inodes [] 1 f (root_in_range g c sound some) there in
          no_root met.first met.rest met.pieces.0 (sym met.text ∙ sym same)
