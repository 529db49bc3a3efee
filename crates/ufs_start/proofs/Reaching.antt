-- Directories of a catalog's table that walks from the root meet.
use Rattle.std.proofs.Common.{◌≡◌, ◌≢◌, ℕ, ◌+◌, ◌-◌, ◌<◌, ◌≤◌, ◌⊎◌, inl, inr, List, [], ◌∷◌, Bool, true, false, cond, filter, length, Option, Some, None, ap, sym, refl, ◌∙◌, subst, arith}
use Rattle.std.specs.Prelude.{IsSome, ◌&&◌, if◌then◌else◌}
use Rattle.std.specs.Option.{option_map}
use Rattle.std.specs.List.{count_by, slice_get}
use Rattle.std.specs.Str.{bytes_eq}
use Rattle.std.proofs.lemmas.Bool.{and_from, and_parts, cases_lt}
use Rattle.std.proofs.lemmas.List.{get_or_past}
use Rattle.std.proofs.lemmas.List.Sums.{length-filter}
use Rattle.ufs_base.specs.Images.{Image}
use Rattle.ufs_layout.specs.DentryForm.{DentryForm, is_named}
use Rattle.ufs_layout.specs.declared.geometry.Geometry.{Geometry}
use Rattle.ufs_model.proofs.Facts.Pieces.{bytes_same}
use Rattle.ufs_image.specs.Catalog.{Catalog, IsInode, IsCatalogOf, slots_in}
use Rattle.ufs_image.specs.Changes.{IsUnreached}
use Rattle.ufs_image.specs.Sound.{IsSoundCatalog, HasDentry}
use Rattle.ufs_image.proofs.Lists.{found-some}
use Rattle.ufs_image.proofs.Slots.{dir_kind}
use Rattle.ufs_dirs.specs.Directory.{Directory, entry_of, has_name}
use Rattle.ufs_dir_tree.specs.DirTable.{DirTable, IsReached, dir_at, no_dir, slots_at}
use Rattle.ufs_dir_tree.specs.DirEdits.{dir_in}
use Rattle.ufs_dir_tree.specs.declared.found.Found.TheVariants.{Dir, File}
use Rattle.ufs_dir_tree.proofs.NamedPlaces.{stands_at}
use Rattle.ufs_dir_laws.specs.Meets.{found_in}
use Rattle.ufs_dir_laws.specs.Tables.{IsTableOf}
use Rattle.ufs_dir_laws.proofs.Tables.{inside_or_none, root_inside}
use Rattle.ufs_dir_laws.proofs.Walked.{meets}
use Rattle.ufs_walk.specs.Reached.{AreReachedMarks}
use Rattle.ufs_start.specs.Refused.{HasNoneCutOff, IsCutOff}

-- ---- a directory that isn't empty has a name

first_name : (slots : List DentryForm) → length (filter is_named slots) ≢ 0 → (name : List ℕ) × IsSome (entry_of slots name)
first_name [] some = absurd (some refl)
first_name (e ∷ es) some = by (is_named e) refl some (first_name es)
  where
    by : (b : Bool) → is_named e ≡ b → length (cond b (e ∷ filter is_named es) (filter is_named es)) ≢ 0 → (length (filter is_named es) ≢ 0 → (name : List ℕ) × IsSome (entry_of es name)) → (name : List ℕ) × IsSome (entry_of (e ∷ es) name)
    by true is some rest = (e.name, stands_at (e ∷ es) e.name 0 e refl (and_from _ _ is (bytes_same e.name e.name refl)))
    by false is some rest =
        let next = rest some in
        (next.0, subst (λ (b : Bool). IsSome (cond (b && bytes_eq e.name next.0) (Some e) (entry_of es next.0))) (sym is) next.1)

pub a_name : (slots : List DentryForm) → count_by is_named slots ≢ 0 → (name : List ℕ) × IsSome (entry_of slots name)
a_name slots some = first_name slots (λ none. some (sym (length-filter is_named slots) ∙ none))

-- ---- by rising inode

-- Each directory in which a name stands is marked, but for those from a place on.
abbrev pub AreReachedTo : List Directory → List Bool → ℕ → Type 0
AreReachedTo dirs marks end = (place : ℕ) (name : List ℕ) → place < end → IsSome (entry_of (dir_in dirs (place + 1)).slots name) → slice_get marks place ≡ Some true

pub one_reached : (dirs : List Directory) (marks : List Bool) (end : ℕ) → AreReachedTo dirs marks end → ((name : List ℕ) → IsSome (entry_of (dir_in dirs (end + 1)).slots name) → slice_get marks end ≡ Some true) → AreReachedTo dirs marks (end + 1)
one_reached dirs marks end so_far this place name less has = by (cases_lt place end)
  where
    by : (place < end) ⊎ (end ≤ place) → slice_get marks place ≡ Some true
    by (inl before) = so_far place name before has
    by (inr from) =
        let here : place ≡ end = omega (arith, less, from) in
        ap (slice_get marks) here ∙ this name (subst (λ (p : ℕ). IsSome (entry_of (dir_in dirs (p + 1)).slots name)) here has)

pub none_unreached : (dirs : List Directory) (marks : List Bool) (end : ℕ) → length marks ≤ end → length dirs ≡ length marks + 1 → AreReachedTo dirs marks end → (place : ℕ) (name : List ℕ) → IsSome (entry_of (dir_in dirs (place + 1)).slots name) → slice_get marks place ≡ Some true
none_unreached dirs marks end all counted reached place name has = by (cases_lt place end)
  where
    by : (place < end) ⊎ (end ≤ place) → slice_get marks place ≡ Some true
    by (inl before) = reached place name before has
    by (inr from) =
        let none : dir_in dirs (place + 1) ≡ no_dir = get_or_past dirs (place + 1) no_dir (omega (arith, all, counted, from)) in
        let unlike : false ≡ true = subst (λ (d : Directory). IsSome (entry_of d.slots name)) none has in
        absurd cc

-- ---- a catalog's table

module _ (g : Geometry) (image : Image) (c : Catalog) (t : DirTable) (some : 1 ≤ g.inodes) (is : IsCatalogOf g image c) (sound : IsSoundCatalog g c) (of : IsTableOf g c t) where
  record HasName (i : ℕ) : Type 0 where
    place : ℕ
    dentry : DentryForm
    stands : HasDentry g c i place dentry

  name_in : (i : ℕ) (name : List ℕ) → IsInode g i → (o : Option DentryForm) → entry_of (slots_in c i) name ≡ o → IsSome o → HasName i
  name_in i name inside None e has = absurd cc
  name_in i name inside (Some d) e has =
      let there = found-some (has_name name) (slots_in c i) d e in
      let parts = and_parts (is_named d) (bytes_eq d.name name) there.2 in
      record { place = there.0; dentry = d; stands = record { in_range = inside; there = there.1; named = parts.0 } }

  has_dentry : (i : ℕ) (name : List ℕ) → IsSome (entry_of (slots_at t i) name) → HasName i
  has_dentry i name has = by (inside_or_none g image c t some is sound of i)
    where
      by : IsInode g i ⊎ (dir_at t i ≡ no_dir) → HasName i
      by (inl inside) = name_in i name inside (entry_of (slots_in c i) name) refl (subst (λ (slots : List DentryForm). IsSome (entry_of slots name)) (of.slots i inside) has)
      by (inr none) = let unlike : false ≡ true = subst (λ (d : Directory). IsSome (entry_of d.slots name)) none has in absurd cc

  module _ (marks : List Bool) (are : AreReachedMarks g c marks) where
    pub all_reached : ((place : ℕ) (name : List ℕ) → IsSome (entry_of (slots_at t (place + 1)) name) → slice_get marks place ≡ Some true) → IsReached t
    all_reached marked i name has =
        let named = has_dentry i name has in
        let first = named.stands.in_range.from_one in
        let here : i - 1 + 1 ≡ i = omega (arith, first) in
        let walk = are.reached (i - 1) (marked (i - 1) name (subst (λ (k : ℕ). IsSome (entry_of (slots_at t k) name)) (sym here) has)) in
        let kind = dir_kind c i named.place named.dentry named.stands.there in (
          walk.names,
          meets g c t sound of.slots (root_inside g image c t some is sound of) walk.names
              ∙ ap (option_map (found_in c)) (walk.met ∙ ap (λ (k : ℕ). Some k) here)
              ∙ ap (λ (b : Bool). Some (if b then Dir i else File i)) kind,
        )

    -- a name of a directory that is met isn't cut off
    pub none_cut : ((place : ℕ) (name : List ℕ) → IsSome (entry_of (slots_at t (place + 1)) name) → slice_get marks place ≡ Some true) → HasNoneCutOff g c
    none_cut marked i cut =
        let d = cut.dentry in
        let first = cut.stands.in_range.from_one in
        let here : i - 1 + 1 ≡ i = omega (arith, first) in
        let named : IsSome (entry_of (slots_in c i) d.name) = stands_at (slots_in c i) d.name cut.place d cut.stands.there (and_from _ _ cut.stands.named (bytes_same d.name d.name refl)) in
        let has : IsSome (entry_of (slots_at t i) d.name) = subst (λ (slots : List DentryForm). IsSome (entry_of slots d.name)) (sym (of.slots i cut.stands.in_range)) named in
        let walk = are.reached (i - 1) (marked (i - 1) d.name (subst (λ (k : ℕ). IsSome (entry_of (slots_at t k) d.name)) (sym here) has)) in
        cut.unreached walk.names (walk.met ∙ ap (λ (k : ℕ). Some k) here)

    pub cut_off : (i : ℕ) (name : List ℕ) → IsSome (entry_of (slots_at t i) name) → slice_get marks (i - 1) ≡ Some false → IsCutOff g c i
    cut_off i name has unmarked =
        let named = has_dentry i name has in
        let first = named.stands.in_range.from_one in
        let here : i - 1 + 1 ≡ i = omega (arith, first) in
        record { place = named.place; dentry = named.dentry; stands = named.stands; unreached = subst (λ (k : ℕ). IsUnreached c k) here (are.others (i - 1) unmarked) }
