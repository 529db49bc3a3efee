-- The names of a table of directories are sound.
use Rattle.std.proofs.Common.{◌≡◌, ℕ, ◌+◌, ◌<◌, ◌≤◌, ◌⊎◌, inl, inr, List, [], ◌∷◌, ◌++◌, Bool, true, false, Some, is_some, length, leb, ap, sym, refl, ◌∙◌, subst, arith}
use Rattle.std.specs.Prelude.{◌==◌, ◌&&◌, not, nat_le, if◌then◌else◌}
use Rattle.std.specs.Option.{option_map}
use Rattle.std.specs.List.{slice_get, list_all}
use Rattle.std.specs.Str.{bytes_eq}
use Rattle.std.proofs.lemmas.Bool.{and_parts}
use Rattle.std.proofs.lemmas.Bool.Decides.{leb_tells}
use Rattle.std.proofs.lemmas.Option.{get_or_from_slice_get, slice_get_within}
use Rattle.std.proofs.lemmas.Slice.Eq.{bytes_eq-Decides}
use Rattle.ufs_layout.specs.DentryForm.{DentryForm, free_slot, is_named}
use Rattle.ufs_layout.specs.declared.geometry.Geometry.{Geometry}
use Rattle.ufs_dirs.specs.Directory.{entry_at, entry_of, has_name, NamesOnce}
use Rattle.ufs_image.specs.Damage.{is_plain_name}
use Rattle.ufs_image.proofs.Lists.{find-only}
use Rattle.ufs_image.proofs.Empty.{both_true}
use Rattle.ufs_model.specs.Paths.{in_range, is_dots}
use Rattle.ufs_path.specs.Names.{IsName}
use Rattle.ufs_dir_tree.specs.DirTable.{IsDirTable, slots_at, found_of, inode_of, found_at, step}
use Rattle.ufs_dir_tree.specs.declared.found.Found.TheVariants.{Dir, File}
use Rattle.ufs_dir_tree.proofs.WalkLemmas.{walk-append}
use Rattle.ufs_dir_tree.specs.Steps.{DirState}
use Rattle.ufs_promise_laws.specs.Held.{HasName, HasSoundNames}
use Rattle.ufs_promise_laws.specs.Names.{IsWellNamed}

-- ---- a name that may stand in a path is plain

all_plain : (name : List ℕ) → list_all (λ b. not (b == 47)) name ≡ true → list_all in_range name ≡ true → list_all (λ b. nat_le 33 b && (nat_le b 126 && not (b == 47))) name ≡ true
all_plain [] free range = refl
all_plain (b ∷ name) free range =
    let no_slash = and_parts (not (b == 47)) _ free in
    let printed = and_parts (in_range b) _ range in
    let bounds = and_parts (nat_le 33 b) (nat_le b 126) printed.0 in
    both_true _ _ (both_true _ _ bounds.0 (both_true _ _ bounds.1 no_slash.0)) (all_plain name no_slash.1 printed.1)

unlike : (name other : List ℕ) → is_dots other ≡ true → is_dots name ≡ false → not (bytes_eq name other) ≡ true
unlike name other dots none = by (bytes_eq name other) refl
  where
    by : (b : Bool) → bytes_eq name other ≡ b → not b ≡ true
    by false e = refl
    by true e = let same : name ≡ other = (bytes_eq-Decides name other).0 e in let no : false ≡ true = sym none ∙ ap is_dots same ∙ dots in absurd cc

pub plain : (name : List ℕ) → IsName name → is_plain_name name ≡ true
plain name is = both_true _ _ (all_plain name is.no_slash is.printable) (both_true _ _ (unlike name (46 ∷ []) refl is.no_dots) (unlike name (46 ∷ 46 ∷ []) refl is.no_dots))

-- ---- places

module _ (slots : List DentryForm) (once : NamesOnce slots) where
  apart : (p q : ℕ) (d e : DentryForm) → slice_get slots p ≡ Some d → slice_get slots q ≡ Some e → is_named e ≡ true → d.name ≡ e.name → p < q → ⊥
  apart p q d e at there named same below =
      let first : entry_at slots p ≡ d = get_or_from_slice_get slots p d free_slot at in
      let other : entry_at slots q ≡ e = get_or_from_slice_get slots q e free_slot there in
      once p q below (slice_get_within slots q e there) (ap is_named other ∙ named) (ap (λ (x : DentryForm). x.name) first ∙ same ∙ sym (ap (λ (x : DentryForm). x.name) other))

  pub one_place : (p q : ℕ) (d e : DentryForm) → slice_get slots p ≡ Some d → slice_get slots q ≡ Some e → is_named d ≡ true → is_named e ≡ true → d.name ≡ e.name → p ≡ q
  one_place p q d e at there named also same = by (leb_tells q p) (leb_tells p q)
    where
      by : ((leb q p ≡ true) × (q ≤ p)) ⊎ ((leb q p ≡ false) × (p < q)) → ((leb p q ≡ true) × (p ≤ q)) ⊎ ((leb p q ≡ false) × (q < p)) → p ≡ q
      by (inl a) (inl b) = let low = a.1 in let high = b.1 in omega (arith, low, high)
      by (inl a) (inr b) = absurd (apart q p e d there at named (sym same) b.1)
      by (inr a) b = absurd (apart p q d e at there also same a.1)

  -- what stands at a place is what its name stands for
  pub stands_for : (p : ℕ) (d : DentryForm) → slice_get slots p ≡ Some d → is_named d ≡ true → entry_of slots d.name ≡ Some d
  stands_for p d at named = find-only (has_name d.name) slots p d at (both_true _ _ named ((bytes_eq-Decides d.name d.name).1 refl))
      (λ k e there has. let parts = and_parts (is_named e) (bytes_eq e.name d.name) has in one_place k p e d there at parts.0 named ((bytes_eq-Decides e.name d.name).0 parts.1))

-- ---- lists of names

no_end : (xs : List (List ℕ)) (x : List ℕ) → xs ++ x ∷ [] ≡ [] → ⊥
no_end [] x e = let no = e in cc
no_end (y ∷ xs) x e = let no = e in cc

same_ends : (xs ys : List (List ℕ)) (x y : List ℕ) → xs ++ x ∷ [] ≡ ys ++ y ∷ [] → (xs ≡ ys) × (x ≡ y)
same_ends [] [] x y e = (refl, cc)
same_ends [] (z ∷ ys) x y e = let tail : [] ≡ ys ++ y ∷ [] = cc in absurd (no_end ys y (sym tail))
same_ends (z ∷ xs) [] x y e = let tail : xs ++ x ∷ [] ≡ [] = cc in absurd (no_end xs x tail)
same_ends (z ∷ xs) (w ∷ ys) x y e =
    let head : z ≡ w = cc in
    let tail : xs ++ x ∷ [] ≡ ys ++ y ∷ [] = cc in
    let rest = same_ends xs ys x y tail in
    (λ i. head i ∷ rest.0 i, rest.1)

number_of : (d : DentryForm) → inode_of (found_of d) ≡ d.inode
number_of d = by (d.kind == 2)
  where
    by : (b : Bool) → inode_of (if b then Dir d.inode else File d.inode) ≡ d.inode
    by true = refl
    by false = refl

module _ (g : Geometry) (s : DirState) (counted : length s.table.dirs ≡ g.inodes + 1) (is : IsDirTable s.table) (well : IsWellNamed s.table s.kinds) where
  -- a walk meets what a name stands for
  meets_name : (dir p : ℕ) (d : DentryForm) → HasName g s dir p d → (names : List (List ℕ)) × (found_at s.table names ≡ Some (Dir dir)) × (found_at s.table (names ++ d.name ∷ []) ≡ Some (found_of d))
  meets_name dir p d at =
      let met = well.met dir p d at.there at.named in (
        met.0,
        met.1,
        walk-append s.table (Some (Dir 1)) met.0 (d.name ∷ []) ∙ ap (λ o. step s.table o d.name) met.1
            ∙ ap (option_map found_of) (stands_for (slots_at s.table dir) (well.dirs dir).names_once p d at.there at.named),
      )

  same_dir : (i j : ℕ) → Some (Dir i) ≡ Some (Dir j) → i ≡ j
  same_dir i j e = cc

  pub sound_names : HasSoundNames g s
  sound_names = record {
    fit = λ dir p d at.
        let meets = meets_name dir p d at in
        let used = is.met (meets.0 ++ d.name ∷ []) (found_of d) meets.2 in
        let number = number_of d in
        let from = used.from_one in let within = used.within in
        let kind = well.kind dir p d at.there at.named in
        record {
          plain = plain d.name (is.names dir d.name (ap is_some (stands_for (slots_at s.table dir) (well.dirs dir).names_once p d at.there at.named)));
          in_range = record { from_one = omega (arith, from, number); within = omega (arith, within, number, counted) };
          kind = kind.0;
          used = kind.1;
          no_root = λ root. no_end meets.0 d.name (is.once (meets.0 ++ d.name ∷ []) [] (found_of d) (Dir 1) meets.2 refl (number ∙ root));
        };
    names_once = λ dir p q d e a b same. one_place (slots_at s.table dir) (well.dirs dir).names_once p q d e a.there b.there a.named b.named same;
    inodes_once = λ dir other p q d e a b same.
        let first = meets_name dir p d a in
        let second = meets_name other q e b in
        let ends = same_ends first.0 second.0 d.name e.name (is.once (first.0 ++ d.name ∷ []) (second.0 ++ e.name ∷ []) (found_of d) (found_of e) first.2 second.2 (number_of d ∙ same ∙ sym (number_of e))) in
        let one : dir ≡ other = same_dir dir other (sym first.1 ∙ ap (found_at s.table) ends.0 ∙ second.1) in
        (one, one_place (slots_at s.table other) (well.dirs other).names_once p q d e (subst (λ n. slice_get (slots_at s.table n) p ≡ Some d) one a.there) b.there a.named b.named ends.1);
  }
