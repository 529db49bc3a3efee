-- The entries that the map of paths has of a directory are the names in its slots.
use Rattle.std.proofs.Common.{◌≡◌, ℕ, List, [], ◌∷◌, ◌++◌, Bool, true, false, ◌&&◌, Option, Some, None, is_some, length, ap, sym, refl, ◌∙◌, subst, bytes_eq}
use Rattle.std.specs.Cmp.{both_ways}
use Rattle.std.specs.FinMap as fin
use Rattle.std.specs.List.{list_any}
use Rattle.std.specs.Option.{option_map}
use Rattle.std.proofs.lemmas.Bool.{and_parts, and_from, lt-ltb, le-ltb, false_from_ne_true}
use Rattle.std.proofs.lemmas.List.{length-map}
use Rattle.ufs_layout.specs.DentryForm.{DentryForm}
use Rattle.ufs_dirs.specs.Directory.{entry_of}
use Rattle.ufs_model.specs.Directories.{is_entry_of, entry_names, entry_paths, entry_count, has_entries}
use Rattle.ufs_model.proofs.Facts.Allowed.{allowed_append, allowed_back, first_none}
use Rattle.ufs_model.proofs.Facts.Lookups.{key_passes, passing_key}
use Rattle.ufs_model.proofs.Facts.Orders.{path_total, path_same}
use Rattle.ufs_model.proofs.Facts.Pieces.{ArePlain, IsPlain, plain_append, plain_back, components_plain, bytes_same, same_bytes}
use Rattle.ufs_base.specs.Choices.{first_of}
use Rattle.ufs_model.specs.Paths.{component_refusal, components_refusal, whole_path}
use Rattle.ufs_model.specs.PosixTree.{Paths, IsNamespace, stands, has_dir}
use Rattle.ufs_model.specs.declared.data.Errno.{Errno}
use Rattle.ufs_dirs.specs.Names.{AreNamesIn}
use Rattle.ufs_dir_tree.specs.DirCalls.{IsBare}
use Rattle.ufs_dir_tree.specs.DirTable.{IsDirTable, slots_at, found_at, found_of, step}
use Rattle.ufs_name_tree.specs.NameTable.{NameTable, node_at, node_of}
use Rattle.ufs_names.specs.Stands.{Stands}
use Rattle.ufs_dir_tree.specs.declared.found.Found.{Found}
use Rattle.ufs_dir_tree.specs.declared.found.Found.TheVariants.{Dir}
use Rattle.ufs_path.specs.Names.{IsName}
use Rattle.ufs_dirs.proofs.Facts.{same_names_in}
use Rattle.ufs_names.proofs.PathLemmas.{name_of, entry_path, is_entry, name_of_entry, entry_is, names_rising, any_mapped}
use Rattle.ufs_dir_tree.proofs.WalkLemmas.{walk-append}

pub plain_name : (name : List ℕ) → IsName name → IsPlain name
plain_name name h = record { some = lt-ltb 0 (length name) h.some; free = h.no_slash }

pub allowed_name : (name : List ℕ) → IsName name → component_refusal name ≡ None
allowed_name name h = rw (h.printable, h.no_dots, le-ltb 58 (length name) h.short) refl

some_mapped : (t : NameTable) (o : Option DentryForm) → is_some (option_map (node_of t) (option_map found_of o)) ≡ is_some o
some_mapped t None = refl
some_mapped t (Some e) = refl

module _ (t : NameTable) (paths : Paths) (tree : IsNamespace (stands paths) (has_dir paths)) (table : IsDirTable t.dirs) (at : Stands (node_at t) paths) where
  module _ (names : List (List ℕ)) (plain : ArePlain names) (allowed : components_refusal names ≡ None) (i : ℕ) (dir : found_at t.dirs names ≡ Some (Dir i)) where
    -- what stands at a name in the directory
    stands_named : (name : List ℕ) → IsPlain name → component_refusal name ≡ None → stands paths (entry_path names name) ≡ is_some (entry_of (slots_at t.dirs i) name)
    stands_named name one pass =
        ap is_some (at (names ++ name ∷ []) (plain_append names (name ∷ []) plain (one, tt)) (allowed_append names (name ∷ []) allowed (ap (λ (o : Option Errno). first_of o None) pass)))
        ∙ ap (λ (o : Option Found). is_some (option_map (node_of t) o)) (walk-append t.dirs (Some (Dir 1)) names (name ∷ []) ∙ ap (λ o. step t.dirs o name) dir)
        ∙ some_mapped t (entry_of (slots_at t.dirs i) name)

    -- a name in its slots is an entry's
    entry_there : (name : List ℕ) → is_some (entry_of (slots_at t.dirs i) name) ≡ true → (stands paths (entry_path names name) ≡ true) × (is_entry_of (whole_path names) (entry_path names name) ≡ true) × (name_of (entry_path names name) ≡ name)
    entry_there name some =
        let is = table.names i name some in
        let all = plain_append names (name ∷ []) plain (plain_name name is, tt) in
        (stands_named name (plain_name name is) (allowed_name name is) ∙ some, is_entry names plain name all, name_of_entry names plain name all)

    -- and an entry's name is in them
    slot_there : (path : List ℕ) → stands paths path ≡ true → is_entry_of (whole_path names) path ≡ true → is_some (entry_of (slots_at t.dirs i) (name_of path)) ≡ true
    slot_there path there entry =
        let whole = tree.whole path there in
        let split = entry_is names plain path whole entry in
        let plain' : ArePlain (names ++ name_of path ∷ []) = subst ArePlain split (components_plain path) in
        let allowed' : components_refusal (names ++ name_of path ∷ []) ≡ None = ap components_refusal (sym split) ∙ whole.allowed in
        let one = plain_back names (name_of path ∷ []) plain' in
        let pass = first_none (component_refusal (name_of path)) None (allowed_back names (name_of path ∷ []) allowed') in
        sym (stands_named (name_of path) one.0 pass.0) ∙ ap (stands paths) (ap whole_path (sym split) ∙ whole.spelled) ∙ there

    abbrev test : List ℕ → List ℕ → Bool
    test name path = is_entry_of (whole_path names) path && bytes_eq name (name_of path)

    -- the names of the entries are those in the slots
    pub entry_names_are : AreNamesIn (slots_at t.dirs i) (entry_names paths (whole_path names))
    entry_names_are = record {
      rising = names_rising names plain paths tree.whole;
      each = λ name. any_mapped name_of (is_entry_of (whole_path names)) name (fin.keys paths) ∙ both_ways _ _ (named name) (listed name);
    }
      where
        named : (name : List ℕ) → list_any (test name) (fin.keys paths) ≡ true → is_some (entry_of (slots_at t.dirs i) name) ≡ true
        named name e =
            let found = passing_key path_total path_same (test name) paths e in
            let both = and_parts _ _ found.2 in
            ap (λ n. is_some (entry_of (slots_at t.dirs i) n)) (same_bytes name (name_of found.0) both.1) ∙ slot_there found.0 found.1 both.0

        listed : (name : List ℕ) → is_some (entry_of (slots_at t.dirs i) name) ≡ true → list_any (test name) (fin.keys paths) ≡ true
        listed name some =
            let is = entry_there name some in
            key_passes path_total path_same (test name) paths (entry_path names name) is.0 (and_from _ _ is.1 (bytes_same name _ (sym is.2)))

    pub names_are_entries : (xs : List (List ℕ)) → AreNamesIn (slots_at t.dirs i) xs → xs ≡ entry_names paths (whole_path names)
    names_are_entries xs are = same_names_in (slots_at t.dirs i) xs (entry_names paths (whole_path names)) are entry_names_are

    pub count_is_entries : (xs : List (List ℕ)) → AreNamesIn (slots_at t.dirs i) xs → length xs ≡ entry_count paths (whole_path names)
    count_is_entries xs are = ap (λ (l : List (List ℕ)). length l) (names_are_entries xs are) ∙ length-map (entry_paths paths (whole_path names)) name_of

    pub no_entries_if_bare : IsBare (slots_at t.dirs i) → has_entries paths (whole_path names) ≡ false
    no_entries_if_bare bare = false_from_ne_true _ (λ e.
        let found = passing_key path_total path_same (is_entry_of (whole_path names)) paths e in
        let none = ap is_some (bare (name_of found.0)) in
        let some = slot_there found.0 found.1 found.2 in
        cc)

    pub bare_if_no_entries : has_entries paths (whole_path names) ≡ false → IsBare (slots_at t.dirs i)
    bare_if_no_entries none name = by (entry_of (slots_at t.dirs i) name) refl
      where
        by : (o : Option DentryForm) → entry_of (slots_at t.dirs i) name ≡ o → entry_of (slots_at t.dirs i) name ≡ None
        by None is = is
        by (Some e) is =
            let there = entry_there name (ap is_some is) in
            let some = key_passes path_total path_same (is_entry_of (whole_path names)) paths (entry_path names name) there.0 there.1 in
            absurd cc
