-- Names along which a walk through the directories meets something may stand in a path.
use Rattle.std.proofs.Common.{◌≡◌, ℕ, List, [], ◌∷◌, Option, Some, None, is_some, ap, refl, sym, ◌∙◌}
use Rattle.std.specs.Option.{option_map}
use Rattle.ufs_base.specs.Choices.{first_of}
use Rattle.ufs_dirs.specs.Directory.{entry_of}
use Rattle.ufs_layout.specs.DentryForm.{DentryForm}
use Rattle.ufs_dir_tree.specs.DirTable.{DirTable, IsDirTable, found_at, found_of, slots_at, walk_from}
use Rattle.ufs_dir_tree.specs.declared.found.Found.{Found}
use Rattle.ufs_dir_tree.specs.declared.found.Found.TheVariants.{Dir, File}
use Rattle.ufs_dir_tree.proofs.WalkLemmas.{walk_none}
use Rattle.ufs_model.specs.Paths.{components_refusal}
use Rattle.ufs_model.specs.declared.data.Errno.{Errno}
use Rattle.ufs_names.proofs.NameLists.{AreNames}
use Rattle.ufs_names.proofs.EntryLemmas.{allowed_name, plain_name}

module _ (t : DirTable) (is : IsDirTable t) where
  from_nothing : (names : List (List ℕ)) (f : Found) → walk_from t None names ≡ Some f → ⊥
  from_nothing names f at = let none : Some f ≡ None = sym at ∙ walk_none t names in cc

  walked : (at : Option Found) (names : List (List ℕ)) (f : Found) → walk_from t at names ≡ Some f → AreNames names
  walked at [] f met = record { plain = tt; allowed = refl }
  walked None (name ∷ names) f met = absurd (from_nothing names f met)
  walked (Some (File i)) (name ∷ names) f met = absurd (from_nothing names f met)
  walked (Some (Dir i)) (name ∷ names) f met = by (entry_of (slots_at t i) name) refl met (λ d. walked (Some (found_of d)) names f)
    where
      by : (o : Option DentryForm) → entry_of (slots_at t i) name ≡ o → walk_from t (option_map found_of o) names ≡ Some f → ((d : DentryForm) → walk_from t (Some (found_of d)) names ≡ Some f → AreNames names) → AreNames (name ∷ names)
      by None e met rest = absurd (from_nothing names f met)
      by (Some d) e met go =
          let may = is.names i name (ap is_some e) in
          let rest = go d met in
          record {
            plain = (plain_name name may, rest.plain);
            allowed = ap (λ (o : Option Errno). first_of o (components_refusal names)) (allowed_name name may) ∙ rest.allowed;
          }

  pub found_names : (names : List (List ℕ)) (f : Found) → found_at t names ≡ Some f → AreNames names
  found_names names f met = walked (Some (Dir 1)) names f met
