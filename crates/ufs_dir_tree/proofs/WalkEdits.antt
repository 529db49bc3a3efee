-- Walks along names, in a table and in a changed one.
use Rattle.std.proofs.Common.{◌≡◌, ◌≢◌, ℕ, List, [], ◌∷◌, ◌++◌, Option, Some, None, ap, sym, refl, ◌∙◌, append_assoc}
use Rattle.std.specs.Option.{option_map}
use Rattle.ufs_dirs.specs.Directory.{entry_of}
use Rattle.ufs_dir_tree.specs.DirTable.{DirTable, slots_at, found_of, step, walk_from, found_at}
use Rattle.ufs_dir_tree.specs.DirEdits.{SameEntries, SameNames, dir_in}
use Rattle.ufs_dir_tree.specs.DirCalls.{IsUnmet}
use Rattle.ufs_dir_tree.specs.declared.found.Found.{Found}
use Rattle.ufs_dir_tree.specs.declared.found.Found.TheVariants.{Dir, File}
use Rattle.ufs_dir_tree.proofs.Prefixes.{NotBegins}
use Rattle.ufs_dir_tree.proofs.WalkLemmas.{walk_none}
use Rattle.ufs_dir_tree.proofs.WalkedTables.{IsWalked}

module _ (t new : DirTable) where
  -- a walk that passes no directory at a name that was set
  pub walk-off : (p : ℕ) (x : List ℕ) → ((i : ℕ) (name : List ℕ) → (i ≡ p → name ≢ x) → step new (Some (Dir i)) name ≡ step t (Some (Dir i)) name)
      → (at : Option Found) (names : List (List ℕ)) → ((a b : List (List ℕ)) → names ≡ a ++ x ∷ b → walk_from t at a ≢ Some (Dir p)) → walk_from new at names ≡ walk_from t at names
  walk-off p x same at [] off = refl
  walk-off p x same None (n ∷ ns) off = walk_none new ns ∙ sym (walk_none t ns)
  walk-off p x same (Some (File f)) (n ∷ ns) off = walk_none new ns ∙ sym (walk_none t ns)
  walk-off p x same (Some (Dir i)) (n ∷ ns) off =
      ap (λ at. walk_from new at ns) (same i n (λ here name. off [] ns (ap (λ y. y ∷ ns) name) (ap (λ j. Some (Dir j)) here)))
      ∙ walk-off p x same (step t (Some (Dir i)) n) ns (λ a b e met. off (n ∷ a) b (ap (λ l. n ∷ l) e) met)

  -- where each name stands for what it did, each walk meets what it did
  pub walk-same : SameEntries t.dirs new.dirs → (at : Option Found) (names : List (List ℕ)) → walk_from new at names ≡ walk_from t at names
  walk-same same at [] = refl
  walk-same same None (n ∷ ns) = walk_none new ns ∙ sym (walk_none t ns)
  walk-same same (Some (File f)) (n ∷ ns) = walk_none new ns ∙ sym (walk_none t ns)
  walk-same same (Some (Dir i)) (n ∷ ns) =
      ap (λ e. walk_from new (option_map found_of e) ns) (same i n) ∙ walk-same same (step t (Some (Dir i)) n) ns

  -- a walk that never meets the one directory that changed
  walk-past : (p : ℕ) → ((i : ℕ) → i ≢ p → SameNames (dir_in t.dirs i) (dir_in new.dirs i)) → (at : Option Found) (names : List (List ℕ)) → ((a b : List (List ℕ)) → names ≡ a ++ b → walk_from t at a ≢ Some (Dir p)) → walk_from new at names ≡ walk_from t at names
  walk-past p same at [] off = refl
  walk-past p same None (n ∷ ns) off = walk_none new ns ∙ sym (walk_none t ns)
  walk-past p same (Some (File f)) (n ∷ ns) off = walk_none new ns ∙ sym (walk_none t ns)
  walk-past p same (Some (Dir i)) (n ∷ ns) off =
      ap (λ e. walk_from new (option_map found_of e) ns) (same i (λ here. off [] (n ∷ ns) refl (ap (λ j. Some (Dir j)) here)) n)
      ∙ walk-past p same (step t (Some (Dir i)) n) ns (λ a b e met. off (n ∷ a) b (ap (λ l. n ∷ l) e) met)

  pub met_past : (p : ℕ) → ((i : ℕ) → i ≢ p → SameNames (dir_in t.dirs i) (dir_in new.dirs i)) → IsUnmet t p → (names : List (List ℕ)) → found_at new names ≡ found_at t names
  met_past p same unmet names = walk-past p same (Some (Dir 1)) names (λ a b e met. unmet a (Dir p) met refl)

  -- a walk that doesn't begin with the names that lead there
  pub met_off : (p : ℕ) (x : List ℕ) → ((i : ℕ) (name : List ℕ) → (i ≡ p → name ≢ x) → entry_of (slots_at new i) name ≡ entry_of (slots_at t i) name)
      → IsWalked t → (above : List (List ℕ)) → found_at t above ≡ Some (Dir p) → (names : List (List ℕ)) → NotBegins (above ++ x ∷ []) names → found_at new names ≡ found_at t names
  met_off p x same is above met names off =
      walk-off p x (λ i name else. ap (option_map found_of) (same i name else)) (Some (Dir 1)) names
      (λ a b e at. off b (e ∙ ap (λ l. l ++ x ∷ b) (is.once a above (Dir p) (Dir p) at met refl) ∙ sym (append_assoc above (x ∷ []) b)))
