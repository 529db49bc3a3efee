-- What nothing leads to gets a name in a directory.
use Rattle.std.proofs.Common.{◌≡◌, ℕ, ◌⊎◌, inl, inr, List, [], ◌∷◌, ◌++◌, Some, None, IsSome, ap, sym, refl, ◌∙◌}
use Rattle.ufs_layout.specs.DentryForm.{DentryForm}
use Rattle.ufs_dirs.specs.Directory.{Directory, entry_of}
use Rattle.ufs_path.specs.Names.{IsName}
use Rattle.ufs_dir_tree.specs.DirTable.{DirTable, IsMet, IsReached, IsUsed, slots_at, found_of, inode_of, walk_from, found_at}
use Rattle.ufs_dir_tree.specs.DirEdits.{SetsEntry, IsLoose}
use Rattle.ufs_dir_tree.specs.declared.found.Found.{Found}
use Rattle.ufs_dir_tree.specs.declared.found.Found.TheVariants.{Dir}
use Rattle.ufs_dir_tree.proofs.Prefixes.{Begins, NotBegins, begins_or_not}
use Rattle.ufs_dir_tree.proofs.WalkLemmas.{walk_none}
use Rattle.ufs_dir_tree.proofs.WalkEdits.{walk-off}
use Rattle.ufs_dir_tree.proofs.WalkedTables.{IsWalked}
use Rattle.ufs_dir_tree.proofs.EntryEdits.{step-else, entry_was, met_else, above_met, met_below, met_before, edited_table}

module _ (t : DirTable) (dirs : List Directory) (p : ℕ) (x : List ℕ) (e : DentryForm) (sets : SetsEntry t.dirs dirs p x (Some e)) (is : IsWalked t) (above : List (List ℕ)) (met : found_at t above ≡ Some (Dir p)) (loose : IsLoose t (found_of e)) where
  abbrev new : DirTable
  new = record { dirs = dirs; free = t.free }

  abbrev here : List (List ℕ)
  here = above ++ x ∷ []

  -- what stood below it stands below the name
  pub now_below : (rest : List (List ℕ)) → found_at new (here ++ rest) ≡ walk_from t (Some (found_of e)) rest
  now_below rest =
      met_below t dirs p x (Some e) sets is above met rest
      ∙ walk-off t new p x (step-else t dirs p x (Some e) sets) (Some (found_of e)) rest (λ a b _ at. loose.unmet a above (Dir p) (Dir p) at met refl)

  -- what is met now was met before, or is below the name
  abbrev Met : List (List ℕ) → Found → Type 0
  Met names f = found_at t names ≡ Some f

  abbrev Below : List (List ℕ) → Found → Type 0
  Below names f = (rest : List (List ℕ)) × (names ≡ here ++ rest) × (walk_from t (Some (found_of e)) rest ≡ Some f)

  came : (names : List (List ℕ)) (f : Found) → found_at new names ≡ Some f → Met names f ⊎ Below names f
  came names f at = by (begins_or_not here names)
    where
      by : Begins here names ⊎ NotBegins here names → Met names f ⊎ Below names f
      by (inl begins) = inr (begins.0, begins.1, sym (now_below begins.0) ∙ ap (found_at new) (sym begins.1) ∙ at)
      by (inr off) = inl (sym (met_else t dirs p x (Some e) sets is above met names off) ∙ at)

  module _ (absent : entry_of (slots_at t p) x ≡ None) where
    -- what was met is met along the same names
    pub still_met : (names : List (List ℕ)) (f : Found) → found_at t names ≡ Some f → found_at new names ≡ Some f
    still_met names f at = by (begins_or_not here names)
      where
        by : Begins here names ⊎ NotBegins here names → found_at new names ≡ Some f
        by (inl begins) = let none = ap (found_at t) begins.1 ∙ met_before t dirs p x (Some e) sets is above met None absent begins.0 ∙ walk_none t begins.0 in absurd cc
        by (inr off) = met_else t dirs p x (Some e) sets is above met names off ∙ at

    pub attached_reached : IsReached t → IsReached new
    attached_reached reached i name some = by (entry_was t dirs p x (Some e) sets i name some)
      where
        by : ((i ≡ p) × (name ≡ x)) ⊎ IsSome (entry_of (slots_at t i) name) → IsMet new i
        by (inl here) = (above, above_met t dirs p x (Some e) sets is above met ∙ ap (λ j. Some (Dir j)) (sym here.0))
        by (inr old) = let was = reached i name old in (was.0, still_met was.0 (Dir i) was.1)

  used_now : (names : List (List ℕ)) (f : Found) → Met names f ⊎ Below names f → IsUsed t (inode_of f)
  used_now names f (inl old) = is.met names f old
  used_now names f (inr below) = loose.met below.0 f below.2

  once_now : (names others : List (List ℕ)) (f g : Found) → Met names f ⊎ Below names f → Met others g ⊎ Below others g → inode_of f ≡ inode_of g → names ≡ others
  once_now names others f g (inl a) (inl b) same = is.once names others f g a b same
  once_now names others f g (inl a) (inr b) same = absurd (loose.unmet b.0 names g f b.2 a (sym same))
  once_now names others f g (inr a) (inl b) same = absurd (loose.unmet a.0 others f g a.2 b same)
  once_now names others f g (inr a) (inr b) same = a.1 ∙ ap (λ l. here ++ l) (loose.once a.0 b.0 f g a.2 b.2 same) ∙ sym b.1

  pub attached_table : IsName x → IsWalked new
  attached_table allowed =
      edited_table t dirs p x (Some e) sets is above met (λ _. allowed)
      (λ names f at. used_now names f (came names f at))
      (λ names others f g at too same. once_now names others f g (came names f at) (came others g too) same)
