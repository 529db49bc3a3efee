-- A name below which nothing stands is taken out: what was met is met but for what it stood for, which has no name.
use Rattle.std.proofs.Common.{◌≡◌, ℕ, ◌⊎◌, inl, inr, List, [], ◌∷◌, ◌++◌, Some, None, IsSome, ap, sym, ◌∙◌, subst}
use Rattle.std.proofs.lemmas.List.{append-nil}
use Rattle.ufs_dirs.specs.Directory.{Directory, entry_of}
use Rattle.ufs_dir_tree.specs.DirTable.{DirTable, IsMet, IsReached, slots_at, found_at}
use Rattle.ufs_dir_tree.specs.DirCalls.{MayGo}
use Rattle.ufs_dir_tree.specs.DirEdits.{SetsEntry}
use Rattle.ufs_dir_tree.specs.declared.found.Found.TheVariants.{Dir}
use Rattle.ufs_dir_tree.proofs.Prefixes.{Begins, NotBegins, begins_or_not}
use Rattle.ufs_dir_tree.proofs.WalkedTables.{IsWalked}
use Rattle.ufs_dir_tree.proofs.EntryEdits.{entry_was, met_else}
use Rattle.ufs_dir_tree.proofs.FoundEdits.{nothing_below}

module _ (t : DirTable) (dirs : List Directory) (p : ℕ) (x : List ℕ) (sets : SetsEntry t.dirs dirs p x None) (is : IsWalked t) (above : List (List ℕ)) (met : found_at t above ≡ Some (Dir p)) (may_go : MayGo t (above ++ x ∷ [])) where
  abbrev left : DirTable
  left = record { dirs = dirs; free = t.free }

  abbrev here : List (List ℕ)
  here = above ++ x ∷ []

  -- what is met at the name or below it has no name
  none_at : (i : ℕ) (name : List ℕ) → IsSome (entry_of (slots_at t i) name) → (names rest : List (List ℕ)) → names ≡ here ++ rest → found_at t names ≡ Some (Dir i) → ⊥
  none_at i name some names [] e at =
      let bare = may_go i (ap (found_at t) (sym (append-nil here) ∙ sym e) ∙ at) name in
      let none = subst IsSome bare some in
      cc
  none_at i name some names (y ∷ ys) e at = let none = ap (found_at t) e ∙ nothing_below t here may_go y ys in cc

  still_met : (i : ℕ) (name : List ℕ) → IsSome (entry_of (slots_at t i) name) → IsMet t i → IsMet left i
  still_met i name some was = by (begins_or_not here was.0)
    where
      by : Begins here was.0 ⊎ NotBegins here was.0 → IsMet left i
      by (inl begins) = absurd (none_at i name some was.0 begins.0 begins.1 was.1)
      by (inr off) = (was.0, met_else t dirs p x None sets is above met was.0 off ∙ was.1)

  pub dropped_reached : IsReached t → IsReached left
  dropped_reached reached i name some = by (entry_was t dirs p x None sets i name some)
    where
      by : ((i ≡ p) × (name ≡ x)) ⊎ IsSome (entry_of (slots_at t i) name) → IsMet left i
      by (inl here) = let none = (λ k. entry_of (slots_at left (here.0 k)) (here.1 k)) ∙ sets.names.this in let gone = subst IsSome none some in absurd cc
      by (inr old) = still_met i name old (reached i name old)
