-- A name is taken out of a directory.
use Rattle.std.proofs.Common.{◌≡◌, ◌≢◌, ℕ, ◌⊎◌, inl, inr, List, [], ◌∷◌, ◌++◌, Some, None, ap, sym, refl, ◌∙◌}
use Rattle.ufs_layout.specs.DentryForm.{DentryForm}
use Rattle.ufs_dirs.specs.Directory.{Directory, entry_of}
use Rattle.ufs_dir_tree.specs.DirTable.{DirTable, slots_at, found_of, inode_of, walk_from, found_at}
use Rattle.ufs_dir_tree.specs.DirEdits.{SetsEntry, IsLoose}
use Rattle.ufs_dir_tree.specs.declared.found.Found.{Found}
use Rattle.ufs_dir_tree.specs.declared.found.Found.TheVariants.{Dir}
use Rattle.ufs_dir_tree.proofs.Prefixes.{Begins, NotBegins, begins_or_not, same_rest, no_more}
use Rattle.ufs_dir_tree.proofs.WalkLemmas.{walk_none}
use Rattle.ufs_dir_tree.proofs.WalkEdits.{walk-off}
use Rattle.ufs_dir_tree.proofs.WalkedTables.{IsWalked}
use Rattle.ufs_dir_tree.proofs.EntryEdits.{step-else, used-same, met_else, met_below, met_before, edited_table}

module _ (t : DirTable) (dirs : List Directory) (p : ℕ) (x : List ℕ) (sets : SetsEntry t.dirs dirs p x None) (is : IsWalked t) (above : List (List ℕ)) (met : found_at t above ≡ Some (Dir p)) where
  abbrev new : DirTable
  new = record { dirs = dirs; free = t.free }

  abbrev here : List (List ℕ)
  here = above ++ x ∷ []

  -- nothing stands at the name or below it
  pub gone : (rest : List (List ℕ)) → found_at new (here ++ rest) ≡ None
  gone rest = met_below t dirs p x None sets is above met rest ∙ walk_none new rest

  -- what is met now was met before
  came : (names : List (List ℕ)) (f : Found) → found_at new names ≡ Some f → (found_at t names ≡ Some f) × NotBegins here names
  came names f e = by (begins_or_not here names)
    where
      by : Begins here names ⊎ NotBegins here names → (found_at t names ≡ Some f) × NotBegins here names
      by (inl begins) = let none = ap (found_at new) begins.1 ∙ gone begins.0 in absurd cc
      by (inr off) = (sym (met_else t dirs p x None sets is above met names off) ∙ e, off)

  pub detached_table : IsWalked new
  detached_table =
      edited_table t dirs p x None sets is above met (λ some. absurd cc)
      (λ names f e. is.met names f (came names f e).0)
      (λ names others f g e e' same. is.once names others f g (came names f e).0 (came others g e').0 same)

  module _ (e : DentryForm) (stood : entry_of (slots_at t p) x ≡ Some e) where
    was_below : (rest : List (List ℕ)) → found_at t (here ++ rest) ≡ walk_from t (Some (found_of e)) rest
    was_below rest = met_before t dirs p x None sets is above met (Some e) stood rest

    -- a walk below it doesn't come back to where its name was
    stays_below : (rest : List (List ℕ)) → walk_from t (Some (found_of e)) rest ≢ Some (Dir p)
    stays_below rest at = no_more above x rest (is.once above (here ++ rest) (Dir p) (Dir p) met (was_below rest ∙ at) refl)

    same_below : (rest : List (List ℕ)) → walk_from new (Some (found_of e)) rest ≡ walk_from t (Some (found_of e)) rest
    same_below rest = walk-off t new p x (step-else t dirs p x None sets) (Some (found_of e)) rest (λ a b _ at. stays_below a at)

    -- what stood below the name is met from what it stood for
    pub moved_below : (rest : List (List ℕ)) → walk_from new (Some (found_of e)) rest ≡ found_at t (here ++ rest)
    moved_below rest = same_below rest ∙ sym (was_below rest)

    pub detached_loose : IsLoose new (found_of e)
    detached_loose = record {
      met = λ names f at. used-same t dirs p x None sets (inode_of f) (is.met (here ++ names) f (sym (moved_below names) ∙ at));
      once = λ names others f g at too same. same_rest here names others (is.once (here ++ names) (here ++ others) f g (sym (moved_below names) ∙ at) (sym (moved_below others) ∙ too) same);
      unmet = λ names others f g at too same.
          let before = came others g too in
          before.1 names (is.once others (here ++ names) g f before.0 (sym (moved_below names) ∙ at) (sym same));
    }
