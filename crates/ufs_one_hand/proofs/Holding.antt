-- Who holds which file, listed by the descriptors.
use Rattle.std.proofs.Common.{◌≡◌, ℕ, ◌&&◌, ◌||◌, eqb, List, [], ◌∷◌, Option, Some, None, refl, ap, sym, ◌∙◌}
use Rattle.std.specs.List.{list_any, filter_map, cons_option}
use Rattle.std.specs.Option.{option_map}
use Rattle.std.specs.FinMap as fin
use Rattle.ufs_model.specs.PosixTree.{Fds, is_desc_of, is_number}
use Rattle.ufs_model.specs.Touched.{holds}
use Rattle.ufs_model.specs.declared.data.Desc.{Desc}
use Rattle.ufs_model.proofs.Facts.Rising.{none_first}
use Rattle.ufs_hand_laws.specs.Parts.{is_holder}
use Rattle.ufs_one_hand.specs.Drawn.{holds_in}

abbrev pairs : List ((ℕ × ℕ) × Desc) → List (ℕ × ℕ)
pairs es = filter_map (λ e. option_map (λ file. (e.0.0, file)) e.1.file) es

module _ (c f : ℕ) where
  pairs_hold : (es : List ((ℕ × ℕ) × Desc)) → is_holder (pairs es) c f ≡ list_any (λ e. eqb e.0.0 c && is_desc_of f e.1) es
  pairs_hold [] = refl
  pairs_hold (e ∷ es) = by e.1.file (pairs_hold es)
    where
      by : (o : Option ℕ) → is_holder (pairs es) c f ≡ list_any (λ (e : (ℕ × ℕ) × Desc). eqb e.0.0 c && is_desc_of f e.1) es
          → is_holder (cons_option (option_map (λ (file : ℕ). (e.0.0, file)) o) (pairs es)) c f ≡ ((eqb e.0.0 c && is_number f o) || list_any (λ (e : (ℕ × ℕ) × Desc). eqb e.0.0 c && is_desc_of f e.1) es)
      by None i = i ∙ sym (ap (λ b. b || list_any (λ (e : (ℕ × ℕ) × Desc). eqb e.0.0 c && is_desc_of f e.1) es) (none_first (eqb e.0.0 c)))
      by (Some g) i = ap (λ b. (eqb e.0.0 c && eqb g f) || b) i

pub listed_hold : (fds : Fds) (c f : ℕ) → is_holder (holds_in fds) c f ≡ holds fds c f
listed_hold fds c f = pairs_hold c f (fin.entries fds)
