use Rattle.std.proofs.Common.{◌≡◌, ℕ, List, [], ◌∷◌, ap, refl, sym, ◌∙◌, subst}
use Rattle.std.proofs.lemmas.Map.Keys.{IsStrictlyIncreasing-from_sorted}
use Rattle.std.specs.Cmp.{nat_cmp_total}
use Rattle.std.specs.FinMap as map
use Rattle.std.specs.FinMap.{FinMap}
use Rattle.std.specs.List.Sorted.{IsStrictlyIncreasing}
use Rattle.std.specs.Map.{keys_of}
use Rattle.std.specs.Ordering.{nat_cmp}
use Rattle.ufs_calls.specs.Seen.{keyed}
use Rattle.ufs_calls.proofs.Facts.Maps.{entries-seen}
use Rattle.ufs_names.specs.declared.holding.Holding.{Holding}
use Rattle.ufs_names.proofs.hold_map.HoldMap.files.Goals as goal

-- numbers stand for themselves
keys_same : (es : List (ℕ × Holding)) → keys_of es ≡ keys_of (keyed nat_cmp (λ k. k) es)
keys_same [] = refl
keys_same (e ∷ es) = ap (λ ks. e.0 ∷ ks) (keys_same es)

pub returns-clause-files : goal.returns-clause-files
returns-clause-files c =
    c.from_vec.ensures ∙ c.in_ok-files.ensures
    ∙ keys_same c.self.inside.entries.entries
    ∙ ap keys_of (sym (entries-seen nat_cmp (λ k. k) nat_cmp_total c.self.inside.entries c.len-count.ensures.ordered))
    ∙ ap (λ (m : FinMap nat_cmp Holding). map.keys m) c.self.view_is

pub returns-clause-rising : goal.returns-clause-rising
returns-clause-rising c = subst IsStrictlyIncreasing (sym (c.from_vec.ensures ∙ c.in_ok-files.ensures)) (IsStrictlyIncreasing-from_sorted (keys_of c.self.inside.entries.entries) c.len-count.ensures.ordered)
