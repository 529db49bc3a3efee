use Rattle.std.proofs.Common.{ℕ, zero, suc, ◌≡◌, ◌∙◌, IsTrue, ap, arith, nat_lt, refl, subst, sym}
use Rattle.std.proofs.lemmas.Bool.{lt-ltb}
use Rattle.std.specs.FinSet as set
use Rattle.std.specs.Ordering.{nat_cmp}
use Rattle.ufs_bitmap.specs.Blocks.{BlockSet}
use Rattle.ufs_noted.specs.Noted.{Noted}
use Rattle.ufs_noted.proofs.noted.NotedNames.has_dropped.Goals as goal

none_less : IsTrue (nat_lt 0 0) → ⊥
none_less is = cc

some_more : (n : ℕ) → (n ≡ 0 → ⊥) → IsTrue (nat_lt 0 n)
some_more zero not = absurd (not refl)
some_more (suc n) not = lt-ltb 0 (suc n) (omega arith)

pub returns : goal.returns
returns c =
    let is : c.self.inside.dropped ≡ c.args.self.now.dropped = ap (λ (n : Noted). n.dropped) c.self.view_is in
    let counted : c.count.result ≡ set.len c.args.self.now.dropped = c.count.ensures ∙ ap (λ (s : BlockSet). set.len s) is in (
      λ some none. none_less (subst (λ (n : ℕ). IsTrue (nat_lt 0 n)) (counted ∙ ap (λ (s : BlockSet). set.len s) none ∙ set.len-empty nat_cmp) some),
      λ not. some_more c.count.result (λ zero. not (set.empty_of_len c.args.self.now.dropped (sym counted ∙ zero))),
    )
