use Rattle.std.proofs.Common.{ap, ◌∙◌, ◌≡◌, true, sym, subst}
use Rattle.std.specs.Ordering.{nat_cmp}
use Rattle.std.specs.FinSet as set
use Rattle.ufs_leaf_tests.proofs.FileLemmas.{inserted, kept}
use Rattle.ufs_leaf_tests.proofs.nodes.Three.make.Goals as goal

pub invariant_of-result : goal.invariant_of-result
invariant_of-result c =
    let a = c.fresh-a.result in
    let b = c.fresh-b.result in
    let d = c.fresh-c.result in
    let a1 : set.contains c.fresh-a.new.self.given a ≡ true = subst (λ (s : set.FinSet nat_cmp). set.contains s a ≡ true) (sym c.fresh-a.ensures.given) (inserted _ a) in
    let a2 : set.contains c.fresh-b.new.self.given a ≡ true = subst (λ (s : set.FinSet nat_cmp). set.contains s a ≡ true) (sym c.fresh-b.ensures.given) (kept _ b a a1) in
    let b2 : set.contains c.fresh-b.new.self.given b ≡ true = subst (λ (s : set.FinSet nat_cmp). set.contains s b ≡ true) (sym c.fresh-b.ensures.given) (inserted _ b) in
    record {
      a_given = subst (λ (s : set.FinSet nat_cmp). set.contains s a ≡ true) (sym c.fresh-c.ensures.given) (kept _ d a a2);
      b_given = subst (λ (s : set.FinSet nat_cmp). set.contains s b ≡ true) (sym c.fresh-c.ensures.given) (kept _ d b b2);
      c_given = subst (λ (s : set.FinSet nat_cmp). set.contains s d ≡ true) (sym c.fresh-c.ensures.given) (inserted _ d);
    }
