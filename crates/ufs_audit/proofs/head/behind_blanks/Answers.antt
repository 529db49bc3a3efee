use Rattle.std.proofs.Common.{◌≡◌, ◌-◌, ◌++◌, ℕ, List, refl, sym, subst, length, take, drop, arith}
use Rattle.std.proofs.lemmas.Grind.{common_steps}
use Rattle.ufs_audit.specs.Sources.{AreBlanks}
use Rattle.ufs_audit.proofs.HeadLemmas.{blanks_next}
use Rattle.ufs_audit.proofs.head.behind_blanks.Goals as goal

pub loop-rest-preserved : goal.loop-rest-preserved
loop-rest-preserved c =
    let rest = c.loop-rest.rest.now in
    let same : take (length rest - 1) (drop 1 rest) ≡ drop 1 rest = grind (arith, common_steps) in
    subst (λ (l : List ℕ). (blanks : List ℕ) × AreBlanks blanks × (c.args.text.now ≡ blanks ++ l)) (sym same)
    (blanks_next c.args.text.now rest c.loop-rest.invariant c.in-len1-up.len_at_least (c.if-not-is_blank.ensures.0 refl))
