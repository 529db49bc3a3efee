use Rattle.std.proofs.Common.{◌≡◌, ◌+◌, ◌++◌, length, drop, replicate, refl, sym, ap, subst, ◌∙◌, arith}
use Rattle.std.proofs.lemmas.List.{drop-replicate}
use Rattle.ufs_layout.specs.Words.{IsPadded, padded}
use Rattle.ufs_layout.proofs.Extents.{IsPadded-padded}
use Rattle.ufs_layout.proofs.dentry.Dentry.from_name.Goals as goal

pub invariant_of-result : goal.invariant_of-result
invariant_of-result c =
    let n : 0 + length c.args.name.now ≡ length c.args.name.now = omega arith in
    let is : c.put.new.bytes ≡ padded 0 58 c.args.name.now =
    c.put.ensures ∙ ap (λ z. c.args.name.now ++ z) (ap (λ k. drop k (replicate 58 0)) n ∙ drop-replicate (length c.args.name.now) 58 0) in
    subst (IsPadded 0 58 (length c.args.name.now)) (sym is) (IsPadded-padded 0 58 (length c.args.name.now) c.args.name.now refl c.requires)
