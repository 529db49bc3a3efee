use Rattle.std.proofs.Common.{◌≡◌, ◌+◌, ◌++◌, length, take, drop, replicate, ap, ◌∙◌, arith}
use Rattle.std.proofs.lemmas.List.{drop-replicate}
use Rattle.ufs_layout.proofs.dentry.read_name.Goals as goal

pub returns : goal.returns
returns c =
    let n : 0 + length (take c.args.count c.args.field.now) ≡ length (take c.args.count c.args.field.now) = omega arith in
    c.put.ensures ∙ ap (λ z. take c.args.count c.args.field.now ++ z) (ap (λ k. drop k (replicate 58 0)) n ∙ drop-replicate (length (take c.args.count c.args.field.now)) 58 0)
