use Rattle.std.proofs.Common.{◌≡◌, ◌∙◌, ap, subst}
use Rattle.std.specs.Prelude.{OnOk}
use Rattle.ufs_hints.specs.Hints.{Pairs, renewed}
use Rattle.ufs_hints.proofs.Uses.{put_are}
use Rattle.ufs_hints.proofs.Hints.renew.Goals as goal

pub returns-clause-kept : goal.returns-clause-kept
returns-clause-kept c =
    let cache = c.self.inside.cache in
    subst (λ (h : Pairs). OnOk c.put.result (c.put.new.cache.entries ≡ h)) (put_are c.args.file c.args.owner cache c.self.invariant ∙ ap (renewed c.args.file c.args.owner) c.self.view_is) c.put.ensures.order
