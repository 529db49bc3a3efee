use Rattle.std.proofs.Common.{length, take, subst, sym, ap, ◌∙◌}
use Rattle.std.specs.Prelude.{map}
use Rattle.std.proofs.lemmas.List.{take-map}
use Rattle.ufs_scan.specs.Edits.{AreNets}
use Rattle.ufs_scan.specs.Nets.{net_of}
use Rattle.ufs_scan.proofs.Edits.{nets_take}
use Rattle.ufs_scan.proofs.folding.Fold.fold_chain.Goals as goal

pub told-requires-clause-nets : goal.told-requires-clause-nets
told-requires-clause-nets c =
    subst AreNets (sym (c.steps_below-steps.ensures.front ∙ ap (take (length c.steps_below-steps.result.now)) c.deref.ensures.value))
    (nets_take (length c.steps_below-steps.result.now) c.args.chain.now.steps.items c.requires.fit.nets)

pub told-requires-clause-same : goal.told-requires-clause-same
told-requires-clause-same c =
    ap (take (length c.steps_below-steps.result.now)) c.requires.nets ∙ take-map net_of (length c.steps_below-steps.result.now) c.args.chain.now.steps.items
    ∙ ap (map net_of) (sym (c.steps_below-steps.ensures.front ∙ ap (take (length c.steps_below-steps.result.now)) c.deref.ensures.value))
