use Rattle.std.proofs.Common.{◌+◌, None, get_or, ap, ◌∙◌, length, ◌∷◌, []}
use Rattle.std.proofs.lemmas.List.{length-append}
use Rattle.ufs_scan.proofs.Commits.{none_more}
use Rattle.ufs_scan.proofs.folding.no_leasts.Goals as goal

pub loop-chain-preserved : goal.loop-chain-preserved
loop-chain-preserved c = record {
  sized = ap length c.in_ok-push.ensures.items ∙ length-append c.loop-chain.list.items (None ∷ []) ∙ ap (λ n. n + 1) c.loop-chain.invariant.sized;
  none = λ q. ap (λ l. get_or l q None) c.in_ok-push.ensures.items ∙ none_more c.loop-chain.list.items c.loop-chain.invariant.none q;
}
