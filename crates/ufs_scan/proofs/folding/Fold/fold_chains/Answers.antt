use Rattle.std.proofs.Common.{ap, sym, ◌∙◌, ◌+◌, drop, take, arith}
use Rattle.ufs_scan.specs.Folding as fold
use Rattle.ufs_scan.specs.Nets.{nets_of}
use Rattle.ufs_scan.proofs.Edits.{drop_taken}
use Rattle.ufs_scan.proofs.NetLemmas.{one_of}
use Rattle.ufs_scan.proofs.folding.Fold.fold_chains.Goals as goal

pub fold_chain-requires-clause-nets : goal.fold_chain-requires-clause-nets
fold_chain-requires-clause-nets c =
    c.deref.ensures.value ∙ one_of (λ v. v.items) nets_of c.args.nets.now c.args.chains.now c.requires.nets c.loop-place.place (omega (arith, c.loop-place-test.true, c.requires.to))
    c.index-nets-place.result c.index-nets-place.is c.index-chains-place.result c.index-chains-place.is

pub loop-place-preserved : goal.loop-place-preserved
loop-place-preserved c =
    let split = drop_taken c.args.chains.now c.loop-place.place c.args.to c.index-chains-place.result c.loop-place-test.true c.requires.to c.index-chains-place.is in
    record {
      folded = c.loop-place.invariant.folded
          ∙ ap (λ l. fold.folded_from c.args.number c.args.index c.loop-place.place l c.loop-place.self) split
          ∙ ap (fold.folded_from c.args.number c.args.index (c.loop-place.place + 1) (drop (c.loop-place.place + 1) (take c.args.to c.args.chains.now))) (sym c.fold_chain.ensures.folded);
      standings = c.fold_chain.ensures.standings ∙ c.loop-place.invariant.standings;
      leasts = c.fold_chain.ensures.leasts ∙ c.loop-place.invariant.leasts;
    }
