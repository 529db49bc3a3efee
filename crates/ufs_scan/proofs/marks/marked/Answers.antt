use Rattle.std.proofs.Common.{◌≡◌, ◌-◌, true, false, get_or, ◌∙◌, subst, arith, ap}
use Rattle.std.specs.List.{All}
use Rattle.std.proofs.lemmas.List.{take_all}
use Rattle.ufs_scan.specs.declared.chains.Chain.{Chain}
use Rattle.ufs_scan.proofs.Named.{marked_more}
use Rattle.ufs_scan.proofs.marks.marked.Goals as goal

pub loop-chain-preserved : goal.loop-chain-preserved
loop-chain-preserved c =
    let fits = c.requires c.loop-chain.chain-index c.chain-item.result c.loop-chain-test.true in
    let inode = ap (λ (x : Chain). x.inode) c.chain-item.is in
    record {
      marks = marked_more c.args.chains.now c.loop-chain.chain-index c.chain-item.result c.loop-chain.marks.items c.put_mark.new.marks.items c.loop-chain-test.true c.chain-item.is c.put_mark.ensures.put
          (omega (arith, fits.low, fits.high, inode, c.loop-chain.invariant.sized)) c.loop-chain.invariant.marks;
      sized = c.put_mark.ensures.sized ∙ c.loop-chain.invariant.sized;
    }

pub returns-clause-marks : goal.returns-clause-marks
returns-clause-marks c = subst (λ l. All (λ (x : Chain). get_or c.loop-chain.marks.items (x.inode - 1) false ≡ true) l) (take_all c.loop-chain.chain-index c.args.chains.now c.loop-chain-test.false) c.loop-chain.invariant.marks
