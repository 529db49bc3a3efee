use Rattle.std.proofs.Common.{arith, drop, ◌+◌, ◌-◌}
use Rattle.std.proofs.lemmas.List.{length-take, take-take}
use Rattle.ufs_print.proofs.write.next_piece.Goals as goal

pub returns-clause-first : goal.returns-clause-first
returns-clause-first c n few =
    let text = c.args.text.now in
    let at = c.args.at in
    let size = (at + c.min-size.result) - at in
    take-take n size (drop at text) (omega (arith, few, length-take size (drop at text)))
