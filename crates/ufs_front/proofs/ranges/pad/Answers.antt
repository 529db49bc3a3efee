use Rattle.std.proofs.Common.{◌-◌, ◌++◌, take, replicate, sym, ◌∙◌, arith}
use Rattle.std.specs.Vec.{vec_len}
use Rattle.ufs_front.proofs.Paddings.{left_by_ok, padded_enough, resized}
use Rattle.ufs_front.proofs.ranges.pad.Goals as goal

pub returns-then-len-count-clause-items : goal.returns-then-len-count-clause-items
returns-then-len-count-clause-items c =
    let held = c.args.held.now in
    let count = c.args.count in
    let less = c.if-len-count.true in
    let own = held.ok.0 in
    left_by_ok c.resize.result c.unwrap.result c.resize.new.self.items (take count held.items ++ replicate (count - vec_len held) 0) held.items c.resize.ensures.items c.unwrap.ensures
    ∙ resized count (vec_len held) held.items (omega (arith, own)) (omega (arith, less, c.len.ensures))

pub returns-else-len-count-clause-items : goal.returns-else-len-count-clause-items
returns-else-len-count-clause-items c =
    let held = c.args.held.now in
    let enough = c.if-len-count.false in
    let own = held.ok.0 in
    sym (padded_enough c.args.count held.items (omega (arith, enough, own, c.len.ensures)))
