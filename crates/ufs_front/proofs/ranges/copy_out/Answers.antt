use Rattle.std.proofs.Common.{ℕ, List, ◌-◌, ◌++◌, length, take, drop, replicate, ◌∙◌, arith}
use Rattle.ufs_front.proofs.Paddings.{copied_out, left_is}
use Rattle.ufs_front.proofs.ranges.copy_out.Goals as goal

pub returns : goal.returns
returns c =
    let held = c.args.held.now in
    let m = length c.args.buf.now in
    let start = c.min.result in
    let count = c.min-count.result in
    let there : List ℕ = take (length held - start) (drop start held) in
    let part : List ℕ = take count there in
    let least = c.min.ensures in
    let most = c.min-count.ensures in
    let long = c.put_first.auto.buf in
    c.clear_behind.ensures
    ∙ (λ i. take count (c.put_first.ensures i) ++ replicate (long i - count) 0)
    ∙ copied_out m count there (drop c.args.at held) (drop (length part) c.args.buf.now) (left_is c.args.at start held (omega (arith, least))) (omega (arith, most))
