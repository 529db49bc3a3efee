use Rattle.std.proofs.Common.{◌≡◌, ◌+◌, ◌*◌, ◌<◌, ap, ◌∙◌, arith}
use Rattle.std.specs.Prelude.{flat_map}
use Rattle.std.specs.List.{filter}
use Rattle.ufs_scan.specs.Gathered.{placed_in, placed_below}
use Rattle.ufs_found.specs.Sorted.{is_between}
use Rattle.ufs_found.proofs.Buckets.{flat_of}
use Rattle.ufs_scan.proofs.gathered.with_parts.Goals as goal

pub returns : goal.returns
returns c = λ all has.
    let low : c.place-low.result ≡ c.args.one.now.1.txn * 65536 = omega (arith, c.place-low.ensures.value, c.txn.ensures) in
    let high : c.place-high.result ≡ c.args.one.now.1.txn * 65536 + c.args.one.now.1.index = omega (arith, c.place-high.ensures.value, c.txn-2.ensures, c.index.ensures) in
    let fits : c.args.one.now.1.index < 65536 = omega (arith, c.index.ensures, c.index.type_inv) in
    let records : flat_map (λ b. placed_in b.now) c.between.result.now ≡ placed_below all c.args.one.now.1.txn c.args.one.now.1.index =
    ap (flat_map (λ b. placed_in b.now)) c.between.ensures
    ∙ (λ i. flat_map (λ b. placed_in b.now) (filter (λ b. is_between (low i) (high i) b.now) c.args.parts.now))
    ∙ flat_of (λ b. b.now) placed_in (is_between (c.args.one.now.1.txn * 65536) (c.args.one.now.1.txn * 65536 + c.args.one.now.1.index)) c.args.parts.now
    ∙ has c.args.one.now.1.txn c.args.one.now.1.index fits in
    (λ i. record { number = c.number-number.ensures i; records = records i })
