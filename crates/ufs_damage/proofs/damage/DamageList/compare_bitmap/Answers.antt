use Rattle.std.proofs.Common.{◌≤◌, ◌*◌, ◌++◌, length, ap, ◌∙◌, arith}
use Rattle.ufs_damage.proofs.Bits.{sector_differs}
use Rattle.ufs_damage.proofs.damage.DamageList.compare_bitmap.Goals as goal

pub returns : goal.returns
returns c g image nodes taken at =
    let few : 8 * length c.args.bytes.now ≤ 4096 = omega arith in
    c.in_ok-push_bits.ensures ∙ ap (λ l. c.args.self.now ++ l) (sector_differs g image nodes c.args.taken.now c.args.sector c.args.bytes.now (8 * length c.args.bytes.now) few taken at)
