use Rattle.std.proofs.Common.{ap, sym, ◌∙◌}
use Rattle.ufs_damage.specs.Lowest.{lower, if_inode}
use Rattle.ufs_damage.proofs.LowestBlamed.{lowest_none, next_lowest}
use Rattle.ufs_damage.proofs.lowest.lowest_of.Goals as goal

pub loop-damage-init : goal.loop-damage-init
loop-damage-init c = sym (lowest_none c.args.geometry.now)

pub loop-damage-preserved : goal.loop-damage-preserved
loop-damage-preserved c =
    let g = c.args.geometry.now in
    c.lower-lowest.ensures ∙ (λ i. lower (c.loop-damage.invariant i) ((c.if_inode.ensures ∙ ap (if_inode g) c.blamed.ensures) i))
    ∙ sym (next_lowest g c.args.items.now c.loop-damage.damage-index _ c.loop-damage-test.true)
