use Rattle.std.proofs.Common.{◌≡◌, map, take}
use Rattle.ufs_image.specs.Damage.{lowest_blamed}
use Rattle.ufs_damage.specs.Meaning.{meaning}
use Rattle.ufs_damage.proofs.lowest.lowest_of.Given as goal

abbrev pub invariant-loop-damage : goal.invariant-loop-damage
invariant-loop-damage l = l.lowest ≡ lowest_blamed l.geometry (map meaning (take l.damage-index l.items))
