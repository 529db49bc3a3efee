use Rattle.std.proofs.Common.{arith}
use Rattle.std.proofs.lemmas.Grind.{common_steps}
use Rattle.ufs_damage.proofs.slots.slot_damage.Goals as goal

pub returns-in-Spelling : goal.returns-in-Spelling
returns-in-Spelling c = let e = c.is_bad_dentry.ensures c.args.slot in grind (arith, common_steps, e)
