use Rattle.std.proofs.Common.{ap, arith, length}
use Rattle.ufs_script.proofs.TurnLemmas.{limited_if, limited_unless}
use Rattle.ufs_script.proofs.schedule.turns_behind.Goals as goal

pub returns-clause-ok : goal.returns-clause-ok
returns-clause-ok c = limited_if _ c.put_turns.result _ c.put_turns.ensures.ok c.put_turns.ensures.len (omega (arith, ap length c.as_slice.ensures))

pub returns-clause-err : goal.returns-clause-err
returns-clause-err c = limited_unless _ c.put_turns.result c.put_turns.ensures.err
