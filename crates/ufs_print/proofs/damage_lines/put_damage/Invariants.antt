use Rattle.std.proofs.Common.{◌≡◌, ◌++◌, take}
use Rattle.std.specs.Prelude.{flat_map}
use Rattle.ufs_print.specs.Pieces.{IsPassed}
use Rattle.ufs_print.proofs.DamageLemmas.{own_line}
use Rattle.ufs_print.proofs.damage_lines.put_damage.Given as goal

abbrev pub invariant-loop-damage : goal.invariant-loop-damage
invariant-loop-damage g l = record {
  same : g.K.Sink.faults l.sink ≡ g.K.Sink.faults l.initial.sink;
  put : IsPassed (g.K.Sink.held l.initial.sink) (g.K.Sink.held l.sink) l.waiting (l.initial.waiting ++ flat_map own_line (take l.damage-index l.list));
}
