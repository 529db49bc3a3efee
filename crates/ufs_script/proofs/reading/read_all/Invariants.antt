use Rattle.std.proofs.Common.{◌≡◌, ◌≤◌, length}
use Rattle.std.specs.Io.KnownBytes.{Consumes}
use Rattle.ufs_script.specs.Reading.{MadeAtMost}
use Rattle.ufs_script.proofs.reading.read_all.Given as goal

abbrev pub invariant-loop-turn : goal.invariant-loop-turn
invariant-loop-turn g l = record {
  later : g.S.Source.faults l.initial.source ≤ g.S.Source.faults l.source;
  same : g.S.Source.faults l.source ≡ g.S.Source.faults l.initial.source;
  taken : Consumes (g.S.Source.left l.initial.source) (g.S.Source.left l.source) l.text.items;
  few : length l.text.items ≤ 16777216;
  made : MadeAtMost l._turn (g.S.Source.reads l.initial.source) (g.S.Source.reads l.source);
  some : l._turn ≤ length l.text.items;
}
