use Rattle.std.proofs.Common.{◌≡◌, ◌≤◌, ◌+◌, Ok, length}
use Rattle.std.specs.List.{fold}
use Rattle.ufs_script.specs.Lines.{ended_lines, unended_line}
use Rattle.ufs_script.specs.Script.{IsFew, after_line, draft_of}
use Rattle.ufs_script.proofs.script.read_ended.Given as goal

abbrev pub invariant-loop-cut : goal.invariant-loop-cut
invariant-loop-cut l = record {
  read : fold after_line (Ok l.draft) (ended_lines l.rest) ≡ draft_of (ended_lines l.text);
  rest : unended_line l.rest ≡ unended_line l.text;
  few : IsFew l.draft;
  counted : l.draft.lines + length l.rest ≤ 16777216;
}

abbrev pub decreases-loop-cut : goal.decreases-loop-cut
decreases-loop-cut l = length l.rest
