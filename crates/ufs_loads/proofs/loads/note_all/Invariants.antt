use Rattle.std.proofs.Common.{◌≡◌, ◌+◌, ◌≤◌, drop, length}
use Rattle.std.specs.FinMap.{from_entries}
use Rattle.std.specs.HashMap.{spare}
use Rattle.ufs_loads.specs.Loads.{noted_all}
use Rattle.ufs_loads.proofs.loads.note_all.Given as goal

-- what is left of the report is to be noted, and there is room for it
abbrev pub invariant-loop-load : goal.invariant-loop-load
invariant-loop-load l = record {
  noted : noted_all (from_entries l.noted.entries) (drop l.load-index l.report) ≡ noted_all (from_entries l.fn.noted.entries) l.report;
  room : length l.report ≤ spare l.noted + l.load-index;
}
