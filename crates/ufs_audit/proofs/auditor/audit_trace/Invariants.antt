use Rattle.std.proofs.Common.{◌≡◌, ◌+◌, length}
use Rattle.ufs_audit.proofs.TraceLemmas.{IsStreamed}
use Rattle.ufs_audit.proofs.auditor.audit_trace.Given as goal

-- a history stands behind what was read so far
abbrev pub invariant-loop-front : goal.invariant-loop-front
invariant-loop-front g l = record {
  same : g.S.Source.faults l.source ≡ g.S.Source.faults l.fn.source;
  streamed : IsStreamed l.fn.tree l.fn.clients l.fn.answers (g.S.Source.left l.fn.source) (g.S.Source.left l.source) l.fn.ahead l.ahead l.fn.room l.room l.ticket l.line.items l.state.tree l.state.counts.items l.state.faults.keys;
}

abbrev pub decreases-loop-front : goal.decreases-loop-front
decreases-loop-front g l = l.room + length l.line.items
