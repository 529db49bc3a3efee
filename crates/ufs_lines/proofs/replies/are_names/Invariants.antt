use Rattle.std.proofs.Common.{◌≤◌, length}
use Rattle.std.specs.Prelude.{◌↔◌}
use Rattle.ufs_lines.specs.Replies.{AreNames}
use Rattle.ufs_lines.proofs.replies.are_names.Given as goal

abbrev pub invariant-loop-more : goal.invariant-loop-more
invariant-loop-more l = record {
  names : AreNames l.more l.rest ↔ AreNames l.fn.count l.fn.text;
  some : 1 ≤ l.more;
}

abbrev pub decreases-loop-more : goal.decreases-loop-more
decreases-loop-more l = l.more
