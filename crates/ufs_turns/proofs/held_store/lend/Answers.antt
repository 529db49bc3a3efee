use Rattle.std.proofs.Common.{ap, ◌∙◌}
use Rattle.std.proofs.lemmas.List.{append-nil}
use Rattle.ufs_joint.specs.Cells.{View, both_of}
use Rattle.ufs_turns.proofs.held_store.lend.Goals as goal

pub returns-clause-faults : goal.returns-clause-faults
returns-clause-faults g c = ap (λ (v : View). v.faults) (c.join.ensures ∙ ap (both_of c.args.hand.now) c.split-store.ensures.given) ∙ append-nil c.args.hand.now.faults
