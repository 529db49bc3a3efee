use Rattle.std.proofs.Common.{◌≡◌, [], sym, subst, ap, ◌∙◌}
use Rattle.ufs_joint.specs.Cells.{Start, View, both_of, given_of, kept_of}
use Rattle.ufs_joint.specs.Disks.{cell_of}
use Rattle.ufs_joint.specs.Ends.{HoldsAll}
use Rattle.ufs_joint.specs.Rule.{looked_at}
use Rattle.ufs_joint.specs.Turns.{turn_begun}
use Rattle.ufs_model.specs.declared.data.PartName.TheVariants.{Client}
use Rattle.ufs_joint_tests.specs.Small.{answered, at_end, back, small_start}
use Rattle.ufs_joint_tests.proofs.Small.{has_all}
use Rattle.ufs_joint_tests.proofs.session.session.Goals as goal

pub excuse-requires-clause-view : goal.excuse-requires-clause-view
excuse-requires-clause-view g c =
    (c.ask.result, c.join.ensures ∙ (λ j. both_of (c.split-client.ensures.kept j) (c.split-client.ensures.given j)) ∙ ap (λ (v : View). both_of (kept_of (Client 0) v) (given_of (Client 0) v)) c.ask.ensures)

pub begin-requires-clause-view : goal.begin-requires-clause-view
begin-requires-clause-view g c =
    let was = c.join.ensures ∙ (λ j. both_of (c.split-client.ensures.kept j) (c.split-client.ensures.given j)) ∙ ap (λ (v : View). both_of (kept_of (Client 0) v) (given_of (Client 0) v)) c.ask.ensures in
    (c.ask.result, c.excuse.result, c.excuse.ensures c.ask.result was)

pub close-requires-clause-all : goal.close-requires-clause-all
close-requires-clause-all g c =
    let s = g.D.Door.store c.args.store.now in
    let was = c.join.ensures ∙ (λ j. both_of (c.split-client.ensures.kept j) (c.split-client.ensures.given j)) ∙ ap (λ (v : View). both_of (kept_of (Client 0) v) (given_of (Client 0) v)) c.ask.ensures in
    let then : c.excuse.new.hand ≡ answered c.args.names.now s c.ask.result c.excuse.result = c.excuse.ensures c.ask.result was in
    let at = c.look.ensures.cells ∙ ap (λ (v : View). looked_at v c.look.result) (c.begin.ensures ∙ ap (turn_begun c.begin.result (cell_of 0 [] s)) then) in
    subst (λ (k : Start). HoldsAll k c.look.new.self) (sym c.requires.start) (subst (HoldsAll (small_start c.args.names.now s)) (sym at) (has_all c.args.names.now s c.requires.part c.ask.result c.excuse.result c.begin.result c.look.result))
