use Rattle.std.proofs.Common.{sym, subst, ap, ◌∙◌}
use Rattle.ufs_joint.specs.Cells.{Start, View, both_of, given_of, kept_of}
use Rattle.ufs_joint.specs.Ends.{HoldsAll}
use Rattle.ufs_model.specs.declared.data.PartName.TheVariants.{Client}
use Rattle.ufs_msg_tests.specs.Hands.{HasNothing}
use Rattle.ufs_msg_tests.proofs.BareHands.{all_there, no_second}
use Rattle.ufs_msg_tests.proofs.hands.session.Goals as goal

pub new-one-requires : goal.new-one-requires
new-one-requires g c =
    let first = c.named-table.ensures ∙ ap (λ (k : Start). k.view) c.requires.start in
    subst HasNothing (sym (c.split.ensures.given ∙ ap (given_of (Client 1)) first)) (no_second c.args.names.now (g.D.Door.store c.args.store.now))

pub close-requires-clause-all : goal.close-requires-clause-all
close-requires-clause-all g c =
    let n = c.args.names.now in
    let s = g.D.Door.store c.args.store.now in
    let first = c.named-table.ensures ∙ ap (λ (k : Start). k.view) c.requires.start in
    let kept = c.split.ensures.kept ∙ ap (kept_of (Client 1)) first in
    let all = c.join-2.ensures ∙ ap (λ (v : View). both_of v c.into_hand-2.result) (c.join.ensures ∙ ap (λ (v : View). both_of v c.into_hand.result) kept) in
    subst (λ (x : Start × View). HoldsAll x.0 x.1) (λ j. (sym c.requires.start j, sym all j)) (all_there n s c.requires.part c.into_hand.result c.into_hand-2.result c.into_hand.ensures c.into_hand-2.ensures)
