use Rattle.std.proofs.Common.{◌≡◌, [], None, refl, sym, subst, ap, ◌∙◌}
use Rattle.std.specs.FinMap as fin
use Rattle.ufs_model.specs.PosixTree.{desc_at}
use Rattle.ufs_joint.specs.Cells.{Start, View, both_of, kept_of}
use Rattle.ufs_joint.specs.Ends.{HoldsAll}
use Rattle.ufs_model.specs.declared.data.PartName.TheVariants.{Asked, Client}
use Rattle.ufs_joint_tests.specs.Small.{small_start}
use Rattle.ufs_caller.specs.Hands.{IsHome, IsIdleIn}
use Rattle.ufs_caller_tests.proofs.Ending.{all_there}
use Rattle.ufs_caller_tests.proofs.session.session.Goals as goal

pub client_hand-own-requires-clause-idle : goal.client_hand-own-requires-clause-idle
client_hand-own-requires-clause-idle g c =
    subst (IsIdleIn 0) (sym (c.named-table.ensures ∙ ap (λ (k : Start). k.view) c.requires.start)) (record { clients = refl; asked = refl })

pub client_hand-own-requires-clause-closed : goal.client_hand-own-requires-clause-closed
client_hand-own-requires-clause-closed g c = λ fd. subst (λ (k : Start). desc_at k.tree 0 fd ≡ None) (sym c.requires.start) (fin.get-empty _ (0, fd))

pub of-baton-requires : goal.of-baton-requires
of-baton-requires g c = c.client_hand-own.ensures.home.both.store

pub new-client-requires-clause-home : goal.new-client-requires-clause-home
new-client-requires-clause-home g c = subst (IsHome 0 [] fin.empty) (sym c.of-baton.ensures.same) c.client_hand-own.ensures.home

pub new-client-requires-clause-closed : goal.new-client-requires-clause-closed
new-client-requires-clause-closed g c = λ fd. subst (λ (k : Start). desc_at k.tree 0 fd ≡ None) (sym c.requires.start) (fin.get-empty _ (0, fd))

pub close-requires-clause-all : goal.close-requires-clause-all
close-requires-clause-all g c =
    let s = g.D.Door.store c.args.store.now in
    let h = c.at_home-back.ensures in
    let view = c.named-table.ensures ∙ ap (λ (k : Start). k.view) c.requires.start in
    let at = c.join.ensures ∙ ap (λ (v : View). both_of v c.at_home-back.result) (c.client_hand-own.ensures.kept ∙ ap (λ (v : View). kept_of (Asked 0) (kept_of (Client 0) v)) view) in
    subst (λ (k : Start). HoldsAll k c.join.new.self) (sym c.requires.start)
    (subst (HoldsAll (small_start c.args.names.now s)) (sym at)
    (all_there c.args.names.now s c.requires.part h.0 h.1 c.at_home-back.result h.2))
