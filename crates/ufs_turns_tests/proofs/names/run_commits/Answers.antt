use Rattle.std.proofs.Common.{◌≡◌, [], ap, sym, subst, ◌∙◌}
use Rattle.ufs_joint.specs.Cells.{Start, View, both_of, given_of, kept_of}
use Rattle.ufs_joint.specs.Ends.{HoldsAll}
use Rattle.ufs_model.specs.declared.data.PartName.TheVariants.{Store}
use Rattle.ufs_joint_tests.specs.Small.{names_cell}
use Rattle.ufs_turns.specs.HeldStore.{IsHeldStore}
use Rattle.ufs_turns.specs.NamesLent.{LendsNames}
use Rattle.ufs_turns_tests.proofs.Lending.{held}
use Rattle.ufs_turns_tests.proofs.NamesLending.{all_there, first_lends}
use Rattle.ufs_turns_tests.proofs.names.run_commits.Goals as goal

pub new-held-requires-clause-home : goal.new-held-requires-clause-home
new-held-requires-clause-home g c =
    let n = c.args.names.now in
    let s = g.D.Door.store c.args.store in
    let first = c.named-table.ensures ∙ ap (λ (k : Start). k.view) c.requires.start in
    subst (λ (x : Start × View). IsHeldStore x.0 g.N.Naming.origin g.D.Door.visible g.D.Door.keeps x.1 s) (λ j. (sym c.requires.start j, sym (c.split-own.ensures.given ∙ ap (given_of Store) first) j)) (held n s g.N.Naming.origin g.D.Door.visible g.D.Door.keeps c.requires.formed)

pub commit_twice-first-requires-clause-lent : goal.commit_twice-first-requires-clause-lent
commit_twice-first-requires-clause-lent g c =
    let n = c.args.names.now in
    let s = g.D.Door.store c.args.store in
    let first = c.named-table.ensures ∙ ap (λ (k : Start). k.view) c.requires.start in
    let kept = c.split-own.ensures.kept ∙ ap (kept_of Store) first in
    (names_cell n, subst (LendsNames (names_cell n)) (sym kept) (first_lends n s), λ i. n, λ i. [])

pub close-tickets-requires-clause-all : goal.close-tickets-requires-clause-all
close-tickets-requires-clause-all g c =
    let n = c.args.names.now in
    let s = g.D.Door.store c.args.store in
    let first = c.named-table.ensures ∙ ap (λ (k : Start). k.view) c.requires.start in
    let kept = c.split-own.ensures.kept ∙ ap (kept_of Store) first in
    let told = c.commit_twice-first in
    let own = c.into_parts-own.result.0 in
    let clients = told.ensures.clients ∙ ap (λ (v : View). v.clients) kept in
    let pools = told.ensures.pools ∙ ap (λ (v : View). v.pools) kept in
    let home = subst (λ (k : Start). IsHeldStore k g.N.Naming.origin g.D.Door.visible g.D.Door.keeps own (g.D.Door.store c.into_parts-own.result.1)) c.requires.start c.into_parts-own.ensures.home in
    let l = told.ensures.lent in
    subst (λ (x : Start × View). HoldsAll x.0 x.1) (λ j. (sym c.requires.start j, sym c.join.ensures j))
    (all_there n s c.requires.part g.N.Naming.origin g.D.Door.visible g.D.Door.keeps told.new.hand own (g.D.Door.store c.into_parts-own.result.1) l.0 l.1 l.2 clients pools home)
