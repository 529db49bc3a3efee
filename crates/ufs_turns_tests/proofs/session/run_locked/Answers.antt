use Rattle.std.proofs.Common.{◌≡◌, ap, sym, subst, ◌∙◌}
use Rattle.ufs_bitmap.specs.Blocks.{BlockSet}
use Rattle.ufs_joint.specs.Cells.{Start, View, both_of, given_of, kept_of}
use Rattle.ufs_joint.specs.Ends.{HoldsAll}
use Rattle.ufs_model.specs.declared.data.PartName.TheVariants.{File, Store}
use Rattle.ufs_joint_tests.specs.Small.{small_start, small_view}
use Rattle.ufs_turns.specs.HeldStore.{IsHeldStore}
use Rattle.ufs_turns.specs.Lent.{LendsPool}
use Rattle.ufs_turns_tests.proofs.Lending.{gathered, held, lends}
use Rattle.ufs_turns_tests.proofs.session.run_locked.Goals as goal

pub new-requires-clause-home : goal.new-requires-clause-home
new-requires-clause-home g c =
    let n = c.args.names.now in
    let s = g.D.Door.store c.args.store in
    let first = c.named-table.ensures ∙ ap (λ (k : Start). k.view) c.requires.start in
    subst (λ (x : Start × View). IsHeldStore x.0 g.N.Naming.origin g.D.Door.visible g.D.Door.keeps x.1 s) (λ j. (sym c.requires.start j, sym (c.split-own.ensures.given ∙ ap (given_of Store) first) j)) (held n s g.N.Naming.origin g.D.Door.visible g.D.Door.keeps c.requires.formed)

pub turns_locked-told-requires-clause-lent : goal.turns_locked-told-requires-clause-lent
turns_locked-told-requires-clause-lent g c =
    let first = c.named-table.ensures ∙ ap (λ (k : Start). k.view) c.requires.start in
    let lent = c.split-lent.ensures.given ∙ ap (given_of (File 0)) (c.split-own.ensures.kept ∙ ap (kept_of Store) first) in
    (0, subst (λ (x : BlockSet × View). LendsPool 0 x.0 x.1) (λ j. (sym c.requires.none j, sym lent j)) (lends c.args.names.now (g.D.Door.store c.args.store)))

pub turns_locked-told-requires-clause-files : goal.turns_locked-told-requires-clause-files
turns_locked-told-requires-clause-files g c =
    let first = c.named-table.ensures ∙ ap (λ (k : Start). k.view) c.requires.start in
    ap (λ (v : View). v.files) (c.split-lent.ensures.given ∙ ap (given_of (File 0)) (c.split-own.ensures.kept ∙ ap (kept_of Store) first))

pub turns_locked-told-requires-clause-names : goal.turns_locked-told-requires-clause-names
turns_locked-told-requires-clause-names g c =
    let first = c.named-table.ensures ∙ ap (λ (k : Start). k.view) c.requires.start in
    ap (λ (v : View). v.names) (c.split-lent.ensures.given ∙ ap (given_of (File 0)) (c.split-own.ensures.kept ∙ ap (kept_of Store) first))

pub close-tickets-requires-clause-all : goal.close-tickets-requires-clause-all
close-tickets-requires-clause-all g c =
    let n = c.args.names.now in
    let s = g.D.Door.store c.args.store in
    let first = c.named-table.ensures ∙ ap (λ (k : Start). k.view) c.requires.start in
    let kept = c.split-own.ensures.kept ∙ ap (kept_of Store) first in
    let rest = c.split-lent.ensures.kept ∙ ap (kept_of (File 0)) kept in
    let told = c.turns_locked-told in
    let lent = told.new.hand in
    let own = c.into_parts-own.result.0 in
    let here = subst (λ (x : BlockSet × View). LendsPool 0 x.0 x.1) (λ j. (sym c.requires.none j, sym (c.split-lent.ensures.given ∙ ap (given_of (File 0)) kept) j)) (lends n s) in
    let clients = told.ensures.clients ∙ ap (λ (v : View). v.clients) (c.split-lent.ensures.given ∙ ap (given_of (File 0)) kept) in
    let home = subst (λ (k : Start). IsHeldStore k g.N.Naming.origin g.D.Door.visible g.D.Door.keeps own (g.D.Door.store c.into_parts-own.result.1)) c.requires.start c.into_parts-own.ensures.home in
    let all = c.join-2.ensures ∙ (λ j. both_of (c.join.ensures j) own) ∙ ap (λ (v : View). both_of (both_of v lent) own) rest in
    subst (λ (x : Start × View). HoldsAll x.0 x.1) (λ j. (sym c.requires.start j, sym all j))
    (gathered n s c.requires.part g.N.Naming.origin g.D.Door.visible g.D.Door.keeps lent own (g.D.Door.store c.into_parts-own.result.1) told.ensures.bare clients told.new.pool (told.ensures.pool 0 here).pools home)
