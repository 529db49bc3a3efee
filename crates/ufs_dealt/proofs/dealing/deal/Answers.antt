use Rattle.std.proofs.Common.{[], List, ap, sym, ◌∙◌, subst}
use Rattle.ufs_held_names.specs.HeldNames.{HoldsNames, first_names}
use Rattle.ufs_joint.specs.Cells.{NamesCell, View, given_of, kept_of}
use Rattle.ufs_joint.specs.Disks.{cell_of}
use Rattle.ufs_joint.specs.NamesTurns.{live_files}
use Rattle.ufs_model.specs.declared.data.PartName.TheVariants.{Names, Store}
use Rattle.ufs_noted.specs.Noted.{Noted}
use Rattle.ufs_turns.specs.HeldStore.{HasStoreAlone, IsHeldStore}
use Rattle.ufs_dealt.proofs.Hands.{holds_names, holds_store, left, names_alone, store_alone}
use Rattle.ufs_dealt.proofs.dealing.deal.Goals as goal

pub new-store-requires-clause-home : goal.new-store-requires-clause-home
new-store-requires-clause-home g c =
    let k = g.N.Naming.start in
    let s = g.S.Door.store c.args.store in
    let n = c.requires.names in
    let alone = store_alone k.view n.0 (cell_of 0 [] s) n.1 c.requires.store in
    subst (λ (v : View). IsHeldStore k g.N.Naming.origin g.S.Door.visible g.S.Door.keeps v s) (sym (c.split-own.ensures.given ∙ ap (given_of Store) c.named-table.ensures))
    (holds_store k g.N.Naming.origin g.S.Door.visible g.S.Door.keeps (given_of Store k.view) s c.requires.store alone c.requires.formed c.requires.origin c.requires.sees)

pub new-names-requires-clause-held : goal.new-names-requires-clause-held
new-names-requires-clause-held g c =
    let k = g.N.Naming.start in
    let s = g.S.Door.store c.args.store in
    let n = c.requires.names in
    let right = c.split-right.ensures.given ∙ ap (given_of Names) (c.split-own.ensures.kept ∙ ap (kept_of Store) c.named-table.ensures) in
    subst (λ (v : View). HoldsNames c.args.names v) (sym right)
    (holds_names c.args.names n.0 (given_of Names (kept_of Store k.view)) (names_alone k.view n.0 (cell_of 0 [] s) n.1 c.requires.store) n.2)

pub new-names-requires-clause-all : goal.new-names-requires-clause-all
new-names-requires-clause-all g c =
    let k = g.N.Naming.start in
    let s = g.S.Door.store c.args.store in
    let n = c.requires.names in
    let right = c.split-right.ensures.given ∙ ap (given_of Names) (c.split-own.ensures.kept ∙ ap (kept_of Store) c.named-table.ensures) in
    ap (λ (cells : List (Unit {0} × NamesCell)). (first_names c.args.names cells).named) (ap (λ (v : View). v.names) right ∙ (names_alone k.view n.0 (cell_of 0 [] s) n.1 c.requires.store).names)
    ∙ n.3 ∙ ap (λ (noted : Noted). live_files noted.names) n.2

pub new-names-requires-clause-calm : goal.new-names-requires-clause-calm
new-names-requires-clause-calm g c = ap (λ (v : View). v.faults) c.split-right.ensures.given

pub returns-clause-names : goal.returns-clause-names
returns-clause-names g c cell has =
    let k = g.N.Naming.start in
    let s = g.S.Door.store c.args.store in
    let right = c.split-right.ensures.given ∙ ap (given_of Names) (c.split-own.ensures.kept ∙ ap (kept_of Store) c.named-table.ensures) in
    c.new-names.ensures ∙ ap (first_names c.args.names) (ap (λ (v : View). v.names) right ∙ (names_alone k.view cell (cell_of 0 [] s) has c.requires.store).names)

pub returns-clause-store : goal.returns-clause-store
returns-clause-store g c =
    let k = g.N.Naming.start in
    let s = g.S.Door.store c.args.store in
    let n = c.requires.names in
    subst (HasStoreAlone (cell_of 0 [] s)) (sym (c.new-store.ensures ∙ c.split-own.ensures.given ∙ ap (given_of Store) c.named-table.ensures))
    (store_alone k.view n.0 (cell_of 0 [] s) n.1 c.requires.store)

pub returns-clause-hand : goal.returns-clause-hand
returns-clause-hand g c =
    let k = g.N.Naming.start in
    let s = g.S.Door.store c.args.store in
    let n = c.requires.names in
    c.split-right.ensures.kept ∙ ap (kept_of Names) (c.split-own.ensures.kept ∙ ap (kept_of Store) c.named-table.ensures) ∙ left k.view n.0 (cell_of 0 [] s) n.1 c.requires.store
