use Rattle.std.proofs.Common.{◌≡◌, ◌++◌, [], ◌∷◌, None, Option, ap, sym, subst, ◌∙◌}
use Rattle.ufs_joint.specs.Cells.{FileCell, NamesCell, View, given_of, kept_of}
use Rattle.ufs_model.specs.declared.data.PartName.TheVariants.{Names}
use Rattle.ufs_held_names.specs.Come.{HasCome}
use Rattle.ufs_held_names.specs.HeldNames.{HoldsNames, first_names}
use Rattle.ufs_held_names.proofs.After.{HasAll, first_held, joined_alone, names_hand}
use Rattle.ufs_held_names.proofs.Alone.{HasDrawnAlone, come_alone, first_alone, held_alone, made_held}
use Rattle.ufs_held_names.proofs.Files.{once_none}
use Rattle.ufs_held_names.proofs.serving.serve_alone.Goals as goal

pub draw_alone-applied-requires-clause-hand : goal.draw_alone-applied-requires-clause-hand
draw_alone-applied-requires-clause-hand g c =
    let f = c.requires.guest in
    let held = c.requires.held in
    let all = subst (HasAll c.args.ask.client f.0 f.1 c.args.pool.now held.cell []) (sym c.join.ensures) (joined_alone c.args.right.now c.args.guest c.args.noted.now c.args.ask.client f.0 f.1 c.args.pool.now held f.2) in
    (f.0, held.cell, f.1, names_hand c.args.ask.client f.0 f.1 c.args.pool.now held.cell [] c.join.new.self all once_none, all.files_are, held.value, f.3)

pub part_made-made-requires : goal.part_made-made-requires
part_made-made-requires g c =
    let f = c.requires.guest in
    let held = c.requires.held in
    let own = c.args.right.now in
    let x = c.args.noted.now in
    let y = c.draw_alone-applied.new.noted in
    let left = c.draw_alone-applied.new.pool in
    let file = c.draw_alone-applied.result.file in
    let e = c.draw_alone-applied.result.applied.entry in
    let d = c.draw_alone-applied.result.applied.desc in
    let j = c.join.new.self in
    let z = c.draw_alone-applied.new.right in
    let t = c.draw_alone-applied.ensures in
    let drew : HasDrawnAlone c.args.ask c.args.by x y c.args.pool.now left file e d j z =
    record { entry = t.entry; cells = t.cells; served = t.served; young = t.young; lives = t.lives; next = t.next; cause = t.cause; unchanged = t.unchanged; untaken = t.untaken; none = t.none; desc = t.desc; no_desc = t.no_desc; faultless = t.faultless; faults = t.faults; later = t.later } in
    made_held c.args.ask c.args.by x y c.args.pool.now left file e d own c.args.guest j z drew held c.join.ensures f.0 f.1 f.2 f.4.new

pub returns : goal.returns
returns g c =
    let f = c.requires.guest in
    let held = c.requires.held in
    let own = c.args.right.now in
    let x = c.args.noted.now in
    let y = c.draw_alone-applied.new.noted in
    let left = c.draw_alone-applied.new.pool in
    let file = c.draw_alone-applied.result.file in
    let e = c.draw_alone-applied.result.applied.entry in
    let d = c.draw_alone-applied.result.applied.desc in
    let j = c.join.new.self in
    let z = c.draw_alone-applied.new.right in
    let t = c.draw_alone-applied.ensures in
    let drew : HasDrawnAlone c.args.ask c.args.by x y c.args.pool.now left file e d j z =
    record { entry = t.entry; cells = t.cells; served = t.served; young = t.young; lives = t.lives; next = t.next; cause = t.cause; unchanged = t.unchanged; untaken = t.untaken; none = t.none; desc = t.desc; no_desc = t.no_desc; faultless = t.faultless; faults = t.faults; later = t.later } in
    let has : j.names ≡ (tt, held.cell) ∷ [] = ap (λ (v : View). v.names) c.join.ensures ∙ (λ i. held.alone.names i ++ f.2.names i) in
    let to = c.replace-guest.ensures.after ∙ c.split-own.ensures.given ∙ ap (given_of Names) c.part_made-made.ensures.kept in
    let back = c.replace-guest.ensures.value ∙ c.split-own.ensures.kept ∙ ap (kept_of Names) c.part_made-made.ensures.kept in
    let now = ap (λ (v : View). first_names y v.names) to ∙ first_alone c.args.ask c.args.by x y c.args.pool.now left file e d own c.args.guest j z drew held c.join.ensures has in
    record {
      held = subst (HoldsNames y) (sym to) (held_alone c.args.ask c.args.by x y c.args.pool.now left file e d own c.args.guest j z drew held c.join.ensures has);
      calm = ap (λ (v : View). v.faults) (c.replace-guest.ensures.after ∙ c.split-own.ensures.given);
      came = subst (λ (q : NamesCell × NamesCell × Option FileCell × View). HasCome c.args.ask c.args.by q.0 q.1 c.args.pool.now left None None q.2 e d c.args.guest q.3)
          (λ i. (sym (first_held x own held) i, sym now i, sym c.part_made-made.ensures.cell i, sym back i))
          (come_alone c.args.ask c.args.by x y c.args.pool.now left file e d own c.args.guest j z drew held c.join.ensures f.0 f.1 f.2 f.4.new c.requires.calm);
    }
