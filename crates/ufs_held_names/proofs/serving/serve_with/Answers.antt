use Rattle.std.proofs.Common.{◌≡◌, ◌++◌, [], ◌∷◌, None, Option, Some, ap, refl, sym, subst, ◌∙◌}
use Rattle.ufs_joint.specs.Cells.{FileCell, NamesCell, View, both_of, given_of, kept_of}
use Rattle.ufs_file_commits.specs.State.{DurableState}
use Rattle.ufs_model.specs.declared.data.PartName.TheVariants.{Names}
use Rattle.ufs_noted.specs.declared.known.KnownFile.{KnownFile}
use Rattle.ufs_held_names.specs.Asked.{IsNeeded}
use Rattle.ufs_held_names.specs.Come.{HasCome}
use Rattle.ufs_held_names.specs.HeldNames.{HoldsNames, first_names}
use Rattle.ufs_held_names.proofs.After.{HasAll, first_held, joined_with, names_hand}
use Rattle.ufs_held_names.proofs.With.{HasDrawnWith, come_with, first_with, held_with, known_held}
use Rattle.ufs_held_names.proofs.Files.{once_one}
use Rattle.ufs_held_names.proofs.serving.serve_with.Goals as goal

pub draw_with-applied-requires-clause-needed : goal.draw_with-applied-requires-clause-needed
draw_with-applied-requires-clause-needed g c = subst (λ (q : DurableState). IsNeeded c.args.noted.now.names c.args.ask (Some q.file.file)) c.into_parts-hand.ensures.value c.requires.needed

pub draw_with-applied-requires-clause-hand : goal.draw_with-applied-requires-clause-hand
draw_with-applied-requires-clause-hand g c =
    let f = c.requires.guest in
    let held = c.requires.held in
    let lent = c.into_parts-hand.result.2 in
    let alone = c.into_parts-hand.ensures.hand in
    let value = c.into_parts-hand.ensures.value in
    let number = c.args.file.value.file.file in
    let joined = c.join-2.ensures ∙ ap (λ (v : View). both_of v c.args.guest) c.join.ensures in
    let all = subst (HasAll c.args.ask.client f.0 f.1 c.args.pool.now held.cell ((number, c.args.file) ∷ [])) (sym joined) (joined_with c.args.right.now lent c.args.guest c.args.noted.now c.args.file c.args.ask.client f.0 f.1 c.args.pool.now held alone f.2) in (
      f.0,
      held.cell,
      f.1,
      c.args.file,
      names_hand c.args.ask.client f.0 f.1 c.args.pool.now held.cell ((number, c.args.file) ∷ []) c.join-2.new.self all (once_one number c.args.file refl),
      all.files_are ∙ ap (λ (q : DurableState). (q.file.file, c.args.file) ∷ []) value,
      value,
      held.value,
      f.3,
    )

pub part_known-file-requires : goal.part_known-file-requires
part_known-file-requires g c =
    let f = c.requires.guest in
    let off = λ (same : f.1 ≡ c.args.file.value.file.file). f.4.touched (ap Some (sym same)) in
    let held = c.requires.held in
    let own = c.args.right.now in
    let x = c.args.noted.now in
    let lent = c.into_parts-hand.result.2 in
    let alone = c.into_parts-hand.ensures.hand in
    let value = c.into_parts-hand.ensures.value in
    let known : KnownFile = record { hand = c.into_parts-hand.result.0; commits = c.into_parts-hand.result.1 } in
    let joined = c.join-2.ensures ∙ ap (λ (v : View). both_of v c.args.guest) c.join.ensures in
    let y = c.draw_with-applied.new.noted in
    let left = c.draw_with-applied.new.pool in
    let file = c.draw_with-applied.result.file in
    let e = c.draw_with-applied.result.applied.entry in
    let d = c.draw_with-applied.result.applied.desc in
    let j = c.join-2.new.self in
    let z = c.draw_with-applied.new.right in
    let t = c.draw_with-applied.ensures in
    let drew : HasDrawnWith c.args.ask c.args.by x y c.args.pool.now left known file e d j z =
    record { entry = t.entry; cells = t.cells; served = t.served; number = t.number; lives = t.lives; next = t.next; gone = t.gone; cause = t.cause; unchanged = t.unchanged; untaken = t.untaken; kept = t.kept; desc = t.desc; no_desc = t.no_desc; faultless = t.faultless; faults = t.faults; later = t.later } in
    known_held c.args.ask c.args.by x y c.args.pool.now left known file e d own lent c.args.guest j z drew held c.args.file alone value joined f.0 f.1 f.2 off

pub returns : goal.returns
returns g c =
    let f = c.requires.guest in
    let off = λ (same : f.1 ≡ c.args.file.value.file.file). f.4.touched (ap Some (sym same)) in
    let held = c.requires.held in
    let own = c.args.right.now in
    let x = c.args.noted.now in
    let lent = c.into_parts-hand.result.2 in
    let alone = c.into_parts-hand.ensures.hand in
    let value = c.into_parts-hand.ensures.value in
    let known : KnownFile = record { hand = c.into_parts-hand.result.0; commits = c.into_parts-hand.result.1 } in
    let joined = c.join-2.ensures ∙ ap (λ (v : View). both_of v c.args.guest) c.join.ensures in
    let y = c.draw_with-applied.new.noted in
    let left = c.draw_with-applied.new.pool in
    let file = c.draw_with-applied.result.file in
    let e = c.draw_with-applied.result.applied.entry in
    let d = c.draw_with-applied.result.applied.desc in
    let j = c.join-2.new.self in
    let z = c.draw_with-applied.new.right in
    let t = c.draw_with-applied.ensures in
    let drew : HasDrawnWith c.args.ask c.args.by x y c.args.pool.now left known file e d j z =
    record { entry = t.entry; cells = t.cells; served = t.served; number = t.number; lives = t.lives; next = t.next; gone = t.gone; cause = t.cause; unchanged = t.unchanged; untaken = t.untaken; kept = t.kept; desc = t.desc; no_desc = t.no_desc; faultless = t.faultless; faults = t.faults; later = t.later } in
    let has : j.names ≡ (tt, held.cell) ∷ [] = ap (λ (v : View). v.names) joined ∙ (λ i. (held.alone.names i ++ alone.names i) ++ f.2.names i) in
    let to = c.replace-guest.ensures.after ∙ c.split-own.ensures.given ∙ ap (given_of Names) c.part_known-file.ensures.kept in
    let back = c.replace-guest.ensures.value ∙ c.split-own.ensures.kept ∙ ap (kept_of Names) c.part_known-file.ensures.kept in
    let now = ap (λ (v : View). first_names y v.names) to ∙ first_with c.args.ask c.args.by x y c.args.pool.now left known file e d own lent c.args.guest j z drew held c.args.file alone value joined has in
    record {
      held = subst (HoldsNames y) (sym to) (held_with c.args.ask c.args.by x y c.args.pool.now left known file e d own lent c.args.guest j z drew held c.args.file alone value joined has);
      calm = ap (λ (v : View). v.faults) (c.replace-guest.ensures.after ∙ c.split-own.ensures.given);
      came = subst (λ (q : NamesCell × NamesCell × Option FileCell × View). HasCome c.args.ask c.args.by q.0 q.1 c.args.pool.now left (Some c.args.file) q.2 None e d c.args.guest q.3)
          (λ i. (sym (first_held x own held) i, sym now i, sym c.part_known-file.ensures.cell i, sym back i))
          (come_with c.args.ask c.args.by x y c.args.pool.now left known file e d own lent c.args.guest j z drew held c.args.file alone value joined f.0 f.1 f.2 off c.requires.calm c.into_parts-hand.ensures.calm);
    }
