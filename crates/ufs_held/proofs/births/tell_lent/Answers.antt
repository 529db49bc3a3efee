use Rattle.std.proofs.Common.{sym, subst, ap, ◌∙◌}
use Rattle.ufs_file_commits.specs.State.{state_of}
use Rattle.ufs_joint.specs.Cells.{View, both_of, given_of, kept_of}
use Rattle.ufs_model.specs.declared.data.PartName.TheVariants.{Names}
use Rattle.ufs_held.specs.Births.{HasStill, told_view}
use Rattle.ufs_held.specs.Held.{IsHeld, first_cell}
use Rattle.ufs_held.proofs.Birth.{calm_told, first_told, has_still, held_told, joined_names, live_told, told_is}
use Rattle.ufs_held.proofs.births.tell_lent.Goals as goal

pub tell-requires-clause-names : goal.tell-requires-clause-names
tell-requires-clause-names g c =
    let s = c.requires.names in
    let x = state_of c.args.file.now c.args.commits.now in
    (s.0, ap (λ (v : View). v.names) (c.join.ensures ∙ ap (both_of c.args.right.now) c.split-lent.ensures.given) ∙ joined_names c.args.right.now c.args.names.now x c.requires.held s.0 s.1)

pub returns-clause-held : goal.returns-clause-held
returns-clause-held g c =
    let s = c.requires.names in
    let x = state_of c.args.file.now c.args.commits.now in
    let is = c.tell.ensures.cells ∙ ap told_view (c.join.ensures ∙ ap (both_of c.args.right.now) c.split-lent.ensures.given) ∙ told_is c.args.right.now c.args.names.now x c.requires.held s.0 s.1 in
    subst (IsHeld x) (sym (c.split-lent-2.ensures.kept ∙ ap (kept_of Names) is)) (held_told c.args.right.now c.args.names.now x c.requires.held s.0 s.1)

pub returns-clause-calm : goal.returns-clause-calm
returns-clause-calm g c =
    let s = c.requires.names in
    let x = state_of c.args.file.now c.args.commits.now in
    let is = c.tell.ensures.cells ∙ ap told_view (c.join.ensures ∙ ap (both_of c.args.right.now) c.split-lent.ensures.given) ∙ told_is c.args.right.now c.args.names.now x c.requires.held s.0 s.1 in
    ap (λ (v : View). v.faults) (c.split-lent-2.ensures.kept ∙ ap (kept_of Names) is) ∙ calm_told c.args.right.now c.args.names.now x c.requires.held s.0 s.1 c.requires.calm

pub returns-clause-told : goal.returns-clause-told
returns-clause-told g c cell has =
    let x = state_of c.args.file.now c.args.commits.now in
    let is = c.tell.ensures.cells ∙ ap told_view (c.join.ensures ∙ ap (both_of c.args.right.now) c.split-lent.ensures.given) ∙ told_is c.args.right.now c.args.names.now x c.requires.held cell has in
    ap (λ (v : View). first_cell x v.files) (c.split-lent-2.ensures.kept ∙ ap (kept_of Names) is) ∙ first_told c.args.right.now c.args.names.now x c.requires.held cell has

pub returns-clause-still : goal.returns-clause-still
returns-clause-still g c =
    let s = c.requires.names in
    let x = state_of c.args.file.now c.args.commits.now in
    let is = c.tell.ensures.cells ∙ ap told_view (c.join.ensures ∙ ap (both_of c.args.right.now) c.split-lent.ensures.given) ∙ told_is c.args.right.now c.args.names.now x c.requires.held s.0 s.1 in
    subst (HasStill c.args.names.now) (sym (c.join-2.ensures ∙ (λ i. both_of (c.split-lent.ensures.kept i) ((c.split-lent-2.ensures.given ∙ ap (given_of Names) is) i))))
    (has_still c.args.right.now c.args.names.now x c.requires.held s.0 s.1)

pub returns-clause-live : goal.returns-clause-live
returns-clause-live g c cell has =
    let x = state_of c.args.file.now c.args.commits.now in
    live_told c.args.right.now c.args.names.now x c.requires.held cell has g.N.Naming.start c.tell.result c.join.new.self (c.join.ensures ∙ ap (both_of c.args.right.now) c.split-lent.ensures.given) c.tell.ensures.knows
