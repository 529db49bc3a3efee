use Rattle.std.proofs.Common.{ℕ, ap, sym, subst, ◌∙◌}
use Rattle.ufs_file_commits.specs.State.{state_of}
use Rattle.ufs_joint.specs.Cells.{View, both_of, given_of, kept_of}
use Rattle.ufs_model.specs.declared.data.PartName.TheVariants.{File}
use Rattle.ufs_held.specs.Committed.{HasSameCells}
use Rattle.ufs_held.specs.Held.{IsHeld, first_cell}
use Rattle.ufs_held.proofs.After.{first_given, own_given, told_on}
use Rattle.ufs_held.proofs.Excusing.{stop_joined}
use Rattle.ufs_held.proofs.commits.hand_on.Goals as goal

pub returns-clause-held : goal.returns-clause-held
returns-clause-held g c =
    let own = c.args.right.now in
    let x = state_of c.args.file.now c.args.commits.now in
    subst (IsHeld x) (sym (c.replace-told.ensures.after ∙ c.split-own.ensures.given ∙ ap (λ (m : ℕ). given_of (File m) own) c.file.ensures)) (own_given own x c.requires.held)

pub returns-clause-calm : goal.returns-clause-calm
returns-clause-calm g c = ap (λ (v : View). v.faults) (c.replace-told.ensures.after ∙ c.split-own.ensures.given)

pub returns-clause-cell : goal.returns-clause-cell
returns-clause-cell g c =
    let own = c.args.right.now in
    let x = state_of c.args.file.now c.args.commits.now in
    ap (λ (v : View). first_cell x v.files) (c.replace-told.ensures.after ∙ c.split-own.ensures.given ∙ ap (λ (m : ℕ). given_of (File m) own) c.file.ensures) ∙ first_given own x c.requires.held

pub returns-clause-same : goal.returns-clause-same
returns-clause-same g c =
    let own = c.args.right.now in
    let x = state_of c.args.file.now c.args.commits.now in
    let told = c.replace-came.ensures.after ∙ c.replace-told.ensures.value ∙ c.split-own.ensures.kept ∙ ap (λ (m : ℕ). kept_of (File m) own) c.file.ensures in
    subst (HasSameCells c.args.guest.now) (sym (c.join.ensures ∙ (λ i. both_of (told i) (c.replace-came.ensures.value i)))) (told_on own x c.requires.held c.args.guest.now)

pub returns-clause-faults : goal.returns-clause-faults
returns-clause-faults g c =
    let told = c.replace-came.ensures.after ∙ c.replace-told.ensures.value ∙ c.split-own.ensures.kept in
    ap (λ (v : View). v.faults) (c.join.ensures ∙ (λ i. both_of (told i) (c.replace-came.ensures.value i)))

pub returns-clause-stop : goal.returns-clause-stop
returns-clause-stop g c fault is =
    let told = c.replace-came.ensures.after ∙ c.replace-told.ensures.value ∙ c.split-own.ensures.kept in
    ap (λ (v : View). v.stop) (c.join.ensures ∙ (λ i. both_of (told i) (c.replace-came.ensures.value i))) ∙ stop_joined c.args.right.now.stop c.args.guest.now.stop fault is
