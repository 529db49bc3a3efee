use Rattle.std.proofs.Common.{rules, ◌≡◌, ◌++◌, ℕ, List, [], ◌∷◌, length, ap, refl, sym, subst, ◌∙◌, arith}
use Rattle.ufs_file_commits.specs.State.{DurableState, state_of}
use Rattle.ufs_joint.specs.Cells.{FileCell, View, both_of, given_of, kept_of}
use Rattle.ufs_model.specs.declared.data.PartName.TheVariants.{File}
use Rattle.ufs_held.specs.Held.{IsHeld, first_cell}
use Rattle.ufs_held.specs.Together.{AreApartFrom, HasDrawnStill, HasThemToo}
use Rattle.ufs_held.proofs.After.{first_held}
use Rattle.ufs_held.proofs.Together.{apart_then, drawn_back, files_back, held_back, none_too, them_too}
use Rattle.ufs_held.proofs.held.+draw_with_files.Goals as goal

nil_of : {A : Type 0} (xs : List A) → length xs ≡ 0 → xs ≡ []
nil_of [] e = refl
nil_of (x ∷ xs) e = absurd (omega (arith, e))

-- the first file's cell, whatever else it has, and the others'
files_same : (d : DurableState) (fs : List (ℕ × FileCell)) (rests all : List FileCell) (n : ℕ) (first : FileCell) (rest : List FileCell) → fs ≡ (n, first) ∷ [] → rests ≡ rest → all ≡ first ∷ rest → (first_cell d fs ∷ rests) ≡ all
files_same d fs rests all n first rest one same cases = (λ i. first_cell d (one i) ∷ same i) ∙ sym cases

pub draw_still-requires : goal.draw_still-requires
draw_still-requires g t c = record { may = c.requires.may c.args.hand.now (subst (λ (cs : List FileCell). HasThemToo cs c.args.hand.now c.args.hand.now) (sym (nil_of c.args.files.now c.in_default.ensures.cases)) (none_too c.args.hand.now)) }

pub draw_with_files-ticket-requires : goal.draw_with_files-ticket-requires
draw_with_files-ticket-requires g t c κs within =
    let own = c.file.inside.right in
    let v = c.args.hand.now in
    let x = state_of c.file.inside.hand c.file.inside.commits in
    let held = c.file.invariant.0 in
    let first = c.in-Some.file.now in
    let rest = c.in-Some.rest.now in
    let is = sym (first_held x own held) ∙ c.file.view_is in
    let cases = c.in-Some.ensures.cases in
    let apart = subst (AreApartFrom v) cases.0 c.requires.apart in
    let joined_is = c.join.ensures ∙ ap (both_of v) (c.split-lent.ensures.given ∙ ap (λ (m : ℕ). given_of (File m) own) c.file-number.ensures) in (
      search rules,
      (
        within,
        (
          subst (λ (j : View). AreApartFrom j rest) (sym joined_is) (apart_then own v x held first rest is apart),
          λ w too. c.requires.may w (subst (λ (cs : List FileCell). HasThemToo cs v w) (sym cases.0) (them_too own v x held first rest is apart w (subst (λ (j : View). HasThemToo rest j w) joined_is too))),
        ),
      ),
    )

pub invariant_of-file : goal.invariant_of-file
invariant_of-file g t c =
    let own = c.file.inside.right in
    let v = c.args.hand.now in
    let x = state_of c.file.inside.hand c.file.inside.commits in
    let held = c.file.invariant.0 in
    let first = c.in-Some.file.now in
    let rest = c.in-Some.rest.now in
    let is = sym (first_held x own held) ∙ c.file.view_is in
    let apart = subst (AreApartFrom v) c.in-Some.ensures.cases.0 c.requires.apart in
    let ticket = c.draw_with_files-ticket.result in
    let w = c.draw_with_files-ticket.new.hand in
    let joined_is = c.join.ensures ∙ ap (both_of v) (c.split-lent.ensures.given ∙ ap (λ (m : ℕ). given_of (File m) own) c.file-number.ensures) in
    let drew = subst (λ (j : View). HasDrawnStill ticket c.args.fresh.now j w) joined_is c.draw_with_files-ticket.ensures.drawn in
    let left = c.split-lent.ensures.kept ∙ ap (λ (m : ℕ). kept_of (File m) own) c.file-number.ensures in
    let given = c.split-lent-2.ensures.given ∙ ap (λ (m : ℕ). given_of (File m) w) c.file-number.ensures in
    let back = c.join-2.ensures ∙ (λ i. both_of (left i) (given i)) in
    (subst (IsHeld x) (sym back) (held_back own v x held first rest is apart ticket c.args.fresh.now w drew), ap (λ (q : View). q.faults) back ∙ ap (λ (fs : List ℕ). fs ++ []) c.file.invariant.1)

pub returns-clause-files : goal.returns-clause-files
returns-clause-files g t c =
    let own = c.file.inside.right in
    let v = c.args.hand.now in
    let x = state_of c.file.inside.hand c.file.inside.commits in
    let held = c.file.invariant.0 in
    let first = c.in-Some.file.now in
    let rest = c.in-Some.rest.now in
    let is = sym (first_held x own held) ∙ c.file.view_is in
    let cases = c.in-Some.ensures.cases in
    let apart = subst (AreApartFrom v) cases.0 c.requires.apart in
    let joined_is = c.join.ensures ∙ ap (both_of v) (c.split-lent.ensures.given ∙ ap (λ (m : ℕ). given_of (File m) own) c.file-number.ensures) in
    let ticket = c.draw_with_files-ticket.result in
    let w = c.draw_with_files-ticket.new.hand in
    let drew = subst (λ (j : View). HasDrawnStill ticket c.args.fresh.now j w) joined_is c.draw_with_files-ticket.ensures.drawn in
    let left = c.split-lent.ensures.kept ∙ ap (λ (m : ℕ). kept_of (File m) own) c.file-number.ensures in
    let given = c.split-lent-2.ensures.given ∙ ap (λ (m : ℕ). given_of (File m) w) c.file-number.ensures in
    let back = c.join-2.ensures ∙ (λ i. both_of (left i) (given i)) in
    let files : c.join-2.new.self.files ≡ (x.file.file, first) ∷ [] = ap (λ (q : View). q.files) back ∙ files_back own v x held first rest is apart ticket c.args.fresh.now w drew in
    let same : c.draw_with_files-ticket.new.files ≡ rest = c.draw_with_files-ticket.ensures.files in
    files_same _ c.join-2.new.self.files c.draw_with_files-ticket.new.files c.args.files.now x.file.file first rest files same cases.0

pub returns-clause-drawn : goal.returns-clause-drawn
returns-clause-drawn g t c =
    let own = c.file.inside.right in
    let v = c.args.hand.now in
    let x = state_of c.file.inside.hand c.file.inside.commits in
    let held = c.file.invariant.0 in
    let first = c.in-Some.file.now in
    let rest = c.in-Some.rest.now in
    let is = sym (first_held x own held) ∙ c.file.view_is in
    let apart = subst (AreApartFrom v) c.in-Some.ensures.cases.0 c.requires.apart in
    let ticket = c.draw_with_files-ticket.result in
    let w = c.draw_with_files-ticket.new.hand in
    let joined_is = c.join.ensures ∙ ap (both_of v) (c.split-lent.ensures.given ∙ ap (λ (m : ℕ). given_of (File m) own) c.file-number.ensures) in
    let drew = subst (λ (j : View). HasDrawnStill ticket c.args.fresh.now j w) joined_is c.draw_with_files-ticket.ensures.drawn in
    let kept = c.split-lent-2.ensures.kept ∙ ap (λ (m : ℕ). kept_of (File m) w) c.file-number.ensures in
    subst (HasDrawnStill ticket c.args.fresh.now v) (sym kept) (drawn_back own v x held first rest is apart ticket c.args.fresh.now w drew)
