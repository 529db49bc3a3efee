use Rattle.std.proofs.Common.{rules, ◌≡◌, ◌≤◌, ◌+◌, ◌++◌, ℕ, eqb, List, [], ◌∷◌, length, ap, refl, sym, subst, ◌∙◌, arith}
use Rattle.std.proofs.lemmas.List.{append-nil}
use Rattle.ufs_file_commits.specs.State.{DurableState, state_of}
use Rattle.ufs_hand_laws.specs.Owned.{count}
use Rattle.ufs_joint.specs.Cells.{FileCell, View, both_of, given_of, kept_of}
use Rattle.ufs_model.specs.declared.data.PartName.TheVariants.{File}
use Rattle.ufs_held.specs.Births.{HasStill}
use Rattle.ufs_held.specs.Held.{IsHeld, first_cell}
use Rattle.ufs_held.specs.Together.{AreApartFrom}
use Rattle.ufs_held.proofs.After.{first_held}
use Rattle.ufs_held.proofs.Few.{few_known}
use Rattle.ufs_held.proofs.Together.{apart_then, files_home, held_home, one_more, still_home}
use Rattle.ufs_held.proofs.held.+see_files.Goals as goal

nil_of : {A : Type 0} (xs : List A) → length xs ≡ 0 → xs ≡ []
nil_of [] e = refl
nil_of (x ∷ xs) e = absurd (omega (arith, e))

-- the first file's cell, whatever else it has, and the others'
files_same : (d : DurableState) (fs : List (ℕ × FileCell)) (rests all : List FileCell) (n : ℕ) (first : FileCell) (rest : List FileCell) → fs ≡ (n, first) ∷ [] → rests ≡ rest → all ≡ first ∷ rest → (first_cell d fs ∷ rests) ≡ all
files_same d fs rests all n first rest one same cases = (λ i. first_cell d (one i) ∷ same i) ∙ sym cases

-- a hand that is apart from no files has none twice
apart_alone : (v : View) (cells : List FileCell) → cells ≡ [] → AreApartFrom v cells → (n : ℕ) → count eqb n v.files ≤ 1
apart_alone v cells none apart n =
    let a = subst (λ (cs : List FileCell). AreApartFrom v cs) none apart n in
    let b = ap (count eqb n) (append-nil v.files) in
    omega (arith, a, b)

pub see_files-requires : goal.see_files-requires
see_files-requires g t c κs within =
    let own = c.file.inside.right in
    let v = c.args.hand.now in
    let x = state_of c.file.inside.hand c.file.inside.commits in
    let held = c.file.invariant.0 in
    let first = c.in-Some.file.now in
    let rest = c.in-Some.rest.now in
    let is = sym (first_held x own held) ∙ c.file.view_is in
    let cases = c.in-Some.ensures.cases in
    let apart = subst (AreApartFrom v) cases.0 c.requires.apart in
    let joined_is = c.join.ensures ∙ ap (both_of v) (c.split-lent.ensures.given ∙ ap (λ (m : ℕ). given_of (File m) own) c.file-number.ensures) in
    (search rules, (within, subst (λ (j : View). AreApartFrom j rest) (sym joined_is) (apart_then own v x held first rest is apart)))

pub invariant_of-file : goal.invariant_of-file
invariant_of-file g t c =
    let own = c.file.inside.right in
    let v = c.args.hand.now in
    let x = state_of c.file.inside.hand c.file.inside.commits in
    let held = c.file.invariant.0 in
    let first = c.in-Some.file.now in
    let rest = c.in-Some.rest.now in
    let is = sym (first_held x own held) ∙ c.file.view_is in
    let cases = c.in-Some.ensures.cases in
    let apart = subst (AreApartFrom v) cases.0 c.requires.apart in
    let joined_is = c.join.ensures ∙ ap (both_of v) (c.split-lent.ensures.given ∙ ap (λ (m : ℕ). given_of (File m) own) c.file-number.ensures) in
    let w = c.see_files.new.hand in
    let still = subst (λ (j : View). HasStill j w) joined_is c.see_files.ensures.still in
    let left = c.split-lent.ensures.kept ∙ ap (λ (m : ℕ). kept_of (File m) own) c.file-number.ensures in
    let given = c.split-lent-2.ensures.given ∙ ap (λ (m : ℕ). given_of (File m) w) c.file-number.ensures in
    let back = c.join-2.ensures ∙ (λ i. both_of (left i) (given i)) in
    (subst (IsHeld x) (sym back) (held_home own v x held first rest is apart w still.files still.pools), ap (λ (q : View). q.faults) back ∙ ap (λ (fs : List ℕ). fs ++ []) c.file.invariant.1)

pub returns-clause-files : goal.returns-clause-files
returns-clause-files g t c =
    let own = c.file.inside.right in
    let v = c.args.hand.now in
    let x = state_of c.file.inside.hand c.file.inside.commits in
    let held = c.file.invariant.0 in
    let first = c.in-Some.file.now in
    let rest = c.in-Some.rest.now in
    let is = sym (first_held x own held) ∙ c.file.view_is in
    let cases = c.in-Some.ensures.cases in
    let apart = subst (AreApartFrom v) cases.0 c.requires.apart in
    let joined_is = c.join.ensures ∙ ap (both_of v) (c.split-lent.ensures.given ∙ ap (λ (m : ℕ). given_of (File m) own) c.file-number.ensures) in
    let w = c.see_files.new.hand in
    let still = subst (λ (j : View). HasStill j w) joined_is c.see_files.ensures.still in
    let left = c.split-lent.ensures.kept ∙ ap (λ (m : ℕ). kept_of (File m) own) c.file-number.ensures in
    let given = c.split-lent-2.ensures.given ∙ ap (λ (m : ℕ). given_of (File m) w) c.file-number.ensures in
    let back = c.join-2.ensures ∙ (λ i. both_of (left i) (given i)) in
    let files : c.join-2.new.self.files ≡ (x.file.file, first) ∷ [] = ap (λ (q : View). q.files) back ∙ files_home own v x held first rest is apart w still.files still.pools in
    let same : c.see_files.new.files ≡ rest = c.see_files.ensures.files in
    files_same _ c.join-2.new.self.files c.see_files.new.files c.args.files.now x.file.file first rest files same cases.0

pub returns-clause-still : goal.returns-clause-still
returns-clause-still g t c =
    let own = c.file.inside.right in
    let v = c.args.hand.now in
    let x = state_of c.file.inside.hand c.file.inside.commits in
    let held = c.file.invariant.0 in
    let first = c.in-Some.file.now in
    let rest = c.in-Some.rest.now in
    let is = sym (first_held x own held) ∙ c.file.view_is in
    let cases = c.in-Some.ensures.cases in
    let apart = subst (AreApartFrom v) cases.0 c.requires.apart in
    let joined_is = c.join.ensures ∙ ap (both_of v) (c.split-lent.ensures.given ∙ ap (λ (m : ℕ). given_of (File m) own) c.file-number.ensures) in
    let w = c.see_files.new.hand in
    let still = subst (λ (j : View). HasStill j w) joined_is c.see_files.ensures.still in
    let kept = c.split-lent-2.ensures.kept ∙ ap (λ (m : ℕ). kept_of (File m) w) c.file-number.ensures in
    subst (HasStill v) (sym kept) (still_home own v x held first rest is apart w still)

pub returns-clause-few : goal.returns-clause-few
returns-clause-few g t c =
    let own = c.file.inside.right in
    let v = c.args.hand.now in
    let x = state_of c.file.inside.hand c.file.inside.commits in
    let held = c.file.invariant.0 in
    let first = c.in-Some.file.now in
    let rest = c.in-Some.rest.now in
    let is = sym (first_held x own held) ∙ c.file.view_is in
    let cases = c.in-Some.ensures.cases in
    let apart = subst (AreApartFrom v) cases.0 c.requires.apart in
    let joined_is = c.join.ensures ∙ ap (both_of v) (c.split-lent.ensures.given ∙ ap (λ (m : ℕ). given_of (File m) own) c.file-number.ensures) in
    let most = g.N.Naming.start.geometry.inodes in
    let few = subst (λ (j : View). length j.files + length rest ≤ most) joined_is c.see_files.ensures.few in
    subst (λ (cs : List FileCell). length v.files + length cs ≤ most) (sym cases.0) (one_more own v x held first rest is apart most few)

pub returns-in_default-clause-few : goal.returns-in_default-clause-few
returns-in_default-clause-few g t c =
    let v = c.args.hand.now in
    let none = nil_of c.args.files.now c.in_default.ensures.cases in
    let few = few_known g.N.Naming.start c.look.result v c.look.ensures.knows (apart_alone v c.args.files.now none c.requires.apart) in
    let n : length c.args.files.now ≡ 0 = c.in_default.ensures.cases in
    omega (arith, few, n)
