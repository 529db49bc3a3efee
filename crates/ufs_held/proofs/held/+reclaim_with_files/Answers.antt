use Rattle.std.proofs.Common.{rules, ◌≡◌, ◌++◌, ℕ, List, [], ◌∷◌, Result, Ok, Err, length, ap, refl, sym, subst, ◌∙◌, arith}
use Rattle.std.proofs.lemmas.List.{append-nil}
use Rattle.std.specs.Prelude.{OnErr, OnOk}
use Rattle.ufs_file_commits.specs.State.{DurableState, state_of}
use Rattle.ufs_joint.specs.Cells.{FileCell, View, both_of, given_of, kept_of}
use Rattle.ufs_model.specs.declared.data.PartName.TheVariants.{File}
use Rattle.ufs_store.specs.Refusals.{fault_in}
use Rattle.ufs_store.specs.declared.fault.StoreFault.{StoreFault}
use Rattle.ufs_turns.specs.Lent.{IsBeside}
use Rattle.ufs_turns.specs.Told.{fault_told, told_list}
use Rattle.ufs_held.specs.Held.{IsHeld, first_cell}
use Rattle.ufs_held.specs.Together.{AreApartFrom, HasThemToo}
use Rattle.ufs_held.proofs.After.{first_held}
use Rattle.ufs_held.proofs.Together.{apart_then, beside_home, files_home, files_left, held_home, joined_names, joined_store, names_left, none_too, store_left, them_too}
use Rattle.ufs_held.proofs.held.+reclaim_with_files.Goals as goal

nil_of : {A : Type 0} (xs : List A) → length xs ≡ 0 → xs ≡ []
nil_of [] e = refl
nil_of (x ∷ xs) e = absurd (omega (arith, e))

-- the first file's cell, whatever else it has, and the others'
files_same : (d : DurableState) (fs : List (ℕ × FileCell)) (rests all : List FileCell) (n : ℕ) (first : FileCell) (rest : List FileCell) → fs ≡ (n, first) ∷ [] → rests ≡ rest → all ≡ first ∷ rest → (first_cell d fs ∷ rests) ≡ all
files_same d fs rests all n first rest one same cases = (λ i. first_cell d (one i) ∷ same i) ∙ sym cases

on_ok : {A B : Type 0} (r : Result (Unit {0}) StoreFault) → (A → B) → OnOk r A → OnOk r B
on_ok (Ok x) f a = f a
on_ok (Err e) f a = tt

on_err : {A B : Type 0} (r : Result (Unit {0}) StoreFault) → (A → B) → OnErr r A → OnErr r B
on_err (Ok x) f a = tt
on_err (Err e) f a = f a

pub reclaim-requires-clause-lent : goal.reclaim-requires-clause-lent
reclaim-requires-clause-lent g t c = c.requires.lent c.args.hand.now (subst (λ (cs : List FileCell). HasThemToo cs c.args.hand.now c.args.hand.now) (sym (nil_of c.args.files.now c.in_default.ensures.cases)) (none_too c.args.hand.now))

pub reclaim_with_files-made-requires : goal.reclaim_with_files-made-requires
reclaim_with_files-made-requires g t c κs within =
    let own = c.file.inside.right in
    let v = c.args.hand.now in
    let x = state_of c.file.inside.hand c.file.inside.commits in
    let held = c.file.invariant.0 in
    let first = c.in-Some.file.now in
    let rest = c.in-Some.rest.now in
    let is = sym (first_held x own held) ∙ c.file.view_is in
    let cases = c.in-Some.ensures.cases in
    let apart = subst (AreApartFrom v) cases.0 c.requires.apart in
    let joined_is = c.join.ensures ∙ ap (both_of v) (c.split-lent.ensures.given ∙ ap (λ (m : ℕ). given_of (File m) own) c.file-number.ensures) in (
      search rules,
      (
        within.0,
        (
          within.1,
          (
            subst (λ (j : View). AreApartFrom j rest) (sym joined_is) (apart_then own v x held first rest is apart),
            (
              λ w too. c.requires.lent w (subst (λ (cs : List FileCell). HasThemToo cs v w) (sym cases.0) (them_too own v x held first rest is apart w (subst (λ (j : View). HasThemToo rest j w) joined_is too))),
              ap (λ (q : View). q.store) joined_is ∙ joined_store own v x held first rest is apart ∙ c.requires.away,
            ),
          ),
        ),
      ),
    )

pub invariant_of-file : goal.invariant_of-file
invariant_of-file g t c =
    let own = c.file.inside.right in
    let v = c.args.hand.now in
    let x = state_of c.file.inside.hand c.file.inside.commits in
    let held = c.file.invariant.0 in
    let first = c.in-Some.file.now in
    let rest = c.in-Some.rest.now in
    let is = sym (first_held x own held) ∙ c.file.view_is in
    let cases = c.in-Some.ensures.cases in
    let apart = subst (AreApartFrom v) cases.0 c.requires.apart in
    let joined_is = c.join.ensures ∙ ap (both_of v) (c.split-lent.ensures.given ∙ ap (λ (m : ℕ). given_of (File m) own) c.file-number.ensures) in
    let w = c.reclaim_with_files-made.new.hand in
    let made = c.reclaim_with_files-made.ensures in
    let same = made.own ∙ ap (λ (q : View). q.files) joined_is in
    let beside = subst (λ (j : View). IsBeside j w) joined_is made.beside in
    let left = c.split-lent.ensures.kept ∙ ap (λ (m : ℕ). kept_of (File m) own) c.file-number.ensures in
    let given = c.split-lent-2.ensures.given ∙ ap (λ (m : ℕ). given_of (File m) w) c.file-number.ensures in
    let back = c.join-2.ensures ∙ (λ i. both_of (left i) (given i)) in
    (subst (IsHeld x) (sym back) (held_home own v x held first rest is apart w same beside.pools), ap (λ (q : View). q.faults) back ∙ ap (λ (fs : List ℕ). fs ++ []) c.file.invariant.1)

pub returns-clause-files : goal.returns-clause-files
returns-clause-files g t c =
    let own = c.file.inside.right in
    let v = c.args.hand.now in
    let x = state_of c.file.inside.hand c.file.inside.commits in
    let held = c.file.invariant.0 in
    let first = c.in-Some.file.now in
    let rest = c.in-Some.rest.now in
    let is = sym (first_held x own held) ∙ c.file.view_is in
    let cases = c.in-Some.ensures.cases in
    let apart = subst (AreApartFrom v) cases.0 c.requires.apart in
    let joined_is = c.join.ensures ∙ ap (both_of v) (c.split-lent.ensures.given ∙ ap (λ (m : ℕ). given_of (File m) own) c.file-number.ensures) in
    let w = c.reclaim_with_files-made.new.hand in
    let made = c.reclaim_with_files-made.ensures in
    let same = made.own ∙ ap (λ (q : View). q.files) joined_is in
    let beside = subst (λ (j : View). IsBeside j w) joined_is made.beside in
    let left = c.split-lent.ensures.kept ∙ ap (λ (m : ℕ). kept_of (File m) own) c.file-number.ensures in
    let given = c.split-lent-2.ensures.given ∙ ap (λ (m : ℕ). given_of (File m) w) c.file-number.ensures in
    let back = c.join-2.ensures ∙ (λ i. both_of (left i) (given i)) in
    let files : c.join-2.new.self.files ≡ (x.file.file, first) ∷ [] = ap (λ (q : View). q.files) back ∙ files_home own v x held first rest is apart w same beside.pools in
    let others : c.reclaim_with_files-made.new.files ≡ rest = made.files in
    files_same _ c.join-2.new.self.files c.reclaim_with_files-made.new.files c.args.files.now x.file.file first rest files others cases.0

pub returns-clause-ok : goal.returns-clause-ok
returns-clause-ok g t c =
    let own = c.file.inside.right in
    let v = c.args.hand.now in
    let x = state_of c.file.inside.hand c.file.inside.commits in
    let held = c.file.invariant.0 in
    let first = c.in-Some.file.now in
    let rest = c.in-Some.rest.now in
    let is = sym (first_held x own held) ∙ c.file.view_is in
    let cases = c.in-Some.ensures.cases in
    let apart = subst (AreApartFrom v) cases.0 c.requires.apart in
    let joined_is = c.join.ensures ∙ ap (both_of v) (c.split-lent.ensures.given ∙ ap (λ (m : ℕ). given_of (File m) own) c.file-number.ensures) in
    let w = c.reclaim_with_files-made.new.hand in
    let made = c.reclaim_with_files-made.ensures in
    let same = made.own ∙ ap (λ (q : View). q.files) joined_is in
    let beside = subst (λ (j : View). IsBeside j w) joined_is made.beside in
    let kept = c.split-lent-2.ensures.kept ∙ ap (λ (m : ℕ). kept_of (File m) w) c.file-number.ensures in
    on_ok c.reclaim_with_files-made.result (λ all names are. ap (λ (q : View). q.names) kept ∙ names_left own v x held first rest is apart w same beside ∙ all names (ap (λ (q : View). q.names) joined_is ∙ joined_names own v x held first rest is apart ∙ are)) made.ok

pub returns-clause-err : goal.returns-clause-err
returns-clause-err g t c =
    let own = c.file.inside.right in
    let v = c.args.hand.now in
    let x = state_of c.file.inside.hand c.file.inside.commits in
    let held = c.file.invariant.0 in
    let first = c.in-Some.file.now in
    let rest = c.in-Some.rest.now in
    let is = sym (first_held x own held) ∙ c.file.view_is in
    let cases = c.in-Some.ensures.cases in
    let apart = subst (AreApartFrom v) cases.0 c.requires.apart in
    let joined_is = c.join.ensures ∙ ap (both_of v) (c.split-lent.ensures.given ∙ ap (λ (m : ℕ). given_of (File m) own) c.file-number.ensures) in
    let w = c.reclaim_with_files-made.new.hand in
    let made = c.reclaim_with_files-made.ensures in
    let same = made.own ∙ ap (λ (q : View). q.files) joined_is in
    let beside = subst (λ (j : View). IsBeside j w) joined_is made.beside in
    let kept = c.split-lent-2.ensures.kept ∙ ap (λ (m : ℕ). kept_of (File m) w) c.file-number.ensures in
    on_err c.reclaim_with_files-made.result (λ stay. ap (λ (q : View). q.names) kept ∙ names_left own v x held first rest is apart w same beside ∙ stay ∙ ap (λ (q : View). q.names) joined_is ∙ joined_names own v x held first rest is apart) made.err

pub returns-clause-own : goal.returns-clause-own
returns-clause-own g t c =
    let own = c.file.inside.right in
    let v = c.args.hand.now in
    let x = state_of c.file.inside.hand c.file.inside.commits in
    let held = c.file.invariant.0 in
    let first = c.in-Some.file.now in
    let rest = c.in-Some.rest.now in
    let is = sym (first_held x own held) ∙ c.file.view_is in
    let cases = c.in-Some.ensures.cases in
    let apart = subst (AreApartFrom v) cases.0 c.requires.apart in
    let joined_is = c.join.ensures ∙ ap (both_of v) (c.split-lent.ensures.given ∙ ap (λ (m : ℕ). given_of (File m) own) c.file-number.ensures) in
    let w = c.reclaim_with_files-made.new.hand in
    let made = c.reclaim_with_files-made.ensures in
    let same = made.own ∙ ap (λ (q : View). q.files) joined_is in
    let beside = subst (λ (j : View). IsBeside j w) joined_is made.beside in
    let kept = c.split-lent-2.ensures.kept ∙ ap (λ (m : ℕ). kept_of (File m) w) c.file-number.ensures in
    ap (λ (q : View). q.files) kept ∙ files_left own v x held first rest is apart w same beside.pools

pub returns-clause-away : goal.returns-clause-away
returns-clause-away g t c =
    let own = c.file.inside.right in
    let v = c.args.hand.now in
    let x = state_of c.file.inside.hand c.file.inside.commits in
    let held = c.file.invariant.0 in
    let first = c.in-Some.file.now in
    let rest = c.in-Some.rest.now in
    let is = sym (first_held x own held) ∙ c.file.view_is in
    let cases = c.in-Some.ensures.cases in
    let apart = subst (AreApartFrom v) cases.0 c.requires.apart in
    let joined_is = c.join.ensures ∙ ap (both_of v) (c.split-lent.ensures.given ∙ ap (λ (m : ℕ). given_of (File m) own) c.file-number.ensures) in
    let w = c.reclaim_with_files-made.new.hand in
    let made = c.reclaim_with_files-made.ensures in
    let same = made.own ∙ ap (λ (q : View). q.files) joined_is in
    let beside = subst (λ (j : View). IsBeside j w) joined_is made.beside in
    let kept = c.split-lent-2.ensures.kept ∙ ap (λ (m : ℕ). kept_of (File m) w) c.file-number.ensures in
    ap (λ (q : View). q.store) kept ∙ store_left own v x held first rest is apart w same beside ∙ made.away

pub returns-clause-beside : goal.returns-clause-beside
returns-clause-beside g t c =
    let own = c.file.inside.right in
    let v = c.args.hand.now in
    let x = state_of c.file.inside.hand c.file.inside.commits in
    let held = c.file.invariant.0 in
    let first = c.in-Some.file.now in
    let rest = c.in-Some.rest.now in
    let is = sym (first_held x own held) ∙ c.file.view_is in
    let cases = c.in-Some.ensures.cases in
    let apart = subst (AreApartFrom v) cases.0 c.requires.apart in
    let joined_is = c.join.ensures ∙ ap (both_of v) (c.split-lent.ensures.given ∙ ap (λ (m : ℕ). given_of (File m) own) c.file-number.ensures) in
    let w = c.reclaim_with_files-made.new.hand in
    let made = c.reclaim_with_files-made.ensures in
    let same = made.own ∙ ap (λ (q : View). q.files) joined_is in
    let beside = subst (λ (j : View). IsBeside j w) joined_is made.beside in
    let kept = c.split-lent-2.ensures.kept ∙ ap (λ (m : ℕ). kept_of (File m) w) c.file-number.ensures in
    subst (IsBeside v) (sym kept) (beside_home own v x held first rest is apart w same beside)

pub returns-clause-faults : goal.returns-clause-faults
returns-clause-faults g t c =
    let own = c.file.inside.right in
    let v = c.args.hand.now in
    let x = state_of c.file.inside.hand c.file.inside.commits in
    let held = c.file.invariant.0 in
    let first = c.in-Some.file.now in
    let rest = c.in-Some.rest.now in
    let is = sym (first_held x own held) ∙ c.file.view_is in
    let cases = c.in-Some.ensures.cases in
    let apart = subst (AreApartFrom v) cases.0 c.requires.apart in
    let joined_is = c.join.ensures ∙ ap (both_of v) (c.split-lent.ensures.given ∙ ap (λ (m : ℕ). given_of (File m) own) c.file-number.ensures) in
    let w = c.reclaim_with_files-made.new.hand in
    let made = c.reclaim_with_files-made.ensures in
    let same = made.own ∙ ap (λ (q : View). q.files) joined_is in
    let beside = subst (λ (j : View). IsBeside j w) joined_is made.beside in
    let kept = c.split-lent-2.ensures.kept ∙ ap (λ (m : ℕ). kept_of (File m) w) c.file-number.ensures in
    ap (λ (q : View). q.faults) kept ∙ made.faults ∙ ap (λ (xs : List ℕ). told_list (fault_told (fault_in c.reclaim_with_files-made.result)) ++ xs) (ap (λ (q : View). q.faults) joined_is ∙ append-nil v.faults)

pub returns-clause-stop : goal.returns-clause-stop
returns-clause-stop g t c fault told =
    let own = c.file.inside.right in
    let v = c.args.hand.now in
    let x = state_of c.file.inside.hand c.file.inside.commits in
    let held = c.file.invariant.0 in
    let first = c.in-Some.file.now in
    let rest = c.in-Some.rest.now in
    let is = sym (first_held x own held) ∙ c.file.view_is in
    let cases = c.in-Some.ensures.cases in
    let apart = subst (AreApartFrom v) cases.0 c.requires.apart in
    let joined_is = c.join.ensures ∙ ap (both_of v) (c.split-lent.ensures.given ∙ ap (λ (m : ℕ). given_of (File m) own) c.file-number.ensures) in
    let w = c.reclaim_with_files-made.new.hand in
    let made = c.reclaim_with_files-made.ensures in
    let same = made.own ∙ ap (λ (q : View). q.files) joined_is in
    let beside = subst (λ (j : View). IsBeside j w) joined_is made.beside in
    let kept = c.split-lent-2.ensures.kept ∙ ap (λ (m : ℕ). kept_of (File m) w) c.file-number.ensures in
    ap (λ (q : View). q.stop) kept ∙ made.stop fault told
