use Rattle.std.proofs.Common.{◌≡◌, ◌≤◌, ℕ, eqb, List, [], ◌∷◌, ◌++◌, append_assoc, Option, ap, refl, sym, subst, ◌∙◌}
use Rattle.std.proofs.lemmas.List.{append-nil}
use Rattle.std.specs.Cmp.{nat_cmp_total}
use Rattle.std.specs.Prelude.{IsSome}
use Rattle.std.specs.FinMap as fin
use Rattle.std.specs.Ordering.{nat_cmp}
use Rattle.ufs_calls.proofs.Facts.Maps.{entries-seen}
use Rattle.ufs_held.specs.Together.{HasThemToo, under_numbers}
use Rattle.ufs_hand_laws.specs.Owned.{count}
use Rattle.ufs_held.proofs.Together.{none_too}
use Rattle.ufs_joint.specs.Cells.{FileCell}
use Rattle.ufs_home.specs.Lending.{files_among, files_in, one_in}
use Rattle.ufs_home.specs.Places.{Places, file_here}
use Rattle.ufs_home.proofs.Joining.{all_among, among_push, keyed_same, more_too}
use Rattle.ufs_home.proofs.Shelves.{seen_in}
use Rattle.ufs_home.proofs.shelf.Shelf.join_all.Goals as goal

pub loop-entry-init : goal.loop-entry-init
loop-entry-init g c = ([], refl, none_too c.args.hand.now)

pub loop-entry-preserved : goal.loop-entry-preserved
loop-entry-preserved g c =
    let l = c.loop-entry in
    let entry : ℕ × Option FileCell = c.in-Some.entry in
    let left : List (ℕ × Option FileCell) = c.next.new.self in
    let done = l.invariant.0 in (
      done ++ entry ∷ [],
      append_assoc done (entry ∷ []) left ∙ ap (λ es. done ++ es) (sym c.in-Some.ensures.steps) ∙ l.invariant.1,
      subst (λ (cs : List FileCell). HasThemToo cs c.args.hand.now c.join_place.new.hand) (sym (among_push done entry))
          (more_too (files_among done) (one_in entry.1) c.args.hand.now l.hand c.join_place.new.hand l.invariant.2 c.join_place.ensures),
    )

pub returns-clause-joined : goal.returns-clause-joined
returns-clause-joined g c =
    let l = c.loop-entry in
    let gives = c.into_iter-entry-iterator.ensures.into_iter_gives in
    let all : l.invariant.0 ≡ fin.entries c.args.self =
    sym (append-nil l.invariant.0)
    ∙ ap (λ es. l.invariant.0 ++ es) (sym c.in-None.ensures.steps.0)
    ∙ l.invariant.1
    ∙ gives.0
    ∙ sym (keyed_same c.self.inside.places.entries)
    ∙ sym (entries-seen nat_cmp (λ k. k) nat_cmp_total c.self.inside.places gives.5)
    ∙ ap (λ (p : Places). fin.entries p) c.self.view_is in
    subst (λ (es : List (ℕ × Option FileCell)). HasThemToo (files_among es) c.args.hand.now l.hand) all l.invariant.2

pub returns-clause-each : goal.returns-clause-each
returns-clause-each g c = subst (λ (p : Places). (f : ℕ) → IsSome (file_here p f) → 1 ≤ count eqb f (under_numbers (files_in p))) c.self.view_is (all_among (seen_in c.self.inside.places) c.self.invariant)
