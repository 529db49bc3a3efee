use Rattle.std.proofs.Common.{ℕ, List, ap, sym, subst, ◌∙◌}
use Rattle.std.specs.FinMap as map
use Rattle.std.specs.FinMap.{nat_cmp-IsAntisymmetric}
use Rattle.std.specs.Ordering.{nat_cmp}
use Rattle.std.specs.Cmp.{nat_cmp_total}
use Rattle.ufs_calls.proofs.Facts.Maps.{insert-seen, get-seen, on_err}
use Rattle.ufs_calls.specs.Seen.{keyed}
use Rattle.ufs_file.specs.Hand.{FileState}
use Rattle.ufs_files.specs.Files.{Files, AreNumbered}
use Rattle.ufs_files.proofs.MapLemmas.{numbered_with}
use Rattle.ufs_files.proofs.file_hands.FileHands.replace.Goals as goal

pub invariant_of-self-2 : goal.invariant_of-self-2
invariant_of-self-2 c =
    let at = c.args.file in
    subst AreNumbered
    (sym (insert-seen nat_cmp (λ k. k) nat_cmp_total nat_cmp-IsAntisymmetric c.self.inside.hands c.insert.new.self at c.args.hand c.in_ok-old.ensures.entries))
    (numbered_with _ at c.args.hand c.self.invariant c.requires.number)

pub returns-clause-ok : goal.returns-clause-ok
returns-clause-ok c =
    let at = c.args.file in
    insert-seen nat_cmp (λ k. k) nat_cmp_total nat_cmp-IsAntisymmetric c.self.inside.hands c.insert.new.self at c.args.hand c.in_ok-old.ensures.entries
    ∙ ap (λ (m : Files). map.insert m at c.args.hand) c.self.view_is

pub returns-in_err-old-clause-absent : goal.returns-in_err-old-clause-absent
returns-in_err-old-clause-absent c =
    let at = c.args.file in
    on_err c.from_residual.result (ap (λ (m : Files). map.get m at) (sym c.self.view_is) ∙ get-seen nat_cmp (λ k. k) nat_cmp_total nat_cmp-IsAntisymmetric c.self.inside.hands at ∙ c.in_err-old.ensures.absent)

pub returns-clause-old : goal.returns-clause-old
returns-clause-old c =
    let at = c.args.file in
    c.in_ok-old.ensures.old
    ∙ sym (get-seen nat_cmp (λ k. k) nat_cmp_total nat_cmp-IsAntisymmetric c.self.inside.hands at)
    ∙ ap (λ (m : Files). map.get m at) c.self.view_is

pub invariant_of-self : goal.invariant_of-self
invariant_of-self c =
    subst (λ (es : List (ℕ × FileState)). AreNumbered (map.from_entries (keyed nat_cmp (λ k. k) es))) (sym c.in_err-old.ensures.err) c.self.invariant
