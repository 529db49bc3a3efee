use Rattle.std.proofs.Common.{ap, sym, subst, ◌∙◌}
use Rattle.std.specs.FinMap as map
use Rattle.std.specs.FinMap.{nat_cmp-IsAntisymmetric}
use Rattle.std.specs.Ordering.{nat_cmp}
use Rattle.std.specs.Cmp.{nat_cmp_total}
use Rattle.ufs_calls.proofs.Facts.Maps.{get-seen, remove-seen}
use Rattle.ufs_files.specs.Files.{Files, AreNumbered}
use Rattle.ufs_files.proofs.MapLemmas.{numbered_without}
use Rattle.ufs_files.proofs.file_hands.FileHands.take.Goals as goal

pub invariant_of-self : goal.invariant_of-self
invariant_of-self c =
    let at = c.args.file in
    subst AreNumbered
    (sym (remove-seen nat_cmp (λ k. k) nat_cmp_total nat_cmp-IsAntisymmetric c.self.inside.hands c.remove.new.self at c.len-count.ensures.ordered c.remove.ensures.entries))
    (numbered_without _ at c.self.invariant)

pub returns-clause-value : goal.returns-clause-value
returns-clause-value c =
    let at = c.args.file in
    c.remove.ensures.value
    ∙ sym (get-seen nat_cmp (λ k. k) nat_cmp_total nat_cmp-IsAntisymmetric c.self.inside.hands at)
    ∙ ap (λ (m : Files). map.get m at) c.self.view_is

pub returns-clause-gone : goal.returns-clause-gone
returns-clause-gone c =
    let at = c.args.file in
    remove-seen nat_cmp (λ k. k) nat_cmp_total nat_cmp-IsAntisymmetric c.self.inside.hands c.remove.new.self at c.len-count.ensures.ordered c.remove.ensures.entries
    ∙ ap (λ (m : Files). map.remove m at) c.self.view_is
