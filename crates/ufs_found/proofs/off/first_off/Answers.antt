use Rattle.std.proofs.Common.{◌∙◌}
use Rattle.ufs_found.proofs.OffLemmas.{first_told}
use Rattle.ufs_found.proofs.off.first_off.Goals as goal

pub returns : goal.returns
returns c =
    c.first_in.ensures
    ∙ first_told (λ b. b.now) c.args.geometry.now c.args.next c.args.all.now c.in_ok-places.places.items c.in_ok-commits.commits.items c.in_ok-numbers.numbers.items _ _ _ _ _
    c.in_ok-places.ensures.same c.deref.ensures.value c.deref-2.ensures.value c.in_ok-commits.ensures.same c.in_ok-numbers.ensures.same c.deref-3.ensures.value c.deref-4.ensures.value c.deref-5.ensures.value
