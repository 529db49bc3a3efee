use Rattle.std.proofs.Common.{ap, ◌∙◌}
use Rattle.std.specs.FinMap as map
use Rattle.std.specs.FinMap.{nat_cmp-IsAntisymmetric}
use Rattle.std.specs.Ordering.{nat_cmp}
use Rattle.std.specs.Cmp.{nat_cmp_total}
use Rattle.ufs_calls.proofs.Facts.Maps.{remove-seen}
use Rattle.ufs_calls.proofs.file_map.FileMap.remove.Goals as goal

pub returns : goal.returns
returns c =
    let at = c.args.file in
    remove-seen nat_cmp (λ k. k) nat_cmp_total nat_cmp-IsAntisymmetric c.self.inside.entries c.remove-bytes.new.self at c.len-count.ensures.ordered c.remove-bytes.ensures.entries
    ∙ ap (λ m. map.remove m at) c.self.view_is
