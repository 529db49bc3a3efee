use Rattle.std.proofs.Common.{◌∙◌, ap, sym}
use Rattle.std.specs.Prelude.{slice_get}
use Rattle.std.proofs.lemmas.List.Elements.{recursion_from_All}
use Rattle.ufs_file.specs.Content.{Content}
use Rattle.ufs_file.specs.Table.{IsWhole}
use Rattle.ufs_file.proofs.TableLemmas.{dirty_there}
use Rattle.ufs_file.proofs.content.Blocks.dirty_places.Goals as goal

pub returns-clause-held : goal.returns-clause-held
returns-clause-held c place e =
    let bs = c.self.inside.table.items in
    ap (λ (v : Content). slice_get v.there place) (sym c.self.view_is)
    ∙ dirty_there bs (recursion_from_All IsWhole bs c.self.invariant.table.whole) place (ap (λ (v : Content). slice_get v.dirty place) c.self.view_is ∙ e)
