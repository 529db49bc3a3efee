use Rattle.std.proofs.Common.{ap, sym, ◌∙◌, List}
use Rattle.std.specs.Prelude.{slice_get}
use Rattle.ufs_extent.specs.declared.Run.{Run}
use Rattle.ufs_extent.specs.Runs.{blocks_of}
use Rattle.ufs_extent.proofs.PlaceLemmas.{block_at, no_block_at}
use Rattle.ufs_extent.proofs.file_runs.Extents.block_of.Goals as goal

pub returns-in-Some : goal.returns-in-Some
returns-in-Some c =
    sym (block_at c.as_slice.result.now c.args.index c.in-Some.place.at c.in-Some.place.run c.in-Some.place.before c.in-Some.ensures.found)
    ∙ ap (λ (zs : List Run). slice_get (blocks_of zs) c.args.index) (c.as_slice.ensures.value ∙ c.self.view_is)

pub returns-in-None : goal.returns-in-None
returns-in-None c =
    sym (no_block_at c.as_slice.result.now c.args.index c.in-None.ensures.past)
    ∙ ap (λ (zs : List Run). slice_get (blocks_of zs) c.args.index) (c.as_slice.ensures.value ∙ c.self.view_is)
