use Rattle.std.proofs.Common.{ap, sym, refl, ◌∙◌}
use Rattle.ufs_dirs.specs.Directory.{Directory, entry_of}
use Rattle.ufs_dirs.proofs.NameLemmas.{entry_of-gap}
use Rattle.ufs_dirs.proofs.KeptLemmas.{entry_read, rank_along, gap_along}
use Rattle.ufs_dirs.proofs.dir_blocks.DirBlocks.find.Goals as goal

pub returns-in-Ok : goal.returns-in-Ok
returns-in-Ok c =
    let slots = c.self.inside.slots.items in
    let order = c.self.inside.order.items in
    let found = rank_along slots c.as_slice.result.now order c.as_slice-2.result.now c.args.name.now c.args.name.now c.in-Ok.rank c.as_slice.ensures.value c.as_slice-2.ensures.value refl c.in-Ok.ensures.found in
    entry_read slots order c.self.invariant.0.index c.args.name.now c.in-Ok.rank c.index.result.now c.index-in-Ok.result.now found c.index.ensures c.index-in-Ok.ensures
    ∙ ap (λ (d : Directory). entry_of d.slots c.args.name.now) c.self.view_is

pub returns-in-Err : goal.returns-in-Err
returns-in-Err c =
    let slots = c.self.inside.slots.items in
    let order = c.self.inside.order.items in
    let gap = gap_along slots c.as_slice.result.now order c.as_slice-2.result.now c.args.name.now c.args.name.now c.in-Err.field-0 c.as_slice.ensures.value c.as_slice-2.ensures.value refl c.in-Err.ensures.absent in
    sym (entry_of-gap slots order c.self.invariant.0.index c.args.name.now c.in-Err.field-0 gap)
    ∙ ap (λ (d : Directory). entry_of d.slots c.args.name.now) c.self.view_is
