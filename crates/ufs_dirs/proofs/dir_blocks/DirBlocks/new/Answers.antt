use Rattle.std.proofs.Common.{length, ap, arith, List}
use Rattle.ufs_layout.specs.DentryForm.{DentryForm}
use Rattle.ufs_dirs.proofs.KeptLemmas.{kept_none}
use Rattle.ufs_dirs.proofs.dir_blocks.DirBlocks.new.Goals as goal

pub invariant_of-result : goal.invariant_of-result
invariant_of-result c =
    let none = ap (λ (s : List DentryForm). length s) c.new-2.ensures.items in (
      kept_none c.new.result.items c.new-2.result.items c.new-3.result.items c.new-4.result.items c.new.ensures.items c.new-2.ensures.items c.new-3.ensures.items c.new-4.ensures.items,
      omega (arith, none),
      omega (arith, none),
    )
