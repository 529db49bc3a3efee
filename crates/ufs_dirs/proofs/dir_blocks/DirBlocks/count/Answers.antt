use Rattle.std.proofs.Common.{arith, subst, sym}
use Rattle.ufs_dirs.specs.Directory.{Directory}
use Rattle.ufs_dirs.specs.Names.{AreNamesIn}
use Rattle.ufs_dirs.proofs.KeptLemmas.{few_slots, few_names}
use Rattle.ufs_dirs.proofs.ListedLemmas.{listed, are_listed, count_listed}
use Rattle.ufs_dirs.proofs.dir_blocks.DirBlocks.count.Goals as goal

pub overflow_cast-result : goal.overflow_cast-result
overflow_cast-result c =
    let d : Directory = record { blocks = c.self.inside.blocks.items; slots = c.self.inside.slots.items } in
    let kept = c.self.invariant.0 in
    omega (arith, few_names d c.self.inside.order.items c.self.inside.free.items kept, few_slots d kept.directory, c.len.ensures)

pub returns-clause-names : goal.returns-clause-names
returns-clause-names c names are =
    let here = subst (λ (d : Directory). AreNamesIn d.slots names) (sym c.self.view_is) are in
    omega (arith, c.len.ensures, count_listed c.self.inside.slots.items c.self.inside.order.items c.self.invariant.0.index names here)

pub returns-clause-listed : goal.returns-clause-listed
returns-clause-listed c =
    let names = listed c.self.inside.slots.items c.self.inside.order.items in
    (names, subst (λ (d : Directory). AreNamesIn d.slots names) c.self.view_is (are_listed c.self.inside.slots.items c.self.inside.order.items c.self.invariant.0.index))
