use Rattle.std.proofs.Common.{◌≡◌, ◌<◌, Some, length, get_or, ap, sym, ◌∙◌, subst, arith}
use Rattle.std.proofs.lemmas.List.{get_or_default}
use Rattle.std.specs.List.{count_by}
use Rattle.ufs_layout.specs.DentryForm.{DentryForm, free_slot, is_named}
use Rattle.ufs_dirs.specs.Directory.{Directory, entry_at}
use Rattle.ufs_dirs.specs.Index.{ranked}
use Rattle.ufs_dirs.specs.Names.{AreNamesIn}
use Rattle.ufs_dirs.proofs.ListedLemmas.{name_listed}
use Rattle.ufs_dirs.proofs.dir_blocks.DirBlocks.name_at.Goals as goal

pub returns : goal.returns
returns c names are =
    let slots = c.self.inside.slots.items in
    let order = c.self.inside.order.items in
    let index = c.self.invariant.0.index in
    let rank = c.args.rank in
    let below : rank < length order = omega (arith, index.counted, c.requires, ap (λ (d : Directory). count_by is_named d.slots) c.self.view_is) in
    let at : c.index.result.now ≡ get_or order rank 0 = c.index.ensures ∙ get_or_default order rank c.index.result.now 0 below in
    let inside : c.index.result.now < length slots = omega (arith, at, index.in_range rank below) in
    let read : c.index-2.result.now ≡ ranked slots order rank = c.index-2.ensures ∙ get_or_default slots c.index.result.now c.index-2.result.now free_slot inside ∙ ap (entry_at slots) at in
    let here = subst (λ (d : Directory). AreNamesIn d.slots names) (sym c.self.view_is) are in
    name_listed slots order index names here rank below ∙ ap (λ (e : DentryForm). Some e.name) (sym read) ∙ ap Some (sym c.name_bytes.ensures)
