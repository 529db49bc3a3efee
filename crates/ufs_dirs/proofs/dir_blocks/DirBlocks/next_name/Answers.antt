use Rattle.std.proofs.Common.{◌≡◌, ◌<◌, length, get_or, ap, sym, ◌∙◌, subst, arith}
use Rattle.ufs_layout.specs.DentryForm.{DentryForm, free_slot}
use Rattle.ufs_dirs.specs.Directory.{Directory, entry_at}
use Rattle.ufs_dirs.specs.Index.{ranked}
use Rattle.std.proofs.lemmas.List.{get_or_default}
use Rattle.ufs_dirs.specs.Changes.{IsNextName, IsLastName}
use Rattle.ufs_dirs.proofs.NextLemmas.{next_there, next_none}
use Rattle.ufs_dirs.proofs.KeptLemmas.{next_along}
use Rattle.ufs_dirs.proofs.dir_blocks.DirBlocks.next_name.Goals as goal

pub returns-then-rank-len-clause-none : goal.returns-then-rank-len-clause-none
returns-then-rank-len-clause-none c =
    let slots = c.self.inside.slots.items in
    let blocks = c.self.inside.blocks.items in
    let order = c.self.inside.order.items in
    let after = c.args.after.now in
    let rank = c.next_rank-rank.result in
    let next = next_along slots c.as_slice.result.now order c.as_slice-2.result.now after rank c.as_slice.ensures.value c.as_slice-2.ensures.value c.next_rank-rank.ensures in
    subst (λ (d : Directory). IsLastName d after) c.self.view_is (next_none slots order c.self.invariant.0.index after blocks rank next (omega (arith, c.if-rank-len.true, c.len.ensures)))

pub returns-clause-next : goal.returns-clause-next
returns-clause-next c =
    let slots = c.self.inside.slots.items in
    let blocks = c.self.inside.blocks.items in
    let order = c.self.inside.order.items in
    let after = c.args.after.now in
    let rank = c.next_rank-rank.result in
    let next = next_along slots c.as_slice.result.now order c.as_slice-2.result.now after rank c.as_slice.ensures.value c.as_slice-2.ensures.value c.next_rank-rank.ensures in
    let below : rank < length order = omega (arith, next.in_range, c.if-rank-len.false, c.len.ensures) in
    let at : c.index.result.now ≡ get_or order rank 0 = c.index.ensures ∙ get_or_default order rank c.index.result.now 0 below in
    let inside : c.index.result.now < length slots = omega (arith, at, c.self.invariant.0.index.in_range rank below) in
    let read : c.index-2.result.now ≡ ranked slots order rank = c.index-2.ensures ∙ get_or_default slots c.index.result.now c.index-2.result.now free_slot inside ∙ ap (entry_at slots) at in
    subst (λ (d : Directory). IsNextName d after c.index-2.result.now) c.self.view_is
    (subst (λ (e : DentryForm). IsNextName (record { blocks = blocks; slots = slots }) after e) (sym read) (next_there slots order c.self.invariant.0.index after blocks rank next below))
