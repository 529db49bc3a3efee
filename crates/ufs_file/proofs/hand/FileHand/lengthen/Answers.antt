use Rattle.std.proofs.Common.{◌≡◌, ◌+◌, ◌-◌, ◌/◌, ◌≤◌, ◌<◌, ap, sym, ◌∙◌, arith, ℕ, List, subst, length, length-append}
use Rattle.std.specs.FinSet as set
use Rattle.ufs_extent.specs.declared.Run.{Run}
use Rattle.ufs_extent.specs.Runs.{blocks_of, appended_all}
use Rattle.ufs_file.specs.Content.{AreThere, Content, block_count, covered, grown}
use Rattle.ufs_bitmap.specs.Taking.{IsApart, set_of}
use Rattle.ufs_file.specs.Hand.{FileState, IsCause, lengthened}
use Rattle.ufs_bitmap.proofs.TakingLemmas.{takes_apart, takes_blocks, takes_undone}
use Rattle.ufs_file.proofs.HandLemmas.{apart_taken, blocks_of-all, lengthened_more, length-grown, dirty-grown}
use Rattle.ufs_file.proofs.ContentLemmas.{ceil_is}
use Rattle.ufs_file.proofs.hand.FileHand.lengthen.Goals as goal

pub give_runs-requires-clause-apart : goal.give_runs-requires-clause-apart
give_runs-requires-clause-apart c =
    subst (λ (l : List Run). IsApart c.take.new.pool (blocks_of l)) (sym c.as_slice-in-Err-grow.ensures.value)
    (takes_apart c.args.pool.now (c.div_ceil.result - c.block_count.result) c.in-Ok.runs.items c.take.new.pool 0 c.in-Ok.ensures.taken)

pub returns-in-Ok-grow-clause-apart : goal.returns-in-Ok-grow-clause-apart
returns-in-Ok-grow-clause-apart c =
    let e : c.append_all.new.extents ≡ appended_all c.self.inside.extents c.in-Ok.runs.items = c.append_all.ensures ∙ ap (λ (l : List Run). appended_all c.self.inside.extents l) c.as_slice.ensures.value in
    let apart : IsApart c.args.pool.now (blocks_of c.self.inside.extents) = subst (λ (f : FileState). IsApart c.args.pool.now (blocks_of f.extents)) (sym c.self.view_is) c.requires.apart in
    subst (λ (l : List ℕ). IsApart c.take.new.pool l) (sym (ap blocks_of e ∙ blocks_of-all c.self.inside.extents c.in-Ok.runs.items))
    (apart_taken c.args.pool.now (blocks_of c.self.inside.extents) (c.div_ceil.result - c.block_count.result) c.in-Ok.runs.items c.take.new.pool 0 apart c.in-Ok.ensures.taken)

pub returns-in-Err-clause-cause : goal.returns-in-Err-clause-cause
returns-in-Err-clause-cause c =
    let v : Content = c.args.self.now.content in
    let size : ℕ = c.args.size in
    let held : length v.bytes ≡ c.size.result = ap (λ (f : FileState). length f.content.bytes) (sym c.self.view_is) ∙ sym c.size.ensures.size in
    let longer : length v.bytes < size = omega (arith, held, c.if-size.false) in
    let long : length (lengthened v size).bytes ≡ size = ap (λ (w : Content). length w.bytes) (lengthened_more v size longer) ∙ length-grown v size (omega (arith, longer)) in
    let blocks : length (blocks_of c.args.self.now.extents) ≡ c.block_count.result = ap (λ (f : FileState). length (blocks_of f.extents)) (sym c.self.view_is) ∙ sym c.block_count.ensures in
    let e : c.div_ceil.result - c.block_count.result ≡ block_count (length (lengthened v size).bytes) - length (blocks_of c.args.self.now.extents) =
    (λ i. (c.div_ceil.ensures ∙ ceil_is size ∙ ap block_count (sym long)) i - sym blocks i) in
    subst (λ (n : ℕ). IsCause c.args.self.now.extents n c.args.pool.now c.in-Err.excuse) e
    c.in-Err.ensures.cause

pub invariant_of-self : goal.invariant_of-self
invariant_of-self c =
    let xs : List Run = c.self.inside.extents in
    let rs : List Run = c.in-Ok.runs.items in
    let need : ℕ = c.div_ceil.result - c.block_count.result in
    let e : c.append_all.new.extents ≡ appended_all xs rs = c.append_all.ensures ∙ ap (λ (l : List Run). appended_all xs l) c.as_slice.ensures.value in
    let blocks : length (blocks_of c.append_all.new.extents) ≡ length (blocks_of xs) + length (blocks_of rs) =
    ap (λ (l : List Run). length (blocks_of l)) e ∙ ap length (blocks_of-all xs rs) ∙ length-append (blocks_of xs) (blocks_of rs) in
    let taken : length (blocks_of rs) + 0 ≡ need = takes_blocks c.args.pool.now need rs c.take.new.pool 0 c.in-Ok.ensures.taken in
    let grew : c.grow.new.self ≡ grown (covered c.self.inside.blocks c.args.from c.args.to) c.args.size = c.in-Ok-grow.ensures.ok in
    let had : length (blocks_of xs) ≡ length c.self.inside.blocks.dirty = c.self.invariant in
    let is : c.div_ceil.result ≡ block_count c.args.size = c.div_ceil.ensures ∙ ceil_is c.args.size in
    let longer : length c.self.inside.blocks.bytes ≤ c.args.size = omega (arith, c.size.ensures.size, c.if-size.false) in
    let counted : length c.self.inside.blocks.dirty ≡ block_count (length c.self.inside.blocks.bytes) = c.size.ensures.blocks in
    blocks ∙ omega (arith, taken, had, is, c.block_count.ensures, dirty-grown c.self.inside.blocks c.args.size counted longer, counted, longer) ∙ ap (λ (v : Content). length v.dirty) (sym grew)

pub returns-clause-pool : goal.returns-clause-pool
returns-clause-pool c =
    c.give_runs.ensures ∙ ap (λ (l : List Run). set.union c.take.new.pool (set_of l)) c.as_slice-in-Err-grow.ensures.value
    ∙ takes_undone c.args.pool.now (c.div_ceil.result - c.block_count.result) c.in-Ok.runs.items c.take.new.pool 0 c.in-Ok.ensures.taken

pub grow-requires-clause-there : goal.grow-requires-clause-there
grow-requires-clause-there c =
    let needed = c.requires.there (omega (arith, ap (λ (f : FileState). length f.content.bytes) c.self.view_is, c.size.ensures.size, c.if-size.false)) in
    subst (λ (f : FileState). AreThere (covered f.content c.args.from c.args.to).there (length f.content.bytes / 4096) (block_count (length f.content.bytes))) (sym c.self.view_is) needed
