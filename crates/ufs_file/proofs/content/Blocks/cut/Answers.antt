use Rattle.std.proofs.Common.{◌≡◌, ◌≤◌, ◌/◌, ◌∙◌, length, ap, sym, arith, refl, List, ℕ}
use Rattle.ufs_file.specs.Content.{Content, block_count}
use Rattle.ufs_file.specs.Table.{marks_of}
use Rattle.ufs_file.specs.declared.blocks.Block.{Block}
use Rattle.ufs_file.proofs.ContentLemmas.{ceil_is, cut_table, length-content, length-marks}
use Rattle.ufs_file.proofs.SpanLemmas.{cut_within}
use Rattle.ufs_file.proofs.content.Blocks.cut.Goals as goal

pub invariant_of-self : goal.invariant_of-self
invariant_of-self c =
    let bs : List Block = c.self.inside.table.items in
    let new : List Block = c.cut_over.new.table.items in
    let size : ℕ = c.args.size in
    let table = c.self.invariant.table in
    let is : length c.args.self.now.bytes ≡ c.self.inside.size = ap (λ (v : Content). length v.bytes) (sym c.self.view_is) ∙ length-content c.self.inside.size bs table in
    let shorter : size ≤ c.self.inside.size = omega (arith, is, c.requires.shorter) in
    let count : block_count size ≡ c.div_ceil-count.result = sym (c.div_ceil-count.ensures ∙ ceil_is size) in
    record {
      table = cut_table c.self.inside.size size bs new table shorter c.cut_over.ensures.whole c.cut_over.ensures.count c.cut_over.ensures.bytes;
      within = cut_within c.self.inside.span c.below.result c.widened-self-inside.result (marks_of bs) (marks_of new) size (size / 4096) c.div_ceil-count.result c.self.invariant.within c.cut_over.ensures.marks
          refl (omega (arith, shorter, table.room, length-marks bs)) (length-marks new ∙ c.cut_over.ensures.count ∙ count) c.below.ensures c.widened-self-inside.ensures;
    }
