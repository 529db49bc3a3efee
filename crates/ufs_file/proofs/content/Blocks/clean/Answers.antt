use Rattle.std.proofs.Common.{◌∙◌, List, ap, false, length, replicate, sym, take}
use Rattle.ufs_file.specs.Content.{cleaned}
use Rattle.ufs_file.specs.declared.blocks.Block.{Block}
use Rattle.ufs_file.proofs.ContentLemmas.{length-marks, same_table}
use Rattle.ufs_file.specs.Table.{marks_of}
use Rattle.ufs_file.proofs.SpanLemmas.{clean_within}
use Rattle.ufs_file.proofs.content.Blocks.clean.Goals as goal

pub returns : goal.returns
returns c =
    let bs : List Block = c.self.inside.table.items in
    let marks = c.clean_all.ensures.marks ∙ ap (λ n. replicate n false) (sym (length-marks bs)) in
    (λ i. record { bytes = take c.self.inside.size (c.clean_all.ensures.bytes i); dirty = marks i; there = c.clean_all.ensures.there i }) ∙ ap cleaned c.self.view_is

pub invariant_of-self : goal.invariant_of-self
invariant_of-self c =
    let bs : List Block = c.self.inside.table.items in
    let new : List Block = c.clean_all.new.table.items in
    record {
      table = same_table c.self.inside.size bs new c.self.invariant.table c.clean_all.ensures.whole c.clean_all.ensures.length c.clean_all.ensures.bytes;
      within = clean_within (length bs) (marks_of new) c.clean_all.ensures.marks;
    }
