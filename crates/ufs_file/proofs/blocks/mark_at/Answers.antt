use Rattle.std.proofs.Common.{◌≡◌, ◌+◌, ◌*◌, ◌∙◌, ap, sym, refl, get_or, [], List, arith}
use Rattle.ufs_file.specs.Table.{bytes_in, shown}
use Rattle.ufs_file.specs.declared.blocks.Block.{Block}
use Rattle.ufs_file.proofs.OverLemmas.{over_none}
use Rattle.ufs_file.proofs.TableLemmas.{bytes_in-set, marks_of-set, there_of-same, there_now, whole-set, whole_at}
use Rattle.ufs_file.proofs.blocks.mark_at.Goals as goal

pub returns-clause-whole : goal.returns-clause-whole
returns-clause-whole c =
    let bs : List Block = c.args.table.now.items in
    let old : Block = c.index_mut-block.result.now in
    let is : old ≡ get_or bs c.args.k old = c.index_mut-block.ensures.value in
    whole-set bs c.args.k (record { bytes = old.bytes; dirty = c.args.dirty; there = old.there }) c.requires.whole
    (record { size = (whole_at bs c.args.k old c.requires.whole c.requires.place is).size; written = λ e. there_now bs c.args.k old (c.requires.there e) is })

pub returns-clause-bytes : goal.returns-clause-bytes
returns-clause-bytes c =
    let bs : List Block = c.args.table.now.items in
    let old : Block = c.index_mut-block.result.now in
    let new : Block = record { bytes = old.bytes; dirty = c.args.dirty; there = old.there } in
    let is : old ≡ get_or bs c.args.k old = c.index_mut-block.ensures.value in
    bytes_in-set bs c.args.k 0 new old [] c.requires.whole c.requires.place (omega arith) (ap shown is ∙ sym (over_none (shown (get_or bs c.args.k old)) 0))
    ∙ over_none (bytes_in bs) (4096 * c.args.k + 0)

pub returns-clause-marks : goal.returns-clause-marks
returns-clause-marks c =
    let old : Block = c.index_mut-block.result.now in
    marks_of-set c.args.table.now.items c.args.k (record { bytes = old.bytes; dirty = c.args.dirty; there = old.there }) c.args.dirty c.requires.place refl

pub returns-clause-there : goal.returns-clause-there
returns-clause-there c =
    let old : Block = c.index_mut-block.result.now in
    there_of-same c.args.table.now.items c.args.k (record { bytes = old.bytes; dirty = c.args.dirty; there = old.there }) old
    (ap (λ (b : Block). b.there) c.index_mut-block.ensures.value)
