use Rattle.std.proofs.Common.{◌≡◌, ◌∙◌, ◌+◌, ◌*◌, ap, true, List, ℕ, length, arith}
use Rattle.ufs_file.specs.Lists.{over}
use Rattle.ufs_file.specs.Table.{bytes_in}
use Rattle.ufs_file.specs.declared.blocks.Block.{Block}
use Rattle.ufs_file.proofs.TableLemmas.{bytes_in-set, marks_of-same, there_of-set, shown_there, whole_over, whole-set}
use Rattle.ufs_file.proofs.blocks.fill_at.Goals as goal

pub returns-clause-whole : goal.returns-clause-whole
returns-clause-whole c =
    whole-set c.args.table.now.items c.args.k c.fill_in.new.block c.requires.whole
    (record { size = λ e. ap (λ v. length v.items) c.fill_in.ensures.bytes ∙ c.requires.size; written = λ e. c.fill_in.ensures.there })

pub returns-clause-bytes : goal.returns-clause-bytes
returns-clause-bytes c =
    let bs : List Block = c.args.table.now.items in
    let k : ℕ = c.args.k in
    let new : Block = c.fill_in.new.block in
    let fresh : List ℕ = c.args.bytes.items in
    let old : Block = c.index_mut-block.result.now in
    let e : 4096 * k + 0 ≡ 4096 * k = omega arith in
    bytes_in-set bs k 0 new old fresh c.requires.whole c.requires.place (omega (arith, c.requires.size))
    (shown_there new c.fill_in.ensures.there ∙ ap (λ v. v.items) c.fill_in.ensures.bytes ∙ whole_over bs k old fresh c.requires.whole c.requires.place c.requires.size)
    ∙ ap (λ j. over (bytes_in bs) j fresh) e

pub returns-clause-marks : goal.returns-clause-marks
returns-clause-marks c =
    marks_of-same c.args.table.now.items c.args.k c.fill_in.new.block c.index_mut-block.result.now
    (c.fill_in.ensures.dirty ∙ ap (λ (b : Block). b.dirty) c.index_mut-block.ensures.value)

pub returns-clause-there : goal.returns-clause-there
returns-clause-there c = there_of-set c.args.table.now.items c.args.k c.fill_in.new.block true c.requires.place c.fill_in.ensures.there
