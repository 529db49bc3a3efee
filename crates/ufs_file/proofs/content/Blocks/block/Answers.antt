use Rattle.std.proofs.Common.{◌≡◌, ◌∙◌, ◌+◌, ◌*◌, ◌<◌, Bool, Some, true, List, length, take, drop, ap, sym, arith}
use Rattle.std.specs.Prelude.{slice_get}
use Rattle.std.proofs.lemmas.Option.{slice_get_within}
use Rattle.ufs_file.specs.Content.{Content, block_bytes}
use Rattle.ufs_file.specs.Table.{bytes_in, marks_of, there_of}
use Rattle.ufs_file.specs.declared.blocks.Block.{Block}
use Rattle.ufs_file.proofs.ContentLemmas.{block_is, length-marks}
use Rattle.ufs_file.proofs.TableLemmas.{length-there}
use Rattle.ufs_file.proofs.content.Blocks.block.Goals as goal

pub returns-in-Some-true-clause-bytes : goal.returns-in-Some-true-clause-bytes
returns-in-Some-true-clause-bytes c =
    let bs : List Block = c.self.inside.table.items in
    let place = c.args.place in
    let here : slice_get (there_of bs) place ≡ Some true =
    ap (λ (v : Content). slice_get v.there place) c.self.view_is ∙ sym c.in-Some-true.ensures ∙ ap (λ (b : Bool). Some b) c.in-Some-true.field-0-test in
    let inside : place < length bs = omega (arith, slice_get_within (there_of bs) place true here, length-there bs) in
    c.piece.ensures ∙ ap (λ (l : List Block). take 4096 (drop (4096 * place + 0) (bytes_in l))) c.as_slice.ensures.value
    ∙ block_is c.self.inside.size bs place c.self.invariant.table inside ∙ ap (λ (v : Content). block_bytes v.bytes place) c.self.view_is

pub returns-in-Some-true-clause-place : goal.returns-in-Some-true-clause-place
returns-in-Some-true-clause-place c =
    let bs : List Block = c.self.inside.table.items in
    let place = c.args.place in
    let here : slice_get (there_of bs) place ≡ Some true =
    ap (λ (v : Content). slice_get v.there place) c.self.view_is ∙ sym c.in-Some-true.ensures ∙ ap (λ (b : Bool). Some b) c.in-Some-true.field-0-test in
    let marks : length (marks_of bs) ≡ length c.args.self.now.dirty = ap (λ (v : Content). length v.dirty) c.self.view_is in
    omega (arith, slice_get_within (there_of bs) place true here, length-there bs, length-marks bs, marks)
