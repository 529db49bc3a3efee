use Rattle.std.proofs.Common.{◌≡◌, ◌+◌, ◌++◌, [], ◌∷◌, List, ℕ, length, ap, ◌∙◌, refl, false}
use Rattle.std.proofs.lemmas.List.{length_push}
use Rattle.std.proofs.lemmas.List.Elements.{All-push, All-same}
use Rattle.ufs_file.specs.Table.{bytes_in, marks_of, there_of, IsWhole}
use Rattle.ufs_file.specs.declared.blocks.Block.{Block}
use Rattle.ufs_file.proofs.TableLemmas.{zeros_more, marks_more, there_more}
use Rattle.ufs_file.proofs.blocks.absent_blocks.Goals as goal

pub loop-made-preserved : goal.loop-made-preserved
loop-made-preserved c =
    let old : List Block = c.loop-made.table.items in
    let n : ℕ = c.loop-made._made in
    let new : Block = record { bytes = c.new.result; dirty = false; there = false } in
    let is : c.push.new.self.items ≡ old ++ new ∷ [] = c.in_ok-push.ensures.items in
    record {
      whole = All-same IsWhole _ _ is (All-push IsWhole old new c.loop-made.invariant.whole (record { size = λ e. cc; written = λ e. e }));
      bytes = ap bytes_in is ∙ zeros_more old new n c.loop-made.invariant.bytes refl;
      marks = ap marks_of is ∙ marks_more old new n false c.loop-made.invariant.marks refl;
      there = ap there_of is ∙ there_more old new n false c.loop-made.invariant.there refl;
      count = ap length is ∙ length_push old new ∙ ap (λ k. k + 1) c.loop-made.invariant.count;
    }
