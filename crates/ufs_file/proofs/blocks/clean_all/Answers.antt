use Rattle.std.proofs.Common.{◌≡◌, ◌-◌, ◌∙◌, ◌<◌, ap, length, replicate, [], ◌∷◌, List, Bool, ℕ, false, arith}
use Rattle.std.proofs.lemmas.List.{length-map}
use Rattle.ufs_file.specs.Lists.{over}
use Rattle.ufs_file.specs.Table.{marks_of}
use Rattle.ufs_file.specs.declared.blocks.Block.{Block}
use Rattle.ufs_file.proofs.OverLemmas.{over_one}
use Rattle.ufs_file.proofs.SpanLemmas.{cleaned_is}
use Rattle.ufs_file.proofs.blocks.clean_all.Goals as goal

pub loop-k-preserved : goal.loop-k-preserved
loop-k-preserved c =
    let old : List Block = c.args.table.now.items in
    let k : ℕ = c.loop-k.k in
    let there : k < length (marks_of old) = omega (arith, c.loop-k-test.true, c.requires.within.there) in
    record {
      whole = c.mark_at.ensures.whole;
      count = c.mark_at.ensures.length ∙ c.loop-k.invariant.count;
      bytes = c.mark_at.ensures.bytes ∙ c.loop-k.invariant.bytes;
      marks = c.mark_at.ensures.marks ∙ ap (λ (l : List Bool). over l k (false ∷ [])) c.loop-k.invariant.marks
          ∙ over_one (marks_of old) c.args.written.from k false c.loop-k.auto.k there;
      there = c.mark_at.ensures.there ∙ c.loop-k.invariant.there;
    }

pub returns-clause-marks : goal.returns-clause-marks
returns-clause-marks c =
    let old : List Block = c.args.table.now.items in
    let from : ℕ = c.args.written.from in
    let all : c.loop-k.k ≡ c.args.written.to = omega (arith, c.loop-k-test.false, c.loop-k.auto.k-end, c.requires.within.ordered) in
    c.loop-k.invariant.marks ∙ ap (λ (k : ℕ). over (marks_of old) from (replicate (k - from) false)) all
    ∙ cleaned_is c.args.written (marks_of old) c.requires.within ∙ ap (λ n. replicate n false) (length-map old (λ (b : Block). b.dirty))
