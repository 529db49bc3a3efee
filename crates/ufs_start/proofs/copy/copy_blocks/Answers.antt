use Rattle.std.proofs.Common.{◌*◌, inl, inr, ap, ◌∙◌, arith}
use Rattle.std.proofs.lemmas.Bool.{cases_lt}
use Rattle.ufs_base.specs.Images.{Image}
use Rattle.ufs_metadata.proofs.Quiet.{read_more}
use Rattle.ufs_start.proofs.copy.copy_blocks.Goals as goal

pub returns-in_err-copy_block-clause-read_only : goal.returns-in_err-copy_block-clause-read_only
returns-in_err-copy_block-clause-read_only g c visible =
    read_more g.D.Disk.keeps (g.D.Disk.moments c.args.disk.now) (g.D.Disk.moments c.loop-block.disk) (g.D.Disk.moments c.copy_block.new.disk) (c.loop-block.invariant.read_only visible) (c.copy_block.ensures.read_only visible)

pub returns-in_err-copy_block-clause-before : goal.returns-in_err-copy_block-clause-before
returns-in_err-copy_block-clause-before g c s less =
    let from = c.loop-block.auto.block in
    c.copy_block.ensures.before s (omega (arith, less, from)) ∙ c.loop-block.invariant.before s less

pub loop-block-preserved : goal.loop-block-preserved
loop-block-preserved g c =
    let i = c.loop-block.invariant in
    let n = c.loop-block.block in
    let e = c.in_ok-copy_block.ensures in
    let from = c.loop-block.auto.block in
    record {
      there = λ visible s low high. elim (cases_lt s (8 * n)) [
        | inl less ↦ c.copy_block.ensures.before s less ∙ i.there visible s low less
        | inr here ↦ e.there visible s here (omega (arith, high)) ∙ ap (λ (d : Image). d s) (i.read_only visible).content
      ];
      before = λ s less. c.copy_block.ensures.before s (omega (arith, less, from)) ∙ i.before s less;
      sectors = c.copy_block.ensures.sectors ∙ i.sectors;
      read_only = λ visible. read_more g.D.Disk.keeps (g.D.Disk.moments c.args.disk.now) (g.D.Disk.moments c.loop-block.disk) (g.D.Disk.moments c.copy_block.new.disk) (i.read_only visible) (c.copy_block.ensures.read_only visible);
      size = c.copy_block.ensures.size ∙ i.size;
      faults = e.passed ∙ i.faults;
    }
