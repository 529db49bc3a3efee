use Rattle.std.proofs.Common.{◌≤◌, inl, inr, ◌∙◌, arith}
use Rattle.std.proofs.lemmas.Bool.{cases_lt}
use Rattle.ufs_start.proofs.Copied.{within}
use Rattle.ufs_start.proofs.copy.metadata_of.Goals as goal

pub returns-clause-first : goal.returns-clause-first
returns-clause-first g c =
    let sized = c.requires.sized in
    c.copy_blocks.ensures.before 0 (omega arith) ∙ c.in_ok-copy.ensures.first 0 (omega (arith, sized))

pub returns-clause-same : goal.returns-clause-same
returns-clause-same g c visible front s before =
    let size = g.D.Disk.size c.args.disk.now in
    let old = g.D.Disk.moments c.args.disk.now in
    let sized = c.requires.sized in
    let end = c.first_of_data.ensures in
    let large = c.requires.large in
    let least = c.requires.limits.least_blocks in
    let fits : 8 ≤ size = omega (arith, large, least) in
    elim (cases_lt s 8) [
      | inl less ↦ c.copy_blocks.ensures.before s (omega (arith, less)) ∙ c.in_ok-copy.ensures.first s (omega (arith, less, sized)) ∙ within size old.state (g.met.D.Disk.whole visible c.args.disk.now) 8 fits c.args.first.now front s less
      | inr from ↦ c.in_ok-copy_blocks.ensures.there visible s (omega (arith, from)) (omega (arith, before, end))
    ]
