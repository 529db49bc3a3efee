use Rattle.std.proofs.Common.{arith, sym, ap, subst, ◌∙◌}
use Rattle.ufs_disk.specs.Moments.{reads}
use Rattle.ufs_mirror.specs.Opens.{MayOpen, Opening, OpensOnly}
use Rattle.ufs_mirror.specs.Pairs.{watched}
use Rattle.ufs_mirror.specs.Refused.{IsOpenFault}
use Rattle.ufs_mirror.specs.declared.legs.Picks.TheVariants.{First}
use Rattle.ufs_mirror.proofs.Begun.{none_opens}
use Rattle.ufs_mirror.proofs.Openings.{unopened}
use Rattle.ufs_mirror.proofs.mirror.Mirror.open_found.Goals as goal

pub returns-then-picks_second-clause-content : goal.returns-then-picks_second-clause-content
returns-then-picks_second-clause-content g c va vb = c.open_second.ensures.content va vb

pub returns-then-picks_second-clause-settled : goal.returns-then-picks_second-clause-settled
returns-then-picks_second-clause-settled g c va vb = c.open_second.ensures.settled va vb

pub returns-then-picks_second-clause-opens : goal.returns-then-picks_second-clause-opens
returns-then-picks_second-clause-opens g c va vb = c.open_second.ensures.opens va vb

pub returns-then-picks_second-clause-labels : goal.returns-then-picks_second-clause-labels
returns-then-picks_second-clause-labels g c va vb = c.open_second.ensures.labels va vb

pub returns-then-picks_second-clause-live : goal.returns-then-picks_second-clause-live
returns-then-picks_second-clause-live g c = c.open_second.ensures.live

pub returns-then-picks_second-clause-crash : goal.returns-then-picks_second-clause-crash
returns-then-picks_second-clause-crash g c va vb = c.open_second.ensures.crash va vb

pub returns-then-picks_second-clause-crash_refused : goal.returns-then-picks_second-clause-crash_refused
returns-then-picks_second-clause-crash_refused g c va vb = c.open_second.ensures.crash_refused va vb

pub returns-then-picks_second-clause-refused : goal.returns-then-picks_second-clause-refused
returns-then-picks_second-clause-refused g c = c.open_second.ensures.refused

pub returns-then-picks_second-clause-unlabelled : goal.returns-then-picks_second-clause-unlabelled
returns-then-picks_second-clause-unlabelled g c va vb = c.open_second.ensures.unlabelled va vb

pub returns-clause-content : goal.returns-clause-content
returns-clause-content g c va vb = c.open_first.ensures.content va vb

pub returns-clause-settled : goal.returns-clause-settled
returns-clause-settled g c va vb = c.open_first.ensures.settled va vb

pub returns-clause-opens : goal.returns-clause-opens
returns-clause-opens g c va vb = c.open_first.ensures.opens va vb

pub returns-clause-labels : goal.returns-clause-labels
returns-clause-labels g c va vb = c.open_first.ensures.labels va vb

pub returns-clause-live : goal.returns-clause-live
returns-clause-live g c = c.open_first.ensures.live

pub returns-clause-crash : goal.returns-clause-crash
returns-clause-crash g c va vb = c.open_first.ensures.crash va vb

pub returns-clause-crash_refused : goal.returns-clause-crash_refused
returns-clause-crash_refused g c va vb = c.open_first.ensures.crash_refused va vb

pub returns-clause-refused : goal.returns-clause-refused
returns-clause-refused g c = c.open_first.ensures.refused

pub returns-clause-unlabelled : goal.returns-clause-unlabelled
returns-clause-unlabelled g c va vb = c.open_first.ensures.unlabelled va vb

pub returns-then-has_none-clause-crash_refused : goal.returns-then-has_none-clause-crash_refused
returns-then-has_none-clause-crash_refused g c va vb =
    subst (Opening g.A.Disk.keeps g.B.Disk.keeps (OpensOnly c.args.found.sectors (MayOpen c.args.found.sectors (g.A.Disk.moments c.args.first).state (g.B.Disk.moments c.args.second).state)) (g.A.Disk.moments c.args.first) (g.B.Disk.moments c.args.second))
    (λ i. watched (λ l. g.A.Disk.moments l.first) (λ l. g.B.Disk.moments l.second) (sym c.unpaired.ensures.noted i) (record { first = sym c.unpaired.ensures.first i; second = sym c.unpaired.ensures.second i }) (sym c.unpaired.ensures.picks i))
    (unopened g.A.Disk.keeps g.B.Disk.keeps c.args.found.sectors (g.A.Disk.moments c.args.first) (g.B.Disk.moments c.args.second) First)

pub returns-then-has_none-clause-refused : goal.returns-then-has_none-clause-refused
returns-then-has_none-clause-refused g c =
    subst (IsOpenFault (g.A.Disk.size c.args.first) (g.B.Disk.size c.args.second) (g.A.Disk.faults c.args.first) (g.A.Disk.faults c.unpaired.result.first) (g.B.Disk.faults c.args.second) (g.B.Disk.faults c.unpaired.result.second)) (sym c.unpaired.ensures.fault)
    (c.requires.first_sized ∙ sym c.requires.second_sized, omega (arith, c.requires.first_sized, c.requires.some), ap g.A.Disk.faults c.unpaired.ensures.first, ap g.B.Disk.faults c.unpaired.ensures.second)

pub returns-then-has_none-clause-unlabelled : goal.returns-then-has_none-clause-unlabelled
returns-then-has_none-clause-unlabelled g c va vb is =
    let ready = c.requires.ready va vb in
    let none = c.has_none.ensures.yes c.if-has_none.true in
    let less = c.picks_second.ensures.no c.if-picks_second.false in
    none_opens c.args.found.sectors (reads (g.A.Disk.moments c.args.first)) (reads (g.B.Disk.moments c.args.second)) (omega (arith, ready.first_says, none)) (omega (arith, ready.second_says, none, less))

pub returns-then-has_none-clause-given_size : goal.returns-then-has_none-clause-given_size
returns-then-has_none-clause-given_size g c = (ap g.A.Disk.size c.unpaired.ensures.first, ap g.B.Disk.size c.unpaired.ensures.second)
