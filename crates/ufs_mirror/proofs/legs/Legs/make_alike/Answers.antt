use Rattle.std.proofs.Common.{inl, inr, sym, ap, subst, ◌∙◌}
use Rattle.ufs_base.specs.Faults.{raised}
use Rattle.ufs_base.specs.Images.{Image}
use Rattle.ufs_disk.specs.Disk.{IsSettled}
use Rattle.ufs_disk.specs.Moments.{reads}
use Rattle.ufs_mirror.specs.Labels.{generation}
use Rattle.ufs_mirror.proofs.legs.Legs.make_alike.Goals as goal

pub returns-in-Unread-clause-failed : goal.returns-in-Unread-clause-failed
returns-in-Unread-clause-failed g c is = let counts = c.copy_all_to_second.ensures.counts.unread c.in-Unread.is in inl (record { rose = counts.0; number = counts.2 })

pub returns-in-Unwritten-clause-failed : goal.returns-in-Unwritten-clause-failed
returns-in-Unwritten-clause-failed g c is = let counts = c.copy_all_to_second.ensures.counts.unwritten c.in-Unwritten.is in inr (record { rose = counts.1; number = counts.2 })

pub returns-then-not-label_first-clause-failed : goal.returns-then-not-label_first-clause-failed
returns-then-not-label_first-clause-failed g c is =
    inl (record { rose = c.label_first.ensures.counts.failed c.if-not-label_first.true ∙ ap raised (c.copy_all_to_second.ensures.counts.whole c.in-Whole.is).0; number = c.label_first.ensures.fault c.if-not-label_first.true })

pub returns-clause-failed : goal.returns-clause-failed
returns-clause-failed g c is =
    inr (record { rose = c.label_second.ensures.counts.failed is ∙ ap raised (ap g.B.Disk.faults c.label_first.ensures.second ∙ (c.copy_all_to_second.ensures.counts.whole c.in-Whole.is).1); number = c.label_second.ensures.fault is })

pub returns-clause-passed : goal.returns-clause-passed
returns-clause-passed g c is =
    let whole = c.copy_all_to_second.ensures.counts.whole c.in-Whole.is in
    (ap g.A.Disk.faults c.label_second.ensures.first ∙ c.label_first.ensures.counts.passed c.if-not-label_first.false ∙ whole.0, c.label_second.ensures.counts.passed is ∙ ap g.B.Disk.faults c.label_first.ensures.second ∙ whole.1)

pub returns-clause-first : goal.returns-clause-first
returns-clause-first g c va vb is k lt =
    ap (λ l. reads (g.A.Disk.moments l) k) c.label_second.ensures.first ∙ c.label_first.ensures.reads va k lt ∙ ap (λ (d : Image). d k) (c.copy_all_to_second.ensures.reads va)

pub returns-clause-alike : goal.returns-clause-alike
returns-clause-alike g c va vb is k lt =
    ap (λ l. reads (g.A.Disk.moments l) k) c.label_second.ensures.first ∙ c.label_first.ensures.reads va k lt ∙ c.copy_all_to_second.ensures.copied va vb c.in-Whole.is k lt
    ∙ sym (ap (λ l. reads (g.B.Disk.moments l) k) c.label_first.ensures.second) ∙ sym (c.label_second.ensures.reads vb k lt)

pub returns-clause-first_settled : goal.returns-clause-first_settled
returns-clause-first_settled g c va is = subst (λ l. IsSettled (g.A.Disk.moments l).state) (sym c.label_second.ensures.first) (c.label_first.ensures.settled va c.if-not-label_first.false)

pub returns-clause-second_settled : goal.returns-clause-second_settled
returns-clause-second_settled g c vb is = c.label_second.ensures.settled vb is

pub returns-clause-first_says : goal.returns-clause-first_says
returns-clause-first_says g c va is = ap (λ l. generation (reads (g.A.Disk.moments l) c.args.sectors)) c.label_second.ensures.first ∙ c.label_first.ensures.label va c.if-not-label_first.false

pub returns-clause-second_says : goal.returns-clause-second_says
returns-clause-second_says g c vb is = c.label_second.ensures.label vb is
