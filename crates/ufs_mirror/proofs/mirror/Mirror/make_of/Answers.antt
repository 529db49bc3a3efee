use Rattle.std.proofs.Common.{◌&&◌, arith, refl, sym, ap, subst, ◌∙◌}
use Rattle.std.proofs.lemmas.Grind.{merely}
use Rattle.ufs_disk.specs.Moments.{reads}
use Rattle.ufs_mirror.specs.Opens.{OpenRight}
use Rattle.ufs_mirror.specs.Pairs.{watched}
use Rattle.ufs_mirror.specs.Refused.{IsMakeFault}
use Rattle.ufs_mirror.specs.declared.legs.Picks.TheVariants.{Either}
use Rattle.ufs_mirror.proofs.Calm.{both_say_first}
use Rattle.ufs_mirror.proofs.Ended.{first_content, first_ends_open, first_ends_settled}
use Rattle.ufs_mirror.proofs.Faulty.{device_make}
use Rattle.ufs_mirror.proofs.Lone.{either_not_second}
use Rattle.ufs_mirror.proofs.Opened.{labelled_opens}
use Rattle.ufs_mirror.proofs.Views.{view_same}
use Rattle.ufs_mirror.proofs.mirror.Mirror.make_of.Goals as goal

pub returns-clause-content : goal.returns-clause-content
returns-clause-content g c va vb =
    first_content c.args.sectors (g.A.Disk.moments c.make_alike.new.self.both.first).state (g.B.Disk.moments c.make_alike.new.self.both.second).state Either (either_not_second Either refl)
    ∙ view_same c.args.sectors (reads (g.A.Disk.moments c.make_alike.new.self.both.first)) (reads (g.A.Disk.moments c.args.first)) (λ k lt. c.make_alike.ensures.first va vb c.if-not-make_alike.false k lt)

pub returns-clause-settled : goal.returns-clause-settled
returns-clause-settled g c va vb =
    first_ends_settled c.args.sectors (g.A.Disk.moments c.make_alike.new.self.both.first).state (g.B.Disk.moments c.make_alike.new.self.both.second).state Either (either_not_second Either refl) (c.make_alike.ensures.first_settled va c.if-not-make_alike.false) (λ _. c.make_alike.ensures.second_settled vb c.if-not-make_alike.false) (λ _ k lt. c.make_alike.ensures.alike va vb c.if-not-make_alike.false k lt)

pub returns-clause-opens : goal.returns-clause-opens
returns-clause-opens g c va vb =
    first_ends_open c.args.sectors (g.A.Disk.moments c.make_alike.new.self.both.first).state (g.B.Disk.moments c.make_alike.new.self.both.second).state 1 Either (omega arith) (either_not_second Either refl) (both_say_first c.args.sectors 1 (record { first = (g.A.Disk.moments c.make_alike.new.self.both.first).state; second = (g.B.Disk.moments c.make_alike.new.self.both.second).state; picks = Either }) refl (c.make_alike.ensures.first_settled va c.if-not-make_alike.false) (c.make_alike.ensures.second_settled vb c.if-not-make_alike.false) (c.make_alike.ensures.first_says va c.if-not-make_alike.false) (c.make_alike.ensures.second_says vb c.if-not-make_alike.false)) (λ _. (c.make_alike.ensures.first_says va c.if-not-make_alike.false, c.make_alike.ensures.second_says vb c.if-not-make_alike.false))

pub returns-clause-labels : goal.returns-clause-labels
returns-clause-labels g c va vb = record { first_says = c.make_alike.ensures.first_says va c.if-not-make_alike.false; second_says = c.make_alike.ensures.second_says vb c.if-not-make_alike.false }

pub returns-clause-passed : goal.returns-clause-passed
returns-clause-passed g c = c.make_alike.ensures.passed c.if-not-make_alike.false

pub invariant_of-result : goal.invariant_of-result
invariant_of-result g c = record {
  small = let law = g.met.A.Disk.small c.args.first in omega (arith, law, c.requires.first_sized);
  first_sized = c.make_alike.ensures.first_sized ∙ c.requires.first_sized;
  second_sized = c.make_alike.ensures.second_sized ∙ c.requires.second_sized;
  room = λ _ either. omega arith;
  fit = λ va vb. record { labelled = (both_say_first c.args.sectors 1 (record { first = (g.A.Disk.moments c.make_alike.new.self.both.first).state; second = (g.B.Disk.moments c.make_alike.new.self.both.second).state; picks = Either }) refl (c.make_alike.ensures.first_settled va c.if-not-make_alike.false) (c.make_alike.ensures.second_settled vb c.if-not-make_alike.false) (c.make_alike.ensures.first_says va c.if-not-make_alike.false) (c.make_alike.ensures.second_says vb c.if-not-make_alike.false)); alike = λ _ either k lt. c.make_alike.ensures.alike va vb c.if-not-make_alike.false k lt };
  right = merely (λ va vb. subst (λ log. OpenRight (g.A.Disk.keeps && g.B.Disk.keeps) c.args.sectors (watched (λ l. g.A.Disk.moments l.first) (λ l. g.B.Disk.moments l.second) log c.make_alike.new.self.both Either)) (sym c.new-2.ensures) (record { now = labelled_opens c.args.sectors 1 (record { first = (g.A.Disk.moments c.make_alike.new.self.both.first).state; second = (g.B.Disk.moments c.make_alike.new.self.both.second).state; picks = Either }) (both_say_first c.args.sectors 1 (record { first = (g.A.Disk.moments c.make_alike.new.self.both.first).state; second = (g.B.Disk.moments c.make_alike.new.self.both.second).state; picks = Either }) refl (c.make_alike.ensures.first_settled va c.if-not-make_alike.false) (c.make_alike.ensures.second_settled vb c.if-not-make_alike.false) (c.make_alike.ensures.first_says va c.if-not-make_alike.false) (c.make_alike.ensures.second_says vb c.if-not-make_alike.false)); before = λ kept. tt }));
}

pub returns-then-not-make_alike-clause-refused : goal.returns-then-not-make_alike-clause-refused
returns-then-not-make_alike-clause-refused g c =
    subst (λ x. IsMakeFault (g.A.Disk.size c.args.first) (g.B.Disk.size c.args.second) (g.A.Disk.faults c.args.first) x (g.B.Disk.faults c.args.second) (g.B.Disk.faults c.unpaired.result.second) c.unpaired.result.fault) (sym (ap g.A.Disk.faults c.unpaired.ensures.first))
    (subst (λ y. IsMakeFault (g.A.Disk.size c.args.first) (g.B.Disk.size c.args.second) (g.A.Disk.faults c.args.first) (g.A.Disk.faults c.make_alike.new.self.both.first) (g.B.Disk.faults c.args.second) y c.unpaired.result.fault) (sym (ap g.B.Disk.faults c.unpaired.ensures.second))
    (device_make (g.A.Disk.size c.args.first) (g.B.Disk.size c.args.second) (g.A.Disk.faults c.args.first) (g.A.Disk.faults c.make_alike.new.self.both.first) (g.B.Disk.faults c.args.second) (g.B.Disk.faults c.make_alike.new.self.both.second) c.make_alike.new.self.fault c.unpaired.result.fault
    (c.requires.first_sized ∙ sym c.requires.second_sized) (c.unpaired.ensures.fault ∙ c.refusal-fault.ensures) (c.make_alike.ensures.failed c.if-not-make_alike.true)))
