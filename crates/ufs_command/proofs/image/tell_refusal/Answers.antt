use Rattle.std.proofs.Common.{◌≡◌, ℕ, sym, subst, rules}
use Rattle.ufs_metadata.specs.declared.fault.RecoverFault.{RecoverFault}
use Rattle.ufs_metadata.specs.declared.fault.RecoverFault.TheVariants as recover
use Rattle.ufs_command.specs.Seen.{writing}
use Rattle.ufs_command.specs.Endings.{IsAnswer, IsLine, ending_of, line_of}
use Rattle.ufs_command.proofs.image.tell_refusal.Goals as goal

pub returns-in-BadGeometry-clause-answer : goal.returns-in-BadGeometry-clause-answer
returns-in-BadGeometry-clause-answer g c =
    let w = writing g.K.Sink.held g.K.Sink.faults c.args.sink.now c.tell_number-in-BadGeometry.new.sink in
    let same : c.from.result ≡ c.in-BadGeometry.number = search rules in
    subst (λ (f : RecoverFault). IsAnswer (IsLine (ending_of f) (line_of f)) w c.tell_number-in-BadGeometry.result) (sym c.in-BadGeometry.is)
    (subst (λ (n : ℕ). IsAnswer (IsLine (ending_of (recover.BadGeometry n)) (line_of (recover.BadGeometry n))) w c.tell_number-in-BadGeometry.result) same c.tell_number-in-BadGeometry.ensures.answer)

pub returns-in-BadRecord-clause-answer : goal.returns-in-BadRecord-clause-answer
returns-in-BadRecord-clause-answer g c =
    let w = writing g.K.Sink.held g.K.Sink.faults c.args.sink.now c.tell_number-in-BadRecord.new.sink in
    subst (λ (f : RecoverFault). IsAnswer (IsLine (ending_of f) (line_of f)) w c.tell_number-in-BadRecord.result) (sym c.in-BadRecord.is) c.tell_number-in-BadRecord.ensures.answer

pub returns-in-BadTree-clause-answer : goal.returns-in-BadTree-clause-answer
returns-in-BadTree-clause-answer g c =
    let w = writing g.K.Sink.held g.K.Sink.faults c.args.sink.now c.tell_number-in-BadTree.new.sink in
    subst (λ (f : RecoverFault). IsAnswer (IsLine (ending_of f) (line_of f)) w c.tell_number-in-BadTree.result) (sym c.in-BadTree.is) c.tell_number-in-BadTree.ensures.answer

pub returns-in-Device-clause-answer : goal.returns-in-Device-clause-answer
returns-in-Device-clause-answer g c =
    let w = writing g.K.Sink.held g.K.Sink.faults c.args.sink.now c.tell_device.new.sink in
    subst (λ (f : RecoverFault). IsAnswer (IsLine (ending_of f) (line_of f)) w c.tell_device.result) (sym c.in-Device.is) c.tell_device.ensures.answer
