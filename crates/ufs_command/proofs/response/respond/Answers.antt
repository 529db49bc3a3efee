use Rattle.std.proofs.Common.{◌≡◌, Option, Some, ap, sym, subst, ◌∙◌, map, string_bytes}
use Rattle.ufs_command.specs.declared.words.Command.{Command}
use Rattle.ufs_words.specs.Values.{image_word}
use Rattle.ufs_command.specs.Commands.{serves}
use Rattle.ufs_command.specs.Seen.{reading, writing, formatting, course}
use Rattle.ufs_command.specs.Told.{Tells}
use Rattle.ufs_command.specs.Lacked.{Lacks}
use Rattle.ufs_command.specs.Left.{LeavesDisk, LeavesSource}
use Rattle.ufs_command.proofs.ResponseLemmas.{same_command, answered}
use Rattle.ufs_command.proofs.response.respond.Goals as goal

pub returns-in-Some-clause-answer : goal.returns-in-Some-clause-answer
returns-in-Some-clause-answer g c =
    let named : image_word (map string_bytes c.in-Ok.words.items) ≡ Some c.in-Some.field-0.now = sym c.in-Some.ensures in
    answered c.args.words.now c.in-Ok.words c.in-Some.field-0.now c.in-Ok.is named
    (reading g.S.Source.left g.S.Source.faults c.args.source.now c.quiet.new.source) (formatting g.D.Disk.visible g.D.Disk.size g.D.Disk.moments g.D.Disk.faults c.args.disk c.quiet.result.disk) c.quiet.result.told
    (writing g.K.Sink.held g.K.Sink.faults c.args.sink.now c.quiet.new.sink) c.quiet.result.status c.quiet.ensures.answer

pub returns-in-Some-clause-told : goal.returns-in-Some-clause-told
returns-in-Some-clause-told g c =
    let named : image_word (map string_bytes c.in-Ok.words.items) ≡ Some c.in-Some.field-0.now = sym c.in-Some.ensures in
    subst (λ (x : Option Command). Tells x (reading g.S.Source.left g.S.Source.faults c.args.source.now c.quiet.new.source)
    (formatting g.D.Disk.visible g.D.Disk.size g.D.Disk.moments g.D.Disk.faults c.args.disk c.quiet.result.disk) c.quiet.result.told
    (writing g.K.Sink.held g.K.Sink.faults c.args.sink.now c.quiet.new.sink) c.quiet.result.status)
    (sym (same_command c.args.words.now c.in-Ok.words c.in-Some.field-0.now c.in-Ok.is named)) c.quiet.ensures.told

pub returns-in-Some-clause-disk : goal.returns-in-Some-clause-disk
returns-in-Some-clause-disk g c =
    let named : image_word (map string_bytes c.in-Ok.words.items) ≡ Some c.in-Some.field-0.now = sym c.in-Some.ensures in
    subst (λ (x : Option Command). LeavesDisk x c.quiet.result.told c.quiet.result.status (course g.D.Disk.visible g.D.Disk.keeps g.D.Disk.size g.D.Disk.moments g.D.Disk.faults c.args.disk c.quiet.result.disk))
    (sym (same_command c.args.words.now c.in-Ok.words c.in-Some.field-0.now c.in-Ok.is named)) c.quiet.ensures.disk

pub returns-in-Some-clause-source : goal.returns-in-Some-clause-source
returns-in-Some-clause-source g c =
    let named : image_word (map string_bytes c.in-Ok.words.items) ≡ Some c.in-Some.field-0.now = sym c.in-Some.ensures in
    subst (λ (x : Option Command). LeavesSource x c.quiet.result.status (reading g.S.Source.left g.S.Source.faults c.args.source.now c.quiet.new.source))
    (sym (same_command c.args.words.now c.in-Ok.words c.in-Some.field-0.now c.in-Ok.is named)) c.quiet.ensures.source

pub returns-in-Some-clause-served : goal.returns-in-Some-clause-served
returns-in-Some-clause-served g c other =
    let named : image_word (map string_bytes c.in-Ok.words.items) ≡ Some c.in-Some.field-0.now = sym c.in-Some.ensures in
    let same = same_command c.args.words.now c.in-Ok.words c.in-Some.field-0.now c.in-Ok.is named in
    c.quiet.ensures.served (sym (ap serves same) ∙ other)

pub returns-in-Some-clause-lacked : goal.returns-in-Some-clause-lacked
returns-in-Some-clause-lacked g c =
    let named : image_word (map string_bytes c.in-Ok.words.items) ≡ Some c.in-Some.field-0.now = sym c.in-Some.ensures in
    subst (λ (x : Option Command). Lacks x g.D.Disk.visible g.D.Disk.keeps c.quiet.result.status c.quiet.result.lacked (g.D.Disk.moments c.args.disk) (g.D.Disk.moments c.quiet.result.disk))
    (sym (same_command c.args.words.now c.in-Ok.words c.in-Some.field-0.now c.in-Ok.is named)) c.quiet.ensures.lacked
