use Rattle.std.proofs.Common.{◌≡◌, ◌∙◌, Option, ap, sym, subst, refl}
use Rattle.ufs_command.specs.declared.words.Command.{Command}
use Rattle.ufs_command.specs.Commands.{asked, serves}
use Rattle.ufs_command.specs.Seen.{reading, writing, formatting, course}
use Rattle.ufs_command.specs.Endings.{IsAnswer}
use Rattle.ufs_command.specs.Ends.{Ends}
use Rattle.ufs_command.specs.Lacked.{Lacks}
use Rattle.ufs_command.specs.Left.{LeavesDisk, LeavesSource}
use Rattle.ufs_command.specs.Told.{Tells}
use Rattle.ufs_command.proofs.LackedLemmas.{lacking_lacked}
use Rattle.ufs_command.proofs.LeftLemmas.{source_left}
use Rattle.ufs_command.proofs.ToldLemmas.{tells}
use Rattle.ufs_command.proofs.UnreadLemmas.{command_ends, lacking, lacking_left, lacking_status, lacking_told}
use Rattle.ufs_command.proofs.top.quiet.Goals as goal

-- ---- the words were read

pub returns-in-Ok-clause-answer : goal.returns-in-Ok-clause-answer
returns-in-Ok-clause-answer g c =
    let is : c.in-Ok.command ≡ asked c.args.words.now.items = c.in-Ok.ensures ∙ ap asked c.as_slice.ensures.value in
    let r = reading g.S.Source.left g.S.Source.faults c.args.source.now c.answer.new.source in
    let d = formatting g.D.Disk.visible g.D.Disk.size g.D.Disk.moments g.D.Disk.faults c.args.disk c.answer.result.disk in
    let w = writing g.K.Sink.held g.K.Sink.faults c.args.sink.now c.answer.new.sink in
    subst (λ (x : Option Command). IsAnswer (Ends x r d c.answer.result.told) w c.answer.result.status) is
    (command_ends c.in-Ok.command r d c.answer.result.told w c.answer.result.status c.answer.ensures.answer)

pub returns-in-Ok-clause-told : goal.returns-in-Ok-clause-told
returns-in-Ok-clause-told g c =
    let is : c.in-Ok.command ≡ asked c.args.words.now.items = c.in-Ok.ensures ∙ ap asked c.as_slice.ensures.value in
    let r = reading g.S.Source.left g.S.Source.faults c.args.source.now c.answer.new.source in
    let d = formatting g.D.Disk.visible g.D.Disk.size g.D.Disk.moments g.D.Disk.faults c.args.disk c.answer.result.disk in
    let w = writing g.K.Sink.held g.K.Sink.faults c.args.sink.now c.answer.new.sink in
    subst (λ (x : Option Command). Tells x r d c.answer.result.told w c.answer.result.status) is
    (tells c.a_longer_text_breaks_alike.ensures c.in-Ok.command r d c.answer.result.told w c.answer.result.status c.answer.ensures.faults c.answer.ensures.answer)

pub returns-in-Ok-clause-disk : goal.returns-in-Ok-clause-disk
returns-in-Ok-clause-disk g c =
    let is : c.in-Ok.command ≡ asked c.args.words.now.items = c.in-Ok.ensures ∙ ap asked c.as_slice.ensures.value in
    subst (λ (x : Option Command). LeavesDisk x c.answer.result.told c.answer.result.status (course g.D.Disk.visible g.D.Disk.keeps g.D.Disk.size g.D.Disk.moments g.D.Disk.faults c.args.disk c.answer.result.disk)) is c.answer.ensures.disk

pub returns-in-Ok-clause-source : goal.returns-in-Ok-clause-source
returns-in-Ok-clause-source g c =
    let is : c.in-Ok.command ≡ asked c.args.words.now.items = c.in-Ok.ensures ∙ ap asked c.as_slice.ensures.value in
    subst (λ (x : Option Command). LeavesSource x c.answer.result.status (reading g.S.Source.left g.S.Source.faults c.args.source.now c.answer.new.source)) is c.answer.ensures.source

pub returns-in-Ok-clause-served : goal.returns-in-Ok-clause-served
returns-in-Ok-clause-served g c other =
    let is : c.in-Ok.command ≡ asked c.args.words.now.items = c.in-Ok.ensures ∙ ap asked c.as_slice.ensures.value in
    c.answer.ensures.served (ap serves is ∙ other)

-- ---- there was no memory for them

pub returns-in-Err-clause-answer : goal.returns-in-Err-clause-answer
returns-in-Err-clause-answer g c =
    lacking (asked c.args.words.now.items) (reading g.S.Source.left g.S.Source.faults c.args.source.now c.args.source.now)
    (formatting g.D.Disk.visible g.D.Disk.size g.D.Disk.moments g.D.Disk.faults c.args.disk c.leave_words.result.disk) c.leave_words.result.told
    (writing g.K.Sink.held g.K.Sink.faults c.args.sink.now c.leave_words.new.sink) c.leave_words.result.status
    c.leave_words.ensures.told refl refl (ap g.D.Disk.faults c.leave_words.ensures.untouched) c.leave_words.ensures.answer

pub returns-in-Err-clause-told : goal.returns-in-Err-clause-told
returns-in-Err-clause-told g c =
    lacking_told c.a_longer_text_breaks_alike.ensures (reading g.S.Source.left g.S.Source.faults c.args.source.now c.args.source.now)
    (formatting g.D.Disk.visible g.D.Disk.size g.D.Disk.moments g.D.Disk.faults c.args.disk c.leave_words.result.disk) c.leave_words.result.told
    (writing g.K.Sink.held g.K.Sink.faults c.args.sink.now c.leave_words.new.sink) c.leave_words.result.status
    c.leave_words.ensures.told refl refl (ap g.D.Disk.faults c.leave_words.ensures.untouched) c.leave_words.ensures.answer c.leave_words.ensures.status (asked c.args.words.now.items)

pub returns-in-Err-clause-disk : goal.returns-in-Err-clause-disk
returns-in-Err-clause-disk g c =
    let same = c.leave_words.ensures.untouched in
    lacking_left (course g.D.Disk.visible g.D.Disk.keeps g.D.Disk.size g.D.Disk.moments g.D.Disk.faults c.args.disk c.leave_words.result.disk)
    same (ap g.D.Disk.moments same) c.leave_words.result.status (lacking_status c.leave_words.result.status c.leave_words.ensures.status)
    (asked c.args.words.now.items) c.leave_words.result.told c.leave_words.ensures.stands c.leave_words.ensures.told (ap g.D.Disk.size same) (ap g.D.Disk.faults same)

pub returns-in-Err-clause-source : goal.returns-in-Err-clause-source
returns-in-Err-clause-source g c =
    source_left (asked c.args.words.now.items) c.leave_words.result.status (g.S.Source.left c.args.source.now) (g.S.Source.faults c.args.source.now)

-- ---- for want of what

pub returns-in-Ok-clause-lacked : goal.returns-in-Ok-clause-lacked
returns-in-Ok-clause-lacked g c =
    let is : c.in-Ok.command ≡ asked c.args.words.now.items = c.in-Ok.ensures ∙ ap asked c.as_slice.ensures.value in
    subst (λ (x : Option Command). Lacks x g.D.Disk.visible g.D.Disk.keeps c.answer.result.status c.answer.result.lacked (g.D.Disk.moments c.args.disk) (g.D.Disk.moments c.answer.result.disk)) is c.answer.ensures.lacked

pub returns-in-Err-clause-lacked : goal.returns-in-Err-clause-lacked
returns-in-Err-clause-lacked g c =
    let from = g.D.Disk.moments c.args.disk in
    let to = g.D.Disk.moments c.leave_words.result.disk in
    subst (λ o. Lacks (asked c.args.words.now.items) g.D.Disk.visible g.D.Disk.keeps c.leave_words.result.status o from to) (sym c.leave_words.ensures.lacked)
    (lacking_lacked g.D.Disk.visible g.D.Disk.keeps from to (asked c.args.words.now.items) c.leave_words.result.status c.in-Err.memory c.leave_words.ensures.status)
