use Rattle.std.proofs.Common.{◌∙◌, Some, ap, inl, refl, sym}
use Rattle.ufs_command.specs.Commands.{asked}
use Rattle.ufs_command.specs.Endings.{IsFixed}
use Rattle.ufs_command.specs.Seen.{writing}
use Rattle.ufs_command.specs.declared.ending.Ending.TheVariants.{NotBuilt, OutOfMemory, Usage}
use Rattle.ufs_command.specs.declared.words.Command.{Command}
use Rattle.ufs_command.specs.declared.words.Command.TheVariants as command
use Rattle.ufs_process.proofs.AnswerLemmas.{alone_ends, alone_none, alone_not_built, alone_starved}
use Rattle.ufs_process.proofs.top.mirrored.Goals as goal
use Rattle.ufs_process.proofs.top.mirrored.Goals.{in-Ok-Some-NotBuilt, in-Ok-None, in-Err}

pub returns-clause-answer : goal.returns-clause-answer
returns-clause-answer g c =
    let words = asked c.args.words.now.items in
    let sliced = ap asked c.as_slice.ensures.value in
    inl (record {
      first = refl;
      second = refl;
      told = c.nothing_told.ensures;
      unread = (refl, refl);
      answer = elim c.match-read_command.branch [
        | in-Ok-Some-NotBuilt w ↦ alone_ends (IsFixed NotBuilt) words (alone_not_built words (sym (sym w.in-Ok-Some-NotBuilt.field-0-is ∙ w.in-Ok-Some-NotBuilt.ensures ∙ sliced) ∙ ap (λ (x : Command). Some x) w.in-Ok-Some-NotBuilt.field-0-0-is))
            (ap (writing g.K.Sink.held g.K.Sink.faults c.args.sink.now) w.sink-is) w.status-is w.finish-status.ensures.answer
        | in-Ok-None w ↦ alone_ends (IsFixed Usage) words (alone_none words (sym (sym w.in-Ok-None.field-0-is ∙ w.in-Ok-None.ensures ∙ sliced)))
            (ap (writing g.K.Sink.held g.K.Sink.faults c.args.sink.now) w.sink-is) w.status-is w.finish-status-in-Ok-None.ensures.answer
        | in-Err w ↦ alone_ends (IsFixed OutOfMemory) words (alone_starved words) (ap (writing g.K.Sink.held g.K.Sink.faults c.args.sink.now) w.sink-is) w.status-is w.out_of_memory-status.ensures.answer
      ];
    })
