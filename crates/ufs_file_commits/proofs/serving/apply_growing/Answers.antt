use Rattle.std.proofs.Common.{arith}
use Rattle.ufs_file_commits.specs.State.{state_of}
use Rattle.ufs_file_commits.proofs.Requests.{allowed_where_changed, applied_not, noted_taking}
use Rattle.ufs_file_commits.proofs.serving.apply_growing.Goals as goal

pub returns-in-Err : goal.returns-in-Err
returns-in-Err c =
    applied_not (state_of c.args.hand.now c.args.commits.now) c.args.pool.now c.args.ask c.args.by c.args.ticket c.out_of_memory.result.entry c.out_of_memory.result.desc c.out_of_memory.ensures.entry
    c.out_of_memory.ensures.reply c.out_of_memory.ensures.desc c.requires.noted c.is_whole.ensures.few
    (λ d is. allowed_where_changed c.args.hand.now d c.args.ask.op c.is_whole.ensures.sized (λ e. let more = c.requires.more d is in omega (arith, more, e)))

pub returns : goal.returns
returns c =
    let made = c.apply-applied in
    noted_taking (state_of c.args.hand.now c.args.commits.now) made.new.self c.args.pool.now made.new.pool c.args.ask c.args.by c.args.ticket made.result.entry made.result.desc c.requires.noted made.ensures
    c.note.new.self c.note.ensures.noted (record { marks = c.note.ensures.marks; held = c.note.ensures.held; written = c.note.ensures.written }) (λ d is. let more = c.requires.more d is in omega (arith, more))
