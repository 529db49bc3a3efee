use Rattle.std.proofs.Common.{◌∙◌, arith, sym}
use Rattle.ufs_file_commits.specs.State.{state_of}
use Rattle.ufs_file_commits.proofs.Requests.{desc_there, extents_stay, noted_taking}
use Rattle.ufs_file_commits.proofs.serving.apply_in_place.Goals as goal

pub note-requires : goal.note-requires
note-requires c =
    let d = desc_there c.args.ask.desc c.args.hand.now.file c.requires.named in
    let made = c.apply-applied in
    c.extent_list.ensures
    ∙ extents_stay (state_of c.args.hand.now c.args.commits.now) made.new.self c.args.pool.now made.new.pool c.args.ask c.args.by c.args.ticket made.result.entry made.result.desc c.requires.noted made.ensures
    d.0 d.1 (c.requires.same d.0 d.1)
    ∙ sym c.requires.noted.runs

pub returns : goal.returns
returns c =
    let made = c.apply-applied in
    noted_taking (state_of c.args.hand.now c.args.commits.now) made.new.self c.args.pool.now made.new.pool c.args.ask c.args.by c.args.ticket made.result.entry made.result.desc c.requires.noted made.ensures
    c.note.new.self c.note.ensures.noted (record { marks = c.note.ensures.marks; held = c.note.ensures.held; written = c.note.ensures.written }) (λ d is. let same = c.requires.same d is in omega (arith, same))
