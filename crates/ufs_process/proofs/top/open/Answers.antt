use Rattle.std.proofs.Common.{inl, inr, refl}
use Rattle.ufs_command.specs.Commands.{asked}
use Rattle.ufs_process.specs.Views.{kind, view}
use Rattle.ufs_process.proofs.AnswerLemmas.{opened_fault, opened_joins, source_unread}
use Rattle.ufs_process.proofs.CountLemmas.{opened_counted}
use Rattle.ufs_process.proofs.top.open.Goals as goal

pub serve-requires-clause-counted : goal.serve-requires-clause-counted
serve-requires-clause-counted g c =
    let m = c.in-Ok.mirror in
    opened_counted g.N.Counts.first g.N.Counts.second (g.A.Disk.faults m.legs.both.first) (g.B.Disk.faults m.legs.both.second) (g.A.Disk.faults c.args.first) (g.B.Disk.faults c.args.second) m.legs.picks m.stopped m.faults
    c.requires.first_counted c.requires.second_counted c.in-Ok.ensures.faults c.in-Ok.ensures.begun c.in-Ok.ensures.live

pub returns-in-Ok-clause-answer : goal.returns-in-Ok-clause-answer
returns-in-Ok-clause-answer g c =
    let one = kind g.A.Disk.visible g.A.Disk.keeps g.A.Disk.size g.A.Disk.moments g.A.Disk.faults in
    let other = kind g.B.Disk.visible g.B.Disk.keeps g.B.Disk.size g.B.Disk.moments g.B.Disk.faults in
    let m = c.in-Ok.mirror in
    inr (c.serve.ensures.served c.args.first c.args.second c.requires.first_counted c.requires.second_counted
    (opened_joins one other (asked c.args.words.now.items) c.requires.opens c.args.first c.args.second (view m.legs.both m.legs.log.items m.legs.picks m.faults m.sectors) (record {
      size = c.in-Ok.ensures.size;
      least = c.in-Ok.ensures.least;
      faults = c.in-Ok.ensures.faults;
      live = c.in-Ok.ensures.live;
      content = c.in-Ok.ensures.content;
      written = λ va vb. record { settled = c.in-Ok.ensures.settled va vb; opens = c.in-Ok.ensures.opens va vb };
      labels = c.in-Ok.ensures.labels;
      crash = c.in-Ok.ensures.crash;
    })))

pub returns-in-Err-clause-answer : goal.returns-in-Err-clause-answer
returns-in-Err-clause-answer g c =
    let u = c.in-Err.unpaired in
    inl (record {
      works = c.requires.works;
      fault = u.fault;
      why = record {
        cause = opened_fault _ _ _ _ _ _ u.fault (asked c.args.words.now.items) c.requires.opens c.in-Err.ensures.refused;
        sizes = c.in-Err.ensures.given_back;
        no_label = c.in-Err.ensures.unlabelled;
        crash = λ is va vb. (u.noted.items, u.picks, c.in-Err.ensures.crash_refused va vb);
      };
      told = c.nothing_told.ensures;
      unread = (refl, refl);
      answer = c.tell_mirror_fault-status.ensures.answer;
    })

pub returns-in-Err-clause-source : goal.returns-in-Err-clause-source
returns-in-Err-clause-source g c = source_unread (asked c.args.words.now.items) c.tell_mirror_fault-status.result (g.S.Source.left c.args.source.now) (g.S.Source.faults c.args.source.now)
