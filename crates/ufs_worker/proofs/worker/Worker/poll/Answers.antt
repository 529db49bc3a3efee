use Rattle.std.proofs.Common.{None, Some, refl}
use Rattle.ufs_worker.proofs.worker.Worker.poll.Goals as goal

pub returns-in-Some-clause-turn : goal.returns-in-Some-clause-turn
returns-in-Some-clause-turn g c = record {
  sent = c.send_kept.new.self;
  sent_by = c.send_kept.new.post;
  kept = c.send_kept.ensures.kept;
  lettered = c.take_letter.new.self;
  lettered_by = c.take_letter.new.post;
  made = Some c.in-Some.turn;
  letter = c.in-Some.ensures.letter;
  work = (refl, refl, refl);
}

pub returns-in-None-clause-turn : goal.returns-in-None-clause-turn
returns-in-None-clause-turn g c = record {
  sent = c.send_kept.new.self;
  sent_by = c.send_kept.new.post;
  kept = c.send_kept.ensures.kept;
  lettered = c.take_letter.new.self;
  lettered_by = c.take_letter.new.post;
  made = None;
  letter = c.in-None.ensures.letter;
  work = c.serve_front.ensures.done;
}
