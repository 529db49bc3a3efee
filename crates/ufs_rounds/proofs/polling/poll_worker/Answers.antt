use Rattle.std.proofs.Common.{◌+◌, ap, refl, sym, ◌∙◌}
use Rattle.std.proofs.lemmas.List.{length-set}
use Rattle.ufs_model.specs.declared.data.Actor.TheVariants as actor
use Rattle.ufs_msg.proofs.Places.{at_place}
use Rattle.ufs_worker.specs.Worker.{WorkerState}
use Rattle.ufs_rounds.proofs.Places.{numbered}
use Rattle.ufs_rounds.proofs.polling.poll_worker.Goals as goal

pub poll-requires : goal.poll-requires
poll-requires g c =
    let xs = c.args.workers.now.items in
    record { mine = c.requires.mine ∙ ap actor.Worker (sym (c.requires.numbers c.args.place c.index_mut.result.now (at_place xs c.args.place c.index_mut.result.now c.requires.there c.index_mut.ensures.value))) }

pub returns-clause-turn : goal.returns-clause-turn
returns-clause-turn g c = record {
  was = c.index_mut.result.now;
  is = c.poll.new.self;
  stood = at_place c.args.workers.now.items c.args.place c.index_mut.result.now c.requires.there c.index_mut.ensures.value;
  stands = refl;
  goes = c.poll.ensures.turn;
}

pub returns-clause-numbers : goal.returns-clause-numbers
returns-clause-numbers g c =
    let xs = c.args.workers.now.items in
    numbered (λ (w : WorkerState). w.number) (λ place. place + 1) xs c.args.place c.index_mut.result.now c.poll.new.self c.requires.numbers
    (at_place xs c.args.place c.index_mut.result.now c.requires.there c.index_mut.ensures.value) c.poll.ensures.number

pub returns-clause-all : goal.returns-clause-all
returns-clause-all g c = length-set c.args.workers.now.items c.args.place c.poll.new.self
