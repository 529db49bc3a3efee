use Rattle.std.proofs.Common.{refl, sym, ◌∙◌}
use Rattle.std.proofs.lemmas.List.{length-set}
use Rattle.ufs_caller.specs.Callers.{Caller}
use Rattle.ufs_msg.proofs.Places.{at_place}
use Rattle.ufs_rounds.specs.Scripts.{script_of}
use Rattle.ufs_rounds.proofs.Places.{map_same, numbered}
use Rattle.ufs_rounds.proofs.Scripts.{same_script}
use Rattle.ufs_rounds.proofs.polling.poll_client.Goals as goal

pub poll-requires : goal.poll-requires
poll-requires g c =
    let xs = c.args.clients.now.items in
    record { mine = c.requires.mine ∙ sym (c.requires.numbers c.args.place c.index_mut.result.now (at_place xs c.args.place c.index_mut.result.now c.requires.there c.index_mut.ensures.value)) }

pub returns-clause-turn : goal.returns-clause-turn
returns-clause-turn g c = record {
  was = c.index_mut.result.now;
  is = c.poll.new.self;
  stood = at_place c.args.clients.now.items c.args.place c.index_mut.result.now c.requires.there c.index_mut.ensures.value;
  stands = refl;
  goes = c.poll.ensures.turn;
}

pub returns-clause-numbers : goal.returns-clause-numbers
returns-clause-numbers g c =
    let xs = c.args.clients.now.items in
    numbered (λ (a : Caller). a.number) (λ place. place) xs c.args.place c.index_mut.result.now c.poll.new.self c.requires.numbers
    (at_place xs c.args.place c.index_mut.result.now c.requires.there c.index_mut.ensures.value) c.poll.ensures.number

pub returns-clause-all : goal.returns-clause-all
returns-clause-all g c = length-set c.args.clients.now.items c.args.place c.poll.new.self

pub returns-clause-scripts : goal.returns-clause-scripts
returns-clause-scripts g c =
    let xs = c.args.clients.now.items in
    let q = g.Q.ClientPost in
    map_same script_of xs c.args.place c.index_mut.result.now c.poll.new.self (at_place xs c.args.place c.index_mut.result.now c.requires.there c.index_mut.ensures.value)
    (same_script q.asks q.gets q.same q.was_full q.was_empty c.args.baton.now c.poll.new.baton c.args.post.now c.poll.new.post c.index_mut.result.now c.poll.new.self c.poll.result c.poll.ensures.turn)
