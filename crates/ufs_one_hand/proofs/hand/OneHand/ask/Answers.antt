use Rattle.std.proofs.Common.{[], ◌∙◌, Some, sym, subst, ap}
use Rattle.std.specs.Prelude.{List, length, ◌-◌}
use Rattle.ufs_hand_laws.specs.Owned.{Has, weigh}
use Rattle.ufs_hand_laws.specs.Parts.{StorePart}
use Rattle.ufs_one_hand.specs.OneHand.{IsStampedIn, in_store}
use Rattle.ufs_one_hand.proofs.hand.OneHand.ask.Goals as goal

pub turn-requires : goal.turn-requires
turn-requires g c = let idle = c.requires.idle in record { session = (idle.0, Some (c.args.client, c.args.op.now), c.ask_as.ensures.session idle.0 idle.1) }

pub returns : goal.returns
returns g c = record {
  session = λ history h. c.turn.ensures.session history (Some (c.args.client, c.args.op.now)) (c.ask_as.ensures.session history h);
  apart = λ history files each. c.turn.ensures.apart history files (c.ask_as.ensures.apart history files each);
  fresh = λ history h. c.turn.ensures.fresh history (Some (c.args.client, c.args.op.now)) (c.ask_as.ensures.session history h);
  covered = λ history covered. c.turn.ensures.covered history (λ s has. covered s (subst (Has (tt, s)) c.ask_as.ensures.store has));
  stamped = λ x is. c.turn.ensures.stamped x (subst (λ (ss : List (Unit {0} × StorePart)). IsStampedIn ss x) (sym c.ask_as.ensures.store) is);
  passed = c.turn.ensures.passed ∙ ap (in_store 0 (λ s. weigh (λ x. length x.states - 2) s.past)) c.ask_as.ensures.store;
  stop = c.turn.ensures.stop ∙ c.ask_as.ensures.stop;
  state = c.turn.ensures.state ∙ ap (in_store [] (λ s. s.state)) c.ask_as.ensures.store;
  faults = c.turn.ensures.faults ∙ c.ask_as.ensures.faults;
  answered = c.turn.ensures.answered ∙ ap (in_store [] (λ s. s.faults)) c.ask_as.ensures.store;
  shortages = c.turn.ensures.shortages ∙ c.ask_as.ensures.shortages;
}
