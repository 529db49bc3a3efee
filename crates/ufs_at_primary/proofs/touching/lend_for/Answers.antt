use Rattle.std.proofs.Common.{ap, ◌∙◌}
use Rattle.ufs_home.specs.Home.{HomeState}
use Rattle.ufs_home.specs.Places.{with_place}
use Rattle.ufs_at_primary.proofs.Trials.{given_back, was_lent}
use Rattle.ufs_at_primary.proofs.touching.lend_for.Goals as goal

pub give_back-requires : goal.give_back-requires
give_back-requires g c = was_lent c.args.home.now c.make_place.new.self c.in_ok-held.held (c.in-Err.ensures.err ∙ c.in_ok-held.ensures.lent) c.in_ok-held.ensures.low

pub returns-in-Err-clause-kept : goal.returns-in-Err-clause-kept
returns-in-Err-clause-kept g c =
    given_back c.args.home.now c.make_place.new.self c.give_back.new.home c.in_ok-held.held (c.in-Err.ensures.err ∙ c.in_ok-held.ensures.lent) c.in_ok-held.ensures.here c.give_back.ensures.some c.give_back.ensures.none

pub returns-clause-lent : goal.returns-clause-lent
returns-clause-lent g c = c.in_default.ensures.ok ∙ ap (λ (h : HomeState). record h { places = with_place h.places c.args.next }) c.in_ok-held.ensures.lent
