use Rattle.std.proofs.Common.{[], refl, inl, ◌∙◌}
use Rattle.ufs_one_hand_tests.proofs.Small.{another, failed_answers, failed_may_pass}
use Rattle.ufs_one_hand_tests.proofs.session.failed.Goals as goal

pub pass-requires-clause-session : goal.pass-requires-clause-session
pass-requires-clause-session g c =
    (_, _, failed_may_pass g.N.Naming.start c.args.first c.args.second c.args.third c.ask.new.self (c.ask.ensures.session _ c.requires.session) c.requires.start (c.ask.ensures.covered _ c.requires.covered) (c.ask.ensures.fresh _ c.requires.session) [])

pub pass-requires-clause-stopped : goal.pass-requires-clause-stopped
pass-requires-clause-stopped g c = λ n going is. another n _ (c.ask.ensures.answered ∙ c.requires.met) is

pub draw-requires : goal.draw-requires
draw-requires g c = record {
  answer = (_, failed_answers g.N.Naming.start c.args.first c.args.second c.args.third c.pass.new.self (c.pass.ensures.session _ _ (c.ask.ensures.session _ c.requires.session)) (c.pass.ensures.apart _ _ (c.ask.ensures.apart _ _ c.requires.each)) (c.pass.ensures.fault 7 (c.ask.ensures.stop ∙ c.requires.going) refl));
  alike = record { alike = inl refl; seen = λ visible. refl };
}

pub returns-clause-ticket : goal.returns-clause-ticket
returns-clause-ticket g c = c.draw.ensures.ticket _ (c.pass.ensures.session _ _ (c.ask.ensures.session _ c.requires.session))

pub returns-clause-each : goal.returns-clause-each
returns-clause-each g c =
    let each = c.pass.ensures.apart _ _ (c.ask.ensures.apart _ _ c.requires.each) in
    c.draw.ensures.apart _ _ (failed_answers g.N.Naming.start c.args.first c.args.second c.args.third c.pass.new.self (c.pass.ensures.session _ _ (c.ask.ensures.session _ c.requires.session)) each (c.pass.ensures.fault 7 (c.ask.ensures.stop ∙ c.requires.going) refl)) each

pub returns-clause-session : goal.returns-clause-session
returns-clause-session g c =
    c.draw.ensures.session _ (failed_answers g.N.Naming.start c.args.first c.args.second c.args.third c.pass.new.self (c.pass.ensures.session _ _ (c.ask.ensures.session _ c.requires.session)) (c.pass.ensures.apart _ _ (c.ask.ensures.apart _ _ c.requires.each)) (c.pass.ensures.fault 7 (c.ask.ensures.stop ∙ c.requires.going) refl))
