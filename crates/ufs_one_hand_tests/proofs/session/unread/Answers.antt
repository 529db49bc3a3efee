use Rattle.std.proofs.Common.{[], ◌∷◌, ℕ, Option, None, ap, refl, inl, ◌∙◌}
use Rattle.ufs_one_hand.specs.Drawn.{fault_met}
use Rattle.ufs_hand_laws.specs.Draws.{entry_of}
use Rattle.ufs_hand_laws.specs.Owned.{times}
use Rattle.ufs_one_hand_tests.specs.Small.{done_sync, excused_sync, unread_sync}
use Rattle.ufs_one_hand_tests.proofs.Small.{read_met, still_covered, unread_answers, unread_may_pass}
use Rattle.ufs_one_hand_tests.proofs.session.unread.Goals as goal

pub pass-requires-clause-session : goal.pass-requires-clause-session
pass-requires-clause-session g c =
    (_, _, unread_may_pass g.N.Naming.start c.args.first c.args.second c.ask.new.self (c.ask.ensures.session _ c.requires.session) c.requires.start (c.ask.ensures.covered _ c.requires.covered) (c.ask.ensures.fresh _ c.requires.session) [])

pub pass-requires-clause-failed : goal.pass-requires-clause-failed
pass-requires-clause-failed g c = λ n is. ap (times n) (c.ask.ensures.answered ∙ c.requires.none)

pub pass-requires-clause-apart : goal.pass-requires-clause-apart
pass-requires-clause-apart g c = λ n is. ap (λ (stop : Option ℕ). times n (fault_met stop None)) (c.ask.ensures.stop ∙ c.requires.going)

pub draw-requires : goal.draw-requires
draw-requires g c = record {
  answer = (_, unread_answers g.N.Naming.start c.args.first c.args.second c.pass.new.self (c.pass.ensures.session _ _ (c.ask.ensures.session _ c.requires.session)) (c.pass.ensures.apart _ _ (c.ask.ensures.apart _ _ c.requires.each)) (c.pass.ensures.failed 5 refl));
  alike = record { alike = inl refl; seen = λ visible. refl };
}

pub returns-clause-ticket : goal.returns-clause-ticket
returns-clause-ticket g c = c.draw.ensures.ticket _ (c.pass.ensures.session _ _ (c.ask.ensures.session _ c.requires.session))

pub returns-clause-each : goal.returns-clause-each
returns-clause-each g c =
    let each = c.pass.ensures.apart _ _ (c.ask.ensures.apart _ _ c.requires.each) in
    c.draw.ensures.apart _ _ (unread_answers g.N.Naming.start c.args.first c.args.second c.pass.new.self (c.pass.ensures.session _ _ (c.ask.ensures.session _ c.requires.session)) each (c.pass.ensures.failed 5 refl)) each

pub returns-clause-session : goal.returns-clause-session
returns-clause-session g c =
    c.draw.ensures.session _ (unread_answers g.N.Naming.start c.args.first c.args.second c.pass.new.self (c.pass.ensures.session _ _ (c.ask.ensures.session _ c.requires.session)) (c.pass.ensures.apart _ _ (c.ask.ensures.apart _ _ c.requires.each)) (c.pass.ensures.failed 5 refl))

pub returns-clause-covered : goal.returns-clause-covered
returns-clause-covered g c =
    still_covered g.N.Naming.start (entry_of c.args.first excused_sync ∷ entry_of c.args.second done_sync ∷ []) (entry_of c.args.first excused_sync ∷ entry_of c.args.second done_sync ∷ entry_of c.draw.result unread_sync ∷ []) refl (λ f. refl)
    c.pass.new.self c.draw.new.self c.draw.ensures.store (c.pass.ensures.covered _ (c.ask.ensures.covered _ c.requires.covered))

pub returns-clause-met : goal.returns-clause-met
returns-clause-met g c = c.draw.ensures.answered ∙ c.pass.ensures.answered ∙ read_met _ _ (c.ask.ensures.stop ∙ c.requires.going) (c.ask.ensures.answered ∙ c.requires.none)
