use Rattle.std.proofs.Common.{[], ◌∷◌, refl, inl, ◌∙◌}
use Rattle.ufs_hand_laws.specs.Draws.{entry_of}
use Rattle.ufs_one_hand_tests.specs.Small.{excused_sync}
use Rattle.ufs_one_hand_tests.proofs.Small.{excused_answers, still_covered}
use Rattle.ufs_one_hand_tests.proofs.session.excused.Goals as goal

pub draw-requires : goal.draw-requires
draw-requires g c = record { answer = ([], excused_answers g.N.Naming.start c.ask.new.self (c.ask.ensures.session [] c.requires.session) (c.ask.ensures.apart _ _ c.requires.each)); alike = record { alike = inl refl; seen = λ visible. refl } }

pub returns-clause-ticket : goal.returns-clause-ticket
returns-clause-ticket g c = c.draw.ensures.ticket [] (c.ask.ensures.session [] c.requires.session)

pub returns-clause-each : goal.returns-clause-each
returns-clause-each g c =
    let each = c.ask.ensures.apart _ _ c.requires.each in
    c.draw.ensures.apart _ _ (excused_answers g.N.Naming.start c.ask.new.self (c.ask.ensures.session [] c.requires.session) each) each

pub returns-clause-session : goal.returns-clause-session
returns-clause-session g c = c.draw.ensures.session [] (excused_answers g.N.Naming.start c.ask.new.self (c.ask.ensures.session [] c.requires.session) (c.ask.ensures.apart _ _ c.requires.each))

pub returns-clause-covered : goal.returns-clause-covered
returns-clause-covered g c =
    still_covered g.N.Naming.start [] (entry_of c.draw.result excused_sync ∷ []) refl (λ f. refl) c.ask.new.self c.draw.new.self c.draw.ensures.store (c.ask.ensures.covered [] c.requires.covered)

pub returns-clause-none : goal.returns-clause-none
returns-clause-none g c = c.draw.ensures.answered ∙ c.ask.ensures.answered ∙ c.requires.none
