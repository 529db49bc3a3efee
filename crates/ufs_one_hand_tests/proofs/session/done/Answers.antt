use Rattle.std.proofs.Common.{[], ◌∷◌, refl, inl, ◌∙◌}
use Rattle.ufs_hand_laws.specs.Draws.{entry_of}
use Rattle.ufs_one_hand_tests.specs.Small.{done_sync, excused_sync}
use Rattle.ufs_one_hand_tests.proofs.Small.{done_acknowledged, done_answers, still_covered}
use Rattle.ufs_one_hand_tests.proofs.session.done.Goals as goal

pub keep-requires : goal.keep-requires
keep-requires g c = record {
  answer = (_, done_acknowledged g.N.Naming.start c.args.first c.ask.new.self (c.ask.ensures.session _ c.requires.session) c.requires.start (c.ask.ensures.covered _ c.requires.covered));
}

pub draw-requires : goal.draw-requires
draw-requires g c =
    let acked = done_acknowledged g.N.Naming.start c.args.first c.ask.new.self (c.ask.ensures.session _ c.requires.session) c.requires.start (c.ask.ensures.covered _ c.requires.covered) in record {
      answer = (_, done_answers g.N.Naming.start c.args.first c.keep.new.self (c.keep.ensures.session _ acked) (c.keep.ensures.apart _ _ (c.ask.ensures.apart _ _ c.requires.each)) c.keep.ensures.known);
      alike = record { alike = inl refl; seen = λ visible. refl };
    }

pub returns-clause-ticket : goal.returns-clause-ticket
returns-clause-ticket g c =
    let acked = done_acknowledged g.N.Naming.start c.args.first c.ask.new.self (c.ask.ensures.session _ c.requires.session) c.requires.start (c.ask.ensures.covered _ c.requires.covered) in
    c.draw.ensures.ticket _ (c.keep.ensures.session _ acked)

pub returns-clause-each : goal.returns-clause-each
returns-clause-each g c =
    let acked = done_acknowledged g.N.Naming.start c.args.first c.ask.new.self (c.ask.ensures.session _ c.requires.session) c.requires.start (c.ask.ensures.covered _ c.requires.covered) in
    let each = c.keep.ensures.apart _ _ (c.ask.ensures.apart _ _ c.requires.each) in
    c.draw.ensures.apart _ _ (done_answers g.N.Naming.start c.args.first c.keep.new.self (c.keep.ensures.session _ acked) each c.keep.ensures.known) each

pub returns-clause-session : goal.returns-clause-session
returns-clause-session g c =
    let acked = done_acknowledged g.N.Naming.start c.args.first c.ask.new.self (c.ask.ensures.session _ c.requires.session) c.requires.start (c.ask.ensures.covered _ c.requires.covered) in
    c.draw.ensures.session _ (done_answers g.N.Naming.start c.args.first c.keep.new.self (c.keep.ensures.session _ acked) (c.keep.ensures.apart _ _ (c.ask.ensures.apart _ _ c.requires.each)) c.keep.ensures.known)

pub returns-clause-covered : goal.returns-clause-covered
returns-clause-covered g c =
    let acked = done_acknowledged g.N.Naming.start c.args.first c.ask.new.self (c.ask.ensures.session _ c.requires.session) c.requires.start (c.ask.ensures.covered _ c.requires.covered) in
    still_covered g.N.Naming.start (entry_of c.args.first excused_sync ∷ entry_of 1 done_sync ∷ []) (entry_of c.args.first excused_sync ∷ entry_of c.draw.result done_sync ∷ []) refl (λ f. refl) c.keep.new.self c.draw.new.self
    c.draw.ensures.store (c.keep.ensures.covered _ acked)

pub returns-clause-none : goal.returns-clause-none
returns-clause-none g c = c.draw.ensures.answered ∙ c.keep.ensures.answered ∙ c.ask.ensures.answered ∙ c.requires.none
