use Rattle.std.proofs.Common.{◌∙◌, Some, refl, sym, subst, ap}
use Rattle.std.specs.Prelude.{ℕ, ◌%◌}
use Rattle.ufs_hand_laws.specs.Parts.{View}
use Rattle.ufs_hand_laws.specs.Rule.{clock_step}
use Rattle.ufs_hand.specs.Session.{IsEvent}
use Rattle.ufs_one_hand.specs.Apart.{HasEachFile}
use Rattle.ufs_one_hand.specs.Drawn.{asked_view}
use Rattle.ufs_one_hand.specs.OneHand.{HasSession}
use Rattle.ufs_one_hand.proofs.Asking.{asks, asked_session}
use Rattle.ufs_one_hand.proofs.Parting.{each_stays}
use Rattle.ufs_one_hand.proofs.hand.OneHand.ask_as.Goals as goal

pub mark-requires : goal.mark-requires
mark-requires g c =
    let idle = c.requires.idle in
    subst (λ (v : View). IsEvent g.N.Naming.start v g.E.Event.leaves) (sym c.self.view_is)
    (subst (λ (w : ℕ → View). IsEvent g.N.Naming.start c.args.self.now w) (sym c.requires.leaves)
    (asks g.N.Naming.start idle.0 c.args.client c.requires.client c.args.op.now c.args.self.now idle.1 idle.2))

pub returns-clause-apart : goal.returns-clause-apart
returns-clause-apart g c = λ history files each.
    subst (λ (v : View). HasEachFile g.N.Naming.start history v files)
    (sym (c.mark.ensures.parts ∙ ap (λ (w : ℕ → View). w (c.mark.result % clock_step)) c.requires.leaves))
    (each_stays g.N.Naming.start history c.args.self.now (asked_view c.args.client c.args.op.now c.args.self.now (c.mark.result % clock_step)) (λ f. refl) (λ m e. e) files each)

pub returns-clause-session : goal.returns-clause-session
returns-clause-session g c = λ history h.
    subst (λ (v : View). HasSession g.N.Naming.start history (Some (c.args.client, c.args.op.now)) v)
    (sym (c.mark.ensures.parts ∙ ap (λ (w : ℕ → View). w (c.mark.result % clock_step)) c.requires.leaves))
    (asked_session g.N.Naming.start history c.args.client c.requires.client c.args.op.now c.args.self.now h (c.mark.result % clock_step))
