use Rattle.std.proofs.Common.{◌≡◌, ◌≤◌, ap, sym, subst, ◌∙◌}
use Rattle.ufs_msg.specs.Answers.{Told}
use Rattle.ufs_msg.specs.declared.answer.Answer.TheVariants as says
use Rattle.ufs_baton.proofs.Hands.{same_told}
use Rattle.ufs_baton.proofs.baton.Baton.follow.Goals as goal

pub returns-in-Served-clause-same : goal.returns-in-Served-clause-same
returns-in-Served-clause-same g c = ap says.Served c.follow_served.ensures.same ∙ sym c.in-Served.is

pub returns-in-Served-clause-seen : goal.returns-in-Served-clause-seen
returns-in-Served-clause-seen g c = λ told is. subst (λ (t : Told). t.hand.seen ≤ c.follow_served.new.self) (same_told c.in-Served.served told (sym c.in-Served.is ∙ is)) c.follow_served.ensures.seen

pub returns-in-Redirect-clause-same : goal.returns-in-Redirect-clause-same
returns-in-Redirect-clause-same g c = sym c.in-Redirect.is

pub returns-in-Redirect-clause-seen : goal.returns-in-Redirect-clause-seen
returns-in-Redirect-clause-seen g c = λ told is. absurd (let both = sym c.in-Redirect.is ∙ is in cc)
