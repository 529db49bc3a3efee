use Rattle.std.proofs.Common.{◌≡◌, ◌∙◌, ℕ, List, refl, sym, ap}
use Rattle.ufs_model.specs.declared.data.Excuse.{Excuse}
use Rattle.ufs_model.specs.declared.data.Reply.TheVariants as reply
use Rattle.ufs_audit.specs.Following.{with_fault}
use Rattle.ufs_audit.proofs.FaultLemmas.{with_other}
use Rattle.ufs_audit.proofs.state.put_fault.Goals as goal

pub returns-in_default : goal.returns-in_default
returns-in_default c = sym (with_other c.args.faults.now.keys c.args.excuse (λ g is. c.in_default.not-Device g is))

pub returns : goal.returns
returns c = c.in_ok-insert.ensures.keys ∙ ap (λ (x : Excuse). with_fault c.args.faults.now.keys (reply.Excused x)) (sym c.in-Device.is)
