use Rattle.std.proofs.Common.{◌≡◌, ℕ, List, refl, sym, subst, not, IsTrue}
use Rattle.std.specs.Prelude.{◌↔◌}
use Rattle.ufs_model.specs.declared.data.Excuse.{Excuse}
use Rattle.ufs_model.specs.declared.data.Reply.TheVariants as reply
use Rattle.ufs_audit.specs.Following.{IsFresh}
use Rattle.ufs_audit.proofs.FaultLemmas.{fresh_told, fresh_other}
use Rattle.ufs_audit.proofs.state.is_fresh.Goals as goal

pub returns-in-Device : goal.returns-in-Device
returns-in-Device c =
    let faults = c.args.faults.now.keys in
    subst (λ (x : Excuse). IsTrue (not c.contains.result) ↔ IsFresh faults (reply.Excused x)) (sym c.in-Device.is) (fresh_told faults c.in-Device.fault c.contains.result c.contains.ensures)

pub returns-in_default : goal.returns-in_default
returns-in_default c = ((λ _. fresh_other c.args.faults.now.keys c.args.excuse (λ g is. c.in_default.not-Device g is)), (λ _. refl))
