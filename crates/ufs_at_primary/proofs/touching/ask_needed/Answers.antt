use Rattle.std.proofs.Common.{◌≡◌, true, false, ap, sym, subst, ◌∙◌}
use Rattle.std.specs.Prelude.{IfOk}
use Rattle.ufs_held_names.specs.Asked.{IsNeeded}
use Rattle.ufs_msg.specs.Requests.{Asked}
use Rattle.ufs_crash_laws.specs.Changes.{asks_commit}
use Rattle.ufs_at_primary.specs.Kinds.{IsByNames}
use Rattle.ufs_at_primary.proofs.touching.ask_needed.Goals as goal

pub needed-needed-requires : goal.needed-needed-requires
needed-needed-requires g c =
    let a = c.into_parts-client.ensures.asked in
    let k = subst (λ (q : Asked). IsByNames q.ask) (sym c.into_parts-client.ensures.same) c.requires.kind in
    record { client = a.low; kind = k.kind; one = λ is. (let clash : true ≡ false = sym (ap asks_commit is) ∙ k.no_commit in cc) }

pub new-requires : goal.new-requires
new-requires g c = c.into_parts-client.ensures.asked

pub returns-clause-same : goal.returns-clause-same
returns-clause-same g c = c.new.ensures ∙ c.into_parts-client.ensures.same

pub returns-clause-needed : goal.returns-clause-needed
returns-clause-needed g c = subst (λ (q : Asked). IfOk c.needed-needed.result (IsNeeded c.args.names.now.value q.ask)) c.into_parts-client.ensures.same c.needed-needed.ensures
