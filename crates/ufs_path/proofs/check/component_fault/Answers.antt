use Rattle.std.proofs.Common.{◌∙◌, ap, sym, rules, tests, length, drop, eqb, arith}
use Rattle.std.proofs.lemmas.List.{length_push, drop_all}
use Rattle.std.proofs.lemmas.Iterator.Splits.{YieldsList-from_slice_split}
use Rattle.std.proofs.lemmas.Iterator.Consumers.{YieldsList-turn, YieldsList-end, YieldsList-at}
use Rattle.ufs_path.specs.Faults.{names_fault}
use Rattle.ufs_model.proofs.Facts.Pieces.{pieces}
use Rattle.ufs_path.proofs.FaultLemmas.{names_fault-components, names_fault-next, found, passed}
use Rattle.ufs_path.proofs.check.component_fault.Goals as goal

pub returns-in-Some-name_fault : goal.returns-in-Some-name_fault
returns-in-Some-name_fault c =
    let turn = YieldsList-turn (YieldsList-at c.into_iter-name-iterator.ensures.into_iter_gives (YieldsList-from_slice_split _ (λ b. eqb b 47) c.args.path.now c.split-name-items.ensures.rest c.split-name-items.ensures.done c.split-name-items.ensures.closure (λ x r q k. search (rules, tests)))) c.loop-name.yielded _ c.loop-name.yielded_by _ _ c.in-Some.name c.in-Some.is c.next.ensures.steps in
    sym (names_fault-components c.args.path.now ∙ c.loop-name.invariant
    ∙ names_fault-next (pieces c.args.path.now) (length c.loop-name.yielded) c.in-Some.name.now turn.0 turn.1
    ∙ found _ c.in-Some-name_fault.fault _ (sym c.name_fault.ensures ∙ c.in-Some-name_fault.is))

pub loop-name-preserved : goal.loop-name-preserved
loop-name-preserved c =
    let turn = YieldsList-turn (YieldsList-at c.into_iter-name-iterator.ensures.into_iter_gives (YieldsList-from_slice_split _ (λ b. eqb b 47) c.args.path.now c.split-name-items.ensures.rest c.split-name-items.ensures.done c.split-name-items.ensures.closure (λ x r q k. search (rules, tests)))) c.loop-name.yielded _ c.loop-name.yielded_by _ _ c.in-Some.name c.in-Some.is c.next.ensures.steps in
    c.loop-name.invariant
    ∙ names_fault-next (pieces c.args.path.now) (length c.loop-name.yielded) c.in-Some.name.now turn.0 turn.1
    ∙ passed _ _ (sym c.name_fault.ensures ∙ c.in_default.is)
    ∙ ap (λ n. names_fault (drop n (pieces c.args.path.now))) (sym (length_push c.loop-name.yielded c.in-Some.name))

pub returns : goal.returns
returns c =
    let end = YieldsList-end (YieldsList-at c.into_iter-name-iterator.ensures.into_iter_gives (YieldsList-from_slice_split _ (λ b. eqb b 47) c.args.path.now c.split-name-items.ensures.rest c.split-name-items.ensures.done c.split-name-items.ensures.closure (λ x r q k. search (rules, tests)))) c.loop-name.yielded _ c.loop-name.yielded_by _ _ c.in-None.is c.next.ensures.steps in
    sym (names_fault-components c.args.path.now ∙ c.loop-name.invariant ∙ ap (λ n. names_fault (drop n (pieces c.args.path.now))) end.1 ∙ ap names_fault (drop_all (length (pieces c.args.path.now)) (pieces c.args.path.now) (omega arith)))
