use Rattle.std.proofs.Common.{◌∙◌, true≢false, sym}
use Rattle.ufs_links.proofs.NumberedLemmas as kept
use Rattle.ufs_links.proofs.numbered.NumberedLists.remove.Goals as goal

pub unreachable-requires : goal.unreachable-requires
unreachable-requires c =
    let f = kept.slot_with c.self.inside c.args.self.now c.self.view_is c.self.invariant c.requires.0 c.args.node c.requires.1 in
    let h = c.in_default.ensures in
    true≢false (sym f.1 ∙ h.off f.0)

pub pass_slot-requires-clause-next : goal.pass_slot-requires-clause-next
pass_slot-requires-clause-next c =
    kept.next_known c.self.inside c.args.self.now c.self.view_is c.self.invariant c.args.node c.in-Some.slot c.in-Some.ensures.on c.remove.new.self c.remove.ensures c.in-Some-front.next
    (sym c.front.ensures.front ∙ c.in-Some-front.is)

pub pass_slot-requires-clause-apart : goal.pass_slot-requires-clause-apart
pass_slot-requires-clause-apart c =
    kept.next_apart c.self.inside c.args.self.now c.self.view_is c.self.invariant c.args.node c.in-Some.slot c.in-Some.ensures.on c.remove.new.self c.remove.ensures c.in-Some-front.next
    (sym c.front.ensures.front ∙ c.in-Some-front.is)

pub invariant_of-self : goal.invariant_of-self
invariant_of-self c =
    kept.kept_some c.self.inside c.args.self.now c.self.view_is c.self.invariant c.args.node c.in-Some.slot c.in-Some.ensures.on c.remove.new.self c.remove.ensures c.in-Some-front.next
    (sym c.front.ensures.front ∙ c.in-Some-front.is) c.pass_slot.new.own c.pass_slot.ensures.kept c.pass_slot.ensures.passed c.pass_slot.ensures.taken c.pass_slot.ensures.others c.pass_slot.ensures.count

pub returns-in-Some-front : goal.returns-in-Some-front
returns-in-Some-front c =
    kept.view_some c.self.inside c.args.self.now c.self.view_is c.self.invariant c.args.node c.in-Some.slot c.in-Some.ensures.on c.remove.new.self c.remove.ensures c.in-Some-front.next
    (sym c.front.ensures.front ∙ c.in-Some-front.is) c.pass_slot.new.own c.pass_slot.ensures.kept c.pass_slot.ensures.passed c.pass_slot.ensures.taken c.pass_slot.ensures.others c.pass_slot.ensures.count

pub invariant_of-self-in-None : goal.invariant_of-self-in-None
invariant_of-self-in-None c =
    kept.kept_none c.self.inside c.args.self.now c.self.view_is c.self.invariant c.args.node c.in-Some.slot c.in-Some.ensures.on c.remove.new.self c.remove.ensures
    (sym c.front.ensures.front ∙ c.in-None.is) c.remove-in-None.new.self c.remove-in-None.ensures

pub returns-in-None : goal.returns-in-None
returns-in-None c =
    kept.view_none c.self.inside c.args.self.now c.self.view_is c.self.invariant c.args.node c.in-Some.slot c.in-Some.ensures.on c.remove.new.self c.remove.ensures
    (sym c.front.ensures.front ∙ c.in-None.is) c.remove-in-None.new.self c.remove-in-None.ensures
