use Rattle.std.proofs.Common.{◌∙◌, sym, ◌∷◌}
use Rattle.ufs_links.proofs.NodeLemmas.{has_cons, has_here, has_there}
use Rattle.ufs_links.proofs.NumberedLemmas as kept
use Rattle.ufs_links.proofs.numbered.NumberedLists.add_front.Goals as goal

pub slot_of-requires : goal.slot_of-requires
slot_of-requires c = kept.listed_below c.self.inside c.args.self.now c.self.view_is c.self.invariant

pub add_front-requires-clause-list : goal.add_front-requires-clause-list
add_front-requires-clause-list c = kept.slot_there c.self.inside c.args.self.now c.self.view_is c.self.invariant c.args.list c.args.node c.ranges.list.fits c.requires.node c.requires.off (λ xs. c.args.node ∷ xs) (λ xs n h. has_cons n c.args.node xs h) (λ xs. has_here c.args.node xs) (λ xs n h. has_there n c.args.node xs h) c.in-Some.slot (sym c.slot_of.ensures ∙ c.in-Some.is)

pub add_front-requires-clause-node : goal.add_front-requires-clause-node
add_front-requires-clause-node c = kept.place_there c.self.inside c.args.self.now c.self.view_is c.self.invariant c.args.list c.args.node c.ranges.list.fits c.requires.node c.requires.off (λ xs. c.args.node ∷ xs) (λ xs n h. has_cons n c.args.node xs h) (λ xs. has_here c.args.node xs) (λ xs n h. has_there n c.args.node xs h)

pub add_front-requires-clause-off : goal.add_front-requires-clause-off
add_front-requires-clause-off c = kept.off_slots c.self.inside c.args.self.now c.self.view_is c.self.invariant c.args.node c.requires.off

pub invariant_of-self : goal.invariant_of-self
invariant_of-self c = kept.kept_there c.self.inside c.args.self.now c.self.view_is c.self.invariant c.args.list c.args.node c.ranges.list.fits c.requires.node c.requires.off (λ xs. c.args.node ∷ xs) (λ xs n h. has_cons n c.args.node xs h) (λ xs. has_here c.args.node xs) (λ xs n h. has_there n c.args.node xs h) c.in-Some.slot (sym c.slot_of.ensures ∙ c.in-Some.is) c.add_front.new.self c.add_front.ensures

pub returns-in-Some : goal.returns-in-Some
returns-in-Some c = kept.view_there c.self.inside c.args.self.now c.self.view_is c.self.invariant c.args.list c.args.node c.ranges.list.fits c.requires.node c.requires.off (λ xs. c.args.node ∷ xs) (λ xs n h. has_cons n c.args.node xs h) (λ xs. has_here c.args.node xs) (λ xs n h. has_there n c.args.node xs h) c.in-Some.slot (sym c.slot_of.ensures ∙ c.in-Some.is) c.add_front.new.self c.add_front.ensures

pub own_slot-slot-requires : goal.own_slot-slot-requires
own_slot-slot-requires c = kept.own_there c.self.inside c.args.self.now c.self.view_is c.self.invariant c.args.list c.args.node c.ranges.list.fits c.requires.node c.requires.off (λ xs. c.args.node ∷ xs) (λ xs n h. has_cons n c.args.node xs h) (λ xs. has_here c.args.node xs) (λ xs n h. has_there n c.args.node xs h)

pub name_slot-requires-clause-some : goal.name_slot-requires-clause-some
name_slot-requires-clause-some c = kept.some_bucket c.self.inside c.args.self.now c.self.view_is c.self.invariant c.args.list c.args.node c.ranges.list.fits c.requires.node c.requires.off (λ xs. c.args.node ∷ xs) (λ xs n h. has_cons n c.args.node xs h) (λ xs. has_here c.args.node xs) (λ xs n h. has_there n c.args.node xs h) (sym c.slot_of.ensures ∙ c.in-None.is) c.own_slot-slot.result c.own_slot-slot.ensures

pub name_slot-requires-clause-there : goal.name_slot-requires-clause-there
name_slot-requires-clause-there c = kept.own_slot_listed c.self.inside c.args.self.now c.self.view_is c.self.invariant c.args.list c.args.node c.ranges.list.fits c.requires.node c.requires.off (λ xs. c.args.node ∷ xs) (λ xs n h. has_cons n c.args.node xs h) (λ xs. has_here c.args.node xs) (λ xs n h. has_there n c.args.node xs h) (sym c.slot_of.ensures ∙ c.in-None.is) c.own_slot-slot.result c.own_slot-slot.ensures

pub name_slot-requires-clause-numbered : goal.name_slot-requires-clause-numbered
name_slot-requires-clause-numbered c = kept.own_slot_numbered c.self.inside c.args.self.now c.self.view_is c.self.invariant c.args.list c.args.node c.ranges.list.fits c.requires.node c.requires.off (λ xs. c.args.node ∷ xs) (λ xs n h. has_cons n c.args.node xs h) (λ xs. has_here c.args.node xs) (λ xs n h. has_there n c.args.node xs h) (sym c.slot_of.ensures ∙ c.in-None.is) c.own_slot-slot.result c.own_slot-slot.ensures

pub name_slot-requires-clause-off : goal.name_slot-requires-clause-off
name_slot-requires-clause-off c = kept.off_buckets c.self.inside c.args.self.now c.self.view_is c.self.invariant c.args.list c.args.node c.ranges.list.fits c.requires.node c.requires.off (λ xs. c.args.node ∷ xs) (λ xs n h. has_cons n c.args.node xs h) (λ xs. has_here c.args.node xs) (λ xs n h. has_there n c.args.node xs h) (sym c.slot_of.ensures ∙ c.in-None.is) c.own_slot-slot.result c.own_slot-slot.ensures

pub add_front-requires-in-None-clause-list : goal.add_front-requires-in-None-clause-list
add_front-requires-in-None-clause-list c = kept.own_slot_there c.self.inside c.args.self.now c.self.view_is c.self.invariant c.args.list c.args.node c.ranges.list.fits c.requires.node c.requires.off (λ xs. c.args.node ∷ xs) (λ xs n h. has_cons n c.args.node xs h) (λ xs. has_here c.args.node xs) (λ xs n h. has_there n c.args.node xs h) (sym c.slot_of.ensures ∙ c.in-None.is) c.own_slot-slot.result c.own_slot-slot.ensures

pub add_front-requires-in-None-clause-node : goal.add_front-requires-in-None-clause-node
add_front-requires-in-None-clause-node c = kept.place_there c.self.inside c.args.self.now c.self.view_is c.self.invariant c.args.list c.args.node c.ranges.list.fits c.requires.node c.requires.off (λ xs. c.args.node ∷ xs) (λ xs n h. has_cons n c.args.node xs h) (λ xs. has_here c.args.node xs) (λ xs n h. has_there n c.args.node xs h)

pub add_front-requires-in-None-clause-off : goal.add_front-requires-in-None-clause-off
add_front-requires-in-None-clause-off c = kept.off_slots c.self.inside c.args.self.now c.self.view_is c.self.invariant c.args.node c.requires.off

pub invariant_of-self-in-None : goal.invariant_of-self-in-None
invariant_of-self-in-None c = kept.kept_new c.self.inside c.args.self.now c.self.view_is c.self.invariant c.args.list c.args.node c.ranges.list.fits c.requires.node c.requires.off (λ xs. c.args.node ∷ xs) (λ xs n h. has_cons n c.args.node xs h) (λ xs. has_here c.args.node xs) (λ xs n h. has_there n c.args.node xs h) (sym c.slot_of.ensures ∙ c.in-None.is) c.own_slot-slot.result c.own_slot-slot.ensures c.name_slot.new.numbers c.name_slot.new.buckets c.add_front-in-None.new.self c.name_slot.ensures.named c.name_slot.ensures.others c.name_slot.ensures.count c.name_slot.ensures.listed c.add_front-in-None.ensures

pub returns-in-None : goal.returns-in-None
returns-in-None c = kept.view_new c.self.inside c.args.self.now c.self.view_is c.self.invariant c.args.list c.args.node c.ranges.list.fits c.requires.node c.requires.off (λ xs. c.args.node ∷ xs) (λ xs n h. has_cons n c.args.node xs h) (λ xs. has_here c.args.node xs) (λ xs n h. has_there n c.args.node xs h) (sym c.slot_of.ensures ∙ c.in-None.is) c.own_slot-slot.result c.own_slot-slot.ensures c.name_slot.new.numbers c.name_slot.new.buckets c.add_front-in-None.new.self c.name_slot.ensures.named c.name_slot.ensures.others c.name_slot.ensures.count c.name_slot.ensures.listed c.add_front-in-None.ensures
