use Rattle.std.proofs.Common.{◌++◌, List, length, ap, sym, ◌∙◌, arith}
use Rattle.std.proofs.lemmas.List.{append-nil}
use Rattle.ufs_rounds.specs.OfCaller.{entries_in}
use Rattle.ufs_rounds.specs.OfCaller.{Told}
use Rattle.ufs_model.specs.declared.data.Entry.{Entry}
use Rattle.ufs_engine.proofs.Rooms.{length_push, no_items, push_on}
use Rattle.ufs_engine.proofs.asked.entries_of.Goals as goal

pub loop-one-init : goal.loop-one-init
loop-one-init c =
    let gives = c.into_iter-one-iterator.ensures.into_iter_gives.0 in
    let none = c.requires.none in
    let few = ap length gives in
    let short = ap length none in
    let room = c.requires.enough in
    record {
      all = λ i. none i ++ entries_in (gives i);
      room = omega (arith, few, short, room);
    }

pub loop-one-preserved : goal.loop-one-preserved
loop-one-preserved c =
    let l = c.loop-one in
    let entry : Entry = c.in-Some.one.entry in
    let rest : List Told = c.next.new.self.rest.items in
    let next = c.in-Some.ensures.steps.0 in
    let items = c.push_reserved.ensures.items in
    let long = ap length items ∙ length_push l.entries.items entry in
    let fewer = ap length next in
    let wide = c.push_reserved.ensures.capacity in
    let fits = l.invariant.room in
    record {
      all = (λ i. items i ++ entries_in rest) ∙ push_on l.entries.items entry (entries_in rest) ∙ (λ i. l.entries.items ++ entries_in (sym next i)) ∙ l.invariant.all;
      room = omega (arith, long, fewer, wide, fits);
    }

pub returns : goal.returns
returns c =
    let l = c.loop-one in
    let rest = l.one-iterator.rest in
    let none = no_items rest.items (sym rest.ok.0 ∙ c.in-None.ensures.steps.0) in
    c.from_vec.ensures ∙ sym (append-nil l.entries.items) ∙ (λ i. l.entries.items ++ entries_in (sym none i)) ∙ l.invariant.all
