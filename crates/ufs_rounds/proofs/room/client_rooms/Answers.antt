use Rattle.std.proofs.Common.{◌++◌, List, ◌∷◌, length, ap, sym, ◌∙◌, arith}
use Rattle.std.proofs.lemmas.List.{append-nil}
use Rattle.ufs_model.specs.declared.data.Op.{Op}
use Rattle.ufs_rounds.proofs.Places.{no_items}
use Rattle.ufs_rounds.proofs.Together.{length_push, push_on}
use Rattle.ufs_rounds.proofs.room.client_rooms.Goals as goal

pub loop-script-init : goal.loop-script-init
loop-script-init c =
    let gives = c.into_iter-script-iterator.ensures.into_iter_gives.0 in
    let few = ap length gives in
    let items = c.in_ok-rooms.ensures.items in
    let none = ap length items in
    let room = c.in_ok-rooms.ensures.capacity in
    let len = c.len.ensures in
    let count = c.into_vec-scripts.result.ok.0 in
    record {
      all = (λ i. items i ++ gives i) ∙ c.into_vec-scripts.ensures.value;
      room = omega (arith, few, none, room, len, count);
    }

pub loop-script-preserved : goal.loop-script-preserved
loop-script-preserved c =
    let l = c.loop-script in
    let room : List Op = c.in_ok-room.room in
    let rest : List (List Op) = c.next.new.self.rest.items in
    let next = c.in-Some.ensures.steps.0 in
    let items = c.push_reserved.ensures.items in
    let long = ap length items ∙ length_push l.rooms.items room in
    let fewer = ap length next in
    let wide = c.push_reserved.ensures.capacity in
    let fits = l.invariant.room in
    record {
      all = (λ i. items i ++ rest)
          ∙ push_on l.rooms.items room rest
          ∙ (λ i. l.rooms.items ++ ((c.in_ok-room.ensures ∙ c.from_vec-left.ensures.items ∙ c.into_vec.ensures.value) i ∷ rest))
          ∙ (λ i. l.rooms.items ++ sym next i)
          ∙ l.invariant.all;
      room = omega (arith, long, fewer, wide, fits);
    }

pub returns : goal.returns
returns c =
    let l = c.loop-script in
    let rest = l.script-iterator.rest in
    let none = no_items rest.items (sym rest.ok.0 ∙ c.in-None.ensures.steps.0) in
    sym (append-nil l.rooms.items) ∙ (λ i. l.rooms.items ++ sym none i) ∙ l.invariant.all
