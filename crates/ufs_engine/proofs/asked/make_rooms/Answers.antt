use Rattle.std.proofs.Common.{◌≡◌, ◌+◌, ℕ, suc, List, length, take, ap, sym, subst, ◌∙◌, arith}
use Rattle.std.proofs.lemmas.Option.{slice_get_read}
use Rattle.std.specs.Global.{Vec}
use Rattle.ufs_model.specs.declared.data.Entry.{Entry}
use Rattle.ufs_model.specs.declared.data.Op.{Op}
use Rattle.ufs_engine.specs.Asked.{AreRoomsFor}
use Rattle.ufs_engine.proofs.Rooms.{length_push, rooms_more, take_whole}
use Rattle.ufs_engine.proofs.asked.make_rooms.Goals as goal

pub loop-client-preserved : goal.loop-client-preserved
loop-client-preserved c =
    let l = c.loop-client in
    let room : Vec Entry = c.in_ok-room.room in
    let script : List Op = c.client-item.result in
    let items = c.push_reserved.ensures.items in
    let long = ap length items ∙ length_push l.rooms.items room in
    let all = l.invariant.all in
    let fits = l.invariant.room in
    let wide = c.push_reserved.ensures.capacity in
    let next : suc l.client-index ≡ l.client-index + 1 = omega arith in
    let at = slice_get_read c.args.clients.now (length c.args.clients.now) l.client-index script (omega arith) (omega arith) c.client-item.is in
    record {
      are = subst (λ (n : ℕ). AreRoomsFor (take n c.args.clients.now) c.push_reserved.new.self.items) next
          (subst (AreRoomsFor (take (suc l.client-index) c.args.clients.now)) (sym items)
          (rooms_more c.args.clients.now l.client-index script l.rooms.items room at (record { none = c.in_ok-room.ensures.items; enough = (let same = ap length c.as_slice.ensures.value in let wide_one = c.in_ok-room.ensures.capacity in omega (arith, same, wide_one)) }) l.invariant.are));
      all = omega (arith, long, all);
      room = omega (arith, fits, wide);
    }

pub returns : goal.returns
returns c = let l = c.loop-client in subst (λ (xs : List (List Op)). AreRoomsFor xs l.rooms.items) (take_whole c.args.clients.now l.client-index (let past = c.loop-client-test.false in omega (arith, past))) l.invariant.are
