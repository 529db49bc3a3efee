use Rattle.std.proofs.Common.{ℕ, ◌+◌, ◌++◌, eqb, length, map, List, [], ◌∷◌, ap, sym, subst, ◌∙◌, arith}
use Rattle.std.specs.declared.alloc.Global.{Global}
use Rattle.std.specs.declared.vec.Vec.{Vec}
use Rattle.ufs_caller.specs.Callers.{Caller, entries_in}
use Rattle.ufs_caller.specs.declared.told.Told.{Told}
use Rattle.ufs_caller.specs.Hands.{IsHome}
use Rattle.ufs_joint.specs.FirstHand.{client_of, each_of}
use Rattle.ufs_gathered.specs.Gathered.{AreHome, clients_in}
use Rattle.ufs_joint.specs.Cells.{View}
use Rattle.ufs_model.specs.declared.data.Entry.{Entry}
use Rattle.ufs_caller.specs.Tied.{AreMadeThere}
use Rattle.ufs_rounds.specs.Made.{AreAllMadeThere}
use Rattle.ufs_rounds.specs.Rest.{AreDoneFrom}
use Rattle.ufs_rounds.specs.Scripts.{lists_of}
use Rattle.ufs_hand_laws.specs.Owned.{count}
use Rattle.ufs_hand_laws.specs.Whole.{idle_client}
use Rattle.ufs_rounds.proofs.Together.{home_push, length_map, length_push, made_push, map_push, one_further, push_on}
use Rattle.ufs_rounds.proofs.gathering.gather_clients.Goals as goal

pub loop-client-init : goal.loop-client-init
loop-client-init g c =
    let gives = c.into_iter-client-iterator.ensures.into_iter_gives.0 in
    let told = c.requires.none_told in
    let hands = c.requires.no_hand in
    let few = ap length gives in
    let none = ap length told in
    let room = c.requires.room in
    let told_room = c.requires.told_room in
    record {
      done = subst (λ (k : ℕ). AreDoneFrom k c.into_iter-client-iterator.result.rest.items) (sym none) (subst (AreDoneFrom 0) (sym gives) c.requires.done);
      home = subst (λ (x : List (List Entry) × List View). AreHome x.0 x.1) (λ i. (map (λ (t : Vec Told Global). entries_in t.items) (sym told i), sym hands i)) tt;
      told = λ i. map (λ (t : Vec Told Global). entries_in t.items) (told i) ++ lists_of (gives i);
      made = subst (λ (ts : List (Vec Told Global)). AreAllMadeThere g.N.Naming.start (map (λ (t : Vec Told Global). t.items) ts)) (sym told) tt;
      counts = λ n. ap (λ (vs : List View). count eqb n (clients_in vs)) hands ∙ sym (ap (λ (k : ℕ). count eqb n (each_of client_of idle_client k)) none);
      long = ap length hands ∙ sym none;
      all = omega (arith, few, none);
      room = omega (arith, few, room);
      told_room = omega (arith, few, told_room);
    }

pub into_parts-hand-requires : goal.into_parts-hand-requires
into_parts-hand-requires g c = record { idle = (subst (AreDoneFrom (length c.loop-client.told.items)) c.in-Some.ensures.steps.0 c.loop-client.invariant.done).1 }

pub loop-client-preserved : goal.loop-client-preserved
loop-client-preserved g c =
    let l = c.loop-client in
    let client : Caller = c.in-Some.client in
    let rest : List Caller = c.next.new.self.rest.items in
    let next = c.in-Some.ensures.steps.0 in
    let parts = c.into_parts-hand in
    let k : ℕ = length l.told.items in
    let f = λ (t : Vec Told Global). entries_in t.items in
    let answers = λ (t : Vec Told Global). t.items in
    let d = subst (AreDoneFrom k) next l.invariant.done in
    let grown = ap length c.push_reserved-in-loop-client.ensures.items ∙ length_push l.told.items parts.result.1 in
    let longer = ap length c.push_reserved.ensures.items ∙ length_push l.hands.items parts.result.0 in
    let fewer = ap length next in
    let same = ap entries_in parts.ensures.told in
    let listed = ap (map f) c.push_reserved-in-loop-client.ensures.items ∙ map_push f l.told.items parts.result.1 in
    let home : IsHome client.number (entries_in client.told) client.fds parts.result.0 = parts.ensures.home in
    let long = l.invariant.long in
    let all = l.invariant.all in
    let room = l.invariant.room in
    let told_room = l.invariant.told_room in
    let a = c.push_reserved.ensures.len in
    let b = c.push_reserved.ensures.capacity in
    let a' = c.push_reserved-in-loop-client.ensures.len in
    let b' = c.push_reserved-in-loop-client.ensures.capacity in
    let tall = length_map f l.told.items in
    let as_tall = length_map answers l.told.items in
    let all_listed = ap (map answers) c.push_reserved-in-loop-client.ensures.items ∙ map_push answers l.told.items parts.result.1 in
    record {
      done = subst (λ (n : ℕ). AreDoneFrom n rest) (sym grown) d.2;
      home = subst (λ (x : List (List Entry) × List View). AreHome x.0 x.1) (λ i. (sym listed i, sym c.push_reserved.ensures.items i))
          (home_push 0 (map f l.told.items) l.hands.items (f parts.result.1) parts.result.0 k l.invariant.home (omega (arith, tall))
          (client.fds, subst (λ (x : ℕ × List Entry). IsHome x.0 x.1 client.fds parts.result.0) (λ i. (d.0 i, sym same i)) home));
      told = (λ i. listed i ++ lists_of rest) ∙ push_on (map f l.told.items) (f parts.result.1) (lists_of rest) ∙ (λ i. map f l.told.items ++ (same i ∷ lists_of rest)) ∙ (λ i. map f l.told.items ++ lists_of (sym next i)) ∙ l.invariant.told;
      made = subst (AreAllMadeThere g.N.Naming.start) (sym all_listed)
          (made_push g.N.Naming.start 0 (map answers l.told.items) (answers parts.result.1) k l.invariant.made (omega (arith, as_tall))
          (subst (λ (x : ℕ × List Told). AreMadeThere g.N.Naming.start x.0 x.1) (λ i. (d.0 i, sym parts.ensures.told i)) parts.ensures.made));
      counts = λ n.
          ap (λ (vs : List View). count eqb n (clients_in vs)) c.push_reserved.ensures.items
          ∙ one_further (λ (v : View). v.clients) client_of idle_client home.self l.hands.items parts.result.0 k (home.both.clients ∙ (λ i. (d.0 i, home.self) ∷ [])) l.invariant.counts n
          ∙ ap (λ (m : ℕ). count eqb n (each_of client_of idle_client m)) (sym grown);
      long = omega (arith, grown, longer, long);
      all = omega (arith, grown, fewer, all);
      room = omega (arith, fewer, room, a, b);
      told_room = omega (arith, fewer, told_room, a', b');
    }

pub returns-clause-home : goal.returns-clause-home
returns-clause-home g c = c.loop-client.invariant.home

pub returns-clause-made : goal.returns-clause-made
returns-clause-made g c = c.loop-client.invariant.made
