use Rattle.std.proofs.Common.{◌≡◌, ℕ, suc, ◌+◌, ◌++◌, length, List, ◌∷◌, ap, sym, subst, ◌∙◌, arith}
use Rattle.std.proofs.lemmas.List.{append-nil}
use Rattle.ufs_caller.specs.Callers.{Caller}
use Rattle.ufs_joint.specs.Cells.{View}
use Rattle.ufs_model.specs.declared.data.Op.{Op}
use Rattle.ufs_rounds.specs.Dealing.{AreIdleFrom, HaveAskedNothing}
use Rattle.ufs_rounds.specs.Numbers.{AreClients}
use Rattle.ufs_rounds.specs.Scripts.{script_of, scripts_of}
use Rattle.ufs_rounds.proofs.Dealt.{idle_further, none_numbered, nothing_push, numbers_push}
use Rattle.ufs_rounds.proofs.Places.{no_items}
use Rattle.ufs_rounds.proofs.Together.{length_push, map_push, push_on}
use Rattle.ufs_rounds.proofs.dealing.deal_clients.Goals as goal

pub loop-room-init : goal.loop-room-init
loop-room-init g c =
    let gives = c.into_iter-room-iterator.ensures.into_iter_gives.0 in
    let few = ap length gives in
    let none = ap length c.requires.none in
    let room = c.requires.room in
    record {
      numbers = subst AreClients (sym c.requires.none) (none_numbered (λ (x : Caller). x.number) (λ i. i));
      scripts = λ i. scripts_of (c.requires.none i) ++ gives i;
      all = omega (arith, few, none);
      room = omega (arith, few, none, room);
      nothing = subst HaveAskedNothing (sym c.requires.none) tt;
      idle = subst (λ (n : ℕ). AreIdleFrom n (length c.args.rooms.items) c.args.hand.now) (sym none) c.requires.idle;
    }

pub deal_client-client-requires-clause-low : goal.deal_client-client-requires-clause-low
deal_client-client-requires-clause-low g c =
    let l = c.loop-room in
    let long = c.len-number.ensures in
    let count = l.clients.ok.0 in
    let fewer = ap length c.in-Some.ensures.steps.0 in
    let all = l.invariant.all in
    let few = c.requires.few in
    omega (arith, long, count, fewer, all, few)

pub deal_client-client-requires-clause-there : goal.deal_client-client-requires-clause-there
deal_client-client-requires-clause-there g c =
    let l = c.loop-room in
    let long = c.len-number.ensures in
    let count = l.clients.ok.0 in
    let fewer = ap length c.in-Some.ensures.steps.0 in
    let all = l.invariant.all in
    let every = c.requires.all in
    omega (arith, long, count, fewer, all, every)

pub deal_client-client-requires-clause-idle : goal.deal_client-client-requires-clause-idle
deal_client-client-requires-clause-idle g c =
    let l = c.loop-room in
    let long = c.len-number.ensures in
    let count = l.clients.ok.0 in
    let fewer = ap length c.in-Some.ensures.steps.0 in
    let all = l.invariant.all in
    l.invariant.idle c.len-number.result (omega (arith, long, count)) (omega (arith, long, count, fewer, all))

pub loop-room-preserved : goal.loop-room-preserved
loop-room-preserved g c =
    let l = c.loop-room in
    let client : Caller = c.deal_client-client.result in
    let made = c.deal_client-client.ensures.client in
    let rest : List (List Op) = c.next.new.self.rest.items in
    let next = c.in-Some.ensures.steps.0 in
    let items = c.push_reserved.ensures.items in
    let long = ap length items ∙ length_push l.clients.items client in
    let fewer = ap length next in
    let all = l.invariant.all in
    let room = l.invariant.room in
    let wide = c.push_reserved.ensures.capacity in
    let count = l.clients.ok.0 in
    let len = c.len-number.ensures in
    let number : c.len-number.result ≡ length l.clients.items = omega (arith, len, count) in
    let left = c.deal_client-client.ensures.left in
    record {
      numbers = subst AreClients (sym items) (numbers_push (λ (x : Caller). x.number) (λ i. i) l.clients.items client l.invariant.numbers (ap (λ (x : Caller). x.number) made.1 ∙ number));
      scripts = (λ i. scripts_of (items i) ++ rest)
          ∙ (λ i. map_push script_of l.clients.items client i ++ rest)
          ∙ push_on (scripts_of l.clients.items) (script_of client) rest
          ∙ (λ i. scripts_of l.clients.items ++ (script_of (made.1 i) ∷ rest))
          ∙ (λ i. scripts_of l.clients.items ++ sym next i)
          ∙ l.invariant.scripts;
      all = omega (arith, long, fewer, all);
      room = omega (arith, long, fewer, room, wide);
      nothing = subst HaveAskedNothing (sym items) (nothing_push l.clients.items client l.invariant.nothing (ap (λ (x : Caller). x.told) made.1) (ap (λ (x : Caller). x.errand) made.1) (ap (λ (x : Caller). x.hints) made.1));
      idle = subst (λ (x : ℕ × View). AreIdleFrom x.0 (length c.args.rooms.items) x.1) (λ i. ((ap suc number ∙ sym long) i, sym left i))
          (idle_further c.dealt_law.ensures.others c.len-number.result (length c.args.rooms.items) l.hand (subst (λ (n : ℕ). AreIdleFrom n (length c.args.rooms.items) l.hand) (sym number) l.invariant.idle));
    }

pub returns-clause-all : goal.returns-clause-all
returns-clause-all g c =
    let rest = c.loop-room.room-iterator.rest in
    let none = ap length (no_items rest.items (sym rest.ok.0 ∙ c.in-None.ensures.steps.0)) in
    let all = c.loop-room.invariant.all in
    omega (arith, none, all)

pub returns-clause-scripts : goal.returns-clause-scripts
returns-clause-scripts g c =
    let rest = c.loop-room.room-iterator.rest in
    let none = no_items rest.items (sym rest.ok.0 ∙ c.in-None.ensures.steps.0) in
    sym (append-nil (scripts_of c.loop-room.clients.items)) ∙ (λ i. scripts_of c.loop-room.clients.items ++ sym none i) ∙ c.loop-room.invariant.scripts
