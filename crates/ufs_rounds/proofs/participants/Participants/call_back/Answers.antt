use Rattle.std.proofs.Common.{◌∙◌, ap, inl, inr, refl, arith}
use Rattle.ufs_rounds.specs.Moves.{first_lack}
use Rattle.ufs_rounds.specs.Turns.{state_of}
use Rattle.ufs_rounds.specs.View.{global_of, rings_in}
use Rattle.ufs_rounds.proofs.Calling.{has_called, next_called, none_called}
use Rattle.ufs_rounds.proofs.participants.Participants.call_back.Goals as goal

pub loop-file-init : goal.loop-file-init
loop-file-init g c = record { calls = none_called g.N.Naming.start (global_of c.args.self.now (g.T.Turns.tells c.args.door.now)); clients = refl }

pub loop-file-preserved : goal.loop-file-preserved
loop-file-preserved g c =
    let l = c.loop-file in
    let t = g.T.Turns in
    record {
      calls = next_called g.N.Naming.start (global_of c.args.self.now (t.tells c.args.door.now)) l.file l.called c.count_called-called.result l.lack c.first_of-lack.result (global_of l.self (t.tells l.door))
          (state_of l.self.clients.items l.self.workers.items c.order-ordered.new.self (rings_in l.self.post) l.self.baton (t.tells c.order-ordered.new.door)) c.order-ordered.result l.invariant.calls (record {
            ordered = c.order-ordered.ensures.ordered;
            rest = λ i. state_of l.self.clients.items l.self.workers.items (c.order-ordered.ensures.rest i) (rings_in l.self.post) l.self.baton (c.order-ordered.ensures.called refl i);
          }) c.count_called-called.ensures (c.first_of-lack.ensures ∙ ap (first_lack l.lack) c.order_lack.ensures);
      clients = l.invariant.clients;
    }

pub returns-then-called-out : goal.returns-then-called-out
returns-then-called-out g c =
    let l = c.loop-file in
    let t = g.T.Turns in
    record {
      called = has_called g.N.Naming.start (global_of c.args.self.now (t.tells c.args.door.now)) l.file l.called l.lack (global_of l.self (t.tells l.door)) l.invariant.calls (inl (c.if-called-out.true ∙ c.count_out-out.ensures));
      clients = l.invariant.clients;
    }

pub returns : goal.returns
returns g c =
    let l = c.loop-file in
    let t = g.T.Turns in
    let high = l.auto.file-end in
    let low = c.loop-file-test.false in
    record {
      called = has_called g.N.Naming.start (global_of c.args.self.now (t.tells c.args.door.now)) l.file l.called l.lack (global_of l.self (t.tells l.door)) l.invariant.calls (inr (omega (arith, high, low)));
      clients = l.invariant.clients;
    }
