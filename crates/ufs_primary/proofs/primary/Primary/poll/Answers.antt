use Rattle.std.proofs.Common.{None, Some, ap, refl, subst}
use Rattle.ufs_at_primary.specs.OfHome.{letter_of}
use Rattle.ufs_model.specs.declared.data.Actor.TheVariants.{Worker}
use Rattle.ufs_msg.specs.There.{client_count, worker_count}
use Rattle.ufs_at_primary.specs.OfServing.{all_said}
use Rattle.ufs_at_primary.specs.Stock.{StockState}
use Rattle.ufs_primary.specs.Primary.{PrimaryState, primary_of}
use Rattle.ufs_primary.specs.Turns.{IsTurn}
use Rattle.ufs_told.specs.Numbers.{most_raised}
use Rattle.ufs_at_primary.proofs.Raised.{raises_still}
use Rattle.ufs_primary.proofs.primary.Primary.poll.Goals as goal

pub returns-in-Some-clause-turn : goal.returns-in-Some-clause-turn
returns-in-Some-clause-turn g c =
    let f = c.self.inside in
    let kept = all_said c.send_answers.new.kept.items in
    subst (λ (s : PrimaryState). IsTurn (λ w p m q. g.Q.ServerPost.sends p (Worker w) (letter_of m) q) (λ p w. g.Q.ServerPost.letters_full p (Worker w)) g.Q.ServerPost.answers g.Q.ServerPost.answers_full g.Q.ServerPost.same (worker_count g.N.Naming.start) (client_count g.N.Naming.start) g.Q.ServerPost.gets_letter g.Q.ServerPost.letters_empty g.Q.ServerPost.gets_ask g.Q.ServerPost.asks_empty
    g.N.Naming.start.is_visible (g.T.Turns.tells c.args.door.now) (g.T.Turns.tells c.args.door.now) c.args.baton.now c.args.baton.now s (primary_of c.take_letter.new.stock c.take_letter.new.coming kept f.waiting.items) c.args.post.now c.take_letter.new.post c.in-Some.turn) c.self.view_is
    (record {
      sent = primary_of c.send_letters.new.self f.coming kept f.waiting.items;
      sent_by = c.send_answers.new.post;
      kept = record { mid = c.send_letters.new.post; letters = c.send_letters.ensures.gone; home = c.send_letters.ensures.rest; answer = c.send_answers.ensures.goes; rest = refl };
      lettered = primary_of c.take_letter.new.stock c.take_letter.new.coming kept f.waiting.items;
      lettered_by = c.take_letter.new.post;
      made = Some c.in-Some.turn;
      letter = record { front = c.in-Some.ensures.front; rest = ap (λ (h : StockState). primary_of h c.take_letter.new.coming kept f.waiting.items) c.take_letter.ensures.rest };
      work = (refl, refl, refl);
    })

pub returns-clause-turn : goal.returns-clause-turn
returns-clause-turn g c =
    let f = c.self.inside in
    let kept = all_said c.send_answers.new.kept.items in
    subst (λ (s : PrimaryState). IsTurn (λ w p m q. g.Q.ServerPost.sends p (Worker w) (letter_of m) q) (λ p w. g.Q.ServerPost.letters_full p (Worker w)) g.Q.ServerPost.answers g.Q.ServerPost.answers_full g.Q.ServerPost.same (worker_count g.N.Naming.start) (client_count g.N.Naming.start) g.Q.ServerPost.gets_letter g.Q.ServerPost.letters_empty g.Q.ServerPost.gets_ask g.Q.ServerPost.asks_empty
    g.N.Naming.start.is_visible (g.T.Turns.tells c.args.door.now) (g.T.Turns.tells c.serve_next.new.door) c.args.baton.now c.serve_next.new.baton s (primary_of c.serve_next.new.stock c.take_letter.new.coming (all_said c.serve_next.new.answers.items) c.serve_next.new.waiting.items) c.args.post.now c.serve_next.new.post c.serve_next.result) c.self.view_is
    (record {
      sent = primary_of c.send_letters.new.self f.coming kept f.waiting.items;
      sent_by = c.send_answers.new.post;
      kept = record { mid = c.send_letters.new.post; letters = c.send_letters.ensures.gone; home = c.send_letters.ensures.rest; answer = c.send_answers.ensures.goes; rest = refl };
      lettered = primary_of c.take_letter.new.stock c.take_letter.new.coming kept f.waiting.items;
      lettered_by = c.take_letter.new.post;
      made = None;
      letter = record { front = c.in_default.ensures.front; rest = ap (λ (h : StockState). primary_of h c.take_letter.new.coming kept f.waiting.items) c.take_letter.ensures.rest };
      work = c.serve_next.ensures.done c.take_letter.new.coming;
    })

pub returns-in-Some-clause-raised : goal.returns-in-Some-clause-raised
returns-in-Some-clause-raised g c = raises_still (g.T.Turns.tells c.args.door.now) (most_raised g.N.Naming.start.geometry)

pub returns-clause-raised : goal.returns-clause-raised
returns-clause-raised g c = c.serve_next.ensures.raised
