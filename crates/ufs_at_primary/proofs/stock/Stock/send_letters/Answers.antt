use Rattle.std.proofs.Common.{ap, subst, ◌∙◌}
use Rattle.ufs_home.specs.Letters.{RingsGo, letter_of}
use Rattle.ufs_model.specs.declared.data.Actor.TheVariants.{Worker}
use Rattle.ufs_msg.specs.There.{worker_count}
use Rattle.ufs_at_primary.specs.Stock.{StockState, stock_of}
use Rattle.ufs_at_primary.proofs.AtHome.{here_gone}
use Rattle.ufs_at_primary.proofs.stock.Stock.send_letters.Goals as goal

pub invariant_of-self : goal.invariant_of-self
invariant_of-self g c =
    let h = c.self.invariant in
    let f = c.self.inside in
    record {
      formed = h.formed;
      its = h.its;
      numbers = h.numbers;
      hand = h.hand;
      few = h.few;
      here = here_gone (λ w p m q. g.Q.ServerPost.sends p (Worker w) (letter_of m) q) g.Q.ServerPost.same (λ p w. g.Q.ServerPost.letters_full p (Worker w)) (worker_count g.N.Naming.start) f.names f.home c.send_letters.new.self c.args.post.now c.send_letters.new.post
          c.send_letters.ensures.gone c.send_letters.ensures.places h.here;
    }

pub returns-clause-gone : goal.returns-clause-gone
returns-clause-gone g c =
    subst (λ (s : StockState). RingsGo (λ w p m q. g.Q.ServerPost.sends p (Worker w) (letter_of m) q) g.Q.ServerPost.same (λ p w. g.Q.ServerPost.letters_full p (Worker w)) (worker_count g.N.Naming.start) s.home.letters c.send_letters.new.self.letters s.home.owners c.send_letters.new.self.owners c.args.post.now c.send_letters.new.post)
    c.self.view_is c.send_letters.ensures.gone

pub returns-clause-rest : goal.returns-clause-rest
returns-clause-rest g c =
    let f = c.self.inside in
    let new = c.send_letters.new.self in
    (λ i. stock_of f.names (record new { places = c.send_letters.ensures.places i }) f.pool) ∙ ap (λ (s : StockState). record s { home = record s.home { owners = new.owners; letters = new.letters } }) c.self.view_is
