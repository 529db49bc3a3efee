use Rattle.std.proofs.Common.{◌∷◌, ap, arith, sym, ◌∙◌}
use Rattle.ufs_model.specs.declared.data.Actor.TheVariants.{Worker}
use Rattle.ufs_home.specs.Letters.{Mailed, letter_of}
use Rattle.ufs_home.proofs.Going.{all_gone, goes_on, some_left}
use Rattle.ufs_home.proofs.Lending.{no_items}
use Rattle.ufs_home.proofs.sending.send_kept.Goals as goal

pub loop-letter-preserved : goal.loop-letter-preserved
loop-letter-preserved g c =
    let n = c.in-Some.ensures.cases in
    let b = c.loop-letter.invariant.fewer in
    record {
      gone = goes_on (λ p m q. g.Q.ServerPost.sends p (Worker c.args.to) (letter_of m) q) g.Q.ServerPost.same (λ p. g.Q.ServerPost.letters_full p (Worker c.args.to)) c.args.letters.now.items c.loop-letter.letters.items c.pop_front.new.self.items c.in-Some.letter
          c.args.owners.now.files c.loop-letter.owners.files c.send_one.new.owners.files c.args.post.now c.loop-letter.post c.send_one.new.post
          c.loop-letter.invariant.gone c.in-Some.ensures.items c.in_default-send_one.ensures.sent.0 c.in_default-send_one.ensures.sent.1;
      fewer = omega (arith, n, b);
      capacity = c.pop_front.ensures.capacity ∙ c.loop-letter.invariant.capacity;
      known = λ workers all. c.send_one.ensures.known workers (c.loop-letter.invariant.known workers all);
      me = c.send_one.ensures.me ∙ c.loop-letter.invariant.me;
    }

pub returns-in-Err-clause-known : goal.returns-in-Err-clause-known
returns-in-Err-clause-known g c = λ workers all. c.send_one.ensures.known workers (c.loop-letter.invariant.known workers all)

pub returns-in-Err-clause-gone : goal.returns-in-Err-clause-gone
returns-in-Err-clause-gone g c =
    let back = c.in-Err.ensures.sent in
    some_left (λ p m q. g.Q.ServerPost.sends p (Worker c.args.to) (letter_of m) q) g.Q.ServerPost.same (λ p. g.Q.ServerPost.letters_full p (Worker c.args.to)) c.args.letters.now.items c.loop-letter.letters.items c.push_front_reserved.new.self.items c.pop_front.new.self.items c.in-Some.letter
    c.args.owners.now.files c.loop-letter.owners.files c.send_one.new.owners.files c.args.post.now c.loop-letter.post c.send_one.new.post
    c.loop-letter.invariant.gone c.in-Some.ensures.items (c.push_front_reserved.ensures.items ∙ ap (λ (m : Mailed). m ∷ c.pop_front.new.self.items) back.0) back.1 back.2 back.3

pub returns-clause-gone : goal.returns-clause-gone
returns-clause-gone g c =
    let none = no_items c.pop_front.new.self.items (sym c.pop_front.new.self.ok.0 ∙ c.in_default.ensures.cases.1) in
    all_gone (λ p m q. g.Q.ServerPost.sends p (Worker c.args.to) (letter_of m) q) g.Q.ServerPost.same (λ p. g.Q.ServerPost.letters_full p (Worker c.args.to)) c.args.letters.now.items c.loop-letter.letters.items c.pop_front.new.self.items
    c.args.owners.now.files c.loop-letter.owners.files c.args.post.now c.loop-letter.post c.loop-letter.invariant.gone (c.in_default.ensures.items ∙ none) none
