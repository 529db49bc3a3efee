use Rattle.std.proofs.Common.{ℕ, ap, subst}
use Rattle.ufs_home.specs.Home.{HomeState}
use Rattle.ufs_home.specs.Letters.{RingsGo, letter_of}
use Rattle.ufs_model.specs.declared.data.Actor.TheVariants.{Worker}
use Rattle.ufs_home.proofs.home.Home.send_letters.Goals as goal

pub invariant_of-self : goal.invariant_of-self
invariant_of-self g c =
    let h = c.self.invariant in
    record { all = h.all; each = c.send_boxes.ensures.each; known = c.send_boxes.ensures.known c.self.inside.workers h.known }

pub returns-clause-gone : goal.returns-clause-gone
returns-clause-gone g c =
    let h = c.self.invariant in
    subst (λ (s : HomeState). RingsGo (λ w p m q. g.Q.ServerPost.sends p (Worker w) (letter_of m) q) g.Q.ServerPost.same (λ p w. g.Q.ServerPost.letters_full p (Worker w)) _ s.letters c.send_boxes.new.boxes.items s.owners c.send_boxes.new.owners.files c.args.post.now c.send_boxes.new.post) c.self.view_is
    (subst (λ (n : ℕ). RingsGo (λ w p m q. g.Q.ServerPost.sends p (Worker w) (letter_of m) q) g.Q.ServerPost.same (λ p w. g.Q.ServerPost.letters_full p (Worker w)) n c.self.inside.boxes.items c.send_boxes.new.boxes.items c.self.inside.owners.files c.send_boxes.new.owners.files c.args.post.now c.send_boxes.new.post) h.all c.send_boxes.ensures.gone)

pub returns-clause-places : goal.returns-clause-places
returns-clause-places g c = ap (λ (s : HomeState). s.places) c.self.view_is
