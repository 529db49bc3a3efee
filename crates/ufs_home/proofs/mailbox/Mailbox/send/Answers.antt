use Rattle.std.proofs.Common.{List, subst}
use Rattle.ufs_model.specs.declared.data.Actor.TheVariants.{Worker}
use Rattle.ufs_home.specs.Letters.{LettersGo, Mailed, letter_of}
use Rattle.ufs_home.proofs.mailbox.Mailbox.send.Goals as goal

pub returns-clause-gone : goal.returns-clause-gone
returns-clause-gone g c =
    subst (λ (ms : List Mailed). LettersGo (λ p m q. g.Q.ServerPost.sends p (Worker c.args.to) (letter_of m) q) g.Q.ServerPost.same (λ p. g.Q.ServerPost.letters_full p (Worker c.args.to)) ms c.send_kept.new.letters.items c.args.owners.now.files c.send_kept.new.owners.files c.args.post.now c.send_kept.new.post) c.self.view_is
    c.send_kept.ensures.gone
