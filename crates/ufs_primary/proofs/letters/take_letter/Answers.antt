use Rattle.std.proofs.Common.{sym}
use Rattle.ufs_primary.proofs.Turning.{front_is, next_is}
use Rattle.ufs_primary.proofs.letters.take_letter.Goals as goal

pub returns-in-Some-clause-front : goal.returns-in-Some-clause-front
returns-in-Some-clause-front g c =
    front_is g.Q.ServerPost.same g.Q.ServerPost.gets_letter g.Q.ServerPost.letters_empty c.args.stock.now.home c.settle.new.stock.home c.settle.new.coming c.args.coming.now c.args.post.now c.settle.result c.in-Some.parcel (sym c.in-Some.ensures.value) c.settle.ensures.settled

pub returns-in-None-clause-front : goal.returns-in-None-clause-front
returns-in-None-clause-front g c =
    next_is g.Q.ServerPost.same g.Q.ServerPost.gets_letter g.Q.ServerPost.letters_empty c.args.stock.now.home c.take_next.new.stock.home c.take_next.new.coming c.args.coming.now c.args.post.now c.take_next.new.post c.take_next.result (sym c.in-None.ensures.value) c.take_next.ensures.next
