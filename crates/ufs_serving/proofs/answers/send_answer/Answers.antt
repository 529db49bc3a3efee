use Rattle.ufs_serving.proofs.Answering.{said_stays, said_went}
use Rattle.ufs_serving.proofs.answers.send_answer.Goals as goal

pub returns-clause-went : goal.returns-clause-went
returns-clause-went g c =
    said_went g.Q.ServerPost.answers g.Q.ServerPost.same g.Q.ServerPost.answers_full c.args.answer c.answer.new.answer c.client-client.result c.args.post.now c.answer.new.self c.client-client.ensures.of c.answer.ensures.went

pub returns-clause-stays : goal.returns-clause-stays
returns-clause-stays g c =
    said_stays g.Q.ServerPost.answers g.Q.ServerPost.same g.Q.ServerPost.answers_full c.args.answer c.answer.new.answer c.client-client.result c.args.post.now c.answer.new.self c.client-client.ensures.of c.answer.ensures.stays
