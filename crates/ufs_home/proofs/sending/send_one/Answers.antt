use Rattle.std.proofs.Common.{refl, subst, ◌∙◌}
use Rattle.ufs_joint.specs.Cells.{FileCell}
use Rattle.ufs_model.specs.declared.data.Actor.TheVariants.{Worker}
use Rattle.ufs_msg.specs.declared.letter.Letter.{Letter}
use Rattle.ufs_home.proofs.Knowing.{left_is}
use Rattle.ufs_home.proofs.sending.send_one.Goals as goal

pub of_letter-requires : goal.of_letter-requires
of_letter-requires g c = let e = c.in-Err.ensures.sent in (c.args.letter, e.0 ∙ c.into_letter.ensures)

pub returns-in-Ok-clause-sent : goal.returns-in-Ok-clause-sent
returns-in-Ok-clause-sent g c = (
  subst (λ (l : Letter FileCell). g.Q.ServerPost.sends c.args.post.now (Worker c.args.to) l c.send.new.self) c.into_letter.ensures c.in-Ok.ensures.sent,
  c.leave.ensures.owners ∙ left_is c.args.owners.now.files c.args.letter c.file-file.result c.has_file-goes.result c.file-file.ensures c.has_file-goes.ensures,
)

pub returns-in-Err-clause-sent : goal.returns-in-Err-clause-sent
returns-in-Err-clause-sent g c = let e = c.in-Err.ensures.sent in (c.of_letter.ensures c.args.letter (e.0 ∙ c.into_letter.ensures), refl, e.1, e.2)
