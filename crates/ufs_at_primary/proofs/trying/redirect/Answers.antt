use Rattle.std.proofs.Common.{ap, subst, ◌∙◌}
use Rattle.ufs_home.specs.Owning.{server_named}
use Rattle.ufs_msg.specs.There.{IsServerThere}
use Rattle.ufs_msg.specs.declared.answer.Answer.TheVariants as says
use Rattle.ufs_at_primary.proofs.Trials.{by_hint}
use Rattle.ufs_at_primary.proofs.trying.redirect.Goals as goal

pub new-requires : goal.new-requires
new-requires g c = record {
  there = subst (IsServerThere g.N.Naming.start) (c.server_of-server.ensures.is ∙ ap server_named c.requires.has) c.server_of-server.ensures.there;
  may = by_hint c.args.request.ask c.args.file c.requires.kind c.requires.hinted;
}

pub returns : goal.returns
returns g c = ap says.Redirect c.new.ensures
