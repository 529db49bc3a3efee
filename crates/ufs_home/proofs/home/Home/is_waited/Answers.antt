use Rattle.std.proofs.Common.{ap, ◌∙◌}
use Rattle.ufs_owner.specs.Owners.{waiting_at}
use Rattle.ufs_home.specs.Home.{HomeState, is_waited}
use Rattle.ufs_home.proofs.Ordering.{waited_is}
use Rattle.ufs_home.proofs.home.Home.is_waited.Goals as goal

pub returns : goal.returns
returns g c = waited_is c.waiting.result (waiting_at c.self.inside.owners.files c.args.file) c.waiting.ensures.somebody c.waiting.ensures.nobody ∙ ap (λ (h : HomeState). is_waited h.owners c.args.file) c.self.view_is
