use Rattle.std.proofs.Common.{ap, ◌∙◌}
use Rattle.ufs_home.specs.Home.{HomeState}
use Rattle.ufs_at_primary.specs.Served.{back_in}
use Rattle.ufs_at_primary.proofs.Trials.{still_lent}
use Rattle.ufs_at_primary.proofs.touching.put_after.Goals as goal

pub put_still-requires-clause-lent : goal.put_still-requires-clause-lent
put_still-requires-clause-lent g c = still_lent c.args.file c.args.made c.args.next c.args.home.now c.put_made.new.home c.put_made.ensures c.requires.lent

pub returns : goal.returns
returns g c = c.put_still.ensures ∙ ap (λ (h : HomeState). record h { places = back_in c.args.still c.args.file h.places }) c.put_made.ensures
