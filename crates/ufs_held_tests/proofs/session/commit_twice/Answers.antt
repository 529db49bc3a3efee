use Rattle.std.proofs.Common.{◌∙◌}
use Rattle.ufs_held_tests.proofs.Gathering.{same_held}
use Rattle.ufs_held_tests.proofs.session.commit_twice.Goals as goal

pub returns-clause-held : goal.returns-clause-held
returns-clause-held g c =
    let one = c.commit-first in
    let two = c.commit-second in
    let visible = g.N.Naming.start.is_visible in
    same_held visible two.result one.new.self two.new.self two.ensures.ok two.ensures.err ∙ same_held visible one.result c.args.names.now one.new.self one.ensures.ok one.ensures.err

pub returns-clause-clients : goal.returns-clause-clients
returns-clause-clients g c = c.commit-second.ensures.beside.clients ∙ c.commit-first.ensures.beside.clients

pub returns-clause-pools : goal.returns-clause-pools
returns-clause-pools g c = c.commit-second.ensures.beside.pools ∙ c.commit-first.ensures.beside.pools
