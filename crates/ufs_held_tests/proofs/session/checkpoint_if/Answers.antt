use Rattle.ufs_held_tests.proofs.session.checkpoint_if.Goals as goal

pub returns-clause-clients : goal.returns-clause-clients
returns-clause-clients g c = c.checkpoint.ensures.beside.clients

pub returns-clause-pools : goal.returns-clause-pools
returns-clause-pools g c = c.checkpoint.ensures.beside.pools
