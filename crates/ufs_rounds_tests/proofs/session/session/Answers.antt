use Rattle.ufs_rounds_tests.proofs.session.session.Goals as goal

pub play-requires-clause-start : goal.play-requires-clause-start
play-requires-clause-start g c = (c.requires.mounted.0, _, c.requires.mounted.1.start)
