use Rattle.ufs_files_tests.proofs.rows.written.Goals as goal

pub serve-requires-clause-apart : goal.serve-requires-clause-apart
serve-requires-clause-apart c = c.in_ok-hand.ensures.apart c.args.pool.now
