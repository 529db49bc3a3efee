use Rattle.std.proofs.Common.{sym, ◌∙◌}
use Rattle.ufs_file_commits_tests.proofs.Ready.{has_at, is_data_block}
use Rattle.ufs_file_commits_tests.proofs.session.Session.read.Goals as goal

pub read_block-requires-clause-there : goal.read_block-requires-clause-there
read_block-requires-clause-there g c = is_data_block _ _ _ c.requires c.in_ok-block.block (has_at _ c.args.place c.in_ok-block.block (sym c.block_number.ensures ∙ c.in_ok-block.was))
