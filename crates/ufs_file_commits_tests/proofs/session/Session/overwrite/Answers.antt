use Rattle.std.proofs.Common.{sym, ◌∙◌}
use Rattle.ufs_file_commits_tests.proofs.Ready.{has_at, is_data_block}
use Rattle.ufs_file_commits_tests.proofs.session.Session.overwrite.Goals as goal

pub write_block-requires-clause-there : goal.write_block-requires-clause-there
write_block-requires-clause-there g c = is_data_block _ _ _ c.requires c.in-Some.block (has_at _ c.args.place c.in-Some.block (sym c.block_number.ensures ∙ c.in-Some.is))
