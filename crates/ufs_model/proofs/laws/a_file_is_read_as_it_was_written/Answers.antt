use Rattle.ufs_model.proofs.ReadLemmas.{written_read, appended_read}
use Rattle.ufs_model.proofs.laws.a_file_is_read_as_it_was_written.Goals as goal

pub returns-clause-at_a_place : goal.returns-clause-at_a_place
returns-clause-at_a_place c = written_read

pub returns-clause-at_the_offset : goal.returns-clause-at_the_offset
returns-clause-at_the_offset c = appended_read
