use Rattle.ufs_names.proofs.FileRequestLemmas.{keeps_names}
use Rattle.ufs_names.proofs.laws.a_file_request_keeps_the_names.Goals as goal

pub returns : goal.returns
returns c = keeps_names
