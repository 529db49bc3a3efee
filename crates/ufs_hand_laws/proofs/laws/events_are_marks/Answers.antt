use Rattle.ufs_hand_laws.proofs.Happening.Moving.{move_remakes}
use Rattle.ufs_hand_laws.proofs.Happening.Turning.{turn_remakes}
use Rattle.ufs_hand_laws.proofs.Happening.Passing.{pass_remakes}
use Rattle.ufs_hand_laws.proofs.Happening.Telling.{tell_remakes}
use Rattle.ufs_hand_laws.proofs.Happening.FileCommit.{commit_remakes}
use Rattle.ufs_hand_laws.proofs.Happening.NameCommit.{naming_remakes}
use Rattle.ufs_hand_laws.proofs.Happening.Failing.{fail_remakes}
use Rattle.ufs_hand_laws.proofs.Happening.Checking.{checkpoint_remakes}
use Rattle.ufs_hand_laws.proofs.Happening.Answering.{answer_remakes}
use Rattle.ufs_hand_laws.proofs.laws.events_are_marks.Goals as goal

pub returns-clause-moves : goal.returns-clause-moves
returns-clause-moves g c k n v m may = move_remakes g.P.Promise.shows k n v m may

pub returns-clause-turns : goal.returns-clause-turns
returns-clause-turns g c k n v s lent lent_names has l = turn_remakes g.P.Promise.shows k n v s has lent lent_names l

pub returns-clause-passages : goal.returns-clause-passages
returns-clause-passages g c k n v s lent lent_names passage may = pass_remakes g.P.Promise.shows k n v s lent lent_names passage may

pub returns-clause-tells : goal.returns-clause-tells
returns-clause-tells g c k n v s fs may = tell_remakes g.P.Promise.shows k n v s fs may

pub returns-clause-commits : goal.returns-clause-commits
returns-clause-commits g c k n v file x s through state may = commit_remakes g.P.Promise.shows k n v file x s through state may

pub returns-clause-name_commits : goal.returns-clause-name_commits
returns-clause-name_commits g c k n v p s commit may = naming_remakes g.P.Promise.shows k n v p s commit may

pub returns-clause-fails : goal.returns-clause-fails
returns-clause-fails g c k n v s f may = fail_remakes g.P.Promise.shows k n v s f may

pub returns-clause-checkpoints : goal.returns-clause-checkpoints
returns-clause-checkpoints g c k n v p s checkpoint may = checkpoint_remakes g.P.Promise.shows k n v p s checkpoint may

pub returns-clause-answers : goal.returns-clause-answers
returns-clause-answers g c k n v s faults shortages may = answer_remakes g.P.Promise.shows k n v s faults shortages may
