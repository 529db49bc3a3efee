use Rattle.ufs_crash_laws.proofs.Facts.Keeps.{kept_start, kept_explained}
use Rattle.ufs_crash_laws.proofs.StepLemmas.{entries_kept, backs_kept, file_commits_kept, name_commits_kept, unnamed_kept}
use Rattle.ufs_crash_laws.proofs.laws.a_store_keeps_the_promise.Goals as goal

pub returns : goal.returns
returns c = record { opening = kept_start; explained = kept_explained; entry = entries_kept c.a_request_keeps_the_tree.ensures; write_back = backs_kept; file = file_commits_kept; names = name_commits_kept c.a_request_keeps_the_tree.ensures; unnamed = unnamed_kept }
