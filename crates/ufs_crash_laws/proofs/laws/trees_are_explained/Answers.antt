use Rattle.ufs_crash_laws.proofs.Facts.Explains.{explained_by}
use Rattle.ufs_crash_laws.proofs.Facts.Between.{explained_from_joined, explained_from_more}
use Rattle.ufs_crash_laws.proofs.LawLemmas.{openings, ends, meanwhile}
use Rattle.ufs_crash_laws.proofs.laws.trees_are_explained.Goals as goal

pub returns : goal.returns
returns c = record { numbers = explained_by; opening = openings c.a_request_keeps_the_tree.ensures; end = ends c.a_request_keeps_the_tree.ensures; meanwhile = meanwhile; joined = explained_from_joined; later = explained_from_more }
