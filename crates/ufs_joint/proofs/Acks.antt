-- What is known as committed is acknowledged.
use Rattle.std.proofs.Common.{ap, refl}
use Rattle.ufs_model.specs.Laws.{KeepsTrees}
use Rattle.ufs_promise_laws.proofs.EventsGoing.{entries_keep}
use Rattle.ufs_crash_laws.specs.StepLaws.{DirFsyncsAcknowledge, FsyncsAcknowledge}
use Rattle.ufs_store.specs.State.{geometry_of_store}
use Rattle.ufs_promise_laws.specs.Laws.{leaves_tree}
use Rattle.ufs_joint.specs.Acks.{DirsAreAcknowledged, FilesAreAcknowledged}
use Rattle.ufs_joint.proofs.Covering.{dir_acked, file_acked}
use Rattle.ufs_joint.proofs.Drawn.{still, tree_stays}

pub file_acknowledged : KeepsTrees → FsyncsAcknowledge → FilesAreAcknowledged
file_acknowledged trees acks s start history entry p known fd file legal is named it =
    let keeps = entries_keep trees (geometry_of_store s) in
    still (geometry_of_store s) keeps s start history entry known refl legal p (tree_stays (geometry_of_store s) keeps s start history entry known refl legal (ap leaves_tree is)) (λ k c. file_acked start history entry k known c acks fd file is named it)

pub dir_acknowledged : KeepsTrees → DirFsyncsAcknowledge → DirsAreAcknowledged
dir_acknowledged trees acks s start history entry p known fd legal is named it =
    let keeps = entries_keep trees (geometry_of_store s) in
    still (geometry_of_store s) keeps s start history entry known refl legal p (tree_stays (geometry_of_store s) keeps s start history entry known refl legal (ap leaves_tree is)) (λ k c. dir_acked start history entry k known c acks fd is named it)
