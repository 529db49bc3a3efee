use Rattle.ufs_hand_laws.proofs.Acknowledged.{explained_show, acknowledged_show}
use Rattle.ufs_hand_laws.proofs.laws.explained_images_show.Goals as goal

pub returns-clause-explained : goal.returns-clause-explained
returns-clause-explained c = explained_show

pub returns-clause-acknowledged : goal.returns-clause-acknowledged
returns-clause-acknowledged c = acknowledged_show
