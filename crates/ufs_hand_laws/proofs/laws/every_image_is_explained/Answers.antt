use Rattle.ufs_hand_laws.proofs.Durable.{store_durable, durable}
use Rattle.ufs_hand_laws.proofs.laws.every_image_is_explained.Goals as goal

pub returns-clause-store : goal.returns-clause-store
returns-clause-store c k word views i v u store o at has visible = store_durable k word v u store has visible (c.a_hand_knows.ensures k word views i v o at)

pub returns-clause-end : goal.returns-clause-end
returns-clause-end c k word views i v o at all visible = durable k word v all.store visible (c.an_end_is_whole.ensures k word views i v o at all)
