use Rattle.ufs_hand_laws.proofs.Apart.{split_sound, join_sound}
use Rattle.ufs_hand_laws.proofs.laws.hands_are_split_and_joined.Goals as goal

pub returns-clause-split : goal.returns-clause-split
returns-clause-split g c k word views i p v = split_sound g.P.Promise.shows k word views i p v

pub returns-clause-join : goal.returns-clause-join
returns-clause-join g c k word views i j v u = join_sound g.P.Promise.shows k word views i j v u
