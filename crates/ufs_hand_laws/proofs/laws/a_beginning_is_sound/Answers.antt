use Rattle.ufs_hand_laws.proofs.Ending.{opens}
use Rattle.ufs_hand_laws.proofs.laws.a_beginning_is_sound.Goals as goal

pub returns : goal.returns
returns g c = opens g.P.Promise.shows
