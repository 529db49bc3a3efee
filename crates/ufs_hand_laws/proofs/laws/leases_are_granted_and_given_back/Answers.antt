use Rattle.ufs_hand_laws.proofs.Leasing.{grant_sound, give_back_sound}
use Rattle.ufs_hand_laws.proofs.laws.leases_are_granted_and_given_back.Goals as goal

pub returns-clause-grant : goal.returns-clause-grant
returns-clause-grant g c k word views i v l o at m = grant_sound g.P.Promise.shows k word views i v o at l m

pub returns-clause-give_back : goal.returns-clause-give_back
returns-clause-give_back g c k word views i v p client o at m = give_back_sound g.P.Promise.shows k word views i v o at p client m
