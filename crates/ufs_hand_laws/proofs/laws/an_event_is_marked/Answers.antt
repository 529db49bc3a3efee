use Rattle.ufs_hand_laws.proofs.Asking.{ask_sound}
use Rattle.ufs_hand_laws.proofs.Marking.{remake_sound}
use Rattle.ufs_hand_laws.proofs.laws.an_event_is_marked.Goals as goal

pub returns-clause-ask : goal.returns-clause-ask
returns-clause-ask g c = ask_sound g.P.Promise.shows

pub returns-clause-remake : goal.returns-clause-remake
returns-clause-remake g c k word views i v w o at m = remake_sound c.a_request_keeps_the_tree.ensures g.P.Promise.shows k word views i v w o at m
