use Rattle.ufs_hand_laws.proofs.Clocking.{look_sound, tick_sound}
use Rattle.ufs_hand_laws.proofs.laws.the_clock_is_read_and_moved.Goals as goal

pub returns-clause-look : goal.returns-clause-look
returns-clause-look g c = look_sound g.P.Promise.shows

pub returns-clause-tick : goal.returns-clause-tick
returns-clause-tick g c k word views i v by n o at has = tick_sound g.P.Promise.shows k word views i v o at by n has
