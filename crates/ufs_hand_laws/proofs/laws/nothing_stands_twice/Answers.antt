use Rattle.ufs_hand_laws.proofs.OneTicket.{draws_take_the_words_ticket}
use Rattle.ufs_hand_laws.proofs.Refused.{parts_once, blocks_once, tickets_once, known_committed}
use Rattle.ufs_hand_laws.proofs.laws.nothing_stands_twice.Goals as goal

pub returns-clause-parts : goal.returns-clause-parts
returns-clause-parts g c = parts_once g.P.Promise.shows

pub returns-clause-blocks : goal.returns-clause-blocks
returns-clause-blocks g c = blocks_once g.P.Promise.shows

pub returns-clause-tickets : goal.returns-clause-tickets
returns-clause-tickets g c = tickets_once g.P.Promise.shows

pub returns-clause-next : goal.returns-clause-next
returns-clause-next g c = draws_take_the_words_ticket g.P.Promise.shows

pub returns-clause-known : goal.returns-clause-known
returns-clause-known g c = known_committed g.P.Promise.shows
