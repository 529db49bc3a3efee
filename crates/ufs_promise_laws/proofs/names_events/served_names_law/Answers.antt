use Rattle.ufs_promise_laws.proofs.Numbers.{parts_now}
use Rattle.ufs_promise_laws.proofs.Serving.{pools_may_lend, served_is_request}
use Rattle.ufs_promise_laws.proofs.Sounds.{request_sound}
use Rattle.ufs_promise_laws.proofs.names_events.served_names_law.Goals as goal

pub returns-clause-lends : goal.returns-clause-lends
returns-clause-lends c = pools_may_lend

pub returns-clause-request : goal.returns-clause-request
returns-clause-request c = served_is_request

pub returns-clause-parts : goal.returns-clause-parts
returns-clause-parts c t u p next lent left r = parts_now t u p next lent left r

pub returns-clause-sound : goal.returns-clause-sound
returns-clause-sound c = request_sound
