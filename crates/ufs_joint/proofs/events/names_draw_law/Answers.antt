use Rattle.ufs_joint.proofs.Draws.{lent_requests, name_requests}
use Rattle.ufs_joint.specs.KnownDraws.{NameRequestsStayKept}
use Rattle.ufs_joint.proofs.events.names_draw_law.Goals as goal

names_stay : (c : goal.After-names_law) → NameRequestsStayKept c.args.geometry.now
names_stay c = name_requests c.args.geometry.now c.promise_law.ensures.entry c.an_entry_keeps_what_is_shown.ensures.other c.entry_law.ensures.names c.notes_law.ensures c.names_law.ensures.table c.a_history_goes_by_its_changes.ensures.names

pub returns : goal.returns
returns c = record { names = names_stay c; lent = lent_requests c.args.geometry.now (names_stay c) }
