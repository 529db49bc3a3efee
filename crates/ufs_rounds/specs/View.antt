-- What contracts see of those that take part.
use Rattle.std.specs.Prelude.{Option}
use Rattle.ufs_joint.specs.Cells.{FileCell, View}
use Rattle.ufs_msg.specs.declared.letter.Letter.{Letter}
use Rattle.ufs_msg.specs.declared.plain.PlainPost.{PlainPost}
use Rattle.ufs_rounds.specs.Rings.{Rings, rings_of}
use Rattle.ufs_rounds.specs.Turns.{GlobalState, state_of}
use Rattle.ufs_rounds.specs.declared.participants.Participants.{Participants}

-- What stands in the rings. The type of the session `n` has no name outside of its crate.
abbrev pub rings_in : {A : Type 0} {n : _} → PlainPost A (Letter FileCell) n → Rings A
rings_in p = rings_of p.client p.server p.requests p.clients.items p.letters

-- and the store's cell, where the way to it tells that
abbrev pub global_of : {A : Type 0} {n : _} → Participants A n → Option View → GlobalState A
global_of p store = state_of p.clients.items p.workers.items p.primary (rings_in p.post) p.baton store
