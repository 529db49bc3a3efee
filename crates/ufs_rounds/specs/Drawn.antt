-- The entries of a session whose primary alone serves, in the order of turns.
use Rattle.std.specs.Prelude.{ℕ, ◌≡◌, ◌<◌, ◌++◌, List, [], ◌∷◌, length, None, Some, slice_get}
use Rattle.circular_buffer.specs.Buffer.{Buffer}
use Rattle.ufs_caller.specs.Callers.{Caller, entries_in}
use Rattle.ufs_hand_laws.specs.Owned.{Has}
use Rattle.ufs_model.specs.History.{DoTicketsRise, entries_of, joined}
use Rattle.ufs_model.specs.declared.data.Entry.{Entry}
use Rattle.ufs_msg.specs.declared.answer.Answer.{Answer}
use Rattle.ufs_msg.specs.declared.answer.Answer.TheVariants as answer
use Rattle.ufs_rounds.specs.Rest.{IsOverAt}
use Rattle.ufs_rounds.specs.Scripts.{lists_of}
use Rattle.ufs_rounds.specs.Turns.{GlobalState}

module _ {N : Type 0} where
  abbrev pub answered_in : List (Answer N) → List Entry
  answered_in [] = []
  answered_in (answer.Served s ∷ xs) = s.entry ∷ answered_in xs
  answered_in (answer.Redirect r ∷ xs) = answered_in xs

  -- These were drawn, one in a turn: so their tickets rise, and the baton has seen each. A client's are those that it was told, and the one
  -- that is on its way to it.
  pub record HasDrawn (s : GlobalState N) (drawn : List Entry) : Type 0 where
    pub rising : DoTicketsRise drawn
    pub seen : (e : Entry) → Has e drawn → e.ticket < s.seen
    pub whose : (e : Entry) → Has e drawn → e.client < length s.clients
    pub each : (client : ℕ) (c : Caller) (ring : Buffer (Answer N)) → slice_get s.clients client ≡ Some c → slice_get s.rings.answers client ≡ Some ring → entries_of client drawn ≡ entries_in c.told ++ answered_in ring.items

  -- It is this client's time: those before it are over, and those behind it have asked nothing. So the entries stand one client's behind the
  -- other's.
  pub record IsTimeOf (client : ℕ) (s : GlobalState N) (drawn : List Entry) : Type 0 where
    pub low : client < length s.clients
    pub before : (place : ℕ) → place < client → IsOverAt place s.clients
    pub behind : (place : ℕ) (c : Caller) → client < place → slice_get s.clients place ≡ Some c → (c.told ≡ []) × (c.errand ≡ None)
    pub joins : (ring : Buffer (Answer N)) → slice_get s.rings.answers client ≡ Some ring → drawn ≡ joined (lists_of s.clients) ++ answered_in ring.items
