-- What stands in the rings of one thread, and what comes and goes in them.
use Rattle.std.specs.Prelude.{ℕ, ◌≡◌, List}
use Rattle.circular_buffer.specs.Buffer.{Buffer}
use Rattle.ufs_joint.specs.Cells.{FileCell}
use Rattle.ufs_model.specs.declared.data.Actor.{Actor}
use Rattle.ufs_msg.specs.Requests.{Asked}
use Rattle.ufs_msg.specs.Rows.{HappensAt, IsSoAt}
use Rattle.ufs_msg.specs.Servers.{AreSame, HappensFor, IsSoFor}
use Rattle.ufs_msg.specs.declared.answer.Answer.{Answer}
use Rattle.ufs_msg.specs.declared.letter.Letter.{Letter}
use Rattle.ufs_msg.specs.declared.servers.PerServer.{PerServer}
use Rattle.ufs_ring.specs.Buffers.{HasGained, HasLost, IsEmpty, IsFull}

-- the servers' rings of requests, and of letters
abbrev pub Requests : Type 0
Requests = PerServer (Buffer Asked) (Buffer Asked)

abbrev pub Letters : Type 0
Letters = PerServer (Buffer (Letter FileCell)) (Buffer (Letter FileCell))

pub record Rings (N : Type 0) : Type 0 where
  -- whose turn it is among the clients, and among the servers
  pub client : ℕ
  pub server : Actor
  pub requests : Requests
  -- that of client 0 first
  pub answers : List (Buffer (Answer N))
  pub letters : Letters

module _ {N : Type 0} where
  abbrev pub rings_of : ℕ → Actor → Requests → List (Buffer (Answer N)) → Letters → Rings N
  rings_of client server requests answers letters = record { client = client; server = server; requests = requests; answers = answers; letters = letters }

  -- nothing came or went
  abbrev pub IsQuiet : Rings N → Rings N → Type 0
  IsQuiet p q = (q.answers ≡ p.answers) × AreSame p.requests q.requests × AreSame p.letters q.letters

  -- ---- of a client

  -- its request went to the server's ring
  abbrev pub Asks : Rings N → Actor → Asked → Rings N → Type 0
  Asks p to r q = HappensFor HasGained HasGained p.requests to r q.requests × (q.answers ≡ p.answers) × AreSame p.letters q.letters

  -- an answer came out of its own
  abbrev pub Hears : Rings N → Answer N → Rings N → Type 0
  Hears p x q = HappensAt HasLost p.answers p.client x q.answers × AreSame p.requests q.requests × AreSame p.letters q.letters

  abbrev pub IsAskFull : Rings N → Actor → Type 0
  IsAskFull p to = IsSoFor IsFull IsFull p.requests to

  abbrev pub HasNoAnswer : Rings N → Type 0
  HasNoAnswer p = IsSoAt IsEmpty p.answers p.client

  -- ---- of a server

  -- an answer went to the client's ring
  abbrev pub Answers : Rings N → ℕ → Answer N → Rings N → Type 0
  Answers p to x q = HappensAt HasGained p.answers to x q.answers × AreSame p.requests q.requests × AreSame p.letters q.letters

  -- a letter went to the server's
  abbrev pub Sends : Rings N → Actor → Letter FileCell → Rings N → Type 0
  Sends p to x q = HappensFor HasGained HasGained p.letters to x q.letters × AreSame p.requests q.requests × (q.answers ≡ p.answers)

  -- a request came out of its own, or a letter
  abbrev pub Gets : Rings N → Asked → Rings N → Type 0
  Gets p r q = HappensFor HasLost HasLost p.requests p.server r q.requests × AreSame p.letters q.letters × (q.answers ≡ p.answers)

  abbrev pub Reads : Rings N → Letter FileCell → Rings N → Type 0
  Reads p x q = HappensFor HasLost HasLost p.letters p.server x q.letters × AreSame p.requests q.requests × (q.answers ≡ p.answers)

  abbrev pub IsAnswerFull : Rings N → ℕ → Type 0
  IsAnswerFull p to = IsSoAt IsFull p.answers to

  abbrev pub IsLetterFull : Rings N → Actor → Type 0
  IsLetterFull p to = IsSoFor IsFull IsFull p.letters to

  abbrev pub HasNoRequest : Rings N → Type 0
  HasNoRequest p = IsSoFor IsEmpty IsEmpty p.requests p.server

  abbrev pub HasNoLetter : Rings N → Type 0
  HasNoLetter p = IsSoFor IsEmpty IsEmpty p.letters p.server
