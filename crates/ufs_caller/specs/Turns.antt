-- The turns of a client.
use Rattle.std.specs.Prelude.{ℕ, ◌≤◌, ◌<◌, ◌≡◌, ◌≢◌, ◌⊎◌, Bool, true, false, List, [], ◌∷◌, ◌++◌, length, Option, Some, None}
use Rattle.std.specs.FinMap as fin
use Rattle.ufs_baton.specs.Baton.{IsDrawnWith}
use Rattle.ufs_client.specs.Own.{is_own}
use Rattle.ufs_crash_laws.specs.Changes.{asks_commit}
use Rattle.ufs_fds.specs.Descriptors.{AreOf}
use Rattle.ufs_hints.specs.Hints.{Pairs, hint_of, renewed}
use Rattle.ufs_joint.specs.FileHands.{own_desc}
use Rattle.ufs_model.specs.Asks.{fd_told}
use Rattle.ufs_model.specs.History.{is_excused}
use Rattle.ufs_model.specs.Posix.{posix}
use Rattle.ufs_model.specs.PosixTree.{PosixTree}
use Rattle.ufs_model.specs.declared.data.Actor.{Actor}
use Rattle.ufs_model.specs.declared.data.Actor.TheVariants.{Client, Worker}
use Rattle.ufs_model.specs.declared.data.Entry.{Entry}
use Rattle.ufs_model.specs.declared.data.Errno.{Errno}
use Rattle.ufs_model.specs.declared.data.Op.{Op}
use Rattle.ufs_model.specs.declared.data.Reply.TheVariants.{Refused}
use Rattle.ufs_msg.specs.Answers.{Sent, Told}
use Rattle.ufs_msg.specs.Requests.{Asked}
use Rattle.ufs_msg.specs.There.{MayServe, is_by_hint}
use Rattle.ufs_msg.specs.declared.answer.Answer.{Answer}
use Rattle.ufs_msg.specs.declared.answer.Answer.TheVariants as answer
use Rattle.ufs_caller.specs.Callers.{Caller, Errand, IsAskBy, file_answered, file_asked, server_for, used_for}
use Rattle.ufs_caller.specs.Lists.{IsListed}
use Rattle.ufs_caller.specs.declared.turn.Turn.{Turn}
use Rattle.ufs_caller.specs.declared.turn.Turn.TheVariants as turn

-- in each tree that has the client's descriptors
abbrev pub IsOwn : Bool → Caller → Op → Type 0
IsOwn own a request = (t : PosixTree) → AreOf t.fds a.number a.fds → is_own t a.number request ≡ own

-- ---- a new request

-- The next request isn't one that the client answers itself. It is made, for the server that the client's hints name.
pub record Sends (to : Actor) (r : Asked) (kept : Option Asked) (a b : Caller) : Type 0 where
  pub idle : a.errand ≡ None
  pub request : Op
  pub next : a.left ≡ request ∷ b.left
  pub needs : IsOwn false a request
  pub ask : IsAskBy a.number (length a.told) a.fds request r.ask
  pub server : to ≡ server_for a.hints a.fds request
  pub errand : b.errand ≡ Some (record { request = request; to = to; via = []; kept = kept; is_again = false })
  pub hints : b.hints ≡ used_for a.hints (file_asked a.fds request)
  pub later : a.seen ≤ b.seen
  pub told : b.told ≡ a.told
  pub fds : b.fds ≡ a.fds

-- The client answers its next request itself, as POSIX does. The baton had seen so many tickets, and has.
pub record AnswersItself (since upto : ℕ) (a b : Caller) : Type 0 where
  pub idle : a.errand ≡ None
  pub idle' : b.errand ≡ None
  pub request : Op
  pub next : a.left ≡ request ∷ b.left
  pub own : IsOwn true a request
  pub entry : Entry
  pub told : b.told ≡ a.told ++ record { entry = entry; via = [] } ∷ []
  pub client : entry.client ≡ a.number
  pub seq : entry.seq ≡ length a.told
  pub by : entry.by ≡ Client a.number
  pub later : a.seen ≤ entry.ticket
  pub seen : entry.ticket < b.seen
  pub drawn : IsDrawnWith since upto entry
  pub asked : entry.op ≡ request
  pub reply : (t : PosixTree) → AreOf t.fds a.number a.fds → entry.reply ≡ (posix t a.number request).1
  pub plain : is_excused entry.reply ≡ false
  -- one that asks for a commit is refused
  pub refused : asks_commit request ≡ true → (errno : Errno) × (entry.reply ≡ Refused errno)
  pub fds : (t : PosixTree) → AreOf t.fds a.number a.fds → AreOf (posix t a.number request).0.fds a.number b.fds
  pub hints : b.hints ≡ a.hints

-- ---- a request under way

-- The post gave the request back before. It is tried again.
pub record TriesAgain (to : Actor) (r : Asked) (kept : Option Asked) (again : Bool) (a b : Caller) : Type 0 where
  pub e : Errand
  pub errand : a.errand ≡ Some e
  pub was_kept : e.kept ≡ Some r
  pub was_again : e.is_again ≡ again
  pub to_is : e.to ≡ to
  pub all : b ≡ record a { errand = Some (record e { kept = kept }) }

-- The file's hint is the new one. Where the file had none, that may find no memory.
abbrev pub AreRenewed : Option ℕ → Actor → Pairs → Pairs → Type 0
AreRenewed None owner old new = new ≡ old
AreRenewed (Some file) owner old new = (new ≡ renewed file owner old) ⊎ ((hint_of file old ≡ None) × (new ≡ old))

-- so too where the answer names an owner
abbrev pub AreRenewedBy : Option ℕ → Option Actor → Pairs → Pairs → Type 0
AreRenewedBy file None old new = new ≡ old
AreRenewedBy file (Some owner) old new = AreRenewed file owner old new

-- A server sent the request on, to the one that the file's hint then names. It is the request that was asked, and the server is listed.
pub record SendsOn (x : Sent) (r : Asked) (kept : Option Asked) (a b : Caller) : Type 0 where
  pub e : Errand
  pub errand : a.errand ≡ Some e
  pub sent : e.kept ≡ None
  pub same : r.ask ≡ x.request.ask
  pub ask : IsAskBy a.number (length a.told) a.fds e.request r.ask
  pub may : MayServe x.to r.ask
  pub via : List Actor
  pub listed : IsListed e.via e.to via
  pub errand' : b.errand ≡ Some (record { request = e.request; to = x.to; via = via; kept = kept; is_again = true })
  pub hints : AreRenewed (file_asked a.fds e.request) x.to a.hints b.hints
  pub seen : b.seen ≡ a.seen
  pub told : b.told ≡ a.told
  pub left : b.left ≡ a.left
  pub fds : b.fds ≡ a.fds

-- The request was answered: the answer's entry is the client's next one.
pub record IsAnswered (s : Told) (a b : Caller) : Type 0 where
  pub e : Errand
  pub errand : a.errand ≡ Some e
  pub sent : e.kept ≡ None
  pub idle : b.errand ≡ None
  pub told : b.told ≡ a.told ++ record { entry = s.entry; via = e.via } ∷ []
  pub client : s.entry.client ≡ a.number
  pub seq : s.entry.seq ≡ length a.told
  pub asked : s.entry.op ≡ e.request
  -- no ticket that the client had seen when it asked is above it
  pub later : a.seen ≤ s.entry.ticket
  pub seen : s.entry.ticket < b.seen
  pub others : (fd : ℕ) → fd_told s.entry.op s.entry.reply ≢ Some fd → fin.get b.fds fd ≡ fin.get a.fds fd
  pub desc : own_desc b.fds (fd_told s.entry.op s.entry.reply) ≡ s.desc
  pub left : b.left ≡ a.left
  pub hints : AreRenewedBy (file_answered s.desc (file_asked a.fds e.request)) s.owner a.hints b.hints

-- A request is under way, and its answer isn't there.
pub record IsWaiting (a b : Caller) : Type 0 where
  pub e : Errand
  pub errand : a.errand ≡ Some e
  pub sent : e.kept ≡ None
  pub all : b ≡ a

-- No request is left or under way.
pub record IsOver (a b : Caller) : Type 0 where
  pub idle : a.errand ≡ None
  pub left : a.left ≡ []
  pub all : b ≡ a

-- ---- which turn

abbrev pub kept_if : Bool → Asked → Option Asked
kept_if false r = None
kept_if true r = Some r

-- The client's post, before and after: a request went to a server, an answer was taken, nothing came or went; the ring to a server was
-- full, that of answers was empty.
module _ {P N : Type 0} (asks : P → Actor → Asked → P → Type 0) (gets : P → Answer N → P → Type 0) (same : P → P → Type 0) (full : P → Actor → Type 0) (empty : P → Type 0) where
  -- The request goes to the server, or stays where its ring was full.
  abbrev pub Goes : P → Actor → Asked → Bool → P → Type 0
  Goes p to r false q = asks p to r q
  Goes p to r true q = same p q × full p to

  -- a new request does
  abbrev pub NewGoes : P → Actor → Bool → P → Caller → Caller → Type 0
  NewGoes p to stays q a b = (r : Asked) × Sends to r (kept_if stays r) a b × Goes p to r stays q

  -- one that was kept does
  abbrev pub KeptGoes : P → Actor → Bool → Bool → P → Caller → Caller → Type 0
  KeptGoes p to stays again q a b = (r : Asked) × TriesAgain to r (kept_if stays r) again a b × Goes p to r stays q

  -- one that a server sends on does, in the turn in which that answer is taken
  abbrev pub SentOnGoes : P → Actor → Bool → P → Caller → Caller → Type 0
  SentOnGoes p to stays q a b = (x : Sent) × (r : Asked) × (between : P) × gets p (answer.Redirect x) between × (x.to ≡ to) × SendsOn x r (kept_if stays r) a b × Goes between to r stays q

  -- The baton had seen so many tickets before, and has behind the turn.
  abbrev pub IsTurn : ℕ → ℕ → P → P → Caller → Turn → Caller → Type 0
  IsTurn since upto p q a (turn.Sent to) b = NewGoes p to false q a b ⊎ KeptGoes p to false false q a b
  IsTurn since upto p q a (turn.Resent to) b = SentOnGoes p to false q a b ⊎ KeptGoes p to false true q a b
  IsTurn since upto p q a turn.Local b = AnswersItself since upto a b × (q ≡ p)
  IsTurn since upto p q a turn.Told b = (s : Told) × gets p (answer.Served s) q × IsAnswered s a b
  IsTurn since upto p q a (turn.Full to) b = NewGoes p to true q a b ⊎ (SentOnGoes p to true q a b ⊎ ((again : Bool) × KeptGoes p to true again q a b))
  IsTurn since upto p q a turn.Waiting b = IsWaiting a b × same p q × empty p
  IsTurn since upto p q a turn.Done b = IsOver a b × (q ≡ p)

  -- the last part of a turn: what is kept goes
  abbrev pub IsTry : P → P → Caller → Turn → Caller → Type 0
  IsTry p q a (turn.Sent to) b = KeptGoes p to false false q a b
  IsTry p q a (turn.Resent to) b = KeptGoes p to false true q a b
  IsTry p q a (turn.Full to) b = (again : Bool) × KeptGoes p to true again q a b
  IsTry p q a _ b = ⊥

abbrev pub HasKept : Caller → Type 0
HasKept a = (e : Errand) × (r : Asked) × (a.errand ≡ Some e) × (e.kept ≡ Some r)

abbrev pub HasSent : Caller → Type 0
HasSent a = (e : Errand) × (a.errand ≡ Some e) × (e.kept ≡ None)

-- ---- where a request may go

-- A new request goes to a worker only if it is of the seven kinds that go by a hint, on a file whose hint names that worker.
abbrev pub WorkersGetByHint : Type 0
WorkersGetByHint = (to : Actor) (r : Asked) (kept : Option Asked) (a b : Caller) (s : Sends to r kept a b) (worker : ℕ) → to ≡ Worker worker
    → (is_by_hint s.request ≡ true) × ((file : ℕ) × (file_asked a.fds s.request ≡ Some file) × (hint_of file a.hints ≡ Some (Worker worker)))

-- One that is sent on to a worker is of these kinds too.
abbrev pub WorkersGetNoNames : Type 0
WorkersGetNoNames = (x : Sent) (r : Asked) (kept : Option Asked) (a b : Caller) (s : SendsOn x r kept a b) (worker : ℕ) → x.to ≡ Worker worker → is_by_hint s.e.request ≡ true
