-- What comes of a request at the primary.
use Rattle.std.specs.Prelude.{ℕ, ◌≡◌, ◌≢◌, ◌≤◌, Bool, true, IfSome, List, Option, Some, None}
use Rattle.std.specs.FinMap as fin
use Rattle.ufs_baton.specs.Baton.{IsToldSince}
use Rattle.ufs_held_names.specs.Asked.{IsNeeded, number_of}
use Rattle.ufs_held_names.specs.SyncAll.{AreAllLive}
use Rattle.ufs_home.specs.Lending.{AreLent, put_all}
use Rattle.ufs_home.specs.Places.{Places, file_here, with_place}
use Rattle.ufs_joint.specs.Cells.{FileCell, View}
use Rattle.ufs_model.specs.declared.data.Actor.TheVariants as actor
use Rattle.ufs_model.specs.declared.data.Ask.{Ask}
use Rattle.ufs_model.specs.declared.data.Op.TheVariants as op
use Rattle.ufs_msg.specs.Answers.{Told}
use Rattle.ufs_msg.specs.Requests.{Asked, HasClientAlone}
use Rattle.ufs_msg.specs.There.{is_by_hint}
use Rattle.ufs_msg.specs.declared.answer.Answer.{Answer}
use Rattle.ufs_msg.specs.declared.answer.Answer.TheVariants as says
use Rattle.ufs_owner.specs.Owners.{owner_at}
use Rattle.ufs_owner.specs.declared.owner.Owner.TheVariants as owner
use Rattle.ufs_crash_laws.specs.Changes.{asks_commit}
use Rattle.ufs_hand_laws.specs.Parts.{ClientPart}
use Rattle.ufs_at_primary.specs.All.{IsAllSynced}
use Rattle.ufs_at_primary.specs.Dirs.{IsDirServed}
use Rattle.ufs_at_primary.specs.Excused.{IsExcusedHere}
use Rattle.ufs_at_primary.specs.Here.{IsServedHere}
use Rattle.ufs_at_primary.specs.Kinds.{IsByNames, IsOnFile, IsOnNone}
use Rattle.ufs_at_primary.specs.Named.{IsNamesServed}
use Rattle.ufs_at_primary.specs.Room.{IsRoomMade}
use Rattle.ufs_at_primary.specs.Stock.{StockState}
use Rattle.ufs_at_primary.specs.declared.tried.Tried.{Tried}
use Rattle.ufs_at_primary.specs.declared.tried.Tried.TheVariants as tried

-- ---- places, while a request of the names is served

-- the file, if there is one, is lent
abbrev pub emptied : Places → Option FileCell → Places
emptied places None = places
emptied places (Some c) = fin.insert places c.value.file.file None

-- and there is a place for a new file of this number
abbrev pub lent_with : Places → Option FileCell → ℕ → Places
lent_with places touched next = with_place (emptied places touched) next

-- a file that was made goes there
abbrev pub made_in : Option FileCell → ℕ → Places → Places
made_in None next places = places
made_in (Some c) next places = fin.insert places next (Some c)

-- the touched file is back in its place, or is no more, and its place goes
abbrev pub back_in : Option FileCell → Option ℕ → Places → Places
back_in (Some c) touched places = fin.insert places c.value.file.file (Some c)
back_in None None places = places
back_in None (Some file) places = fin.remove places file

abbrev pub places_then : Places → ℕ → Option FileCell → Option FileCell → Option FileCell → Places
places_then places next touched still young = back_in still (number_of touched) (made_in young next (lent_with places touched next))

-- ---- what may be away

-- it isn't at the primary
abbrev pub IsOut : StockState → ℕ → Type 0
IsOut s file = owner_at s.home.owners file ≢ owner.Primary

-- A request wants the file: it is on that, which isn't here, and no worker has it to which its client is sent; or it is of the names, and
-- touches the file, which isn't here; or it is a `sync`.
pub data Wants (s : StockState) (ask : Ask) (file : ℕ) : Type 0 where
  OnIt : IsOnFile ask file → file_here s.home.places file ≡ None → (is_by_hint ask.op ≡ true → (worker : ℕ) → owner_at s.home.owners file ≢ owner.Worker worker) → Wants s ask file
  OfNames : IsByNames ask → IsNeeded s.names.value ask (Some file) → file_here s.home.places file ≡ None → Wants s ask file
  OfAll : ask.op ≡ op.Sync → Wants s ask file

-- Why it waits: it wants the file, which is out.
pub record IsAway (s : StockState) (ask : Ask) (file : ℕ) : Type 0 where
  pub out : IsOut s file
  pub wants : Wants s ask file

-- ---- a request is served

module _ (visible : Bool) (before after : Option View) (s t : StockState) (ask : Ask) (told : Told) where
  -- one on a file, with that
  pub record IsOnFileHere : Type 0 where
    pub file : ℕ
    pub kind : IsOnFile ask file
    pub was : FileCell
    pub is : FileCell
    pub here : file_here s.home.places file ≡ Some was
    pub served : IsServedHere visible before after s.names t.names was is s.pool t.pool ask told
    pub home : t.home ≡ record s.home { places = fin.insert s.home.places file (Some is) }

  -- one of the names, with the file that it touches, if it does one
  pub record IsByNamesHere : Type 0 where
    pub kind : IsByNames ask
    pub touched : Option FileCell
    pub still : Option FileCell
    pub young : Option FileCell
    pub needed : IsNeeded s.names.value ask (number_of touched)
    pub here : IfSome touched (λ c. file_here s.home.places c.value.file.file ≡ Some c)
    pub served : IsNamesServed before after s.home.owners s.names t.names touched still young s.pool t.pool ask told
    pub home : t.home ≡ record s.home { places = places_then s.home.places s.names.value.next touched still young }

  -- an `fsync` on no file
  pub record IsOnNoneHere : Type 0 where
    pub kind : IsOnNone ask
    pub served : IsDirServed visible before after s.names t.names ask told
    pub rest : t ≡ record s { names = t.names }

  -- a `sync`, with every live file
  pub record IsAllHere : Type 0 where
    pub kind : ask.op ≡ op.Sync
    pub olds : List FileCell
    pub nows : List FileCell
    pub lent : Places
    pub here : AreLent s.home.places lent olds
    pub all : AreAllLive s.names.value olds
    pub served : IsAllSynced visible before after s.names t.names olds nows ask told
    pub rest : t ≡ record s { names = t.names; home = record s.home { places = put_all lent nows } }

  -- one that is excused for want of memory, or, where it asks for a commit, since the store has stopped: all else is as it was
  pub record IsLackedHere : Type 0 where
    pub excused : IsExcusedHere before after s.home.owners ask told
    pub rest : t ≡ s

pub data IsServed (visible : Bool) (before after : Option View) (s t : StockState) (ask : Ask) (told : Told) : Type 0 where
  OnFile : IsOnFileHere visible before after s t ask told → IsServed visible before after s t ask told
  ByNames : IsByNamesHere visible before after s t ask told → IsServed visible before after s t ask told
  OnNone : IsOnNoneHere visible before after s t ask told → IsServed visible before after s t ask told
  All : IsAllHere visible before after s t ask told → IsServed visible before after s t ask told
  Lacked : IsLackedHere visible before after s t ask told → IsServed visible before after s t ask told

-- Room was made for it before, and then it was served. One that asks for a commit needs none.
pub record IsServedInRoom (visible : Bool) (before after : Option View) (s t : StockState) (ask : Ask) (told : Told) : Type 0 where
  pub between : StockState
  pub then : Option View
  pub room : IsRoomMade visible before then s between
  pub spared : asks_commit ask.op ≡ true → (between ≡ s) × (then ≡ before)
  pub served : IsServed visible then after between t ask told

-- ---- or it isn't

-- The request is the same, with the right of its client.
pub record IsStill (r q : Asked) : Type 0 where
  pub ask : q.ask ≡ r.ask
  pub leases_back : q.leases_back ≡ r.leases_back
  pub hand : (self : ClientPart) → HasClientAlone r.ask.client self r.hand → HasClientAlone r.ask.client self q.hand

module _ {N : Type 0} where
  -- A worker has its file, which isn't here: the answer sends it on there.
  pub record IsSentOn (s : StockState) (r : Asked) (a : Answer N) (file : ℕ) : Type 0 where
    pub kind : IsOnFile r.ask file
    pub hinted : is_by_hint r.ask.op ≡ true
    pub away : file_here s.home.places file ≡ None
    pub worker : ℕ
    pub has : owner_at s.home.owners file ≡ owner.Worker worker
    pub answer : a ≡ says.Redirect (record { request = r; to = actor.Worker worker })

  -- It is served with what is here, or excused.
  abbrev pub IsAnsweredHere : (visible : Bool) (before after : Option View) → StockState → StockState → Asked → Answer N → Type 0
  IsAnsweredHere visible before after s t r a = (told : Told) × (a ≡ says.Served told) × IsServed visible before after s t r.ask told

  -- It is served, or excused for want of memory; or all is as it was, and it is sent on, or is to wait.
  abbrev pub IsTried : (visible : Bool) (before after : Option View) → StockState → StockState → Asked → Tried N → Type 0
  IsTried visible before after s t r (tried.Answered a) = (told : Told) × (a ≡ says.Served told) × IsServedInRoom visible before after s t r.ask told
  IsTried visible before after s t r (tried.Redirected a file) = IsSentOn s r a file × (t ≡ s) × (after ≡ before)
  IsTried visible before after s t r (tried.Away q file) = IsStill r q × IsAway s r.ask file × (t ≡ s) × (after ≡ before)

  -- Where it is served, its entry gets no ticket below this, and the hand that goes back has seen it. Where it is to wait, its hand has seen
  -- as much still.
  abbrev pub IsTriedSince : ℕ → Tried N → Type 0
  IsTriedSince since (tried.Answered a) = IsToldSince since a
  IsTriedSince since (tried.Redirected a file) = Unit {0}
  IsTriedSince since (tried.Away q file) = since ≤ q.hand.seen
