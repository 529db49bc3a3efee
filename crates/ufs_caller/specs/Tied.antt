-- What is true of every client: its hand has its transcript and descriptors, or had them when it asked.
use Rattle.std.specs.Prelude.{ℕ, ◌+◌, ◌≤◌, ◌<◌, ◌≡◌, List, length, Option, Some, None, is_some, Contains}
use Rattle.std.specs.List.{AllByRecursion}
use Rattle.ufs_fds.specs.Descriptors.{AreInRange, Descs}
use Rattle.ufs_hints.specs.Hints.{Pairs}
use Rattle.ufs_joint.specs.Cells.{Start, View}
use Rattle.ufs_layout.specs.Areas.{IsGeometry}
use Rattle.ufs_layout.specs.declared.geometry.Geometry.{Geometry}
use Rattle.ufs_model.specs.Bounds.{IsBounded}
use Rattle.ufs_model.specs.PosixTree.{desc_at}
use Rattle.ufs_model.specs.declared.data.Actor.{Actor}
use Rattle.ufs_model.specs.declared.data.Op.{Op}
use Rattle.ufs_msg.specs.Requests.{Asked}
use Rattle.ufs_msg.specs.There.{IsClientThere, IsServerThere, MayHaveServed, MayServe}
use Rattle.ufs_hand_laws.specs.Owned.{Has, one}
use Rattle.ufs_caller.specs.Callers.{Errand, IsAskBy, entries_in, file_asked}
use Rattle.ufs_caller.specs.Hands.{IsAway, IsHome, request_in, tickets_in}
use Rattle.ufs_caller.specs.declared.told.Told.{Told}
use Rattle.ufs_caller.specs.declared.trip.Trip.{Trip}

-- The session's disk has this form.
pub record IsItsForm (k : Start) (geometry : Geometry) : Type 0 where
  pub formed : IsGeometry geometry
  pub its : geometry ≡ k.geometry

-- each hint names a server that is there
abbrev pub AreServersThere : Start → Pairs → Type 0
AreServersThere k hints = (file : ℕ) (server : Actor) → Contains hints (file, server) → IsServerThere k server

-- each of these servers is there
abbrev pub AreListedThere : Start → List Actor → Type 0
AreListedThere k via = (server : Actor) → Has server via → IsServerThere k server

-- The answer is by the client itself, or by a server that is there; and so is each that sent its request on, as far as it is listed.
pub record IsMadeThere (k : Start) (number : ℕ) (x : Told) : Type 0 where
  pub by : MayHaveServed k number x.entry.by
  pub via : AreListedThere k x.via

-- each answer is
abbrev pub AreMadeThere : Start → ℕ → List Told → Type 0
AreMadeThere k number told = (x : Told) → Has x told → IsMadeThere k number x

-- a request that was given back is the one that was asked, and may go where it is to go
pub record MayGo (number seq : ℕ) (table : Descs) (request : Op) (to : Actor) (r : Asked) : Type 0 where
  pub ask : IsAskBy number seq table request r.ask
  pub may : MayServe to r.ask

pub record IsTripTied (k : Start) (number : ℕ) (told : List Told) (table : Descs) (hand : View) (kept : Option Asked) (trip : Trip) : Type 0 where
  pub request : Op
  pub away : IsAway number (entries_in told) table request hand
  pub there : IsServerThere k trip.to
  pub via : AreListedThere k trip.via
  pub file : trip.file ≡ file_asked table request
  pub kept_may : (r : Asked) → kept ≡ Some r → MayGo number (length told) table request trip.to r

-- no request is under way, and the client is at home; or one is
abbrev pub IsPlaceTied : Start → ℕ → List Told → Descs → View → Option Asked → Option Trip → Type 0
IsPlaceTied k number told table hand kept None = IsHome number (entries_in told) table hand × (kept ≡ None)
IsPlaceTied k number told table hand kept (Some trip) = IsTripTied k number told table hand kept trip

pub record IsTied (k : Start) (number : ℕ) (told : List Told) (table : Descs) (left : List Op) (hand : View) (kept : Option Asked) (trip : Option Trip) (hints : Pairs) (room : ℕ) : Type 0 where
  pub low : number < 16
  pub there : IsClientThere k number
  pub closed : (fd : ℕ) → desc_at k.tree number fd ≡ None
  pub ranged : AreInRange table
  pub place : IsPlaceTied k number told table hand kept trip
  pub servers : AreServersThere k hints
  pub made : AreMadeThere k number told
  pub bounded : AllByRecursion IsBounded left
  -- there are 65,536 requests at most, and room for all entries
  pub few : length told + (one (is_some trip) + length left) ≤ 65536
  pub room_is : length told + (one (is_some trip) + length left) ≤ room

-- ---- what contracts see

abbrev pub errand_of : View → Option Asked → Option Trip → Option Errand
errand_of hand kept None = None
errand_of hand kept (Some trip) = Some (record { request = request_in hand.asked; to = trip.to; via = trip.via; kept = kept; is_again = trip.is_again })

abbrev pub seen_of : View → Option Trip → ℕ
seen_of hand None = hand.seen
seen_of hand (Some trip) = tickets_in hand.asked
