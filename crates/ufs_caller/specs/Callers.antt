-- What contracts see of a client.
use Rattle.std.specs.Prelude.{ℕ, ◌≡◌, Bool, List, [], map, Option, Some, None, unwrap_or, if◌then◌else◌}
use Rattle.std.specs.FinMap as fin
use Rattle.ufs_fds.specs.Descriptors.{AreOf, Descs}
use Rattle.ufs_hints.specs.Hints.{Pairs, hint_of, used}
use Rattle.ufs_joint.specs.FileHands.{own_desc}
use Rattle.ufs_model.specs.Asks.{IsAsk, fd_named, file_in}
use Rattle.ufs_model.specs.PosixTree.{PosixTree}
use Rattle.ufs_model.specs.declared.data.Actor.{Actor}
use Rattle.ufs_model.specs.declared.data.Actor.TheVariants.{Primary}
use Rattle.ufs_model.specs.declared.data.Ask.{Ask}
use Rattle.ufs_model.specs.declared.data.Desc.{Desc}
use Rattle.ufs_model.specs.declared.data.Entry.{Entry}
use Rattle.ufs_model.specs.declared.data.Op.{Op}
use Rattle.ufs_msg.specs.Requests.{Asked}
use Rattle.ufs_msg.specs.There.{is_by_hint}
use Rattle.ufs_caller.specs.declared.told.Told.{Told}

-- a request under way
pub record Errand : Type 0 where
  pub request : Op
  -- the server to which it went, or is to go, and those before
  pub to : Actor
  pub via : List Actor
  -- the request itself, where the post gave it back
  pub kept : Option Asked
  -- a server sent it on
  pub is_again : Bool

pub record Caller : Type 0 where
  pub number : ℕ
  pub told : List Told
  pub fds : Descs
  -- requests not yet asked
  pub left : List Op
  pub errand : Option Errand
  pub hints : Pairs
  -- the tickets that its hand has seen; those when it asked, while a request is under way
  pub seen : ℕ

-- a client that has asked nothing
abbrev pub new_caller : ℕ → List Op → ℕ → Caller
new_caller number left seen = record { number = number; told = []; fds = fin.empty; left = left; errand = None; hints = []; seen = seen }

abbrev pub entries_in : List Told → List Entry
entries_in told = map (λ t. t.entry) told

-- ---- what servers are told

-- It is this client's request with this number, with what its descriptors tell.
pub record IsAskBy (number seq : ℕ) (fds : Descs) (request : Op) (ask : Ask) : Type 0 where
  pub client : ask.client ≡ number
  pub seq_is : ask.seq ≡ seq
  pub asked : ask.op ≡ request
  pub desc : ask.desc ≡ own_desc fds (fd_named request)
  -- so are the others that are told, in each tree that has its descriptors
  pub told : (t : PosixTree) → AreOf t.fds number fds → IsAsk t ask

-- ---- where a request goes

-- the file of the request's descriptor
abbrev pub file_asked : Descs → Op → Option ℕ
file_asked fds request = file_in (own_desc fds (fd_named request))

-- the file whose hint the request goes by
abbrev pub file_hinted : Descs → Op → Option ℕ
file_hinted fds request = if is_by_hint request then file_asked fds request else None

abbrev pub server_of_file : Pairs → Option ℕ → Actor
server_of_file hints None = Primary
server_of_file hints (Some file) = unwrap_or (hint_of file hints) Primary

-- the server that the file's hint names; the primary without a hint, and for any other request
abbrev pub server_for : Pairs → Descs → Op → Actor
server_for hints fds request = server_of_file hints (file_hinted fds request)

-- each request on a file that is sent is a use of its hint
abbrev pub used_for : Pairs → Option ℕ → Pairs
used_for hints None = hints
used_for hints (Some file) = used file hints

-- the file whose hint a request goes by, as it is told with it
abbrev pub file_by_hint : Ask → Option ℕ
file_by_hint ask = if is_by_hint ask.op then file_in ask.desc else None

-- the file that an answer speaks of: that of the descriptor afterwards, or where there is none, of the one before
abbrev pub file_answered : Option Desc → Option ℕ → Option ℕ
file_answered None before = before
file_answered (Some desc) before = desc.file
