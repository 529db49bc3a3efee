-- The parts of a tree, and which of them a request touches.
use Rattle.std.specs.Prelude.{ℕ, List, [], ◌∷◌, ◌≡◌, ◌⊎◌, ◌==◌, Bool, ◌&&◌, map, if◌then◌else◌, Option, Some, None, is_some, ⊤}
use Rattle.std.specs.List.{list_any}
use Rattle.std.specs.FinMap as fin
use Rattle.ufs_model.specs.Paths.{whole_of}
use Rattle.ufs_model.specs.PosixTree.{PosixTree, Fds, desc_at, is_desc_of, is_live}
use Rattle.ufs_model.specs.Walk.{node_at, file_of}
use Rattle.ufs_model.specs.Descriptors.{opened}
use Rattle.ufs_model.specs.Refusals.{own_refusal, refusal}
use Rattle.ufs_model.specs.Posix.{change}
use Rattle.ufs_model.specs.declared.data.Op.{Op}
use Rattle.ufs_model.specs.declared.data.Op.TheVariants as op
use Rattle.ufs_model.specs.declared.data.Whence.TheVariants as whence
use Rattle.ufs_model.specs.declared.data.PartName.{PartName}
use Rattle.ufs_model.specs.declared.data.PartName.TheVariants as part

-- ---- what a part has

-- a descriptor of the client is of the file
abbrev pub holds : Fds → ℕ → ℕ → Bool
holds fds client file = list_any (λ e. (e.0.0 == client) && is_desc_of file e.1) (fin.entries fds)

-- The part has the same in both trees: a client its descriptors, a file its bytes, and the names the paths, the next
-- file number, and which client holds which file.
abbrev pub IsSamePart : PartName → PosixTree → PosixTree → Type 0
IsSamePart (part.Client client) t u = (fd : ℕ) → desc_at t client fd ≡ desc_at u client fd
IsSamePart (part.Asked client) t u = ⊤
IsSamePart (part.File file) t u = fin.get t.bytes file ≡ fin.get u.bytes file
IsSamePart part.Names t u = (t.paths ≡ u.paths) × (t.next ≡ u.next) × ((client file : ℕ) → holds t.fds client file ≡ holds u.fds client file)
IsSamePart part.Store t u = ⊤

-- ---- which parts a request touches

-- the part is one of these
abbrev pub IsPartOf : List PartName → PartName → Type 0
IsPartOf [] part = ⊥
IsPartOf (other ∷ others) part = (part ≡ other) ⊎ IsPartOf others part

-- the part of a file
abbrev pub file_part : Option ℕ → List PartName
file_part None = []
file_part (Some file) = part.File file ∷ []

-- the file of a request on a descriptor; a directory is among the names
abbrev pub open_part : Option ℕ → List PartName
open_part None = part.Names ∷ []
open_part (Some file) = part.File file ∷ []

-- the file, where it goes with the request
abbrev pub dropped_part : PosixTree → Option ℕ → List PartName
dropped_part after None = []
dropped_part after (Some file) = if is_live after.paths after.fds file then [] else part.File file ∷ []

-- the file that an `open` makes or cuts
abbrev pub opened_part : ℕ → Bool → Option ℕ → Bool → List PartName
opened_part next stands None trunc = if stands then [] else part.File next ∷ []
opened_part next stands (Some file) trunc = if trunc then part.File file ∷ [] else []

-- the file at a path, where a request drops it
abbrev pub replaced_part : PosixTree → ℕ → Op → List ℕ → List PartName
replaced_part t client request whole = dropped_part (change t client request) (file_of (fin.get t.paths whole))

-- what a request that its client can't refuse touches besides its client
abbrev pub reached : PosixTree → ℕ → Op → List PartName
reached t client (op.OpenFile path read write creat excl trunc append) =
    part.Names ∷ (if is_some (refusal t client (op.OpenFile path read write creat excl trunc append)) then [] else opened_part t.next (is_some (node_at t.paths path)) (file_of (node_at t.paths path)) trunc)
reached t client (op.Close fd) = part.Names ∷ dropped_part (change t client (op.Close fd)) (opened t client fd).file
reached t client (op.Read fd n) = file_part (opened t client fd).file
reached t client (op.Write fd data') = file_part (opened t client fd).file
reached t client (op.Pread fd n at) = file_part (opened t client fd).file
reached t client (op.Pwrite fd data' at) = file_part (opened t client fd).file
reached t client (op.Seek fd whence.Set by) = []
reached t client (op.Seek fd whence.Cur by) = []
reached t client (op.Seek fd whence.End by) = file_part (opened t client fd).file
reached t client (op.Trunc fd size) = file_part (opened t client fd).file
reached t client (op.Fsync fd) = open_part (opened t client fd).file
reached t client op.Sync = part.Names ∷ map (λ file. part.File file) (fin.keys t.bytes)
reached t client (op.Mkdir path) = part.Names ∷ []
reached t client (op.Rmdir path) = part.Names ∷ []
reached t client (op.Unlink path) =
    part.Names ∷ (if is_some (refusal t client (op.Unlink path)) then [] else replaced_part t client (op.Unlink path) (whole_of path))
reached t client (op.Rename from to) =
    part.Names ∷ (if is_some (refusal t client (op.Rename from to)) then [] else replaced_part t client (op.Rename from to) (whole_of to))
reached t client (op.Stat path) = part.Names ∷ file_part (file_of (node_at t.paths path))
reached t client (op.List path) = part.Names ∷ []

-- Each request touches its client, and where the client can't refuse it what it reaches.
abbrev pub touched_parts : PosixTree → ℕ → Op → List PartName
touched_parts t client request = part.Client client ∷ (if is_some (own_refusal t client request) then [] else reached t client request)
