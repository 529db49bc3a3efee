-- What a request on a descriptor of a file answers, refuses and changes, by that file's bytes and the descriptor alone.
use Rattle.std.specs.Prelude.{ℕ, ◌+◌, ◌≡◌, List, Bool, true, false, ◌==◌, not, nat_lt, length, is_none, if◌then◌else◌, Option, Some, None, unwrap_or}
use Rattle.std.specs.FinMap as map
use Rattle.ufs_base.specs.Choices.{refused_if, first_of}
use Rattle.ufs_model.specs.PosixTree.{PosixTree}
use Rattle.ufs_model.specs.Descriptors.{with_offset, seek_to, is_offset}
use Rattle.ufs_model.specs.FileBytes.{part, put_at, resized, place_of, is_past, max_size}
use Rattle.ufs_model.specs.Refusals.{refusal, own_refusal, read_refusal, write_refusal, seek_refusal, trunc_refusal}
use Rattle.ufs_model.specs.Asks.{IsDescAfter, desc_of_fd, fd_named}
use Rattle.ufs_model.specs.OpKinds.{is_on_fd}
use Rattle.ufs_model.specs.Posix.{posix}
use Rattle.ufs_model.specs.declared.data.Op.{Op}
use Rattle.ufs_model.specs.declared.data.Op.TheVariants as op
use Rattle.ufs_model.specs.declared.data.Reply.{Reply}
use Rattle.ufs_model.specs.declared.data.Reply.TheVariants.{Done, Count, At, Got, Refused}
use Rattle.ufs_model.specs.declared.data.Errno.{Errno}
use Rattle.ufs_model.specs.declared.data.Errno.TheVariants.{Efbig, Einval, Ebadf}
use Rattle.ufs_model.specs.declared.data.Desc.{Desc}

-- The file has these bytes in the tree: it is this part of the tree.
abbrev pub IsFileIn : PosixTree → ℕ → List ℕ → Type 0
IsFileIn t file bytes = map.get t.bytes file ≡ Some bytes

-- the requests on a descriptor that touch no more than a file and their client
abbrev pub is_on_file : Op → Bool
is_on_file (op.Read fd n) = true
is_on_file (op.Write fd fresh) = true
is_on_file (op.Pread fd n at) = true
is_on_file (op.Pwrite fd fresh at) = true
is_on_file (op.Seek fd from by) = true
is_on_file (op.Trunc fd size) = true
is_on_file (op.Fsync fd) = true
is_on_file _ = false

-- ---- why it is refused

-- by what the descriptor stands for, as the client itself can tell
abbrev pub desc_refusal : Option Desc → Op → Option Errno
desc_refusal d (op.Close fd) = refused_if (is_none d) Ebadf
desc_refusal d (op.Read fd n) = read_refusal d
desc_refusal d (op.Write fd fresh) = write_refusal d
desc_refusal d (op.Pread fd n at) = read_refusal d
desc_refusal d (op.Pwrite fd fresh at) = write_refusal d
desc_refusal d (op.Seek fd from by) = seek_refusal d
desc_refusal d (op.Trunc fd size) = trunc_refusal d
desc_refusal d (op.Fsync fd) = refused_if (is_none d) Ebadf
desc_refusal d _ = None

-- by where it leads
abbrev pub place_refusal : List ℕ → Desc → Op → Option Errno
place_refusal bytes d (op.Write fd fresh) = refused_if (is_past (place_of d bytes) fresh) Efbig
place_refusal bytes d (op.Pwrite fd fresh at) = refused_if (is_past at fresh) Efbig
place_refusal bytes d (op.Seek fd from by) = refused_if (not (is_offset (seek_to from by d (length bytes)))) Einval
place_refusal bytes d (op.Trunc fd size) = refused_if (nat_lt max_size size) Efbig
place_refusal bytes d _ = None

abbrev pub file_refusal : List ℕ → Desc → Op → Option Errno
file_refusal bytes d request = first_of (desc_refusal (Some d) request) (place_refusal bytes d request)

-- ---- what it answers and changes where it isn't refused

abbrev pub file_answer : List ℕ → Desc → Op → Reply
file_answer bytes d (op.Read fd n) = Got (part bytes d.at n)
file_answer bytes d (op.Write fd fresh) = Count (length fresh)
file_answer bytes d (op.Pread fd n at) = Got (part bytes at n)
file_answer bytes d (op.Pwrite fd fresh at) = Count (length fresh)
file_answer bytes d (op.Seek fd from by) = At (unwrap_or (seek_to from by d (length bytes)) 0)
file_answer bytes d _ = Done

-- the descriptor afterwards
abbrev pub desc_after : List ℕ → Desc → Op → Desc
desc_after bytes d (op.Read fd n) = with_offset d (d.at + length (part bytes d.at n))
desc_after bytes d (op.Write fd fresh) = if length fresh == 0 then d else with_offset d (place_of d bytes + length fresh)
desc_after bytes d (op.Seek fd from by) = with_offset d (unwrap_or (seek_to from by d (length bytes)) 0)
desc_after bytes d _ = d

-- the file's bytes afterwards
abbrev pub bytes_after : List ℕ → Desc → Op → List ℕ
bytes_after bytes d (op.Write fd fresh) = if length fresh == 0 then bytes else put_at bytes (place_of d bytes) fresh
bytes_after bytes d (op.Pwrite fd fresh at) = if length fresh == 0 then bytes else put_at bytes at fresh
bytes_after bytes d (op.Trunc fd size) = resized bytes size
bytes_after bytes d _ = bytes

-- ---- all together

-- what a request comes to
pub record Step : Type 0 where
  pub reply : Reply
  pub bytes : List ℕ
  pub desc : Desc

abbrev pub step_by : List ℕ → Desc → Op → Option Errno → Step
step_by bytes d request (Some e) = record { reply = Refused e; bytes = bytes; desc = d }
step_by bytes d request None = record { reply = file_answer bytes d request; bytes = bytes_after bytes d request; desc = desc_after bytes d request }

abbrev pub file_step : List ℕ → Desc → Op → Step
file_step bytes d request = step_by bytes d request (file_refusal bytes d request)

-- A tree goes on by a step of one file and one descriptor of a client, and all else stays.
pub record GoesOnBy (before after : PosixTree) (client : ℕ) (fd : Option ℕ) (file : ℕ) (step : Step) : Type 0 where
  pub bytes : IsFileIn after file step.bytes
  pub others : (f : ℕ) → (f ≡ file → ⊥) → map.get after.bytes f ≡ map.get before.bytes f
  pub desc : IsDescAfter before.fds after.fds client fd (Some step.desc)
  pub paths : after.paths ≡ before.paths
  pub next : after.next ≡ before.next

-- On any tree in which the request's descriptor stands for the file and the file has these bytes, POSIX's reply is the
-- step's, and the tree goes on by that step.
pub record IsStepOf (t : PosixTree) (client : ℕ) (request : Op) (file : ℕ) (step : Step) : Type 0 where
  pub reply : (posix t client request).1 ≡ step.reply
  pub tree : GoesOnBy t (posix t client request).0 client (fd_named request) file step

abbrev pub StepsArePosix : Type 0
StepsArePosix = (t : PosixTree) (client : ℕ) (request : Op) (d : Desc) (file : ℕ) (bytes : List ℕ) → is_on_file request ≡ true
    → desc_of_fd t.fds client (fd_named request) ≡ Some d → d.file ≡ Some file → IsFileIn t file bytes → IsStepOf t client request file (file_step bytes d request)

-- and it is refused exactly where the step is
abbrev pub RefusalsArePosix : Type 0
RefusalsArePosix = (t : PosixTree) (client : ℕ) (request : Op) (d : Desc) (file : ℕ) (bytes : List ℕ) → is_on_file request ≡ true
    → desc_of_fd t.fds client (fd_named request) ≡ Some d → d.file ≡ Some file → IsFileIn t file bytes → refusal t client request ≡ file_refusal bytes d request

-- What a client refuses of the requests on a descriptor is told by what that descriptor stands for.
abbrev pub OwnRefusalsAreByDesc : Type 0
OwnRefusalsAreByDesc = (t : PosixTree) (client : ℕ) (request : Op) → is_on_fd request ≡ true → own_refusal t client request ≡ desc_refusal (desc_of_fd t.fds client (fd_named request)) request
