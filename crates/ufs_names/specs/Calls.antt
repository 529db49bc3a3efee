-- What the namespace answers, and how its part, the files that it is lent and the pool go on.
use Rattle.std.specs.Prelude.{ℕ, ◌≡◌, ◌≢◌, ◌⊎◌, ◌==◌, ◌&&◌, ◌||◌, [], true, Option, Some, None, IsSome, is_some}
use Rattle.std.specs.FinMap as map
use Rattle.ufs_file.specs.Content.{no_content}
use Rattle.ufs_file.specs.Hand.{FileState}
use Rattle.ufs_files.specs.Files.{Files, AreSizedAs}
use Rattle.ufs_model.specs.PosixTree.{PosixTree}
use Rattle.ufs_model.specs.Asks.{IsAsk, IsDescAfter, fd_told, file_in}
use Rattle.ufs_model.specs.FileCalls.{is_on_file}
use Rattle.ufs_model.specs.Posix.{posix}
use Rattle.ufs_model.specs.Touched as touched
use Rattle.ufs_model.specs.Touched.{touched_parts}
use Rattle.ufs_model.specs.declared.data.Ask.{Ask}
use Rattle.ufs_model.specs.declared.data.Desc.{Desc}
use Rattle.ufs_model.specs.declared.data.PartName.TheVariants as part
use Rattle.ufs_model.specs.declared.data.Reply.{Reply}
use Rattle.ufs_names.specs.NamesPart.{NamesPart, Holdings, IsNamesPart}
use Rattle.ufs_names.specs.declared.holding.Holding.{Holding}

-- ---- before

-- The namespace serves it: it isn't a request on a descriptor of a file that touches that file alone.
abbrev pub IsOfNames : Ask → Type 0
IsOfNames ask = is_on_file ask.op ≡ true → file_in ask.desc ≡ None

-- Of each live file that the request touches the hand is here.
abbrev pub AreGathered : PosixTree → Ask → Files → Type 0
AreGathered t ask fs = (f : ℕ) → touched.IsPartOf (touched_parts t ask.client ask.op) (part.File f) → IsSome (map.get t.bytes f) → IsSome (map.get fs f)

-- The part and what the client tells are the tree's, the files have the sizes that it has for them, and of its files those
-- that the request touches are here.
pub record IsAsked (t : PosixTree) (n : NamesPart) (ask : Ask) (fs : Files) : Type 0 where
  pub part : IsNamesPart n t
  pub asked : IsAsk t ask
  pub files : AreSizedAs fs t
  pub gathered : AreGathered t ask fs

-- ---- afterwards

-- a file without a byte
abbrev pub no_bytes : ℕ → ℕ → FileState
no_bytes file inode = record { file = file; inode = inode; extents = []; content = no_content }

-- a file without a byte in the tree too
abbrev pub HasNoByte : PosixTree → ℕ → ℕ → FileState → Type 0
HasNoByte t file inode s = (s ≡ no_bytes file inode) × (map.get t.bytes file ≡ Some [])

-- A file that stays is as it was, with the bytes that the tree had for it, or was emptied; the one that is new has no byte.
-- Of those that are here, and the new one, just the live ones are here.
pub record FilesGoOn (before after : PosixTree) (old new : Files) : Type 0 where
  pub here : (f : ℕ) → is_some (map.get new f) ≡ ((is_some (map.get old f) || (f == before.next)) && is_some (map.get after.bytes f))
  pub stays : (f : ℕ) (s r : FileState) → map.get old f ≡ Some s → map.get new f ≡ Some r → ((r ≡ s) × (map.get after.bytes f ≡ map.get before.bytes f)) ⊎ HasNoByte after f s.inode r
  pub born : (f : ℕ) (r : FileState) → map.get old f ≡ None → map.get new f ≡ Some r → HasNoByte after f r.inode r
  -- and no file changes that isn't here
  pub others : (f : ℕ) → map.get old f ≡ None → f ≢ before.next → map.get after.bytes f ≡ map.get before.bytes f

-- the request touches the file
abbrev pub IsTouched : PosixTree → Ask → ℕ → Type 0
IsTouched t ask f = touched.IsPartOf (touched_parts t ask.client ask.op) (part.File f)

-- The reply is POSIX's on the tree, the part and the files go on with the tree, and the files have its sizes still; this is
-- what the request's descriptor stands for afterwards.
pub record IsServed (t : PosixTree) (ask : Ask) (new : NamesPart) (fs fs' : Files) (reply : Reply) (desc : Option Desc) : Type 0 where
  pub replied : reply ≡ (posix t ask.client ask.op).1
  pub goes_on : IsNamesPart new (posix t ask.client ask.op).0
  pub files : AreSizedAs fs' (posix t ask.client ask.op).0
  pub told : IsDescAfter t.fds (posix t ask.client ask.op).0.fds ask.client (fd_told ask.op reply) desc
  pub go_on : FilesGoOn t (posix t ask.client ask.op).0 fs fs'
  -- a file that the request doesn't touch is as it was
  pub untouched : (f : ℕ) → (IsTouched t ask f → ⊥) → map.get fs' f ≡ map.get fs f

-- Each file that is here has the inode that is told of it.
abbrev pub HaveInodes : Holdings → Files → Type 0
HaveInodes held fs = (f : ℕ) (s : FileState) (h : Holding) → map.get fs f ≡ Some s → map.get held f ≡ Some h → s.inode ≡ h.inode

-- Each file that was live and still is has the inode that it had, whoever has its hand.
abbrev pub KeepInodes : (old new : Holdings) → Type 0
KeepInodes old new = (f : ℕ) (h k : Holding) → map.get old f ≡ Some h → map.get new f ≡ Some k → k.inode ≡ h.inode
