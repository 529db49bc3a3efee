-- The files that a request touches, and of one that was found whether it does.
use Rattle.std.specs.Prelude.{ℕ, ◌≡◌, ◌↔◌, List, [], ◌∷◌, Contains, Bool, true, false, Option, Some, None, IsSome, if◌then◌else◌}
use Rattle.std.specs.FinMap as map
use Rattle.ufs_files.specs.Files.{Files}
use Rattle.ufs_model.specs.PosixTree.{PosixTree}
use Rattle.ufs_model.specs.Touched as touched
use Rattle.ufs_model.specs.declared.data.Op.{Op}
use Rattle.ufs_model.specs.declared.data.Op.TheVariants as op
use Rattle.ufs_model.specs.declared.data.PartName.{PartName}
use Rattle.ufs_model.specs.declared.data.PartName.TheVariants as part
use Rattle.ufs_names.specs.NamesPart.{Holdings, holding_of, is_kept, without_holder, without_name}
use Rattle.ufs_names.specs.declared.holding.Holding.{Holding}

-- ---- of a tree

-- These are the live files of those parts, and no others.
abbrev pub AreFilesIn : PosixTree → List PartName → List ℕ → Type 0
AreFilesIn t parts files = (f : ℕ) → Contains files f ↔ (touched.IsPartOf parts (part.File f) × IsSome (map.get t.bytes f))

-- This is the only live file of those parts, or none is.
abbrev pub IsFileIn : PosixTree → List PartName → Option ℕ → Type 0
IsFileIn t parts file = (f : ℕ) → (file ≡ Some f) ↔ (touched.IsPartOf parts (part.File f) × IsSome (map.get t.bytes f))

-- the hands of these are here
abbrev pub AreHere : List ℕ → Files → Type 0
AreHere files fs = (f : ℕ) → Contains files f → IsSome (map.get fs f)

-- the one file, or none
abbrev pub listed : Option ℕ → List ℕ
listed None = []
listed (Some file) = file ∷ []

-- ---- of what is known of files

-- the file, where this is known of it and nothing keeps it
abbrev pub unkept : Holding → ℕ → Option ℕ
unkept h file = if is_kept h then None else Some file

-- the file, where nothing keeps it without its name
abbrev pub unkept_unnamed : Holdings → Option ℕ → Option ℕ
unkept_unnamed held None = None
unkept_unnamed held (Some file) = unkept (without_name (holding_of held file)) file

-- the file, where nothing keeps it without the client, of which this was the last descriptor of it
abbrev pub unkept_closed : Holdings → ℕ → Bool → Option ℕ → Option ℕ
unkept_closed held client last None = None
unkept_closed held client false (Some file) = None
unkept_closed held client true (Some file) = unkept (without_holder (holding_of held file) client) file

-- of a file that was found by a request that isn't refused
abbrev pub needed_found : Holdings → Op → Option ℕ → Option ℕ
needed_found held (op.OpenFile path read write creat excl trunc append) file = if trunc then file else None
needed_found held (op.Unlink path) file = unkept_unnamed held file
needed_found held (op.Stat path) file = file
needed_found held _ file = None
