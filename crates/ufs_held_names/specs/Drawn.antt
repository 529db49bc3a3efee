-- What a draw leaves of the names at a server, of the files that a request of them touches or makes, and of what came with it.
use Rattle.std.specs.Prelude.{ℕ, suc, cond, false, List, [], ◌∷◌, Option, Some, None}
use Rattle.std.specs.FinMap as fin
use Rattle.ufs_bitmap.specs.Blocks.{BlockSet}
use Rattle.ufs_file_commits.specs.State.{state_of}
use Rattle.ufs_file.specs.Hand.{FileState}
use Rattle.ufs_model.specs.Asks.{fd_told}
use Rattle.ufs_model.specs.History.{is_excused}
use Rattle.ufs_model.specs.declared.data.Desc.{Desc}
use Rattle.ufs_model.specs.declared.data.PartName.TheVariants.{File}
use Rattle.ufs_hand_laws.specs.Owned.{each}
use Rattle.ufs_hand_laws.specs.Parts.{OwnFds}
use Rattle.ufs_hand_laws.specs.declared.fresh.Fresh.{Fresh}
use Rattle.ufs_promise_laws.specs.Parts.{committed_as}
use Rattle.ufs_joint.specs.Cells.{FileCell, NamesCell, View, given_of, kept_of}
use Rattle.ufs_joint.specs.Draws.{Leaves}
use Rattle.ufs_held.specs.Drawn.{first_fds}
use Rattle.ufs_held.specs.Held.{first_cell}
use Rattle.ufs_noted.specs.Noted.{Noted}
use Rattle.ufs_noted.specs.declared.known.KnownFile.{KnownFile}

-- the descriptors where that one stands for this, or for nothing
abbrev pub fds_told : OwnFds → Option ℕ → Option Desc → OwnFds
fds_told fds None d = fds
fds_told fds (Some fd) None = fin.remove fds fd
fds_told fds (Some fd) (Some d) = fin.insert fds fd d

-- the names with this, once they changed
abbrev pub names_then : Noted → ℕ → NamesCell → NamesCell
names_then x ticket c = record c { value = x.names; fresh = x.fresh; dropped = x.dropped; changed = suc ticket }

-- the cell of a new file, of whose commits nothing is known
abbrev pub new_cell : FileState → ℕ → FileCell
new_cell s ticket = record { value = state_of s (committed_as s); changed = suc ticket; known = 0; born = false }

abbrev pub new_cells : Option FileState → ℕ → List (ℕ × FileCell)
new_cells None ticket = []
new_cells (Some s) ticket = (s.file, new_cell s ticket) ∷ []

-- the cell of the touched file, if it is still there
abbrev pub next_cell : KnownFile → ℕ → FileCell → FileCell
next_cell k ticket c = record c { value = state_of k.hand k.commits; changed = suc ticket }

abbrev pub next_cells : Option KnownFile → List (ℕ × FileCell) → ℕ → List (ℕ × FileCell)
next_cells None cells ticket = []
next_cells (Some k) cells ticket = each (λ _ c. next_cell k ticket c) cells

-- An excuse leaves all as it is; else the names have this then, the pool these blocks, the request's descriptor is that, and these are the
-- files.
abbrev pub names_left : Fresh → View → Noted → BlockSet → Option Desc → (ℕ → List (ℕ × FileCell)) → ℕ → Leaves
names_left f v x left desc files ticket = record {
  fds = cond (is_excused f.reply) (first_fds v.clients) (fds_told (first_fds v.clients) (fd_told f.op f.reply) desc);
  files = cond (is_excused f.reply) v.files (files ticket);
  pools = each (λ _ s. left) v.pools;
  names = each (λ _ c. cond (is_excused f.reply) c (names_then x ticket c)) v.names;
}

-- ---- files that go with their own cells

abbrev pub parted : Option ℕ → View → View
parted None v = v
parted (Some file) v = kept_of (File file) v

abbrev pub made_number : Option FileState → Option ℕ
made_number None = None
made_number (Some s) = Some s.file

abbrev pub known_number : Option KnownFile → Option ℕ
known_number None = None
known_number (Some k) = Some k.hand.file

-- the cell with which a new file goes, and that with which the touched one does
abbrev pub made_in : Option FileState → View → Option FileCell
made_in None v = None
made_in (Some s) v = Some (first_cell (state_of s (committed_as s)) (given_of (File s.file) v).files)

abbrev pub known_in : Option KnownFile → View → Option FileCell
known_in None v = None
known_in (Some k) v = Some (first_cell (state_of k.hand k.commits) (given_of (File k.hand.file) v).files)
