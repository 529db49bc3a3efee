-- The names serve a request with the files that it touches, while other servers have the others: what they tell of these files they
-- tell of all.
use Rattle.std.specs.Prelude.{ℕ, ◌≡◌, ◌⊎◌, ◌↔◌, List, [], ◌∷◌, ◌++◌, length, true, false, Option, Some, None, IsSome}
use Rattle.std.specs.FinMap as map
use Rattle.std.specs.FinSet as set
use Rattle.ufs_bitmap.specs.Blocks.{BlockSet}
use Rattle.ufs_bitmap.specs.Taking.{has}
use Rattle.ufs_file.specs.Hand.{FileState}
use Rattle.ufs_files.specs.Files.{Files}
use Rattle.ufs_layout.specs.declared.geometry.Geometry.{Geometry}
use Rattle.ufs_model.specs.History.{IsLegal, tree_after}
use Rattle.ufs_model.specs.Posix.{posix}
use Rattle.ufs_model.specs.PosixTree.{PosixTree}
use Rattle.ufs_model.specs.declared.data.Ask.{Ask}
use Rattle.ufs_model.specs.declared.data.Desc.{Desc}
use Rattle.ufs_model.specs.declared.data.Entry.{Entry}
use Rattle.ufs_model.specs.declared.data.Reply.{Reply}
use Rattle.ufs_name_tree.specs.NameTable.{IsNameTable}
use Rattle.ufs_name_tree.specs.Notes.{GoesByNotes}
use Rattle.ufs_names.specs.Calls.{AreGathered, HaveInodes, IsServed, IsTouched, KeepInodes}
use Rattle.ufs_names.specs.Space.{AreApart, HaveTheSame}
use Rattle.ufs_promise_laws.specs.Serving.{HasLeft, HasServed, HasSettled}
use Rattle.ufs_crash_laws.specs.Changes.{asks_commit}
use Rattle.ufs_store.specs.State.{StoreState, geometry_of_store}
use Rattle.ufs_promise_laws.specs.Known.{IsDiskKept, Known}
use Rattle.ufs_promise_laws.specs.Parts.{Parts}
use Rattle.ufs_promise_laws.specs.Sound.{IsSoundServer}
use Rattle.ufs_promise_laws.specs.Stored.{ArePartsOf}

-- Some of all files are lent. Afterwards these are as they were left, with the one that is new, and the others as they were.
pub record AreLent (whole lent left next : Files) : Type 0 where
  pub some : (f : ℕ) (s : FileState) → map.get lent f ≡ Some s → map.get whole f ≡ Some s
  pub back : (f : ℕ) → (IsSome (map.get whole f) → IsSome (map.get lent f)) → map.get next f ≡ map.get left f
  pub others : (f : ℕ) → IsSome (map.get whole f) → map.get lent f ≡ None → map.get next f ≡ map.get whole f

-- The names served it with these files and blocks, lent, and left those.
pub record HasServedLent (t : PosixTree) (ask : Ask) (p next : Parts) (lent_files left_files : Files) (lent left : BlockSet) (touched : Option ℕ) (reply : Reply) (desc : Option Desc) : Type 0 where
  pub files : AreLent p.files lent_files left_files next.files
  pub gathered : AreGathered t ask lent_files
  pub served : IsServed t ask next.names lent_files left_files reply desc
  pub inodes : HaveInodes p.names.held lent_files → HaveInodes next.names.held left_files
  pub stay : KeepInodes p.names.held next.names.held
  pub was_table : IsNameTable p.names.tree
  pub table : IsNameTable next.names.tree
  pub counted : length next.names.tree.dirs.dirs ≡ length p.names.tree.dirs.dirs
  pub noted : GoesByNotes p.names.tree next.names.tree lent
  pub together : HaveTheSame p.names.tree.dirs lent_files lent next.names.tree.dirs left_files left
  pub apart : AreApart next.names.tree.dirs left_files left
  pub pooled : (block : ℕ) → set.contains lent block ≡ true → set.contains p.pool block ≡ true
  pub pool : (block : ℕ) → set.contains next.pool block ≡ true → (set.contains p.pool block ≡ true) × (set.contains lent block ≡ false)
  pub taken : List ℕ
  pub is_taken : (block : ℕ) → has taken block ≡ set.contains lent block
  pub fresh : next.fresh ≡ p.fresh ++ taken
  pub alone : (file : ℕ) → IsTouched t ask file → IsSome (map.get lent_files file) → touched ≡ Some file
  pub settled : HasSettled p next touched
  pub dropped : (block : ℕ) → (set.contains next.dropped block ≡ true) ↔ ((set.contains p.dropped block ≡ true) ⊎ ((set.contains left block ≡ true) ⊎ HasLeft p next touched block))

-- Blocks and files may be lent,
abbrev pub LentAreApart : Type 0
LentAreApart = (p : Parts) (lent_files : Files) (lent : BlockSet) → ((f : ℕ) (s : FileState) → map.get lent_files f ≡ Some s → map.get p.files f ≡ Some s) → AreApart p.names.tree.dirs p.files lent → AreApart p.names.tree.dirs lent_files lent

-- and what is served with them is served with all.
abbrev pub LentIsServed : Type 0
LentIsServed = (g : Geometry) (unassigned : BlockSet) (t : PosixTree) (ask : Ask) (p next : Parts) (lent_files left_files : Files) (lent left : BlockSet) (touched : Option ℕ) (reply : Reply) (desc : Option Desc) → IsSoundServer g unassigned p → ArePartsOf p t
    → HasServedLent t ask p next lent_files left_files lent left touched reply desc → HasServed t ask p next lent left touched reply desc

-- So it leaves what is known as committed as it was.
abbrev pub LentRequestsStayKept : Geometry → Type 0
LentRequestsStayKept g = (s : StoreState) (start : PosixTree) (history : List Entry) (entry : Entry) (ask : Ask) (p next : Parts) (known : Known) (lent_files left_files : Files) (lent left : BlockSet) (touched : Option ℕ) (reply : Reply) (desc : Option Desc)
    → geometry_of_store s ≡ g → IsLegal start (history ++ entry ∷ []) → asks_commit entry.op ≡ false → tree_after start (history ++ entry ∷ []) ≡ (posix (tree_after start history) ask.client ask.op).0
    → HasServedLent (tree_after start history) ask p next lent_files left_files lent left touched reply desc → IsSoundServer g s.unassigned.free p
    → IsDiskKept s start history p known → IsDiskKept s start (history ++ entry ∷ []) next known
