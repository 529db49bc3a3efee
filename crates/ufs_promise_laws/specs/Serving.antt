-- What the parts of a server tell of a request that the names served.
use Rattle.std.specs.Prelude.{ℕ, ◌≡◌, ◌≢◌, ◌⊎◌, ◌↔◌, List, [], ◌++◌, length, true, false, Option, Some, None, IsSome}
use Rattle.std.specs.FinMap as map
use Rattle.std.specs.FinSet as set
use Rattle.ufs_bitmap.specs.Blocks.{BlockSet}
use Rattle.ufs_bitmap.specs.Taking.{has}
use Rattle.ufs_file_commits.specs.State.{CommitState}
use Rattle.ufs_extent.specs.Runs.{blocks_of}
use Rattle.ufs_file.specs.Hand.{FileState}
use Rattle.ufs_layout.specs.declared.geometry.Geometry.{Geometry}
use Rattle.ufs_model.specs.Posix.{posix}
use Rattle.ufs_model.specs.PosixTree.{PosixTree}
use Rattle.ufs_model.specs.declared.data.Ask.{Ask}
use Rattle.ufs_model.specs.declared.data.Desc.{Desc}
use Rattle.ufs_model.specs.declared.data.Reply.{Reply}
use Rattle.ufs_name_tree.specs.NameTable.{IsNameTable}
use Rattle.ufs_name_tree.specs.Notes.{GoesByNotes}
use Rattle.ufs_names.specs.Calls.{HaveInodes, IsServed, IsTouched}
use Rattle.ufs_names.specs.Space.{AreApart, HaveTheSame}
use Rattle.ufs_promise_laws.specs.Parts.{Parts}
use Rattle.ufs_promise_laws.specs.Sound.{IsSoundServer}
use Rattle.ufs_promise_laws.specs.Stored.{ArePartsOf}
use Rattle.ufs_promise_laws.specs.Requests.{IsNamesRequest}

-- ---- what is known of the commits of the file that a request touches

-- as once the file has no byte
abbrev pub emptied_commits : CommitState → CommitState
emptied_commits c = record c { log = record (c.log) { noted = record { runs = []; size = 0 } } }

-- the file went, and had dropped the block
pub record HasLeft (p next : Parts) (touched : Option ℕ) (block : ℕ) : Type 0 where
  pub file : ℕ
  pub commits : CommitState
  pub this : touched ≡ Some file
  pub gone : map.get next.files file ≡ None
  pub known : map.get p.commits file ≡ Some commits
  pub held : has (blocks_of commits.dropped) block ≡ true

-- Of a file that went nothing is known any more, of one that was emptied that it was, and of all others what was known.
pub record HasSettled (p next : Parts) (touched : Option ℕ) : Type 0 where
  pub known : (file : ℕ) → touched ≡ Some file → IsSome (map.get p.commits file)
  pub others : (file : ℕ) → touched ≢ Some file → map.get next.commits file ≡ map.get p.commits file
  pub gone : (file : ℕ) → touched ≡ Some file → map.get next.files file ≡ None → map.get next.commits file ≡ None
  pub emptied : (file : ℕ) (s : FileState) (c : CommitState) → touched ≡ Some file → map.get next.files file ≡ Some s → s.extents ≡ [] → s.content.bytes ≡ [] → map.get p.commits file ≡ Some c
      → map.get next.commits file ≡ Some (emptied_commits c)
  pub kept : (file : ℕ) (s : FileState) → touched ≡ Some file → map.get next.files file ≡ Some s → (s.extents ≡ [] → s.content.bytes ≡ [] → ⊥) → map.get next.commits file ≡ map.get p.commits file

-- ---- the request

-- The names served it with these blocks, lent of the pool, and left those; of the files it touches this one at most.
pub record HasServed (t : PosixTree) (ask : Ask) (p next : Parts) (lent left : BlockSet) (touched : Option ℕ) (reply : Reply) (desc : Option Desc) : Type 0 where
  pub served : IsServed t ask next.names p.files next.files reply desc
  pub inodes : HaveInodes p.names.held p.files → HaveInodes next.names.held next.files
  pub was_table : IsNameTable p.names.tree
  pub table : IsNameTable next.names.tree
  pub counted : length next.names.tree.dirs.dirs ≡ length p.names.tree.dirs.dirs
  pub noted : GoesByNotes p.names.tree next.names.tree lent
  pub together : HaveTheSame p.names.tree.dirs p.files lent next.names.tree.dirs next.files left
  pub apart : AreApart next.names.tree.dirs next.files left
  pub pooled : (block : ℕ) → set.contains lent block ≡ true → set.contains p.pool block ≡ true
  pub pool : (block : ℕ) → set.contains next.pool block ≡ true → (set.contains p.pool block ≡ true) × (set.contains lent block ≡ false)
  pub taken : List ℕ
  pub is_taken : (block : ℕ) → has taken block ≡ set.contains lent block
  pub fresh : next.fresh ≡ p.fresh ++ taken
  pub alone : (file : ℕ) → IsTouched t ask file → IsSome (map.get p.files file) → touched ≡ Some file
  pub settled : HasSettled p next touched
  pub dropped : (block : ℕ) → (set.contains next.dropped block ≡ true) ↔ ((set.contains p.dropped block ≡ true) ⊎ ((set.contains left block ≡ true) ⊎ HasLeft p next touched block))

-- ---- laws

-- Blocks of the pool may be lent.
abbrev pub PoolsMayLend : Type 0
PoolsMayLend = (g : Geometry) (unassigned : BlockSet) (p : Parts) (lent : BlockSet) → IsSoundServer g unassigned p → ((block : ℕ) → set.contains lent block ≡ true → set.contains p.pool block ≡ true)
    → AreApart p.names.tree.dirs p.files lent

-- Such a request leaves the parts as one of the names does.
abbrev pub ServedIsRequest : Type 0
ServedIsRequest = (g : Geometry) (unassigned : BlockSet) (t : PosixTree) (ask : Ask) (p next : Parts) (lent left : BlockSet) (touched : Option ℕ) (reply : Reply) (desc : Option Desc) → IsSoundServer g unassigned p → ArePartsOf p t
    → HasServed t ask p next lent left touched reply desc → IsNamesRequest t (posix t ask.client ask.op).0 p next lent left
