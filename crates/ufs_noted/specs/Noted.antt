-- The names with what was noted of them since their last commit, and how a request with some files goes by them.
use Rattle.std.specs.Prelude.{ℕ, ◌≡◌, ◌⊎◌, ◌++◌, List, [], length, true, false, Option, Some, None, refl}
use Rattle.std.specs.Coded.{Coded, code_by, coded×, coded_list, coded_ℕ}
use Rattle.std.specs.FinMap as map
use Rattle.std.specs.FinSet as set
use Rattle.std.specs.Ordering.{nat_cmp}
use Rattle.ufs_bitmap.specs.Blocks.{BlockSet}
use Rattle.ufs_bitmap.specs.Taking.{has}
use Rattle.ufs_file_commits.specs.State.{CommitState}
use Rattle.ufs_file.specs.Hand.{FileState}
use Rattle.ufs_files.specs.Files.{Files}
use Rattle.ufs_model.specs.PosixTree.{PosixTree}
use Rattle.ufs_model.specs.declared.data.Ask.{Ask}
use Rattle.ufs_model.specs.declared.data.Desc.{Desc}
use Rattle.ufs_model.specs.declared.data.Excuse.{Excuse}
use Rattle.ufs_model.specs.declared.data.Excuse.TheVariants as excuse
use Rattle.ufs_model.specs.declared.data.Reply.{Reply}
use Rattle.ufs_name_tree.specs.NameTable.{IsNameTable}
use Rattle.ufs_name_tree.specs.Notes.{GoesByNotes}
use Rattle.ufs_names.specs.Calls.{HaveInodes, IsAsked, IsServed, KeepInodes}
use Rattle.ufs_names.specs.NamesPart.{NamesPart, part_code}
use Rattle.ufs_names.specs.Notes.{with_notes}
use Rattle.ufs_names.specs.Space.{AreApart, HaveTheSame}
use Rattle.ufs_promise_laws.specs.Serving.{HasServed}
use Rattle.ufs_promise_laws.specs.Parts.{Commits, Parts}

pub record Noted : Type 0 where
  pub names : NamesPart
  -- the blocks that directories took
  pub fresh : List ℕ
  -- and those that directories and removed files dropped
  pub dropped : BlockSet

abbrev pub noted_code : Coded Noted
noted_code = code_by _ (coded× part_code (coded× (coded_list coded_ℕ) (set.code coded_ℕ))) (λ n. (n.names, (n.fresh, n.dropped))) (λ p. record { names = p.0; fresh = p.1.0; dropped = p.1.1 }) (λ _. refl)

-- the same once they are committed: nothing is noted, and no block is fresh; what was dropped still is
abbrev pub committed_noted : Noted → Noted
committed_noted n = record { names = with_notes (Some []) n.names; fresh = []; dropped = n.dropped }

-- the same once what was dropped came back
abbrev pub reclaimed_noted : Noted → Noted
reclaimed_noted n = record n { dropped = set.empty }

-- a server that has these files alone, with what is known of their commits, and this pool
abbrev pub parts_with : Noted → Files → Commits → BlockSet → Parts
parts_with n files commits pool = record { names = n.names; files = files; commits = commits; pool = pool; fresh = n.fresh; dropped = n.dropped }

-- the one file under its number, if it is there, and what is known of its commits
abbrev pub one_file : ℕ → Option FileState → Files
one_file file None = map.empty
one_file file (Some s) = map.insert (map.empty {R = nat_cmp}) file s

abbrev pub one_known : ℕ → Option CommitState → Commits
one_known file None = map.empty
one_known file (Some c) = map.insert (map.empty {R = nat_cmp}) file c

-- So the names served the request with these files, with blocks that were lent of the pool, and left these. All blocks that come back are
-- dropped.
pub record HasApplied (ask : Ask) (x y : Noted) (files left_files : Files) (pool left_pool : BlockSet) (reply : Reply) (desc : Option Desc) : Type 0 where
  pub lent : BlockSet
  pub left : BlockSet
  pub served : (t : PosixTree) → IsAsked t x.names ask files → IsServed t ask y.names files left_files reply desc
  pub inodes : HaveInodes x.names.held files → HaveInodes y.names.held left_files
  pub stay : KeepInodes x.names.held y.names.held
  pub was_table : IsNameTable x.names.tree
  pub table : IsNameTable y.names.tree
  pub counted : length y.names.tree.dirs.dirs ≡ length x.names.tree.dirs.dirs
  pub noted : GoesByNotes x.names.tree y.names.tree lent
  pub together : HaveTheSame x.names.tree.dirs files lent y.names.tree.dirs left_files left
  pub apart : AreApart y.names.tree.dirs left_files left
  pub pooled : (block : ℕ) → set.contains lent block ≡ true → set.contains pool block ≡ true
  pub pool_is : left_pool ≡ set.difference pool lent
  pub taken : List ℕ
  pub is_taken : (block : ℕ) → has taken block ≡ set.contains lent block
  pub fresh : y.fresh ≡ x.fresh ++ taken
  pub dropped : y.dropped ≡ set.union x.dropped left

-- The same, with what is known of the files' commits.
pub record HasServedWith (ask : Ask) (x y : Noted) (files left_files : Files) (commits left_commits : Commits) (pool left_pool : BlockSet) (touched : Option ℕ) (reply : Reply) (desc : Option Desc) : Type 0 where
  pub lent : BlockSet
  pub left : BlockSet
  pub applied : (t : PosixTree) → IsAsked t x.names ask files → HasServed t ask (parts_with x files commits pool) (parts_with y left_files left_commits left_pool) lent left touched reply desc
  pub stay : KeepInodes x.names.held y.names.held
  pub fewer : (block : ℕ) → set.contains left_pool block ≡ true → set.contains pool block ≡ true
  pub unlent : (block : ℕ) → set.contains pool block ≡ true → (set.contains lent block ≡ true) ⊎ (set.contains left_pool block ≡ true)

-- These blocks of the pool were lent, and where blocks are wanting the pool has none but them.
pub record MayLack (pool lent : BlockSet) (x : Excuse) : Type 0 where
  pub within : (block : ℕ) → set.contains lent block ≡ true → set.contains pool block ≡ true
  pub none : (need had : ℕ) → x ≡ excuse.Blocks need had → lent ≡ set.empty → pool ≡ set.empty
