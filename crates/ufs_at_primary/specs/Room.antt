-- What is done before a request, so that it finds room.
use Rattle.std.proofs.Common.{inl, inr}
use Rattle.std.specs.Prelude.{ℕ, ◌+◌, ◌≡◌, ◌≤◌, ◌⊎◌, Bool, List, Option, is_some, length}
use Rattle.std.specs.FinSet as set
use Rattle.ufs_bitmap.specs.Blocks.{BlockSet}
use Rattle.ufs_held_names.specs.HeldNames.{AreCommitted}
use Rattle.ufs_held_names.specs.Reclaims.{IsReclaimed}
use Rattle.ufs_held_names.specs.SyncAll.{AreAllLive, AreSynced, freed_by}
use Rattle.ufs_home.specs.Lending.{AreLent, put_all}
use Rattle.ufs_home.specs.Places.{Places}
use Rattle.ufs_joint.specs.Cells.{FileCell, NamesCell, View}
use Rattle.ufs_turns.specs.Lent.{AreTold, Runs, StopsByFault}
use Rattle.ufs_at_primary.specs.All.{numbers_in}
use Rattle.ufs_at_primary.specs.Stock.{StockState}

-- Nothing was dropped that may come back.
abbrev pub HasNoneDropped : StockState → Type 0
HasNoneDropped s = s.names.dropped ≡ set.empty

-- Blocks that aren't any file's: what is unassigned, and what the names have dropped
abbrev pub free_with : BlockSet → NamesCell → BlockSet
free_with had names = set.union had names.dropped

-- and the pool
abbrev pub free_of : BlockSet → StockState → BlockSet
free_of had s = set.union (free_with had s.names) s.pool

-- The names are as they were, or were committed; and then what they dropped may have come back.
pub record AreTidied (visible : Bool) (old new : NamesCell) : Type 0 where
  pub between : NamesCell
  pub committed : (between ≡ old) ⊎ AreCommitted visible old between
  pub back : (new ≡ between) ⊎ IsReclaimed between new

-- So many of these files, which are all, were committed behind the names, or none. The fault by which a commit or the checkpoint failed is
-- told by no reply: the store has stopped at it.
pub record AreAllTidied (visible : Bool) (before after : Option View) (old new : NamesCell) (olds nows : List FileCell) : Type 0 where
  pub names : AreTidied visible old new
  pub done : ℕ
  pub synced : AreSynced visible olds nows done
  pub numbers : numbers_in nows ≡ numbers_in olds
  -- no block is lost: what these files dropped is unassigned
  pub free : AreTold before after (λ had has. free_with has new ≡ set.union (free_with had old) (freed_by done olds set.empty))
  pub telling : is_some after ≡ is_some before
  pub fault : Option ℕ
  pub stop : StopsByFault before after fault
  pub ran : Runs before after fault (2 + length olds) (2 + length olds)

-- So many of the files, in the order of some list of all, were committed, or none.
pub record AreTidiedFiles (visible : Bool) (s t : StockState) : Type 0 where
  pub olds : List FileCell
  pub nows : List FileCell
  pub lent : Places
  pub here : AreLent s.home.places lent olds
  pub all : AreAllLive s.names.value olds
  pub done : ℕ
  pub synced : AreSynced visible olds nows done
  pub numbers : numbers_in nows ≡ numbers_in olds
  pub home : t.home ≡ record s.home { places = put_all lent nows }

-- what these files dropped
abbrev pub freed_in : {A : Type 0} (visible : Bool) (s t : StockState) {B : AreTidiedFiles visible s t → Type 0} → A ⊎ ((a : AreTidiedFiles visible s t) × B a) → BlockSet
freed_in visible s t (inl x) = set.empty
freed_in visible s t (inr x) = (let a = x.0 in freed_by a.done a.olds set.empty)

-- By commits and a checkpoint, none of which answers a request: a fault of the device by which one failed is told by no reply. The store goes
-- on, or has stopped at that fault; its numbers rise by no more than this, and where all is committed by what a commit of everything and a
-- checkpoint raise them beside.
pub record IsTidied (base : ℕ) (visible : Bool) (before after : Option View) (s t : StockState) : Type 0 where
  pub names : AreTidied visible s.names t.names
  -- by how much the epoch and the next commit number may rise
  pub most : ℕ
  pub files : ((t.home ≡ s.home) × (most ≤ base)) ⊎ ((a : AreTidiedFiles visible s t) × (most ≤ base + 2 + length a.olds))
  -- no block is lost: what these files dropped is unassigned
  pub free : AreTold before after (λ had has. free_of has t ≡ set.union (free_of had s) (freed_in visible s t files))
  pub telling : is_some after ≡ is_some before
  pub fault : Option ℕ
  pub stop : StopsByFault before after fault
  pub ran : Runs before after fault most most

-- Before a request: a commit of the names, and one of everything with a checkpoint, or less.
abbrev pub IsRoomMade : (visible : Bool) (before after : Option View) (s t : StockState) → Type 0
IsRoomMade visible before after s t = IsTidied 1 visible before after s t
