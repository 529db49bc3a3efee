-- Why a directory gets a block or none.
use Rattle.std.proofs.Common.{◌≡◌, ◌≢◌, ℕ, List, [], ◌∷◌, ◌++◌, true, false, ap, sym, refl, ◌∙◌, arith}
use Rattle.std.specs.FinSet as set
use Rattle.std.specs.Ordering.{nat_cmp}
use Rattle.std.specs.FinSet.{len-empty}
use Rattle.std.proofs.lemmas.Bool.{false_from_ne_true, true≢false}
use Rattle.ufs_dirs.specs.Directory.{Directory, has_block}
use Rattle.ufs_bitmap.specs.Blocks.{BlockSet}
use Rattle.ufs_model.specs.declared.data.Excuse.{Excuse}
use Rattle.ufs_model.specs.declared.data.Excuse.TheVariants as excuse
use Rattle.ufs_dir_tree.specs.Space.{IsLowest, TakesLowest}
use Rattle.ufs_dir_tree.specs.DirTable.{DirTable, dir_at}
use Rattle.ufs_dir_tree.specs.DirCalls.{IsFull, HasRoom, GetsRoom, IsRoomCause, IsSpaceCause, LacksBlock}
use Rattle.ufs_dir_tree.specs.DirEdits.{HasNone, IsAddCause}
use Rattle.ufs_dir_tree.proofs.RoomLemmas.{full_or_room}

pub not_among : (pool : BlockSet) (blocks : List ℕ) (b : ℕ) → HasNone pool blocks → set.contains pool b ≡ true → has_block blocks b ≡ false
not_among pool blocks b none held = false_from_ne_true (has_block blocks b) (λ has. true≢false (sym held ∙ none b has))

pub cause_of_add : (d : Directory) (pool : BlockSet) (block : ℕ) (x : Excuse) → IsFull d → IsLowest pool block → IsAddCause d.blocks block x → IsRoomCause d pool x
cause_of_add d pool block excuse.Memory full low cause = tt
cause_of_add d pool block (excuse.Device n) full low cause = absurd cause
cause_of_add d pool block (excuse.Stopped n) full low cause = absurd cause
cause_of_add d pool block (excuse.Blocks need had) full low cause = absurd cause
cause_of_add d pool block excuse.Inodes full low cause = absurd cause
cause_of_add d pool block (excuse.Extents need) full low cause = (full, record { block = block; lowest = low; counted = cause.0; more = cause.1 })

pub lacks_block : (pool : BlockSet) → pool ≡ set.empty → LacksBlock pool 1 0
lacks_block pool none = record { needed = refl; counted = sym (ap (λ (s : BlockSet). set.len s) none ∙ len-empty nat_cmp); fewer = omega arith }

pub gets_block : (d new : Directory) (pool after : BlockSet) (block : ℕ) → IsFull d → TakesLowest pool after block → new.blocks ≡ d.blocks ++ block ∷ [] → GetsRoom d new pool after
gets_block d new pool after block full takes behind = record {
  taken = λ _. record { block = block; lowest = takes.lowest; pool = takes.left; behind = behind };
  spared = λ room. absurd (full_or_room d full room);
}

pub gets_none : (d : Directory) (pool : BlockSet) → HasRoom d → GetsRoom d d pool pool
gets_none d pool room = record {
  taken = λ full. absurd (full_or_room d full room);
  spared = λ _. (refl, refl);
}

-- with a free inode it is the room's
pub space_cause : (t : DirTable) (i : ℕ) (pool : BlockSet) (x : Excuse) → t.free ≢ set.empty → IsRoomCause (dir_at t i) pool x → IsSpaceCause t i pool x
space_cause t i pool excuse.Memory some cause = tt
space_cause t i pool (excuse.Device n) some cause = absurd cause
space_cause t i pool (excuse.Stopped n) some cause = absurd cause
space_cause t i pool (excuse.Blocks need had) some cause = (some, cause)
space_cause t i pool excuse.Inodes some cause = absurd cause
space_cause t i pool (excuse.Extents need) some cause = (some, cause)
