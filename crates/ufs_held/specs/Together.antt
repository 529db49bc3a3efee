-- Files lend their rights to one hand, and it draws an entry that leaves all as it is.
use Rattle.std.specs.Prelude.{ℕ, suc, ◌≡◌, ◌+◌, ◌≤◌, ◌++◌, eqb, List, [], ◌∷◌, Some}
use Rattle.ufs_hand_laws.specs.Draws.{client_after, entry_of, left_faults}
use Rattle.ufs_hand_laws.specs.Owned.{count, each}
use Rattle.ufs_hand_laws.specs.declared.fresh.Fresh.{Fresh}
use Rattle.ufs_joint.specs.Cells.{FileCell, View}
use Rattle.ufs_joint.specs.Draws.{Leaves}
use Rattle.ufs_held.specs.Drawn.{first_fds}

-- the cells under their files' numbers
abbrev pub under_numbers : List FileCell → List (ℕ × FileCell)
under_numbers [] = []
under_numbers (c ∷ cs) = (c.value.file.file, c) ∷ under_numbers cs

-- Of these files, the hand's own and its pools no two have one number.
abbrev pub AreApartFrom : View → List FileCell → Type 0
AreApartFrom v cells = (n : ℕ) → count eqb n (v.files ++ under_numbers cells) + count eqb n v.pools ≤ 1

-- The second hand has what the first one has, and these files too. It was told what that was told.
pub record HasThemToo (cells : List FileCell) (v w : View) : Type 0 where
  pub clients : w.clients ≡ v.clients
  pub asked : w.asked ≡ v.asked
  pub files : w.files ≡ v.files ++ under_numbers cells
  pub pools : w.pools ≡ v.pools
  pub names : w.names ≡ v.names
  pub store : w.store ≡ v.store
  pub faults : w.faults ≡ v.faults
  pub stop : (fault : ℕ) → v.stop ≡ Some fault → w.stop ≡ Some fault

-- All stays, the names too.
abbrev pub still_of : View → Leaves
still_of v = record { fds = first_fds v.clients; files = v.files; pools = v.pools; names = v.names }

-- The hand drew the entry, and all stayed.
pub record HasDrawnStill (ticket : ℕ) (f : Fresh) (v w : View) : Type 0 where
  pub clients : w.clients ≡ each (client_after (entry_of ticket f) (first_fds v.clients)) v.clients
  pub asked : w.asked ≡ v.asked
  pub files : w.files ≡ v.files
  pub pools : w.pools ≡ v.pools
  pub names : w.names ≡ v.names
  pub store : w.store ≡ v.store
  pub faults : w.faults ≡ left_faults f.reply v.faults
  pub stop : (fault : ℕ) → v.stop ≡ Some fault → w.stop ≡ Some fault
  pub later : v.seen ≤ ticket
  pub seen : w.seen ≡ suc ticket
