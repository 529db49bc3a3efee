-- The first two holders of each number.
use Rattle.std.specs.Prelude.{ℕ, ◌≡◌, ◌<◌, List, [], ◌∷◌, ◌++◌, Bool, false, ◌==◌, ◌&&◌, if◌then◌else◌, length, map, filter, flat_map, Option, Some, None, is_some}
use Rattle.std.specs.List.{slice_get}
use Rattle.ufs_base.specs.Choices.{some_if}
use Rattle.ufs_layout.specs.DentryForm.{DentryForm, is_named}
use Rattle.ufs_image.specs.Nodes.{Dir, NamedSlot, names_of}
use Rattle.ufs_image.specs.Damage.{Damage, SharedBlock, TwoNames}
use Rattle.ufs_damage.specs.declared.marks.Held.{Held}

-- the first two of these
abbrev pub held_of : List ℕ → Held
held_of [] = record { first = None; second = None }
held_of (a ∷ []) = record { first = Some a; second = None }
held_of (a ∷ b ∷ rest) = record { first = Some a; second = Some b }

-- with one more behind them
abbrev pub with_holder : Held → ℕ → Held
with_holder held holder = by held.first held.second
  where
    by : Option ℕ → Option ℕ → Held
    by None second = record { first = Some holder; second = None }
    by (Some a) None = record { first = Some a; second = Some holder }
    by (Some a) (Some b) = record { first = Some a; second = Some b }

-- Each number's mark has the first two of its holders.
abbrev pub AreMarks : List Held → (ℕ → List ℕ) → Type 0
AreMarks marks holders = (k : ℕ) → k < length marks → slice_get marks k ≡ Some (held_of (holders k))

-- one more holder of one number
abbrev pub one_more : (ℕ → List ℕ) → ℕ → ℕ → ℕ → List ℕ
one_more holders at holder k = holders k ++ (if at == k then holder ∷ [] else [])

-- the holder, once for each time that the number is among these
abbrev pub times : ℕ → List ℕ → ℕ → List ℕ
times holder numbers k = map (λ n. holder) (filter (λ n. n == k) numbers)

-- one more holder of each of these
abbrev pub all_more : (ℕ → List ℕ) → ℕ → List ℕ → ℕ → List ℕ
all_more holders holder numbers k = holders k ++ times holder numbers k

abbrev pub shared_damage : ℕ → Held → Option Damage
shared_damage block held = by held.first held.second
  where
    by : Option ℕ → Option ℕ → Option Damage
    by (Some first) (Some second) = Some (SharedBlock block first second)
    by (Some first) None = None
    by None second = None

-- the directories that name an inode, once for each name
abbrev pub naming : List Dir → ℕ → List ℕ
naming dirs inode = flat_map (λ (d : Dir). map (λ (n : NamedSlot). d.inode) (filter (λ (n : NamedSlot). n.1.inode == inode) (names_of d))) dirs

-- The slot names this inode.
abbrev pub names_this : ℕ → Option DentryForm → Bool
names_this inode None = false
names_this inode (Some d) = is_named d && d.inode == inode

-- the directory, once for each of its slots that names an inode
abbrev pub slots_naming : ℕ → List (Option DentryForm) → ℕ → List ℕ
slots_naming dir slots inode = map (λ s. dir) (filter (names_this inode) slots)

-- A second name, or a first one of the root.
abbrev pub names_damage : ℕ → Held → Option Damage
names_damage inode held = some_if (if inode == 1 then is_some held.first else is_some held.second) (TwoNames inode)
