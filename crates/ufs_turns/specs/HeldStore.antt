-- What lies under the lock: the store, and the hand of the store's cell, which goes with it.
use Rattle.std.specs.Prelude.{ℕ, ◌≡◌, ◌≤◌, ◌⊎◌, ◌++◌, Bool, IsTrue, true, cond, List, [], ◌∷◌, length, Option}
use Rattle.ufs_bitmap.specs.Blocks.{BlockSet}
use Rattle.ufs_disk.specs.Disk.{State}
use Rattle.ufs_disk.specs.Moments.{Moments, all}
use Rattle.ufs_file_commits.specs.State.{DurableState}
use Rattle.ufs_joint.specs.Cells.{FileCell, Start, StoreCell, View}
use Rattle.ufs_joint.specs.Checkpoints.{checkpoint_turn}
use Rattle.ufs_joint.specs.Disks.{cell_of, states_behind}
use Rattle.ufs_joint.specs.Moves.{blocks_moved}
use Rattle.ufs_joint.specs.Picks.{Pick, picks_from}
use Rattle.ufs_joint.specs.Turns.{Turn, turn_begun, turn_ended}
use Rattle.ufs_hand_laws.specs.Owned.{Has, each}
use Rattle.ufs_hand_laws.specs.Parts.{Cells, Stretch}
use Rattle.ufs_store.specs.State.{StoreState, geometry_of_store}
use Rattle.ufs_store_steps.specs.Cells.{cells_of}
use Rattle.ufs_turns.specs.Told.{told_list}

-- The hand has the store's cell, and no other.
pub record HasStoreAlone (c : StoreCell) (v : View) : Type 0 where
  pub clients : v.clients ≡ []
  pub asked : v.asked ≡ []
  pub files : v.files ≡ []
  pub pools : v.pools ≡ []
  pub names : v.names ≡ []
  pub store : v.store ≡ (tt, c) ∷ []

-- The hand has no cell.
pub record HasNothing (v : View) : Type 0 where
  pub clients : v.clients ≡ []
  pub asked : v.asked ≡ []
  pub files : v.files ≡ []
  pub pools : v.pools ≡ []
  pub names : v.names ≡ []
  pub store : v.store ≡ []

-- how many states the disk had been in as the session began
abbrev pub counted_in : List (Unit {0} × StoreCell) → ℕ
counted_in [] = 0
counted_in (c ∷ cs) = c.1.counted

-- how many sectors the disk had
abbrev pub sectors_in : List (Unit {0} × StoreCell) → ℕ
sectors_in [] = 0
sectors_in (c ∷ cs) = c.1.sectors

-- a stretch has this state
abbrev pub IsPassed : Cells → List Stretch → Type 0
IsPassed x past = (y : Stretch) × Has y past × Has x y.states

-- The second list is the first, with each of it once or more.
abbrev pub AreRepeated : {A : Type 0} → List A → List A → Type 0
AreRepeated [] [] = Unit {0}
AreRepeated [] (y ∷ ys) = ⊥
AreRepeated (x ∷ xs) [] = ⊥
AreRepeated (x ∷ xs) (y ∷ ys) = ((x ≡ y) × AreRepeated xs ys) ⊎ ((x ≡ y) × AreRepeated (x ∷ xs) ys)

-- the state of a store's disk
abbrev pub state_in : List (Unit {0} × StoreCell) → List Cells
state_in [] = []
state_in (c ∷ cs) = c.1.state ∷ []

-- the states of stretches, the oldest first
abbrev pub states_in : List Stretch → List Cells
states_in [] = []
states_in (y ∷ past) = states_in past ++ y.states

-- The store's cell, which the hand has, is this store, whose disk went on from the states of the beginning. Of a visible disk that keeps its moments the stretches have each state that it was
-- in since the session began, but for the one that it is in, in the order of time: one stands more than once where turns began in it.
pub record IsStoreIn (k : Start) (origin : Moments) (visible keeps : Bool) (v : View) (s : StoreState) : Type 0 where
  pub stamp : ℕ
  pub past : List Stretch
  pub has : v.store ≡ (tt, cell_of stamp past s) ∷ []
  pub sees : k.is_visible ≡ true → IsTrue visible
  pub formed : geometry_of_store s ≡ k.geometry
  pub size : s.sectors ≡ sectors_in k.view.store
  pub grown : k.is_visible ≡ true → IsTrue keeps → (inside : List State) × (all s.moments ≡ all origin ++ inside)
  pub since : k.is_visible ≡ true → IsTrue keeps → counted_in k.view.store ≤ length (all s.moments)
  pub covers : k.is_visible ≡ true → IsTrue keeps → (x : Cells) → Has x (states_behind (counted_in k.view.store) s) → (x ≡ cells_of s.sectors s.moments.state) ⊎ IsPassed x past
  pub passes : k.is_visible ≡ true → IsTrue keeps → AreRepeated (state_in k.view.store ++ states_behind (counted_in k.view.store) s) (states_in past ++ cells_of s.sectors s.moments.state ∷ [])

-- What is known each time that the lock is taken: the hand has the store's cell alone.
pub record IsHeldStore (k : Start) (origin : Moments) (visible keeps : Bool) (v : View) (s : StoreState) : Type 0 where
  pub cell : StoreCell
  pub alone : HasStoreAlone cell v
  pub store : IsStoreIn k origin visible keeps v s

-- ---- what a turn leaves

abbrev pub begun_in : List (Unit {0} × StoreCell) → View → ℕ → View
begun_in [] v n = v
begun_in (c ∷ cs) v n = turn_begun n c.1 v

-- A turn begins on the store's cell that the hand has.
abbrev pub begun_view : View → ℕ → View
begun_view v n = begun_in v.store v n

abbrev pub ended_view : Turn → View → ℕ → View
ended_view t v n = turn_ended n t v

-- the file once it was synced in a turn that began then, or else read or as it was
abbrev pub synced_cell : Bool → DurableState → ℕ → FileCell → FileCell
synced_cell done value stamp c = record c { value = value; known = cond done stamp c.known }

-- the blocks of the file that weren't in memory and are now
abbrev pub came_in : List (ℕ × FileCell) → DurableState → List Pick
came_in [] value = []
came_in (c ∷ cs) value = picks_from c.0 value.file.content.bytes c.1.value.file.content.there value.file.content.there 0

abbrev pub turn_in : (keeps done : Bool) → Option ℕ → DurableState → StoreState → View → List (Unit {0} × StoreCell) → Turn
turn_in keeps done told value s v [] = record { files = v.files; names = v.names; store = cell_of 0 [] s; passed = []; picks = []; told = [] }
turn_in keeps done told value s v (c ∷ cs) = record {
  files = each (λ _ x. synced_cell done value c.1.stamp x) v.files;
  names = v.names;
  store = cell_of c.1.stamp c.1.past s;
  passed = cond keeps (states_behind c.1.counted s) [];
  picks = came_in v.files value;
  told = told_list told;
}

-- The file has this value then, the store is this, and that fault was told. The states that the disk passed are noted where it keeps its
-- moments.
abbrev pub sync_turn : (keeps done : Bool) → Option ℕ → DurableState → StoreState → View → Turn
sync_turn keeps done told value s v = turn_in keeps done told value s v v.store

-- ---- where a turn is about no file

abbrev pub bare_in : (keeps : Bool) → Option ℕ → StoreState → List (Unit {0} × StoreCell) → Turn
bare_in keeps told s [] = checkpoint_turn (cell_of 0 [] s) [] []
bare_in keeps told s (c ∷ cs) = checkpoint_turn (cell_of c.1.stamp c.1.past s) (cond keeps (states_behind c.1.counted s) []) (told_list told)

-- The store is this then, and that fault was told.
abbrev pub bare_turn : (keeps : Bool) → Option ℕ → StoreState → View → Turn
bare_turn keeps told s v = bare_in keeps told s v.store

abbrev pub moved_in : BlockSet → StoreState → View → List (Unit {0} × StoreCell) → View
moved_in pool s v [] = v
moved_in pool s v (c ∷ cs) = blocks_moved (each (λ _ had. pool) v.pools) s.unassigned.free c.1 v

-- The pool and the store have these blocks then.
abbrev pub moved_view : BlockSet → StoreState → View → View
moved_view pool s v = moved_in pool s v v.store
