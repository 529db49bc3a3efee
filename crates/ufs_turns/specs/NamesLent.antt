-- What a turn that commits the names says of the hand that lends them, and what the commit tells.
use Rattle.std.specs.Prelude.{ℕ, ◌≡◌, ◌≤◌, ◌⊎◌, Bool, IsTrue, true, cond, List, [], ◌∷◌, Option, None, Some}
use Rattle.ufs_layout.specs.declared.records.LogRecord.{LogRecord}
use Rattle.ufs_names.specs.Notes.{with_notes}
use Rattle.ufs_hand_laws.specs.Owned.{each}
use Rattle.ufs_store.specs.Refusals.{IsTold, stop_after}
use Rattle.ufs_store.specs.State.{StoreState, geometry_of_store}
use Rattle.ufs_joint.specs.Cells.{NamesCell, StoreCell, View}
use Rattle.ufs_joint.specs.Disks.{cell_of, states_behind}
use Rattle.ufs_joint.specs.NamesTurns.{HasCommittedNames, HasFailedNames, LeavesNames, live_files}
use Rattle.ufs_joint.specs.Turns.{Turn}
use Rattle.ufs_turns.specs.Told.{told_list}

-- The hand has the names with this cell, and no file.
pub record AreNamesIn (cell : NamesCell) (v : View) : Type 0 where
  pub files : v.files ≡ []
  pub names : v.names ≡ (tt, cell) ∷ []

-- So it lends them, and hasn't the store's cell.
pub record LendsNames (cell : NamesCell) (v : View) : Type 0 where
  pub names : AreNamesIn cell v
  pub away : v.store ≡ []

-- the names behind a commit by which so much is known: nothing is noted, no block is fresh, and the commit has each live file
abbrev pub names_kept : ℕ → NamesCell → NamesCell
names_kept known c = record c { value = with_notes (Some []) c.value; fresh = []; named = live_files c.value; known = known }

-- It has the names once they are committed: where the disk is visible, all that changed of them is known as committed.
pub record HaveCommitted (visible : Bool) (cell : NamesCell) (v : View) : Type 0 where
  pub known : ℕ
  pub names : AreNamesIn (names_kept known cell) v
  pub all : visible ≡ true → cell.changed ≤ known

-- ---- what `commit_notes` tells, all together

pub record HaveTried (visible keeps : Bool) (old new : StoreState) (fresh : List ℕ) (noted : Option (List LogRecord)) (told : Option ℕ) : Type 0 where
  pub moments : IsTrue visible → LeavesNames keeps old new fresh noted
  pub unassigned : new.unassigned ≡ old.unassigned
  pub geometry : geometry_of_store new ≡ geometry_of_store old
  pub sectors : new.sectors ≡ old.sectors
  pub cause : IsTold old.faults new.faults told
  pub stop : new.stop ≡ stop_after old.stop told

-- It passed.
pub record HavePassed (visible keeps : Bool) (old new : StoreState) (fresh : List ℕ) (noted : Option (List LogRecord)) : Type 0 where
  pub going : old.stop ≡ None
  pub committed : IsTrue visible → HasCommittedNames old new fresh noted
  pub tried : HaveTried visible keeps old new fresh noted None

-- It didn't: the store had stopped before, or memory or room was wanting, or the disk failed, by the fault that is told.
pub record HaveNotPassed (visible keeps : Bool) (old new : StoreState) (fresh : List ℕ) (noted : Option (List LogRecord)) (told : Option ℕ) : Type 0 where
  pub failed : IsTrue visible → (new ≡ old) ⊎ ((old.stop ≡ None) × HasFailedNames old new fresh noted)
  pub tried : HaveTried visible keeps old new fresh noted told

-- ---- the turn

abbrev pub names_in : (keeps done : Bool) → Option ℕ → StoreState → View → List (Unit {0} × StoreCell) → Turn
names_in keeps done told s v [] = record { files = []; names = v.names; store = cell_of 0 [] s; passed = []; picks = []; told = [] }
names_in keeps done told s v (c ∷ cs) = record {
  files = [];
  names = each (λ _ x. cond done (names_kept c.1.stamp x) x) v.names;
  store = cell_of c.1.stamp c.1.past s;
  passed = cond keeps (states_behind c.1.counted s) [];
  picks = [];
  told = told_list told;
}

-- The names are committed then or as they were, the store is this, and that fault was told. The states that the disk passed are noted
-- where it keeps its moments.
abbrev pub names_turn : (keeps done : Bool) → Option ℕ → StoreState → View → Turn
names_turn keeps done told s v = names_in keeps done told s v v.store
