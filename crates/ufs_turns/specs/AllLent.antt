-- The names and each live file, lent to a turn in which the blocks come back that the names dropped.
use Rattle.std.specs.Prelude.{ℕ, ◌≡◌, Bool, IsSome, List, Option, Some, [], ◌∷◌, cond}
use Rattle.std.specs.FinMap as fin
use Rattle.ufs_hand_laws.specs.Owned.{Has, each}
use Rattle.ufs_joint.specs.Cells.{FileCell, NamesCell, StoreCell, View}
use Rattle.ufs_joint.specs.Disks.{cell_of, states_behind}
use Rattle.ufs_joint.specs.NamesHands.{AreNumberedOnce}
use Rattle.ufs_joint.specs.Turns.{Turn}
use Rattle.ufs_joint.specs.Whole.{no_blocks}
use Rattle.ufs_store.specs.State.{StoreState}
use Rattle.ufs_turns.specs.Told.{told_list}

-- The hand has these names and each live file. Nothing of the names is left to commit, and nothing of a file.
pub record LendsAll (names : NamesCell) (v : View) : Type 0 where
  pub names_are : v.names ≡ (tt, names) ∷ []
  pub files : AreNumberedOnce v.files
  pub live : (file : ℕ) → IsSome (fin.get names.value.held file) → (c : FileCell) × Has (file, c) v.files
  pub committed : (file : ℕ) (c : FileCell) → Has (file, c) v.files → c.value.log.committed ≡ c.value.log.noted
  pub noted : names.value.tree.noted ≡ Some []
  pub fresh : names.fresh ≡ []

-- the names with no block dropped
abbrev pub without_dropped : NamesCell → NamesCell
without_dropped names = record names { dropped = no_blocks }

abbrev pub reclaiming_in : (keeps done : Bool) → Option ℕ → StoreState → View → List (Unit {0} × StoreCell) → Turn
reclaiming_in keeps done told s v [] = record { files = v.files; names = v.names; store = cell_of 0 [] s; passed = []; picks = []; told = [] }
reclaiming_in keeps done told s v (c ∷ cs) = record {
  files = v.files;
  names = each (λ _ x. cond done (without_dropped x) x) v.names;
  store = cell_of c.1.stamp c.1.past s;
  passed = cond keeps (states_behind c.1.counted s) [];
  picks = [];
  told = told_list told;
}

-- The names drop nothing any more then or are as they were, the store is this, and that fault was told. The states that the disk passed
-- are noted where it keeps its moments.
abbrev pub reclaiming_turn : (keeps done : Bool) → Option ℕ → StoreState → View → Turn
reclaiming_turn keeps done told s v = reclaiming_in keeps done told s v v.store
