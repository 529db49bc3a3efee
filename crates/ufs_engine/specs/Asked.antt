-- What clients are to ask, and room for what they are told.
use Rattle.std.specs.Prelude.{ℕ, ◌≡◌, ◌≤◌, List, [], ◌∷◌, length, map}
use Rattle.std.specs.Global.{Vec}
use Rattle.std.specs.Vec.{vec_capacity}
use Rattle.ufs_rounds.specs.OfCaller.{entries_in}
use Rattle.ufs_rounds.specs.OfCaller.{Told}
use Rattle.ufs_model.specs.declared.data.Entry.{Entry}
use Rattle.ufs_model.specs.declared.data.Op.{Op}

-- with a client that asks nothing, where there is none
abbrev pub given : List (List Op) → List (List Op)
given [] = [] ∷ []
given (script ∷ scripts) = script ∷ scripts

-- No entry yet, and room for so many.
pub record HasRoomFor (count : ℕ) (room : Vec Entry) : Type 0 where
  pub none : room.items ≡ []
  pub enough : count ≤ vec_capacity room

-- For each script, one that has room for its transcript.
abbrev pub AreRoomsFor : List (List Op) → List (Vec Entry) → Type 0
AreRoomsFor [] [] = Unit {0}
AreRoomsFor [] (room ∷ rooms) = ⊥
AreRoomsFor (script ∷ scripts) [] = ⊥
AreRoomsFor (script ∷ scripts) (room ∷ rooms) = HasRoomFor (length script) room × AreRoomsFor scripts rooms

-- Each has room for what the client at its place was told.
abbrev pub DoFit : List (Vec Told) → List (Vec Entry) → Type 0
DoFit told [] = Unit {0}
DoFit [] (room ∷ rooms) = Unit {0}
DoFit (told ∷ more) (room ∷ rooms) = HasRoomFor (length told.items) room × DoFit more rooms

-- These are the clients of the scripts, one at least, and this is room for what those of the scripts are told.
pub record IsAskedOf (scripts clients : List (List Op)) (lists : Vec (List Entry)) (rooms : List (Vec Entry)) : Type 0 where
  pub clients_are : clients ≡ given scripts
  pub none : lists.items ≡ []
  pub room : length scripts ≤ vec_capacity lists
  pub rooms_are : AreRoomsFor scripts rooms

-- the transcripts
abbrev pub lists_in : List (Vec Told) → List (List Entry)
lists_in told = map (λ t. entries_in t.items) told
