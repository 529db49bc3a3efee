-- The requests that clients were given.
use Rattle.std.specs.Prelude.{List, [], ◌∷◌, ◌++◌, map, Option, None, Some}
use Rattle.ufs_model.specs.declared.data.Entry.{Entry}
use Rattle.ufs_model.specs.declared.data.Op.{Op}
use Rattle.ufs_caller.specs.Callers.{Caller, Errand, entries_in}

-- the request under way
abbrev pub under_way : Option Errand → List Op
under_way None = []
under_way (Some e) = e.request ∷ []

-- those that were answered, the one under way, and those that are left
abbrev pub script_of : Caller → List Op
script_of c = map (λ e. e.op) (entries_in c.told) ++ (under_way c.errand ++ c.left)

abbrev pub scripts_of : List Caller → List (List Op)
scripts_of clients = map script_of clients

-- what each of them was answered
abbrev pub lists_of : List Caller → List (List Entry)
lists_of clients = map (λ c. entries_in c.told) clients
