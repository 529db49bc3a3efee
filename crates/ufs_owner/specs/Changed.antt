-- A file's record with another owner, or with others that wait.
use Rattle.std.specs.Prelude.{ℕ, List}
use Rattle.ufs_owner.specs.declared.owner.Owner.{Owner}
use Rattle.ufs_owner.specs.declared.records.Record.{Record}

abbrev pub owned : Record → Owner → ℕ → Record
owned r owner note = record r { standing = record r.standing { owner = owner; note = note } }

abbrev pub awaited : Record → List ℕ → Record
awaited r clients = record r { standing = record r.standing { waiting = clients } }
