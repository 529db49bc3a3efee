-- A client waits for a file, which is asked for.
use Rattle.std.specs.Prelude.{ℕ, ◌≡◌, ◌⊎◌, ◌++◌, [], ◌∷◌, filter}
use Rattle.ufs_home.specs.Home.{HomeState, called_for}
use Rattle.ufs_owner.specs.Clients.{is_another}
use Rattle.ufs_owner.specs.Owners.{waiting_at, with_waiting}

-- the client waits for the file, behind those that do already
abbrev pub waited_for : HomeState → ℕ → ℕ → HomeState
waited_for h file client = record h { owners = with_waiting h.owners file (waiting_at h.owners file ++ client ∷ []) }

-- the client waits for the file no more, if it did
abbrev pub unwaited : HomeState → ℕ → ℕ → HomeState
unwaited h file client = record h { owners = with_waiting h.owners file (filter (is_another client) (waiting_at h.owners file)) }

-- There was no memory to note that; the file may have been asked for.
abbrev pub IsUnnoted : HomeState → HomeState → ℕ → Type 0
IsUnnoted h g file = (g ≡ h) ⊎ (g ≡ called_for h file)
