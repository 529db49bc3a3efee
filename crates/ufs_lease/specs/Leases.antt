-- Which leases stand against a change.
use Rattle.std.specs.Prelude.{ℕ, List, Bool, not, ◌==◌, ◌≢◌, ◌<◌, ◌^◌, All, IsTrue}
use Rattle.std.specs.List.{starts_with}
use Rattle.std.specs.Str.{bytes_eq}
use Rattle.ufs_model.specs.Paths.{components}
use Rattle.ufs_model.specs.declared.data.Fact.{Fact}
use Rattle.ufs_model.specs.declared.data.Fact.TheVariants.{Holds, Resolves}
use Rattle.ufs_model.specs.declared.data.Lease.{Lease}

-- each lease ends before the clock does
abbrev pub AreInTime : List Lease → Type 0
AreInTime leases = All (λ lease. lease.until < 2 ^ 24) leases

abbrev pub is_of_another : ℕ → Lease → Bool
is_of_another client lease = not (lease.client == client)

-- another client has the lease, and its time isn't up
pub record StandsAgainst (client clock : ℕ) (lease : Lease) : Type 0 where
  pub another : lease.client ≢ client
  pub live : clock < lease.until

-- the path is the other or lies below it: its components begin with those of the other
abbrev pub is_at_or_below : List ℕ → List ℕ → Bool
is_at_or_below above path = starts_with bytes_eq (components path) (components above)

-- the lease says what the path, or one below it, names
abbrev pub IsOnPath : List ℕ → Lease → Type 0
IsOnPath path lease = IsFactOn path lease.fact
  where
    IsFactOn : List ℕ → Fact → Type 0
    IsFactOn path (Holds first size bytes) = ⊥
    IsFactOn path (Resolves leased file) = IsTrue (is_at_or_below path leased)

-- it stands against a change of what that path names
pub record StandsAgainstPath (client : ℕ) (path : List ℕ) (clock : ℕ) (lease : Lease) : Type 0 where
  pub against : StandsAgainst client clock lease
  pub on_path : IsOnPath path lease
