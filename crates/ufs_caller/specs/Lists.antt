-- The servers to which a request went.
use Rattle.std.specs.Prelude.{◌≡◌, ◌⊎◌, ◌<◌, List, [], ◌∷◌, ◌++◌, length}
use Rattle.std.specs.Coded.{Coded, coded_list}
use Rattle.ufs_model.specs.contracts.data.Actor as actor'
use Rattle.ufs_model.specs.declared.data.Actor.{Actor}

abbrev pub actor_code : Coded Actor
actor_code = actor'.the_row.coded

abbrev pub actors_code : Coded (List Actor)
actors_code = coded_list actor_code

-- The server is listed behind the others. Where 8 are listed already it may be left out, for want of memory.
pub record IsListed (via : List Actor) (server : Actor) (next : List Actor) : Type 0 where
  pub may : (next ≡ via ++ server ∷ []) ⊎ (next ≡ via)
  pub room : length via < 8 → next ≡ via ++ server ∷ []
