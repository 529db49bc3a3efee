-- Each part is in one hand.
use Rattle.std.specs.Prelude.{ℕ, ◌≡◌, eqb, List, Some}
use Rattle.ufs_hand_laws.specs.Owned.{present, count, Held}
use Rattle.ufs_hand_laws.specs.Parts.{View, World, Start, only_one}

-- the parts of all hands are these, each in one hand and once in it
pub record IsHeld (views : List View) (G : World) : Type 0 where
  pub clients : Held eqb (λ (v : View). v.clients) views G.client
  pub asked : Held eqb (λ (v : View). v.asked) views G.asked
  pub files : Held eqb (λ (v : View). v.files) views G.file
  pub pools : Held eqb (λ (v : View). v.pools) views G.pool
  pub names : Held only_one (λ (v : View). v.names) views (λ _. Some G.names)
  pub store : Held only_one (λ (v : View). v.store) views (λ _. Some G.store)

-- clients and pools are those of the opening
pub record DoPartsStay (k : Start) (G : World) : Type 0 where
  pub clients : (c : ℕ) → present (G.client c) ≡ count eqb c k.view.clients
  pub asked : (c : ℕ) → present (G.asked c) ≡ count eqb c k.view.asked
  pub pools : (n : ℕ) → present (G.pool n) ≡ count eqb n k.view.pools
