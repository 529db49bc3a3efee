-- The names have the holds of all clients.
use Rattle.std.specs.Prelude.{ℕ, ◌≡◌, List}
use Rattle.ufs_model.specs.History.{tree_after}
use Rattle.ufs_model.specs.Touched.{holds}
use Rattle.ufs_model.specs.declared.data.Entry.{Entry}
use Rattle.ufs_hand_laws.specs.Parts.{World, Start, is_holder}

-- the names have exactly the holds that the clients' descriptors make
abbrev pub AreHoldsTrue : Start → List Entry → World → Type 0
AreHoldsTrue k h G = (c f : ℕ) → is_holder G.names.holds c f ≡ holds (tree_after k.tree h).fds c f
