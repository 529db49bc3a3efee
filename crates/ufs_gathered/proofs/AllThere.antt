-- All that the actors have is in one hand, and that has every cell.
use Rattle.std.proofs.Common.{◌≡◌, ◌≤◌, ℕ, Bool, eqb, List, [], ◌∷◌, ◌++◌, sym, refl, ◌∙◌, subst}
use Rattle.std.proofs.lemmas.List.{append-nil}
use Rattle.ufs_bitmap.specs.Blocks.{BlockSet}
use Rattle.ufs_disk.specs.Moments.{Moments}
use Rattle.ufs_held.specs.Together.{HasThemToo, under_numbers}
use Rattle.ufs_held_names.specs.HeldNames.{HasNamesAlone}
use Rattle.ufs_joint.specs.Cells.{FileCell, NamesCell, Start, StoreCell, View, both_of}
use Rattle.ufs_joint.specs.Ends.{HoldsAll}
use Rattle.ufs_joint.specs.Turns.{begun_at, turn_begun}
use Rattle.ufs_model.specs.declared.data.Entry.{Entry}
use Rattle.ufs_hand_laws.specs.Owned.{count}
use Rattle.ufs_hand_laws.specs.Parts.{ClientPart}
use Rattle.ufs_store.specs.State.{StoreState}
use Rattle.ufs_turns.specs.HeldStore.{IsHeldStore, IsStoreIn}
use Rattle.ufs_gathered.specs.Gathered.{AreAllBack, AreHome, HasAllOf, HasPoolsAlone, clients_in, with_all}
use Rattle.ufs_gathered.proofs.Homes.{none_else}
use Rattle.ufs_gathered.proofs.Joined.{all_joined}

module _ (names : NamesCell) (right : View) (named : HasNamesAlone names right) (k : Start) (origin : Moments) (visible keeps : Bool) (own : View) (s : StoreState) (home : IsHeldStore k origin visible keeps own s)
    (files : List FileCell) (v : View) (them : HasThemToo files (both_of right own) v) (pools : View) (pooled : HasPoolsAlone pools)
    (clients : List View) (lists : List (List Entry)) (at_home : AreHome lists clients) where
  abbrev with_pools : View
  with_pools = both_of v pools

  abbrev pub whole : View
  whole = with_all with_pools clients

  clients_are : whole.clients ≡ clients_in clients
  clients_are = all_joined (λ (u : View). u.clients) (λ u w. refl) with_pools clients ∙ (λ i. none i ++ clients_in clients)
    where
      none : with_pools.clients ≡ []
      none = (λ i. (them.clients ∙ (λ j. named.clients j ++ home.alone.clients j)) i ++ pooled.clients i)

  pools_are : whole.pools ≡ pools.pools
  pools_are =
      all_joined (λ (u : View). u.pools) (λ u w. refl) with_pools clients
      ∙ (λ i. some i ++ none_else (λ (u : View). u.pools) (λ n self before u b. b.pools) 0 lists clients at_home i)
      ∙ append-nil pools.pools
    where
      some : with_pools.pools ≡ pools.pools
      some = (λ i. (them.pools ∙ (λ j. named.pools j ++ home.alone.pools j)) i ++ pools.pools)

  files_are : whole.files ≡ under_numbers files
  files_are =
      all_joined (λ (u : View). u.files) (λ u w. refl) with_pools clients
      ∙ (λ i. some i ++ none_else (λ (u : View). u.files) (λ n self before u b. b.files) 0 lists clients at_home i)
      ∙ append-nil (under_numbers files)
    where
      some : with_pools.files ≡ under_numbers files
      some = (λ i. (them.files ∙ (λ j. (named.files j ++ home.alone.files j) ++ under_numbers files)) i ++ pooled.files i) ∙ append-nil (under_numbers files)

  names_are : whole.names ≡ (tt, names) ∷ []
  names_are =
      all_joined (λ (u : View). u.names) (λ u w. refl) with_pools clients
      ∙ (λ i. some i ++ none_else (λ (u : View). u.names) (λ n self before u b. b.names) 0 lists clients at_home i)
    where
      some : with_pools.names ≡ (tt, names) ∷ []
      some = (λ i. (them.names ∙ (λ j. named.names j ++ home.alone.names j)) i ++ pooled.names i)

  store_is : whole.store ≡ own.store
  store_is =
      all_joined (λ (u : View). u.store) (λ u w. refl) with_pools clients
      ∙ (λ i. some i ++ none_else (λ (u : View). u.store) (λ n self before u b. b.store) 0 lists clients at_home i)
      ∙ append-nil own.store
    where
      some : with_pools.store ≡ own.store
      some = (λ i. (them.store ∙ (λ j. named.store j ++ own.store)) i ++ pooled.store i) ∙ append-nil own.store

  pub has_all : HasAllOf names files pools clients whole
  has_all = record { clients_are = clients_are; files_are = files_are; pools_are = pools_are; names_are = names_are }

  pub store_there : IsStoreIn k origin visible keeps whole s
  store_there = let h = home.store in record {
    stamp = h.stamp;
    past = h.past;
    has = store_is ∙ h.has;
    sees = h.sees;
    formed = h.formed;
    size = h.size;
    grown = h.grown;
    since = h.since;
    covers = h.covers;
    passes = h.passes;
  }

-- ---- every cell is there, also once the last turn of the store began

pub begun_all : (k : Start) (names : NamesCell) (files : List FileCell) (pools : View) (clients : List View) (v : View) (n : ℕ) (cell : StoreCell) → AreAllBack k names files pools clients → HasAllOf names files pools clients v → HoldsAll k (turn_begun n cell v)
begun_all k names files pools clients v n cell back all = record {
  clients = λ c. subst (λ (ps : List (ℕ × ClientPart)). count eqb c k.view.clients ≤ count eqb c ps) (sym all.clients_are) (back.clients_back c);
  pools = λ m. subst (λ (ps : List (ℕ × BlockSet)). count eqb m k.view.pools ≤ count eqb m ps) (sym all.pools_are) (back.pools_back m);
  names = names;
  has_names = all.names_are;
  store = begun_at n cell;
  has_store = refl;
  files = λ file live. subst (λ (ps : List (ℕ × FileCell)). 1 ≤ count eqb file ps) (sym all.files_are) (back.files_back file live);
}
