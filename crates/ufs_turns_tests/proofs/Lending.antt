-- What the small session's hands have, and that they are all again in the end.
use Rattle.std.proofs.Common.{◌≡◌, ◌≤◌, ℕ, Bool, true, false, eqb, List, [], ◌∷◌, ◌++◌, ap, is_some, sym, refl, ◌∙◌, arith}
use Rattle.std.specs.Prelude.{IsSome}
use Rattle.std.specs.Ordering.{nat_cmp}
use Rattle.std.specs.FinMap as fin
use Rattle.std.specs.FinSet as set
use Rattle.ufs_bitmap.specs.Blocks.{BlockSet}
use Rattle.ufs_disk.specs.Moments.{Moments}
use Rattle.ufs_model.specs.PosixTree.{root_alone}
use Rattle.ufs_model.specs.declared.data.PartName.TheVariants.{File, Store}
use Rattle.ufs_names.specs.NamesPart.{IsNamesPart, NamesPart}
use Rattle.ufs_hand_laws.specs.Owned.{count}
use Rattle.ufs_hand_laws.specs.Parts.{ClientPart}
use Rattle.ufs_hand_laws.specs.Whole.{idle_client}
use Rattle.ufs_store.specs.State.{StoreState, geometry_of_store}
use Rattle.ufs_joint.specs.Cells.{NamesCell, StoreCell, View, both_of, given_of, kept_of}
use Rattle.ufs_joint.specs.Disks.{cell_of}
use Rattle.ufs_joint.specs.Ends.{HoldsAll}
use Rattle.ufs_joint.specs.Whole.{no_blocks}
use Rattle.ufs_joint_tests.specs.Small.{names_cell, small, small_start, small_view}
use Rattle.ufs_turns.specs.HeldStore.{IsHeldStore}
use Rattle.ufs_turns.specs.Lent.{IsBare, LendsPool}
use Rattle.ufs_turns_tests.specs.Seats.{IsSeat}

blind : false ≡ true → ⊥
blind e = cc

module _ (n : NamesPart) (s : StoreState) where
  pub held : (origin : Moments) (visible keeps : Bool) → geometry_of_store s ≡ small → IsHeldStore (small_start n s) origin visible keeps (given_of Store (small_view n s)) s
  held origin visible keeps formed = record {
    cell = cell_of 0 [] s;
    alone = record { clients = refl; asked = refl; files = refl; pools = refl; names = refl; store = refl };
    store = record { stamp = 0; past = []; has = refl; sees = λ seen. absurd (blind seen); formed = formed; size = refl; grown = λ seen. absurd (blind seen); since = λ seen. absurd (blind seen); covers = λ seen. absurd (blind seen); passes = λ seen. absurd (blind seen) };
  }

  pub lends : LendsPool 0 set.empty (given_of (File 0) (kept_of Store (small_view n s)))
  lends = record { pools = refl; away = refl }

  no_file : IsNamesPart n root_alone → (file : ℕ) → IsSome (fin.get n.held file) → ⊥
  no_file part file is = blind (sym (sym is ∙ part.told file ∙ ap is_some (fin.get-empty nat_cmp file)))

  module _ (part : IsNamesPart n root_alone) (origin : Moments) (visible keeps : Bool) (lent own : View) (t : StoreState) (bare : IsBare lent) (clients : lent.clients ≡ []) (blocks : BlockSet) (pools : lent.pools ≡ (0, blocks) ∷ []) (home : IsHeldStore (small_start n s) origin visible keeps own t) where
    abbrev all : View
    all = both_of (both_of (kept_of (File 0) (kept_of Store (small_view n s))) lent) own

    clients_are : all.clients ≡ (0, idle_client) ∷ []
    clients_are = λ i. ((0, idle_client) ∷ [] ++ clients i) ++ home.alone.clients i

    pools_are : all.pools ≡ (1, no_blocks) ∷ (2, no_blocks) ∷ (3, no_blocks) ∷ (0, blocks) ∷ []
    pools_are = λ i. ((1, no_blocks) ∷ (2, no_blocks) ∷ (3, no_blocks) ∷ [] ++ pools i) ++ home.alone.pools i

    pub gathered : HoldsAll (small_start n s) (both_of (both_of (kept_of (File 0) (kept_of Store (small_view n s))) lent) own)
    gathered = record {
      clients = λ c. let e = ap (count eqb c) clients_are in omega (arith, e);
      pools = λ m. let e = ap (count eqb m) pools_are in omega (arith, e);
      names = names_cell n;
      has_names = λ i. ((tt, names_cell n) ∷ [] ++ bare.names i) ++ home.alone.names i;
      store = home.cell;
      has_store = λ i. ([] ++ bare.away i) ++ home.alone.store i;
      files = λ file is. absurd (no_file part file is);
    }

  -- ---- by four threads

  abbrev pub rest_0 : View
  rest_0 = kept_of Store (small_view n s)

  abbrev pub rest_1 : View
  rest_1 = kept_of (File 0) rest_0

  abbrev pub rest_2 : View
  rest_2 = kept_of (File 1) rest_1

  abbrev pub rest_3 : View
  rest_3 = kept_of (File 2) rest_2

  abbrev pub rest_4 : View
  rest_4 = kept_of (File 3) rest_3

  seated : (number : ℕ) (v : View) → v.clients ≡ [] → v.files ≡ [] → v.names ≡ [] → v.store ≡ [] → v.pools ≡ (number, set.empty) ∷ [] → IsSeat number set.empty v
  seated number v clients files names away pools = record { bare = record { files = files; names = names; away = away }; clients = clients; pools = pools }

  pub seat_0 : IsSeat 0 set.empty (given_of (File 0) (kept_of Store (small_view n s)))
  seat_0 = seated 0 (given_of (File 0) rest_0) refl refl refl refl refl

  pub seat_1 : IsSeat 1 set.empty (given_of (File 1) rest_1)
  seat_1 = seated 1 (given_of (File 1) rest_1) refl refl refl refl refl

  pub seat_2 : IsSeat 2 set.empty (given_of (File 2) rest_2)
  seat_2 = seated 2 (given_of (File 2) rest_2) refl refl refl refl refl

  pub seat_3 : IsSeat 3 set.empty (given_of (File 3) rest_3)
  seat_3 = seated 3 (given_of (File 3) rest_3) refl refl refl refl refl

  module _ (part : IsNamesPart n root_alone) (origin : Moments) (visible keeps : Bool) (a b c d own : View) (t : StoreState) (p q r u : BlockSet) (seat_a : IsSeat 0 p a) (seat_b : IsSeat 1 q b) (seat_c : IsSeat 2 r c) (seat_d : IsSeat 3 u d) (home : IsHeldStore (small_start n s) origin visible keeps own t) where
    abbrev pub united : View
    united = both_of (both_of (both_of (both_of (both_of rest_4 a) b) c) d) own

    united_clients : united.clients ≡ (0, idle_client) ∷ []
    united_clients = λ i. (((((0, idle_client) ∷ [] ++ seat_a.clients i) ++ seat_b.clients i) ++ seat_c.clients i) ++ seat_d.clients i) ++ home.alone.clients i

    united_pools : united.pools ≡ (0, p) ∷ (1, q) ∷ (2, r) ∷ (3, u) ∷ []
    united_pools = λ i. (((([] ++ seat_a.pools i) ++ seat_b.pools i) ++ seat_c.pools i) ++ seat_d.pools i) ++ home.alone.pools i

    pub all_gathered : HoldsAll (small_start n s) united
    all_gathered = record {
      clients = λ m. let e = ap (count eqb m) united_clients in omega (arith, e);
      pools = λ m. let e = ap (count eqb m) united_pools in omega (arith, e);
      names = names_cell n;
      has_names = λ i. (((((tt, names_cell n) ∷ [] ++ seat_a.bare.names i) ++ seat_b.bare.names i) ++ seat_c.bare.names i) ++ seat_d.bare.names i) ++ home.alone.names i;
      store = home.cell;
      has_store = λ i. (((([] ++ seat_a.bare.away i) ++ seat_b.bare.away i) ++ seat_c.bare.away i) ++ seat_d.bare.away i) ++ home.alone.store i;
      files = λ file is. absurd (no_file part file is);
    }
