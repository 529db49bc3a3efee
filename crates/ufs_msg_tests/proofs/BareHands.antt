-- Hands that have no part are split and joined, and with two of them every cell is there.
use Rattle.std.proofs.Common.{◌≡◌, ℕ, Bool, true, false, eqb, List, [], ◌∷◌, ◌++◌, ap, is_some, sym, refl, ◌∙◌, arith}
use Rattle.std.specs.Prelude.{IsSome}
use Rattle.std.specs.FinMap as fin
use Rattle.ufs_bitmap.specs.Blocks.{BlockSet}
use Rattle.ufs_model.specs.PosixTree.{root_alone}
use Rattle.ufs_model.specs.declared.data.PartName.{PartName}
use Rattle.ufs_model.specs.declared.data.PartName.TheVariants.{Client}
use Rattle.ufs_names.specs.NamesPart.{IsNamesPart, NamesPart}
use Rattle.ufs_hand_laws.specs.Owned.{count, only, without}
use Rattle.ufs_hand_laws.specs.Parts.{ClientPart, is_asked, is_client, is_file, is_names, is_store}
use Rattle.ufs_hand_laws.specs.Whole.{idle_client}
use Rattle.ufs_store.specs.State.{StoreState}
use Rattle.ufs_joint.specs.Cells.{View, both_of, given_of, kept_of}
use Rattle.ufs_joint.specs.Disks.{cell_of}
use Rattle.ufs_joint.specs.Ends.{HoldsAll}
use Rattle.ufs_joint_tests.specs.Small.{names_cell, small_pools, small_start, small_view}
use Rattle.ufs_msg_tests.specs.Hands.{HasNothing}

pub none_kept : (p : PartName) (v : View) → HasNothing v → HasNothing (kept_of p v)
none_kept p v h = record {
  clients = ap (without (is_client p)) h.clients;
  asked = ap (without (is_asked p)) h.asked;
  files = ap (without (is_file p)) h.files;
  pools = ap (without (is_file p)) h.pools;
  names = ap (without (is_names p)) h.names;
  store = ap (without (is_store p)) h.store;
}

pub none_given : (p : PartName) (v : View) → HasNothing v → HasNothing (given_of p v)
none_given p v h = record {
  clients = ap (only (is_client p)) h.clients;
  asked = ap (only (is_asked p)) h.asked;
  files = ap (only (is_file p)) h.files;
  pools = ap (only (is_file p)) h.pools;
  names = ap (only (is_names p)) h.names;
  store = ap (only (is_store p)) h.store;
}

pub none_both : (v u : View) → HasNothing v → HasNothing u → HasNothing (both_of v u)
none_both v u a b = record {
  clients = λ i. a.clients i ++ b.clients i;
  asked = λ i. a.asked i ++ b.asked i;
  files = λ i. a.files i ++ b.files i;
  pools = λ i. a.pools i ++ b.pools i;
  names = λ i. a.names i ++ b.names i;
  store = λ i. a.store i ++ b.store i;
}

module _ (n : NamesPart) (s : StoreState) where
  -- there is no client 1
  pub no_second : HasNothing (given_of (Client 1) (small_view n s))
  no_second = record { clients = refl; asked = refl; files = refl; pools = refl; names = refl; store = refl }

  module _ (part : IsNamesPart n root_alone) (a b : View) (no_a : HasNothing a) (no_b : HasNothing b) where
    abbrev all : View
    all = both_of (both_of (kept_of (Client 1) (small_view n s)) a) b

    clients_are : all.clients ≡ (0, idle_client) ∷ []
    clients_are = λ i. ((0, idle_client) ∷ [] ++ no_a.clients i) ++ no_b.clients i

    pools_are : all.pools ≡ small_pools
    pools_are = λ i. (small_pools ++ no_a.pools i) ++ no_b.pools i

    none_true : true ≡ false → ⊥
    none_true e = cc

    no_file : (file : ℕ) → IsSome (fin.get n.held file) → ⊥
    no_file file is = none_true (sym is ∙ part.told file ∙ ap is_some (fin.get-empty _ file))

    pub all_there : HoldsAll (small_start n s) (both_of (both_of (kept_of (Client 1) (small_view n s)) a) b)
    all_there = record {
      clients = λ c. let e = ap (count eqb c) clients_are in omega (arith, e);
      pools = λ m. let e = ap (count eqb m) pools_are in omega (arith, e);
      names = names_cell n;
      has_names = λ i. ((tt, names_cell n) ∷ [] ++ no_a.names i) ++ no_b.names i;
      store = cell_of 0 [] s;
      has_store = λ i. ((tt, cell_of 0 [] s) ∷ [] ++ no_a.store i) ++ no_b.store i;
      files = λ file is. absurd (no_file file is);
    }
