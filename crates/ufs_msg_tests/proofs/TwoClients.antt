-- The session of two clients may begin; their requests may go with their hands; and with the hands that come back every cell is there.
use Rattle.std.proofs.Common.{◌≡◌, ◌+◌, ℕ, zero, suc, ◌≤◌, ◌⊎◌, inl, inr, eqb, ne_eqb, Bool, true, false, List, [], ◌∷◌, ◌++◌, Some, length, is_some, refl, sym, ap, ◌∙◌, subst, arith}
use Rattle.std.specs.Prelude.{IsSome}
use Rattle.std.specs.FinMap as fin
use Rattle.ufs_bitmap.specs.Blocks.{BlockSet}
use Rattle.ufs_dir_tree.specs.DirTable.{dir_at, no_dir}
use Rattle.ufs_joint.specs.Cells.{View, both_of, given_of}
use Rattle.ufs_joint.specs.Disks.{cell_of}
use Rattle.ufs_joint.specs.Ends.{CanBegin, HoldsAll}
use Rattle.ufs_joint_tests.proofs.Small.{begins}
use Rattle.ufs_joint_tests.specs.Small.{all_free, names_cell, small, small_pools}
use Rattle.ufs_model.specs.PosixTree.{root_alone}
use Rattle.ufs_model.specs.declared.data.Op.TheVariants.{Sync}
use Rattle.ufs_model.specs.declared.data.PartName.TheVariants.{Client}
use Rattle.ufs_msg.specs.Requests.{HasClientAlone, IsAsked}
use Rattle.ufs_msg_tests.specs.TwoClients.{both_asked, none_left, second_left, sync_of, two_start}
use Rattle.ufs_names.specs.NamesPart.{IsNamesPart, NamesPart}
use Rattle.ufs_hand_laws.specs.Owned.{Has, count, one}
use Rattle.ufs_hand_laws.specs.Parts.{AskedPart, ClientPart}
use Rattle.ufs_hand_laws.specs.Whole.{idle_asked, idle_client}
use Rattle.ufs_store.specs.State.{StoreState, geometry_of_store}

-- a number is one of two at most
one_of_two : (c : ℕ) → one (eqb c 0) + (one (eqb c 1) + 0) ≤ 1
one_of_two zero = omega arith
one_of_two (suc zero) = omega arith
one_of_two (suc (suc c)) =
    let first = ap one (ne_eqb (suc (suc c)) 0 (λ e. omega (arith, e))) in
    let second = ap one (ne_eqb (suc (suc c)) 1 (λ e. omega (arith, e))) in
    omega (arith, first, second)

idle : (c : ℕ) (p : ClientPart) → Has {A = ℕ × ClientPart} (c, p) ((0, idle_client) ∷ (1, idle_client) ∷ []) → p ≡ idle_client
idle c p (inl is) = ap (λ (q : ℕ × ClientPart). q.1) is
idle c p (inr (inl is)) = ap (λ (q : ℕ × ClientPart). q.1) is
idle c p (inr (inr is)) = absurd is

idle_too : (c : ℕ) (p : AskedPart) → Has {A = ℕ × AskedPart} (c, p) ((0, idle_asked) ∷ (1, idle_asked) ∷ []) → p ≡ idle_asked
idle_too c p (inl is) = ap (λ (q : ℕ × AskedPart). q.1) is
idle_too c p (inr (inl is)) = ap (λ (q : ℕ × AskedPart). q.1) is
idle_too c p (inr (inr is)) = absurd is

pub two_begin : (n : NamesPart) (s : StoreState) → IsNamesPart n root_alone → length n.tree.dirs.dirs ≡ 32 + 1 → ((i : ℕ) → dir_at n.tree.dirs i ≡ no_dir) → geometry_of_store s ≡ small → s.unassigned ≡ all_free → CanBegin (two_start n s)
two_begin n s part counted bare formed free =
    let b = begins n s part counted bare formed free in
    record {
      tree = b.tree;
      closed = b.closed;
      one_client = one_of_two;
      one_asked = one_of_two;
      one_file = b.one_file;
      clients = idle;
      asked = idle_too;
      one_pool = b.one_pool;
      pools = b.pools;
      names = b.names;
      has_names = b.has_names;
      store = b.store;
      has_store = b.has_store;
      unchanged = b.unchanged;
      names_unchanged = b.names_unchanged;
      at_rest = b.at_rest;
      seen = b.seen;
      no_faults = b.no_faults;
      no_stop = b.no_stop;
      parts = b.parts;
      pool = b.pool;
      files_in = b.files_in;
      commits_in = b.commits_in;
      names_in = b.names_in;
      are = λ start begun. b.are start (record { tree = begun.tree; alike = begun.alike; picked = begun.picked; seen = begun.seen });
      server = b.server;
      formed = b.formed;
      on_disk = b.on_disk;
    }

module _ (n : NamesPart) (s : StoreState) (at then : ℕ) where
  pub first_asked : IsAsked (two_start n s) (sync_of 0) (given_of (Client 0) (both_asked n s at then))
  first_asked = record {
    there = omega arith;
    self = record idle_client { asked = Some Sync };
    alone = record { clients = refl; asked = refl; files = refl; pools = refl; names = refl; store = refl };
    low = omega arith;
    seq = refl;
    few = omega arith;
    bounded = tt;
    asked = refl;
    desc = refl;
    told = λ t same. record { desc = refl; fd = refl; last = refl };
    needs = λ t same. refl;
    dropped = λ l has rests. rests;
    unleased = refl;
  }

  pub second_asked : IsAsked (two_start n s) (sync_of 1) (given_of (Client 1) (second_left n s at then))
  second_asked = record {
    there = omega arith;
    self = record idle_client { asked = Some Sync };
    alone = record { clients = refl; asked = refl; files = refl; pools = refl; names = refl; store = refl };
    low = omega arith;
    seq = refl;
    few = omega arith;
    bounded = tt;
    asked = refl;
    desc = refl;
    told = λ t same. record { desc = refl; fd = refl; last = refl };
    needs = λ t same. refl;
    dropped = λ l has rests. rests;
    unleased = refl;
  }

  module _ (part : IsNamesPart n root_alone) (a b : View) (one_part other_part : ClientPart) (first : HasClientAlone 0 one_part a) (second : HasClientAlone 1 other_part b) where
    abbrev all : View
    all = both_of (both_of (none_left n s at then) a) b

    clients_are : all.clients ≡ (0, one_part) ∷ (1, other_part) ∷ []
    clients_are = λ i. ([] ++ first.clients i) ++ second.clients i

    pools_are : all.pools ≡ small_pools
    pools_are = λ i. (small_pools ++ first.pools i) ++ second.pools i

    none_true : true ≡ false → ⊥
    none_true e = cc

    no_file : (file : ℕ) → IsSome (fin.get n.held file) → ⊥
    no_file file is = none_true (sym is ∙ part.told file ∙ ap is_some (fin.get-empty _ file))

    pub both_back : HoldsAll (two_start n s) (both_of (both_of (none_left n s at then) a) b)
    both_back = record {
      clients = λ c. let e = ap (count eqb c) clients_are in omega (arith, e);
      pools = λ m. let e = ap (count eqb m) pools_are in omega (arith, e);
      names = names_cell n;
      has_names = λ i. ((tt, names_cell n) ∷ [] ++ first.names i) ++ second.names i;
      store = cell_of 0 [] s;
      has_store = λ i. ((tt, cell_of 0 [] s) ∷ [] ++ first.store i) ++ second.store i;
      files = λ file is. absurd (no_file file is);
    }
