-- The names' hand at the beginning of the small session; and that every cell is there again in the end.
use Rattle.std.proofs.Common.{◌≡◌, ℕ, Bool, true, false, eqb, List, [], ◌∷◌, ◌++◌, Option, Some, Result, Ok, Err, is_some, sym, refl, ap, ◌∙◌, subst, arith}
use Rattle.std.specs.Prelude.{IsSome, OnErr, OnOk}
use Rattle.std.specs.Cmp.{nat_cmp_total}
use Rattle.std.specs.Ordering.{nat_cmp}
use Rattle.std.specs.FinMap as fin
use Rattle.std.specs.FinMap.{contains_key-keys}
use Rattle.std.specs.FinSet.{contains-from_list}
use Rattle.std.specs.FinSet as set
use Rattle.ufs_disk.specs.Moments.{Moments}
use Rattle.ufs_model.specs.PosixTree.{root_alone}
use Rattle.ufs_model.specs.History.{is_excused}
use Rattle.ufs_model.specs.declared.data.Op.TheVariants.{Sync}
use Rattle.ufs_model.specs.declared.data.PartName.TheVariants.{Client, File, Names, Store}
use Rattle.ufs_model.specs.declared.data.Reply.{Reply}
use Rattle.ufs_model.specs.declared.data.Reply.TheVariants as reply
use Rattle.ufs_names.specs.NamesPart.{Holdings, IsNamesPart, NamesPart}
use Rattle.ufs_hand_laws.specs.Owned.{count}
use Rattle.ufs_hand_laws.specs.Parts.{ClientPart}
use Rattle.ufs_hand_laws.specs.Whole.{idle_client}
use Rattle.ufs_store.specs.State.{StoreState, geometry_of_store}
use Rattle.ufs_store.specs.declared.fault.StoreFault.{StoreFault}
use Rattle.ufs_held.specs.Asking.{IsGuest, IsSyncReply}
use Rattle.ufs_joint.specs.Cells.{FileCell, NamesCell, View, both_of, given_of, kept_of}
use Rattle.ufs_joint.specs.Disks.{cell_of}
use Rattle.ufs_joint.specs.Ends.{HoldsAll}
use Rattle.ufs_joint.specs.NamesTurns.{live_files}
use Rattle.ufs_joint_tests.specs.Small.{asked, names_cell, small, small_pools, small_start}
use Rattle.ufs_joint.specs.Whole.{no_blocks}
use Rattle.ufs_noted.specs.Noted.{Noted}
use Rattle.ufs_turns.specs.HeldStore.{IsHeldStore}
use Rattle.ufs_turns.specs.Lent.{IsBare}
use Rattle.ufs_held_names.specs.HeldNames.{AreCommitted, HasNamesAlone, HoldsNames}
use Rattle.ufs_held_names.specs.SyncAll.{AreAllLive, AtFile, AtNames, StopsShort}

blind : false ≡ true → ⊥
blind e = cc

-- ---- a `sync` without a file

pub none_live : (n : NamesPart) → ((file : ℕ) → IsSome (fin.get n.held file) → ⊥) → AreAllLive n []
none_live n none = record { live = λ file is. absurd (none file is); once = λ file. omega arith }

pub synced_held : (visible : Bool) (was now : NamesCell) (olds nows : List FileCell) (tells told : Option View) (r : Reply) → IsSyncReply r → (r ≡ reply.Done → AreCommitted visible was now) → (is_excused r ≡ true → StopsShort visible was now olds nows tells told)
    → now.value.held ≡ was.value.held
synced_held visible was now olds nows tells told reply.Done is done short = ap (λ (c : NamesCell). c.value.held) (done refl).is
synced_held visible was now olds nows tells told (reply.Excused x) is done short = by (short refl)
  where
    by : StopsShort visible was now olds nows tells told → now.value.held ≡ was.value.held
    by (AtNames same files free) = ap (λ (c : NamesCell). c.value.held) same
    by (AtFile committed k l s freed) = ap (λ (c : NamesCell). c.value.held) committed.is
synced_held visible was now olds nows tells told (reply.Fd n) is done short = absurd is
synced_held visible was now olds nows tells told (reply.Count n) is done short = absurd is
synced_held visible was now olds nows tells told (reply.At n) is done short = absurd is
synced_held visible was now olds nows tells told (reply.Got bytes) is done short = absurd is
synced_held visible was now olds nows tells told (reply.IsFile n) is done short = absurd is
synced_held visible was now olds nows tells told (reply.IsDir n) is done short = absurd is
synced_held visible was now olds nows tells told (reply.Names names) is done short = absurd is
synced_held visible was now olds nows tells told (reply.Refused e) is done short = absurd is

pub same_held : (visible : Bool) (r : Result (Unit {0}) StoreFault) (was now : NamesCell) → OnOk r (AreCommitted visible was now) → OnErr r (now ≡ was) → now.value.held ≡ was.value.held
same_held visible (Ok x) was now ok err = ap (λ (c : NamesCell). c.value.held) ok.is
same_held visible (Err e) was now ok err = ap (λ (c : NamesCell). c.value.held) err

-- ---- the hands

module _ (n : NamesPart) (s : StoreState) (r : ℕ) where
  -- once the client asked
  abbrev pub v : View
  v = asked n s r

  abbrev pub without_store : View
  without_store = kept_of Store v

  abbrev pub without_names : View
  without_names = kept_of Names without_store

  abbrev pub without_client : View
  without_client = kept_of (Client 0) without_names

  abbrev pub rest : View
  rest = kept_of (File 3) without_client

  abbrev pub guest : View
  guest = both_of (given_of (Client 0) without_names) (given_of (File 3) without_client)

  abbrev pub syncing : ClientPart
  syncing = record idle_client { asked = Some Sync }

  pub home : (origin : Moments) (visible keeps : Bool) → geometry_of_store s ≡ small → IsHeldStore (small_start n s) origin visible keeps (given_of Store v) s
  home origin visible keeps formed = record {
    cell = cell_of 0 [] s;
    alone = record { clients = refl; asked = refl; files = refl; pools = refl; names = refl; store = refl };
    store = record { stamp = 0; past = []; has = refl; sees = λ seen. absurd (blind seen); formed = formed; size = refl; grown = λ seen. absurd (blind seen); since = λ seen. absurd (blind seen); covers = λ seen. absurd (blind seen); passes = λ seen. absurd (blind seen) };
  }

  pub names_there : (x : Noted) → x ≡ record { names = n; fresh = []; dropped = set.empty } → HoldsNames x (given_of Names without_store)
  names_there x is = record { cell = names_cell n; alone = record { clients = refl; asked = refl; files = refl; pools = refl; names = refl; store = refl }; value = sym is }

  pub rest_bare : IsBare rest
  rest_bare = record { files = refl; names = refl; away = refl }

  pub guest_is : IsGuest 0 syncing 3 no_blocks guest
  guest_is = record { clients = refl; asked = refl; files = refl; pools = refl; names = refl; store = refl }

  pub none_named : IsNamesPart n root_alone → set.empty ≡ live_files n
  none_named part =
      set.same_set nat_cmp_total set.nat_cmp-IsAntisymmetric set.empty (live_files n)
      (λ file. set.contains-empty nat_cmp file ∙ sym (contains-from_list nat_cmp_total (fin.keys n.held) file ∙ sym (contains_key-keys n.held file) ∙ part.told file ∙ ap is_some (fin.get-empty nat_cmp file)))

  pub no_file : IsNamesPart n root_alone → (file : ℕ) → IsSome (fin.get n.held file) → ⊥
  no_file part file is = blind (sym (sym is ∙ part.told file ∙ ap is_some (fin.get-empty nat_cmp file)))

  module _ (part : IsNamesPart n root_alone) (origin : Moments) (visible keeps : Bool) (left back right own : View) (client : ClientPart) (t : StoreState) (cell : NamesCell) (bare : IsBare left) (came : IsGuest 0 client 3 no_blocks back) (alone : HasNamesAlone cell right)
      (same : cell.value.held ≡ n.held) (clients : left.clients ≡ []) (pools : left.pools ≡ (0, no_blocks) ∷ (1, no_blocks) ∷ (2, no_blocks) ∷ []) (stored : IsHeldStore (small_start n s) origin visible keeps own t) where
    abbrev pub whole : View
    whole = both_of (both_of (both_of left back) right) own

    clients_are : whole.clients ≡ (0, client) ∷ []
    clients_are = λ i. ((clients i ++ came.clients i) ++ alone.clients i) ++ stored.alone.clients i

    pools_are : whole.pools ≡ small_pools
    pools_are = λ i. ((pools i ++ came.pools i) ++ alone.pools i) ++ stored.alone.pools i

    pub all_there : HoldsAll (small_start n s) (both_of (both_of (both_of left back) right) own)
    all_there = record {
      clients = λ c. let e = ap (count eqb c) clients_are in omega (arith, e);
      pools = λ m. let e = ap (count eqb m) pools_are in omega (arith, e);
      names = cell;
      has_names = λ i. ((bare.names i ++ came.names i) ++ alone.names i) ++ stored.alone.names i;
      store = stored.cell;
      has_store = λ i. ((bare.away i ++ came.store i) ++ alone.store i) ++ stored.alone.store i;
      files = λ file is. absurd (no_file part file (subst (λ (h : Holdings). IsSome (fin.get h file)) same is));
    }
