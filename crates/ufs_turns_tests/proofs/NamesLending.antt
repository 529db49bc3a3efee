-- What the hand has that lends the names, however their commit goes; and that every cell is there again in the end.
use Rattle.std.proofs.Common.{◌≡◌, ℕ, Bool, true, false, eqb, List, [], ◌∷◌, ◌++◌, Some, Result, Ok, Err, is_some, sym, refl, ap, ◌∙◌, subst, arith}
use Rattle.std.specs.Prelude.{IsSome, OnErr, OnOk}
use Rattle.std.specs.FinMap as fin
use Rattle.ufs_bitmap.specs.Blocks.{BlockSet}
use Rattle.ufs_disk.specs.Moments.{Moments}
use Rattle.ufs_model.specs.PosixTree.{root_alone}
use Rattle.ufs_model.specs.declared.data.PartName.TheVariants.{Store}
use Rattle.ufs_names.specs.NamesPart.{IsNamesPart, NamesPart}
use Rattle.ufs_names.specs.Notes.{with_notes}
use Rattle.ufs_hand_laws.specs.Owned.{count}
use Rattle.ufs_hand_laws.specs.Parts.{ClientPart}
use Rattle.ufs_hand_laws.specs.Whole.{idle_client}
use Rattle.ufs_store.specs.State.{StoreState}
use Rattle.ufs_store.specs.declared.fault.StoreFault.{StoreFault}
use Rattle.ufs_joint.specs.Cells.{NamesCell, View, both_of, kept_of}
use Rattle.ufs_joint.specs.Ends.{HoldsAll}
use Rattle.ufs_joint_tests.specs.Small.{names_cell, small_pools, small_start, small_view}
use Rattle.ufs_turns.specs.HeldStore.{IsHeldStore}
use Rattle.ufs_turns.specs.NamesLent.{HaveCommitted, LendsNames, names_kept}

-- the hand lends the names with these values, of the files of those
pub record StillLends (held : NamesPart) (v : View) (n : NamesPart) (fresh : List ℕ) : Type 0 where
  pub cell : NamesCell
  pub lends : LendsNames cell v
  pub value : cell.value ≡ n
  pub fresh_is : cell.fresh ≡ fresh
  pub same : cell.value.held ≡ held.held

module _ (visible : Bool) (held : NamesPart) (v w : View) (n m : NamesPart) (fresh left : List ℕ) (l : StillLends held v n fresh) where
  pub goes_on : (r : Result (Unit {0}) StoreFault) → OnOk r ((c : NamesCell) → LendsNames c v → HaveCommitted visible c w) → OnErr r ((c : NamesCell) → LendsNames c v → LendsNames c w)
      → OnOk r (m ≡ with_notes (Some []) n) → OnOk r (left ≡ []) → OnErr r (m ≡ n) → OnErr r (left ≡ fresh) → w.store ≡ [] → StillLends held w m left
  goes_on (Ok x) ok err committed spent kept unspent away =
      let h = ok l.cell l.lends in
      record {
        cell = names_kept h.known l.cell;
        lends = record { names = h.names; away = away };
        value = ap (with_notes (Some [])) l.value ∙ sym committed;
        fresh_is = sym spent;
        same = l.same;
      }
  goes_on (Err e) ok err committed spent kept unspent away = record { cell = l.cell; lends = err l.cell l.lends; value = l.value ∙ sym kept; fresh_is = l.fresh_is ∙ sym unspent; same = l.same }

module _ (n : NamesPart) (s : StoreState) where
  pub first_lends : LendsNames (names_cell n) (kept_of Store (small_view n s))
  first_lends = record { names = record { files = refl; names = refl }; away = refl }

  none_true : true ≡ false → ⊥
  none_true e = cc

  no_file : IsNamesPart n root_alone → (file : ℕ) → IsSome (fin.get n.held file) → ⊥
  no_file part file is = none_true (sym is ∙ part.told file ∙ ap is_some (fin.get-empty _ file))

  module _ (part : IsNamesPart n root_alone) (origin : Moments) (visible keeps : Bool) (v own : View) (t : StoreState) (cell : NamesCell) (lends : LendsNames cell v) (same : cell.value.held ≡ n.held) (clients : v.clients ≡ (0, idle_client) ∷ []) (pools : v.pools ≡ small_pools) (home : IsHeldStore (small_start n s) origin visible keeps own t) where
    clients_are : (both_of v own).clients ≡ (0, idle_client) ∷ []
    clients_are = λ i. clients i ++ home.alone.clients i

    pools_are : (both_of v own).pools ≡ small_pools
    pools_are = λ i. pools i ++ home.alone.pools i

    pub all_there : HoldsAll (small_start n s) (both_of v own)
    all_there = record {
      clients = λ c. let e = ap (count eqb c) clients_are in omega (arith, e);
      pools = λ m. let e = ap (count eqb m) pools_are in omega (arith, e);
      names = cell;
      has_names = λ i. lends.names.names i ++ home.alone.names i;
      store = home.cell;
      has_store = λ i. lends.away i ++ home.alone.store i;
      files = λ file is. absurd (no_file part file (subst (λ (h : _). IsSome (fin.get h file)) same is));
    }
