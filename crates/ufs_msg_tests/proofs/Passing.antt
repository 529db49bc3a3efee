-- The entry of the small session's client may go with its hand; and with the hand that comes back every cell is there.
use Rattle.std.proofs.Common.{◌≡◌, ℕ, ◌≤◌, ◌<◌, eqb, true, false, List, [], ◌∷◌, ◌++◌, Option, Some, None, is_some, refl, sym, ap, ◌∙◌, subst, arith}
use Rattle.std.proofs.lemmas.Bool.{eqb-true}
use Rattle.std.specs.FinMap as fin
use Rattle.std.specs.Ordering.{nat_cmp}
use Rattle.ufs_bitmap.specs.Blocks.{BlockSet}
use Rattle.ufs_model.specs.PosixTree.{root_alone}
use Rattle.ufs_model.specs.declared.data.Actor.{Actor}
use Rattle.ufs_model.specs.declared.data.Desc.{Desc}
use Rattle.ufs_model.specs.declared.data.Entry.{Entry}
use Rattle.ufs_model.specs.declared.data.Lease.{Lease}
use Rattle.ufs_model.specs.declared.data.Op.TheVariants.{Sync}
use Rattle.ufs_model.specs.declared.data.PartName.TheVariants.{Client}
use Rattle.ufs_names.specs.NamesPart.{IsNamesPart, NamesPart}
use Rattle.ufs_hand_laws.specs.Draws.{entry_of}
use Rattle.ufs_hand_laws.specs.Owned.{count}
use Rattle.ufs_hand_laws.specs.Parts.{ClientPart}
use Rattle.ufs_hand_laws.specs.Whole.{idle_client}
use Rattle.ufs_store.specs.State.{StoreState}
use Rattle.ufs_joint.specs.Cells.{Start, View, both_of, given_of}
use Rattle.ufs_joint.specs.Disks.{cell_of}
use Rattle.ufs_joint.specs.Ends.{HoldsAll}
use Rattle.ufs_joint_tests.specs.Small.{answered, excused, names_cell, small_pools, small_start}
use Rattle.ufs_msg.specs.Answers.{IsTold}
use Rattle.ufs_msg.specs.Requests.{HasClientAlone}

pub is_told : (n : NamesPart) (s : StoreState) (tickets ticket : ℕ) → IsTold (small_start n s) (entry_of ticket excused) None None None (given_of (Client 0) (answered n s tickets ticket))
is_told n s tickets ticket = record {
  mine = omega arith;
  self = record idle_client { entries = entry_of ticket excused ∷ [] };
  alone = record { clients = refl; asked = refl; files = refl; pools = refl; names = refl; store = refl };
  low = omega arith;
  before = [];
  last = refl;
  seq = refl;
  few = omega arith;
  idle = refl;
  by = tt;
  desc_is = refl;
  owned = λ d file is of. absurd (none_some is);
  unowned = λ none. refl;
  there = λ a is. absurd (none_some is);
  granted = λ l is. absurd (none_some is);
  unleased = refl;
}
  where
    none_some : {A : Type 0} {x : A} → None ≡ Some x → ⊥
    none_some e = cc

-- an entry of this client came with its hand
pub told_alone : (k : Start) (client : ℕ) (entry : Entry) (desc : Option Desc) (owner : Option Actor) (lease : Option Lease) (v : View) → eqb entry.client client ≡ true → IsTold k entry desc owner lease v → (part : ClientPart) × HasClientAlone client part v
told_alone k client entry desc owner lease v same h = (h.self, subst (λ (c : ℕ). HasClientAlone c h.self v) (eqb-true entry.client client same) h.alone)

pub holds_all : (n : NamesPart) (s : StoreState) (part : IsNamesPart n root_alone) (v back : View) (self : ClientPart) → HasClientAlone 0 self back
    → v.clients ≡ [] → v.pools ≡ small_pools → v.names ≡ (tt, names_cell n) ∷ [] → v.store ≡ (tt, cell_of 0 [] s) ∷ [] → HoldsAll (small_start n s) (both_of v back)
holds_all n s part v back self alone no_client pools_are names_are store_is = record {
  clients = λ c. subst (λ (l : List (ℕ × ClientPart)). count eqb c ((0, idle_client) ∷ []) ≤ count eqb c l) (λ i. sym no_client i ++ sym alone.clients i) (omega arith);
  pools = λ c. subst (λ (l : List (ℕ × BlockSet)). count eqb c small_pools ≤ count eqb c l) (λ i. sym pools_are i ++ sym alone.pools i) (omega arith);
  names = names_cell n;
  has_names = λ i. names_are i ++ alone.names i;
  store = cell_of 0 [] s;
  has_store = λ i. store_is i ++ alone.store i;
  files = λ file is. absurd (let both : true ≡ false = sym is ∙ part.told file ∙ ap is_some (fin.get-empty nat_cmp file) in none_true both);
}
  where
    none_true : true ≡ false → ⊥
    none_true e = cc
