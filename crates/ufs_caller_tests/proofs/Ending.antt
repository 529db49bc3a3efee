-- With the client's hand that comes back every cell is there.
use Rattle.std.proofs.Common.{◌≡◌, ℕ, ◌≤◌, eqb, true, false, List, [], ◌∷◌, ◌++◌, is_some, sym, ap, ◌∙◌, subst, arith}
use Rattle.std.specs.FinMap as fin
use Rattle.std.specs.Ordering.{nat_cmp}
use Rattle.ufs_bitmap.specs.Blocks.{BlockSet}
use Rattle.ufs_model.specs.PosixTree.{root_alone}
use Rattle.ufs_model.specs.declared.data.PartName.TheVariants.{Asked, Client}
use Rattle.ufs_names.specs.NamesPart.{IsNamesPart, NamesPart}
use Rattle.ufs_hand_laws.specs.Owned.{count}
use Rattle.ufs_hand_laws.specs.Parts.{AskedPart, ClientPart}
use Rattle.ufs_hand_laws.specs.Whole.{idle_client}
use Rattle.ufs_store.specs.State.{StoreState}
use Rattle.ufs_joint.specs.Cells.{View, both_of, kept_of}
use Rattle.ufs_joint.specs.Disks.{cell_of}
use Rattle.ufs_joint.specs.Ends.{HoldsAll}
use Rattle.ufs_joint_tests.specs.Small.{names_cell, small_pools, small_start, small_view}
use Rattle.ufs_caller.specs.Hands.{HasBoth}

true_false : true ≡ false → ⊥
true_false e = cc

-- what is left once the client's hand was made
abbrev pub rest_of : NamesPart → StoreState → View
rest_of n s = kept_of (Asked 0) (kept_of (Client 0) (small_view n s))

pub all_there : (n : NamesPart) (s : StoreState) → IsNamesPart n root_alone → (self : ClientPart) (before : AskedPart) (own : View) → HasBoth 0 self before own → HoldsAll (small_start n s) (both_of (rest_of n s) own)
all_there n s part self before own b = record {
  clients = λ c. subst (λ (l : List (ℕ × ClientPart)). count eqb c ((0, idle_client) ∷ []) ≤ count eqb c l) (sym b.clients) (omega arith);
  pools = λ m. subst (λ (l : List (ℕ × BlockSet)). count eqb m small_pools ≤ count eqb m l) (λ i. small_pools ++ sym b.pools i) (omega arith);
  names = names_cell n;
  has_names = λ i. (tt, names_cell n) ∷ [] ++ b.names i;
  store = cell_of 0 [] s;
  has_store = λ i. (tt, cell_of 0 [] s) ∷ [] ++ b.store i;
  files = λ file is. absurd (let both : true ≡ false = sym is ∙ part.told file ∙ ap is_some (fin.get-empty nat_cmp file) in true_false both);
}
