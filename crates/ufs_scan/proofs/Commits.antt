-- Commits folded one after the other.
use Rattle.std.proofs.Common.{◌≡◌, ℕ, zero, suc, ◌+◌, ◌*◌, ◌<◌, ◌≤◌, List, [], ◌∷◌, ◌++◌, Option, Some, None, length, take, drop, get_or, refl, ap, sym, ◌∙◌, subst, arith}
use Rattle.std.specs.Prelude.{map, nat_lt}
use Rattle.std.specs.List.{All, filter}
use Rattle.std.proofs.lemmas.List.{length-map}
use Rattle.std.proofs.Math.ListN.{drop_of_length-le}
use Rattle.std.proofs.lemmas.List.Elements.{All-head, All-tail}
use Rattle.ufs_image.specs.Journal.{FoundSector, PlacedRecord}
use Rattle.ufs_layout.specs.declared.geometry.Geometry.{Geometry}
use Rattle.ufs_found.specs.Off.{lower, lowest_of}
use Rattle.ufs_found.specs.Sorted.{number_of}
use Rattle.ufs_scan.specs.Edits.{Edit, edits_of}
use Rattle.ufs_scan.specs.Chains.{edits_at}
use Rattle.ufs_scan.specs.Folding.{State, folded_from, IsFit, IsFolded, IsFoldable, TailIsKnown}
use Rattle.ufs_scan.specs.Gathered.{placed_below, transaction_in}
use Rattle.ufs_scan.specs.Standings.{rested, behind, out_in, out_of}
use Rattle.ufs_scan.specs.declared.chains.Chain.{Chain}
use Rattle.ufs_scan.specs.declared.standing.Standing.{Standing}
use Rattle.ufs_scan.proofs.Folded.{Covered, Whole, commit_is}
use Rattle.ufs_scan.proofs.Lowest.{lower_assoc, lowest_append}
use Rattle.ufs_scan.proofs.PerInode.{Below, below_none, below_itself, below_left, below_trans, long_behind, doings}
use Rattle.ufs_scan.proofs.Placed.{each_edit, placed_are}
use Rattle.ufs_scan.proofs.Names.{rested_twice, out_rested}

abbrev pub sum_of : Geometry → List FoundSector → List FoundSector → List Standing → Option ℕ
sum_of g all commits standings = lowest_of (out_of g (map (transaction_in all) commits) standings)

-- so far, with these commits left
pub record Going (g : Geometry) (all parts : List FoundSector) (chains : List Chain) (known total : Option ℕ) (left : List FoundSector) (st : State) : Type 0 where
  pub whole : total ≡ lower st.lowest (sum_of g all left st.standings)
  pub still : map rested st.standings ≡ st.standings
  pub sized : length st.standings ≡ g.inodes
  pub longs : length st.leasts ≡ length chains
  pub first : Below st.lowest known
  pub covered : (q : ℕ) (d : Chain) → q < length chains → Covered st.lowest (get_or chains q d) (get_or st.leasts q None)
  pub tails : All (TailIsKnown (edits_of g parts) known) left

pub going : (g : Geometry) (all parts : List FoundSector) (chains : List Chain) (commits : List FoundSector) (known : Option ℕ) (st : State) → IsFoldable g all parts chains commits st.standings known
    → st.lowest ≡ known → length st.leasts ≡ length chains → ((q : ℕ) → get_or st.leasts q None ≡ None) → Going g all parts chains known (lower known (sum_of g all commits st.standings)) commits st
going g all parts chains commits known st can lows longs none = record {
  whole = ap (λ o. lower o (sum_of g all commits st.standings)) (sym lows);
  still = can.still;
  sized = can.sized;
  longs = longs;
  first = subst (λ (o : Option ℕ). Below o known) (sym lows) (below_itself known);
  covered = λ q d lt count at. grind (arith, none q, at);
  tails = can.tails;
}

pub going_on : (g : Geometry) (all parts : List FoundSector) (chains : List Chain) (commits : List FoundSector) (start : List Standing) (known total : Option ℕ) (f : FoundSector) (left : List FoundSector) (st next : State)
    → IsFoldable g all parts chains commits start known → All (λ (c : Chain). IsFit g.inodes c) chains → IsFolded chains f st next → Going g all parts chains known total (f ∷ left) st → Going g all parts chains known total left next
going_on g all parts chains commits start known total f left st next can fit folded so =
    subst (λ (n : State). Going g all parts chains known total left n) (sym folded.folded) on
  where
    T : ℕ
    T = f.1.txn

    i : ℕ
    i = f.1.index

    n : ℕ
    n = number_of f

    ps : List PlacedRecord
    ps = placed_below all f.1.txn f.1.index

    told : TailIsKnown (edits_of g parts) known f
    told = All-head (TailIsKnown (edits_of g parts) known) f left so.tails

    each : (k : ℕ) → k < g.inodes → doings g k ps ≡ map (λ (e : Edit). e.does) (filter (λ (e : Edit). nat_lt e.index i) (edits_at (T * 4294967296 + (k + 1)) (edits_of g parts)))
    each k lt = ap (doings g k) (sym (can.has f.1.txn f.1.index folded.small)) ∙ placed_are g can.few k lt f.1.txn f.1.index folded.small parts can.small

    within : All (λ (e : Edit). e.inode < 4294967296) (edits_of g parts)
    within = each_edit g (λ (o : FoundSector). Unit {0}) (λ (e : Edit). e.inode < 4294967296) (λ o e u from. omega (arith, from.high, can.few)) parts (λ q d lt. tt)

    after_it : State
    after_it = folded_from n i folded.from (drop folded.from (take folded.to chains)) st

    behind_it : All (λ (e : Edit). e.txn ≡ T → i ≤ e.index → Below st.lowest (Some e.does.sector)) (edits_of g parts)
    behind_it = λ k d lt txn le. below_trans st.lowest known (Some (get_or (edits_of g parts) k d).does.sector) so.first (told k d lt txn le)

    here : Whole g (edits_of g parts) chains can.linked fit can.few within n i T ps each st.standings so.sized so.still st.lowest behind_it after_it
    here = commit_is g (edits_of g parts) chains can.linked fit can.few within n i T ps each st.standings so.sized so.still st.lowest behind_it folded.from folded.to folded.range st refl refl so.longs so.covered

    rest : List Standing
    rest = behind g n ps st.standings

    on : Going g all parts chains known total left after_it
    on = record {
      whole =
          so.whole
          ∙ ap (lower st.lowest) (lowest_append (out_in g n ps (map rested st.standings)) (out_of g (map (transaction_in all) left) (behind g n ps (map rested st.standings))))
          ∙ sym (lower_assoc st.lowest (lowest_of (out_in g n ps (map rested st.standings))) (lowest_of (out_of g (map (transaction_in all) left) (behind g n ps (map rested st.standings)))))
          ∙ (λ j. lower (lower st.lowest (lowest_of (out_in g n ps (so.still j)))) (lowest_of (out_of g (map (transaction_in all) left) (behind g n ps (so.still j)))))
          ∙ sym ((λ j. lower (here.lowest j) (sum_of g all left (here.standings j))) ∙ ap (λ l. lower (lower st.lowest (lowest_of (out_in g n ps st.standings))) (lowest_of l)) (out_rested g (map (transaction_in all) left) rest));
      still = ap (map rested) here.standings ∙ rested_twice rest ∙ sym here.standings;
      sized = ap length here.standings ∙ length-map rest rested ∙ long_behind g n ps st.standings ∙ so.sized;
      longs = here.longs;
      first = below_trans after_it.lowest st.lowest known (subst (λ (o : Option ℕ). Below o st.lowest) (sym here.lowest) (below_left st.lowest (lowest_of (out_in g n ps st.standings)) st.lowest (below_itself st.lowest))) so.first;
      covered = here.covered;
      tails = All-tail (TailIsKnown (edits_of g parts) known) f left so.tails;
    }

-- none is left
pub going_end : {X : Type 0} (g : Geometry) (all parts : List FoundSector) (chains : List Chain) (known total : Option ℕ) (now : X → FoundSector) (commits : List X) (i : ℕ) → length commits ≤ i → (st : State)
    → Going g all parts chains known total (map now (drop i commits)) st → st.lowest ≡ total
going_end g all parts chains known total now commits i le st so =
    sym (below_none st.lowest) ∙ sym (so.whole ∙ ap (λ l. lower st.lowest (sum_of g all (map now l) st.standings)) (drop_of_length-le commits le))

pub none_more : (xs : List (Option ℕ)) → ((q : ℕ) → get_or xs q None ≡ None) → (q : ℕ) → get_or (xs ++ None ∷ []) q None ≡ None
none_more [] none zero = refl
none_more [] none (suc q) = refl
none_more (x ∷ xs) none zero = none 0
none_more (x ∷ xs) none (suc q) = none_more xs (λ r. none (suc r)) q
