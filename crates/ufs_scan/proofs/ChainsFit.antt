-- The chains of record sectors, and what a fold needs of them.
use Rattle.std.proofs.Common.{◌≡◌, inl, inr, ℕ, ◌<◌, List, [], ◌∷◌, true, length, get_or, ap, sym, ◌∙◌, arith}
use Rattle.std.specs.Prelude.{map, nat_le}
use Rattle.std.specs.List.{All}
use Rattle.std.specs.List.Sorted.{IsNonDecreasingBy}
use Rattle.std.proofs.lemmas.Bool.{cases_eq, and_parts, leb-true}
use Rattle.std.proofs.lemmas.List.{get_or-map, length-map}
use Rattle.ufs_layout.specs.Areas.{IsGeometry, is_inode_number}
use Rattle.ufs_layout.specs.declared.geometry.Geometry.{Geometry}
use Rattle.ufs_image.specs.Journal.{FoundSector}
use Rattle.ufs_found.specs.Sorted.{place_of}
use Rattle.ufs_scan.specs.Edits.{Edit, StepValue, HasEdits, edits_of}
use Rattle.ufs_scan.specs.Chains.{chain_key, AreChains}
use Rattle.ufs_scan.specs.Folding.{IsFit}
use Rattle.ufs_scan.specs.declared.chains.Chain.{Chain}
use Rattle.ufs_scan.proofs.Placed.{steps_up}

pub few_inodes : (g : Geometry) → IsGeometry g → g.inodes < 4294967296
few_inodes g taken = let most = taken.most_inodes in omega (arith, most)

pub of_edits : (edits : List Edit) (steps : List StepValue) (chains : List Chain) → AreChains (map (λ (s : StepValue). s.edit) steps) chains → HasEdits edits steps → AreChains edits chains
of_edits edits steps chains are has = record {
  parts = λ k d lt. are.parts k d lt ∙ has (chain_key (get_or chains k d));
  nets = are.nets;
  rising = are.rising;
  every = λ key none. sym (has key) ∙ are.every key none;
}

pub all_fit : (g : Geometry) → IsGeometry g → (parts : List FoundSector) → IsNonDecreasingBy place_of parts → (chains : List Chain) → AreChains (edits_of g parts) chains → All (λ (c : Chain). is_inode_number g c.inode ≡ true) chains → All (λ (c : Chain). IsFit g.inodes c) chains
all_fit g taken parts up chains are in_range = λ k d lt.
    let ends = and_parts (nat_le 1 (get_or chains k d).inode) (nat_le (get_or chains k d).inode g.inodes) (in_range k d lt) in
    record {
      low = leb-true 1 (get_or chains k d).inode ends.0;
      high = leb-true (get_or chains k d).inode g.inodes ends.1;
      nets = are.nets k d lt;
      order = steps_up g (few_inodes g taken) parts up (get_or chains k d).steps.items (chain_key (get_or chains k d)) (are.parts k d lt);
    }

pub by_txn : (inodes : ℕ) (edits : List Edit) (chains : List Chain) → inodes < 4294967296 → AreChains edits chains → All (λ (c : Chain). IsFit inodes c) chains → IsNonDecreasingBy (λ (c : Chain). c.txn) chains
by_txn inodes edits chains few are fit = λ i j d le lt. elim (cases_eq i j) [
  | inl same ↦ (let at = ap (λ k. (get_or chains k d).txn) same in omega (arith, at))
  | inr ne ↦ (let less = are.rising i j d (omega (arith, le, ne)) lt in
      let high = (fit j d lt).high in
      omega (arith, less, high, few))
]

-- of what the values stand for
pub up_of : {X Y : Type 0} (now : X → Y) (key : Y → ℕ) (xs : List X) → IsNonDecreasingBy (λ x. key (now x)) xs → IsNonDecreasingBy key (map now xs)
up_of now key [] up = λ i j d le lt. absurd (omega (arith, lt))
up_of {X} {Y} now key (x ∷ xs) up = λ i j d le lt.
    let long : length (map now (x ∷ xs)) ≡ length (x ∷ xs) = length-map (x ∷ xs) now in
    let at_i : get_or (map now (x ∷ xs)) i d ≡ now (get_or (x ∷ xs) i x) = get_or-map now (x ∷ xs) i x d (omega (arith, le, lt, long)) in
    let at_j : get_or (map now (x ∷ xs)) j d ≡ now (get_or (x ∷ xs) j x) = get_or-map now (x ∷ xs) j x d (omega (arith, lt, long)) in
    let rising = up i j x le (omega (arith, lt, long)) in
    omega (arith, rising, ap key at_i, ap key at_j)
