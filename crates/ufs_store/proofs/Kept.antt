-- What a store keeps true from call to call.
use Rattle.std.proofs.Common.{◌≡◌, ◌≤◌, ◌<◌, ◌+◌, ℕ, List, [], ◌∷◌, ◌++◌, Bool, true, false, ap, refl, sym, subst, arith}
use Rattle.std.specs.Prelude.{if◌then◌else◌, IsTrue, nat_lt, nat_le, ◌&&◌, ◌==◌}
use Rattle.ufs_store.specs.declared.tables.Tables.{Tables}
use Rattle.std.specs.List.{list_all, list_any}
use Rattle.std.proofs.lemmas.Bool.{and_parts}
use Rattle.std.proofs.lemmas.Bool.Decides.{nat_tests}
use Rattle.ufs_layout.specs.declared.records.Committed.{Committed}
use Rattle.ufs_overlay.specs.Over.{rise_above}
use Rattle.ufs_disk.specs.Disk.{State}
use Rattle.ufs_image.specs.Journal.{well_spelled}
use Rattle.ufs_layout.specs.declared.geometry.Geometry.{Geometry}
use Rattle.ufs_journal.specs.Found.{is_of}
use Rattle.ufs_journal.specs.Kept.{IsReady, IsUnused}
use Rattle.ufs_disk.specs.Moments.{Moments}
use Rattle.ufs_ledger.specs.Ledger.{IsLedgerOf, Ledger, is_held}
use Rattle.ufs_store.specs.Ledgers.{HasLedger}
use Rattle.ufs_store.specs.State.{StoreState}
use Rattle.ufs_ledger.specs.Changes.{home_cells, settled_cell}
use Rattle.ufs_ledger.proofs.SuperblockPut.{none_read}

-- In an epoch of which nothing is used no transaction is found.
pub unused_at_first : (g : Geometry) (epoch used number txn : ℕ) (state : State) → used ≡ 0 → IsReady g epoch used number state → IsUnused g epoch txn state
unused_at_first g epoch used number txn state none ready image left =
    ap (λ read. list_any (is_of txn) (well_spelled read)) (none_read g epoch image (λ place low under. ready.free image left place (subst (λ n. n ≤ place) (sym none) low) under))

-- What is home is settled.
pub home_is_settled : (home : ℕ → List ℕ) (l : Ledger) (block : ℕ) → (home_cells home l block).older ≡ []
home_is_settled home l block = by (is_held l.now.log block)
  where
    by : (b : Bool) → (if b then record { older = []; seen = home block } else settled_cell (l.blocks block)).older ≡ []
    by true = refl
    by false = refl

-- ---- commit numbers

-- One more commit, with a higher number, keeps them rising.
pub rises_on : (least : ℕ) (log : List Committed) (t : Committed) → IsTrue (rise_above least log) → IsTrue (list_all (λ (u : Committed). nat_lt u.number t.number) log) → least < t.number → IsTrue (rise_above least (log ++ t ∷ []))
rises_on least [] t rises below less = let is : nat_lt least t.number ≡ true = grind (arith, nat_tests, less) in λ i. is i && true
rises_on least (u ∷ log) t rises below less =
    let front = and_parts (nat_lt least u.number) (rise_above u.number log) rises in
    let both = and_parts (nat_lt u.number t.number) (list_all (λ (v : Committed). nat_lt v.number t.number) log) below in
    let under : u.number < t.number = let e = both.0 in grind (arith, nat_tests, e) in
    let rest = rises_on u.number log t front.1 both.1 under in
    λ i. front.0 i && rest i

-- With it all are below the number after it.
pub below_next : (log : List Committed) (t : Committed) (old new : ℕ) → IsTrue (list_all (λ (u : Committed). nat_lt u.number old) log) → t.number ≡ old → new ≡ old + 1 → IsTrue (list_all (λ (u : Committed). nat_lt u.number new) (log ++ t ∷ []))
below_next [] t old new below is more = let less : nat_lt t.number new ≡ true = grind (arith, nat_tests, is, more) in λ i. less i && true
below_next (u ∷ log) t old new below is more =
    let both = and_parts (nat_lt u.number old) (list_all (λ (v : Committed). nat_lt v.number old) log) below in
    let less : nat_lt u.number new ≡ true = let e = both.0 in let under : u.number < old = grind (arith, nat_tests, e) in grind (arith, nat_tests, under, more) in
    let rest = below_next log t old new both.1 is more in
    λ i. less i && rest i

-- The next commit number is from 1 on.
pub numbers_from_one : (t : Tables) → 0 < t.journal.number
numbers_from_one t =
    let front = and_parts (t.superblock.version == 1) (nat_le 1 t.superblock.epoch && nat_le 1 t.superblock.next) t.form in
    let back = and_parts (nat_le 1 t.superblock.epoch) (nat_le 1 t.superblock.next) front.1 in
    let from : 1 ≤ t.superblock.next = let e = back.1 in grind (arith, nat_tests, e) in
    let up = t.next in
    omega (arith, from, up)

-- A store whose disk has the ledger still, and whose journal is as it was, still has it.
pub still_has : (s : StoreState) (sectors : ℕ) (moments : Moments) (faults : ℕ) (l : Ledger) → HasLedger s l → IsLedgerOf sectors moments.state l → IsReady s.journal.geometry s.journal.epoch s.journal.used s.journal.number moments.state
    → ((txn : ℕ) → s.txn ≤ txn → IsUnused s.journal.geometry s.journal.epoch txn moments.state) → HasLedger (record s { sectors = sectors; moments = moments; faults = faults }) l
still_has s sectors moments faults l has is ready unused = record {
  going = has.going;
  by = record { is = is; none = has.by.none; in_use = has.by.in_use; geometry = has.by.geometry; epoch = has.by.epoch; later = has.by.later; ready = ready };
  superblock_is = has.superblock_is;
  added = has.added;
  numbered = has.numbered;
  unused = unused;
  settled = has.settled;
  older = has.older;
  fits = has.fits;
}
