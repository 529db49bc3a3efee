-- What is left of the first hand as it is dealt, and that no cell is elsewhere then.
use Rattle.std.proofs.Common.{◌≡◌, ℕ, suc, ◌≤◌, eqb, List, [], ◌∷◌, ◌++◌, ap, sym, ◌∙◌, subst, arith}
use Rattle.std.specs.Prelude.{IsSome}
use Rattle.std.specs.FinMap as fin
use Rattle.std.specs.FinMap.{get-entries}
use Rattle.ufs_caller.specs.Hands.{IsHome, IsIdleIn}
use Rattle.ufs_dealt.specs.Dealt.{AreApart}
use Rattle.ufs_dealt.specs.First.{rest_first}
use Rattle.ufs_joint.specs.FirstHand.{Beginning, HasPoolAlone, client_of, each_of, file_first, names_first, pool_of, start_first}
use Rattle.ufs_joint.specs.Ready.{IsReady}
use Rattle.ufs_gathered.specs.Gathered.{AreAllBack, HasPoolsAlone, clients_in}
use Rattle.ufs_held.specs.Together.{under_numbers}
use Rattle.ufs_joint.specs.Cells.{FileCell, NamesCell, View, both_of}
use Rattle.ufs_joint.specs.Whole.{no_blocks}
use Rattle.ufs_model.proofs.Facts.Lookups.{from_some}
use Rattle.ufs_hand_laws.specs.Owned.{count, without}
use Rattle.ufs_hand_laws.specs.Whole.{idle_client}
use Rattle.ufs_store.specs.State.{StoreState}
use Rattle.ufs_begin_hands_tests.specs.Mounted.{IsDealt}
use Rattle.ufs_begin_hands_tests.proofs.Counted.{counted}

-- ---- what is left

abbrev pub primary : ℕ
primary = 4294967295

-- the hand once the files are dealt, and the pool too
abbrev pub dealt_files : Beginning → View
dealt_files b = record (rest_first b) { files = [] }

abbrev pub dealt_pool : Beginning → View
dealt_pool b = record (dealt_files b) { pools = without (eqb primary) (dealt_files b).pools }

pub is_apart : (b : Beginning) → AreApart (rest_first b) → AreApart (dealt_files b)
is_apart b apart = λ n. let few = apart n in omega (arith, few)

pub is_idle : (b : Beginning) (client : ℕ) → IsIdleIn client (rest_first b) → IsIdleIn client (dealt_pool b)
is_idle b client idle = record { clients = idle.clients; asked = idle.asked }

-- the hand once all of it is dealt but for the worker's pool
abbrev pub dealt_rest : Beginning → View
dealt_rest b = record (rest_first b) {
  clients = without (eqb 1) (without (eqb 0) (rest_first b).clients);
  asked = without (eqb 1) (without (eqb 0) (rest_first b).asked);
  files = [];
  pools = without (eqb primary) (rest_first b).pools;
}

-- ---- no cell is elsewhere

module _ (b : Beginning) (s : StoreState) (ready : IsReady b s) (two : b.clients ≡ 2) (one_worker : b.workers ≡ 1)
    (cells : List FileCell) (all : under_numbers cells ≡ (rest_first b).files)
    (first second pool rest : View) (left : rest ≡ dealt_rest b)
    (home : IsHome 0 [] fin.empty first) (home_too : IsHome 1 [] fin.empty second) (pooled : HasPoolAlone primary no_blocks pool)
    (names : NamesCell) (names_are : names ≡ names_first b.names) where
  clients_are : clients_in (first ∷ second ∷ []) ≡ (0, home.self) ∷ (1, home_too.self) ∷ []
  clients_are = (λ i. home.both.clients i ++ (home_too.both.clients i ++ []))

  pools_are : (both_of rest pool).pools ≡ (4294967294, no_blocks) ∷ (primary, no_blocks) ∷ []
  pools_are =
      let worker : rest.pools ≡ (4294967294, no_blocks) ∷ [] = ap (λ (v : View). v.pools) left ∙ ap (λ n. without (eqb primary) (each_of pool_of no_blocks (suc n))) one_worker in
      (λ i. worker i ++ pooled.pools i)

  alone : HasPoolsAlone (both_of rest pool)
  alone =
      let none : rest.clients ≡ [] = ap (λ (v : View). v.clients) left ∙ ap (λ n. without (eqb 1) (without (eqb 0) (each_of client_of idle_client n))) two in
      record {
        clients = (λ i. none i ++ pooled.clients i);
        files = (λ i. (left i).files ++ pooled.files i);
        names = (λ i. (left i).names ++ pooled.names i);
        store = (λ i. (left i).store ++ pooled.store i);
      }

  file_there : (file : ℕ) → IsSome (fin.get b.names.held file) → 1 ≤ count eqb file (under_numbers cells)
  file_there file live =
      let f = from_some (fin.get b.files file) (ready.parts.here file live) in
      subst (λ (ps : List (ℕ × FileCell)). 1 ≤ count eqb file ps) (sym all) (counted file_first file f.0 (fin.entries b.files) (sym (get-entries b.files file) ∙ f.1))

  back : AreAllBack (start_first b s) names cells (both_of rest pool) (first ∷ second ∷ [])
  back = record {
    clients_back = λ c.
        let now = ap (count eqb c) clients_are in
        let was = ap (λ n. count eqb c (each_of client_of idle_client n)) two in
        omega (arith, now, was);
    pools_back = λ m.
        let now = ap (count eqb m) pools_are in
        let was = ap (λ n. count eqb m (each_of pool_of no_blocks (suc n))) one_worker in
        omega (arith, now, was);
    files_back = λ file live. file_there file (subst (λ (c : NamesCell). IsSome (fin.get c.value.held file)) names_are live);
  }

  pub is_dealt : IsDealt (start_first b s) names cells (both_of rest pool) (first ∷ second ∷ [])
  is_dealt = record { home = ((fin.empty, home), ((fin.empty, home_too), tt)); alone = alone; back = back }
