-- What is left of an image's first hand as it is dealt.
use Rattle.std.proofs.Common.{◌≡◌, ◌≤◌, ◌<◌, ◌^◌, ℕ, eqb, List, [], Some, None, ap, sym, ◌∙◌, subst, arith}
use Rattle.std.specs.FinMap as fin
use Rattle.std.specs.Prelude.{IsSome}
use Rattle.ufs_bitmap.specs.Blocks.{BlockSet}
use Rattle.ufs_primary.specs.OfAtPrimary.{HasNumbers}
use Rattle.ufs_dealt.specs.Dealt.{AreApart, values_in, values_of}
use Rattle.ufs_dealt.specs.First.{ClientsAreIdle, FirstFilesAreLow, LiveFilesAreThere, PoolsAreThere, TakePart, rest_first}
use Rattle.ufs_hand_laws.specs.Owned.{Has, count, without}
use Rattle.ufs_primary.specs.OfHeld.{under_numbers}
use Rattle.ufs_primary.specs.OfHome.{AreAway}
use Rattle.ufs_primary.specs.OfHome.{Places}
use Rattle.ufs_file_commits.specs.State.{DurableState}
use Rattle.ufs_joint.specs.Cells.{FileCell, NamesCell, Start, View}
use Rattle.ufs_joint.specs.FirstHand.{Beginning, names_first, pool_of, start_first}
use Rattle.ufs_joint.specs.Ready.{IsReady}
use Rattle.ufs_msg.specs.There.{client_count, worker_count}
use Rattle.ufs_primary.specs.OfNoted.{Noted}
use Rattle.ufs_primary.specs.OfNoted.{KnownFile}
use Rattle.ufs_store.specs.State.{StoreState}
use Rattle.ufs_rounds.specs.Dealing.{AreIdleFrom, ArePoolsFrom}
use Rattle.ufs_rounds.specs.Mounting.{IsMounted}
use Rattle.ufs_rounds.proofs.Dealt.{file_of, pools_further}

-- the hand once the files are dealt
abbrev dealt_files : Beginning → View
dealt_files b = record (rest_first b) { files = [] }

pub hand_apart : (b : Beginning) → AreApart (rest_first b) → AreApart (dealt_files b)
hand_apart b apart n = let few = apart n in omega (arith, few)

-- ---- who takes part

pub clients_taken : TakePart → (b : Beginning) (s : StoreState) → IsReady b s → (k : Start) → k ≡ start_first b s → (clients : ℕ) → b.clients ≡ clients → clients ≡ client_count k
clients_taken counts b s ready k start clients is = sym is ∙ sym (counts b s).0 ∙ ap client_count (sym start)

pub workers_taken : TakePart → (b : Beginning) (s : StoreState) → IsReady b s → (k : Start) → k ≡ start_first b s → (workers : ℕ) → b.workers ≡ workers → workers ≡ worker_count k
workers_taken counts b s ready k start workers is = sym is ∙ sym (counts b s).1 ∙ ap worker_count (sym start)

-- so many of them
pub mounted_by : {b : Beginning} {k : Start} {s : StoreState} {names : Noted} {files : List DurableState} {clients workers clients' workers' : ℕ} → clients ≡ clients' → workers ≡ workers'
    → IsMounted b k s names files clients workers → IsMounted b k s names files clients' workers'
mounted_by same also m = record {
  start = m.start;
  ready = m.ready;
  can = m.can;
  clients_are = m.clients_are ∙ same;
  workers_are = m.workers_are ∙ also;
  few = m.few;
  names_are = m.names_are;
  files_are = m.files_are;
}

-- ---- numbers

pub low_enough : (b : Beginning) → b.names.next ≤ 2 ^ 30 → b.names.next ≤ 2 ^ 31
low_enough b few =
    let few' : b.names.next ≤ 1073741824 = few in
    let most : b.names.next ≤ 2147483648 = omega (arith, few') in
    most

pub has_numbers : (b : Beginning) (s : StoreState) → IsReady b s → b.names.next ≤ 2 ^ 30 → HasNumbers (start_first b s)
has_numbers b s ready few =
    let few' : b.names.next ≤ 1073741824 = few in
    let next = ready.parts.names.next in
    let most : b.tree.next ≤ 1073741824 = omega (arith, few', next) in
    most

-- ---- the files

-- each has an empty place
pub are_away : FirstFilesAreLow → (b : Beginning) (s : StoreState) → IsReady b s → b.names.next ≤ 2 ^ 31 → AreApart (rest_first b)
    → (files : List KnownFile) → values_in (rest_first b).files ≡ values_of files
    → (places : Places) → ((k : KnownFile) → Has k files → fin.get places k.hand.file ≡ Some None)
    → (cells : List FileCell) → under_numbers cells ≡ (rest_first b).files → AreAway places cells
are_away low b s ready few apart files same places empty cells all = record {
  empty = λ file some.
      let it = file_of (rest_first b).files files same file (subst (λ (ps : List (ℕ × FileCell)). 1 ≤ count eqb file ps) all some) in
      ap (fin.get places) (sym it.2) ∙ empty it.0 it.1;
  low = λ file some.
      let less = low b s ready file (subst (λ (ps : List (ℕ × FileCell)). 1 ≤ count eqb file ps) all some) in
      let next : b.names.next ≤ 2147483648 = few in
      let most : file < 2147483648 = omega (arith, less, next) in
      most;
  once = λ file.
      let one = apart file in
      let is = ap (count eqb file) all in
      omega (arith, one, is);
}

pub live_files : LiveFilesAreThere → (b : Beginning) (s : StoreState) → IsReady b s → (cells : List FileCell) → under_numbers cells ≡ (rest_first b).files → (names : NamesCell) → names ≡ names_first b.names
    → (file : ℕ) → IsSome (fin.get names.value.held file) → 1 ≤ count eqb file (under_numbers cells)
live_files there b s ready cells all names is file live =
    subst (λ (ps : List (ℕ × FileCell)). 1 ≤ count eqb file ps) (sym all) (there b s ready file (subst (λ (c : NamesCell). IsSome (fin.get c.value.held file)) is live))

-- ---- pools and clients

pub pools_from : PoolsAreThere → (b : Beginning) → b.workers ≤ 8 → (workers : ℕ) → b.workers ≡ workers → ArePoolsFrom 1 workers (record (dealt_files b) { pools = without (eqb (pool_of 0)) (dealt_files b).pools })
pools_from there b few workers is =
    pools_further 0 workers (dealt_files b) (omega (arith, few, is)) (omega arith) (λ server over within. there b server (omega (arith, is, within)))

pub idle_from : ClientsAreIdle → (b : Beginning) (clients : ℕ) → b.clients ≡ clients → (pools : List (ℕ × BlockSet)) → AreIdleFrom 0 clients (record (dealt_files b) { pools = pools })
idle_from idle b clients is pools client over low =
    let i = idle b client (omega (arith, is, low)) in
    record { clients = i.clients; asked = i.asked }
