-- What is left of the first hand of a session over an image, once names and store are dealt.
use Rattle.std.specs.Prelude.{ℕ, ◌≡◌, ◌≢◌, ◌<◌, ◌≤◌, ◌^◌, eqb, List, map, IsSome}
use Rattle.std.specs.FinMap as fin
use Rattle.ufs_bitmap.specs.Blocks.{BlockSet}
use Rattle.ufs_caller.specs.Hands.{IsIdleIn}
use Rattle.ufs_file_commits.specs.State.{state_of}
use Rattle.ufs_joint.specs.FirstHand.{Beginning, file_first, pool_of, start_before, start_first}
use Rattle.ufs_joint.specs.Ready.{IsReady}
use Rattle.ufs_joint.specs.Cells.{View, kept_of}
use Rattle.ufs_joint.specs.Ends.{CanBegin}
use Rattle.ufs_joint.specs.Whole.{no_blocks}
use Rattle.ufs_model.specs.declared.data.PartName.TheVariants as part
use Rattle.ufs_msg.specs.There.{client_count, worker_count}
use Rattle.ufs_noted.specs.declared.known.KnownFile.{KnownFile}
use Rattle.ufs_hand_laws.specs.Owned.{Has, count, without}
use Rattle.ufs_store.specs.State.{StoreState}
use Rattle.ufs_dealt.specs.Dealt.{AreApart, rest_of, values_in, values_of}

-- It is known before there is a store.
abbrev pub rest_first : Beginning → View
rest_first b = rest_of (start_before b).view

-- So many clients and so many workers take part.
abbrev pub TakePart : Type 0
TakePart = (b : Beginning) (s : StoreState) → (client_count (start_first b s) ≡ b.clients) × (worker_count (start_first b s) ≡ b.workers)

-- Each client is there, and has asked nothing.
abbrev pub ClientsAreIdle : Type 0
ClientsAreIdle = (b : Beginning) (client : ℕ) → client < b.clients → IsIdleIn client (rest_first b)

-- Where one is dealt, with what it asked, all else stays.
abbrev pub ClientsLeaveRest : Type 0
ClientsLeaveRest = (v : View) (client : ℕ) → kept_of (part.Asked client) (kept_of (part.Client client) v) ≡ record v { clients = without (eqb client) v.clients; asked = without (eqb client) v.asked }

-- Another one is idle then as before.
abbrev pub OthersStayIdle : Type 0
OthersStayIdle = (v : View) (one other : ℕ) → one ≢ other → IsIdleIn other v → IsIdleIn other (record v { clients = without (eqb one) v.clients; asked = without (eqb one) v.asked })

-- The primary and each worker have a pool, in which no block is.
abbrev pub PoolsAreThere : Type 0
PoolsAreThere = (b : Beginning) (server : ℕ) → server ≤ b.workers → Has {A = ℕ × BlockSet} (pool_of server, no_blocks) (rest_first b).pools

-- No file has the number of a pool.
abbrev pub FirstIsApart : Type 0
FirstIsApart = (b : Beginning) (s : StoreState) → IsReady b s → CanBegin (start_first b s) → b.names.next ≤ 2 ^ 31 → AreApart (rest_first b)

-- Files that are committed as they are have what stands in the cells.
abbrev pub FirstFilesAreHere : Type 0
FirstFilesAreHere = (b : Beginning) (s : StoreState) (files : List KnownFile) → IsReady b s → map (λ k. state_of k.hand k.commits) files ≡ map (λ e. (file_first e.1).value) (fin.entries b.files) → values_in (rest_first b).files ≡ values_of files

-- Each file has a number below the next one of the names.
abbrev pub FirstFilesAreLow : Type 0
FirstFilesAreLow = (b : Beginning) (s : StoreState) → IsReady b s → (file : ℕ) → 1 ≤ count eqb file (rest_first b).files → file < b.names.next

-- Each live file is there.
abbrev pub LiveFilesAreThere : Type 0
LiveFilesAreThere = (b : Beginning) (s : StoreState) → IsReady b s → (file : ℕ) → IsSome (fin.get b.names.held file) → 1 ≤ count eqb file (rest_first b).files
