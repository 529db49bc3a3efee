-- The files of the primary.
use Rattle.std.specs.Prelude.{ℕ, zero, suc, ◌≡◌, ◌≢◌, Bool, true, cond, not, [], length, Some, None, refl}
use Rattle.std.proofs.Common.{inl, inr}
use Rattle.std.specs.Coded.{Coded, code_by, coded×, coded_list, coded_option, coded_ℕ}
use Rattle.std.specs.FinMap as fin
use Rattle.ufs_joint.specs.Cells.{FileCell, Start}
use Rattle.ufs_joint.specs.Codes.{file_code}
use Rattle.ufs_msg.specs.There.{worker_count}
use Rattle.ufs_owner.specs.Owners.{Files, has_none, note_at, owner_at, recalled, waiting_at, with_owner}
use Rattle.ufs_owner.specs.contracts.owner.Standing as standing'
use Rattle.ufs_owner.specs.declared.owner.Owner.{Owner}
use Rattle.ufs_owner.specs.declared.owner.Owner.TheVariants.{Primary, Worker, Coming, Going}
use Rattle.ufs_home.specs.Letters.{Boxes, mailed_code, posted}
use Rattle.ufs_home.specs.Owning.{AreKnown}
use Rattle.ufs_home.specs.Places.{Places, file_here}

pub record HomeState : Type 0 where
  -- the files that are here
  pub places : Places
  -- who has each file, and who waits for it
  pub owners : Files
  -- the letters to each worker that found its ring full
  pub letters : Boxes

abbrev pub home_of : Places → Files → Boxes → HomeState
home_of places owners letters = record { places = places; owners = owners; letters = letters }

abbrev pub home_code : Coded HomeState
home_code = code_by (Places × (Files × Boxes)) (coded× (fin.code coded_ℕ (coded_option file_code)) (coded× (fin.code coded_ℕ standing'.the_row.coded) (coded_list (coded_list mailed_code))))
    (λ h. (h.places, (h.owners, h.letters))) (λ p. home_of p.0 p.1.0 p.1.1) (λ _. refl)

-- There are letters for each worker of the session, and each that the table names is one of them.
pub record IsHome (k : Start) (workers : ℕ) (owners : Files) (letters : Boxes) : Type 0 where
  pub all : workers ≡ worker_count k
  pub each : length letters ≡ workers
  pub known : AreKnown workers owners

-- a client waits for the file
abbrev pub is_waited : Files → ℕ → Bool
is_waited owners file = not (has_none (waiting_at owners file))

-- ---- what changes of it

-- a file came, which was coming
abbrev pub come_home : HomeState → FileCell → HomeState
come_home h c = record h { places = fin.insert h.places c.value.file.file (Some c); owners = with_owner h.owners c.value.file.file Primary 0 }

-- the worker to which a file goes on that came, or 0: it stays where a client waits for it
abbrev pub onward : Files → ℕ → ℕ
onward owners file = cond (is_waited owners file) 0 (note_at owners file)

-- the file, which was here, is on its way to the worker
abbrev pub sent : HomeState → ℕ → FileCell → ℕ → HomeState
sent h file c to = record h { places = fin.insert h.places file None; owners = with_owner h.owners file (Going to) 0; letters = posted h.letters to (inl c) }

-- a file came, which was coming, and goes on to that worker, or stays for 0
abbrev pub come_on : HomeState → FileCell → ℕ → HomeState
come_on h c zero = come_home h c
come_on h c (suc n) = sent (come_home h c) c.value.file.file c (suc n)

abbrev pub from_of : Owner → ℕ
from_of (Coming worker) = worker
from_of _ = 0

-- The file is coming, and goes on to that worker, or to nobody for 0: the worker that has it, or is to have it, is asked for it.
abbrev pub called_back : HomeState → ℕ → ℕ → HomeState
called_back h file to = record h { owners = with_owner h.owners file (recalled (owner_at h.owners file)) to; letters = posted h.letters (from_of (recalled (owner_at h.owners file))) (inr file) }

-- A request wants the file: it is asked for where a worker has it or is to have it.
abbrev pub called_by : Owner → HomeState → ℕ → HomeState
called_by Primary h file = h
called_by (Coming worker) h file = h
called_by (Worker worker) h file = called_back h file 0
called_by (Going worker) h file = called_back h file 0

abbrev pub called_for : HomeState → ℕ → HomeState
called_for h file = called_by (owner_at h.owners file) h file

-- Where an order would send the file, it is here, and its birth is known as committed.
abbrev pub IsSendable : HomeState → ℕ → ℕ → Type 0
IsSendable h file to = owner_at h.owners file ≡ Primary → to ≢ 0 → waiting_at h.owners file ≡ [] → (c : FileCell) × (file_here h.places file ≡ Some c) × (c.born ≡ true)
