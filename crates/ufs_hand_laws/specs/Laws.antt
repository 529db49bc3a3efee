-- Each kind of step keeps the sound state; the first state is sound; and the last hand knows one whole history.
use Rattle.std.specs.Prelude.{ℕ, suc, ◌+◌, ◌<◌, ◌≡◌, ◌≢◌, List, [], ◌∷◌, ◌++◌, set}
use mathlib.Core.Option.{some}
use lib.ListN.{get_elem?}
use Rattle.ufs_model.specs.declared.data.Op.{Op}
use Rattle.ufs_model.specs.declared.data.Lease.{Lease}
use Rattle.ufs_hand_laws.specs.Owned.{Has}
use Rattle.ufs_model.specs.declared.data.PartName.{PartName}
use Rattle.ufs_hand_laws.specs.declared.fresh.Fresh.{Fresh}
use Rattle.ufs_hand_laws.specs.Parts.{Cells, FilePart, NamesPart, Shortage, StorePart, View, Word, Start, kept_of, given_of, both_of, spent}
use Rattle.ufs_hand_laws.specs.Explained.{Showing}
use Rattle.ufs_hand_laws.specs.Sound.{IsSound}
use Rattle.ufs_hand_laws.specs.Draws.{Leaves, drawn, MayDraw}
use Rattle.ufs_hand_laws.specs.Marks.{MayAsk, asking, MayRemake}
use Rattle.ufs_hand_laws.specs.Whole.{CanOpen, HoldsAll, IsWhole}
use Rattle.ufs_hand_laws.specs.Clock.{looked, ticked}
use Rattle.ufs_hand_laws.specs.Events.{Moved, moved, MayMove, IsLent, turning, Passage, passing, MayPass, told_files, MayTell, committing, MayCommitFile, NamesCommit, naming, MayCommitNames, Failure, failing, MayFail, Checkpoint, checkpointing, MayCheckpoint, answering, MayAnswer}
use Rattle.ufs_hand_laws.specs.Leasing.{MayGrant, granting, MayGiveBack, giving_back}
use Rattle.ufs_hand_laws.specs.Known.{Knows}

abbrev pub BeginIsSound : Showing → Type 0
BeginIsSound S = (k : Start) (names : NamesPart) (store : StorePart) → CanOpen S k names store → IsSound S k (record { tickets = 0; clock = 0 }) (k.view ∷ [])

abbrev pub SplitKeeps : Showing → Type 0
SplitKeeps S = (k : Start) (word : Word) (views : List View) (i : ℕ) (p : PartName) (v : View) → IsSound S k word views → get_elem? views i ≡ some v
    → IsSound S k word (set views i (kept_of p v) ++ given_of p v ∷ [])

abbrev pub JoinKeeps : Showing → Type 0
JoinKeeps S = (k : Start) (word : Word) (views : List View) (i j : ℕ) (v u : View) → IsSound S k word views → get_elem? views i ≡ some v → j ≢ i → get_elem? (set views i (both_of v u)) j ≡ some u
    → IsSound S k word (set (set views i (both_of v u)) j spent)

-- A draw raises the tickets by one. It may rest on leases that are live at the clock of the word.
abbrev pub DrawKeeps : Showing → Type 0
DrawKeeps S = (k : Start) (word : Word) (views : List View) (i : ℕ) (v : View) (f : Fresh) (l : Leaves) (known : List Lease) → IsSound S k word views → get_elem? views i ≡ some v → MayDraw f v l known
    → ((x : Lease) → Has x known → word.clock < x.until)
    → IsSound S k (record { tickets = suc word.tickets; clock = word.clock }) (set views i (drawn word.tickets f l v))

-- a mark by which a client asks a request, and drops copies of leases
abbrev pub AskKeeps : Showing → Type 0
AskKeeps S = (k : Start) (word : Word) (views : List View) (i : ℕ) (v : View) (c : ℕ) (r : Op) → IsSound S k word views → get_elem? views i ≡ some v → (m : MayAsk c v)
    → IsSound S k word (set views i (asking word.tickets c r m.copies m.self v))

-- a lease is granted to a client, on a file or the names
abbrev pub GrantKeeps : Showing → Type 0
GrantKeeps S = (k : Start) (word : Word) (views : List View) (i : ℕ) (v : View) (l : Lease) → IsSound S k word views → get_elem? views i ≡ some v → MayGrant l v
    → IsSound S k word (set views i (granting word.tickets l v))

-- a client's leases on a file or the names are given back
abbrev pub GiveBackKeeps : Showing → Type 0
GiveBackKeeps S = (k : Start) (word : Word) (views : List View) (i : ℕ) (v : View) (p : PartName) (c : ℕ) → IsSound S k word views → get_elem? views i ≡ some v → MayGiveBack p c v
    → IsSound S k word (set views i (giving_back word.tickets p c v))

-- any other mark
abbrev pub RemakeKeeps : Showing → Type 0
RemakeKeeps S = (k : Start) (word : Word) (views : List View) (i : ℕ) (v w : View) → IsSound S k word views → get_elem? views i ≡ some v → MayRemake S k word.tickets v w
    → IsSound S k word (set views i w)

abbrev pub CloseIsWhole : Showing → Type 0
CloseIsWhole S = (k : Start) (word : Word) (views : List View) (i : ℕ) (v : View) → IsSound S k word views → get_elem? views i ≡ some v → (all : HoldsAll k v) → IsWhole S k word v all.store

-- a hand reads the clock
abbrev pub LookKeeps : Showing → Type 0
LookKeeps S = (k : Start) (word : Word) (views : List View) (i : ℕ) (v : View) → IsSound S k word views → get_elem? views i ≡ some v → IsSound S k word (set views i (looked word v))

-- the hand with the names moves it
abbrev pub TickKeeps : Showing → Type 0
TickKeeps S = (k : Start) (word : Word) (views : List View) (i : ℕ) (v : View) (by : ℕ) (n : NamesPart) → IsSound S k word views → get_elem? views i ≡ some v → v.names ≡ (tt, n) ∷ []
    → IsSound S k (record { tickets = word.tickets; clock = word.clock + by }) (set views i (ticked word by n v))

-- ---- events

abbrev pub MovesAreMarks : Showing → Type 0
MovesAreMarks S = (k : Start) (tickets : ℕ) (v : View) (m : Moved) → MayMove v m → MayRemake S k tickets v (moved tickets m v)

abbrev pub TurnsAreMarks : Showing → Type 0
TurnsAreMarks S = (k : Start) (tickets : ℕ) (v : View) (s : StorePart) (lent : List (ℕ × ℕ)) (lent_names : ℕ) → v.store ≡ (tt, s) ∷ [] → IsLent v lent lent_names
    → MayRemake S k tickets v (turning tickets lent lent_names s v)

abbrev pub PassagesAreMarks : Showing → Type 0
PassagesAreMarks S = (k : Start) (tickets : ℕ) (v : View) (s : StorePart) (lent : List (ℕ × ℕ)) (lent_names : ℕ) (c : Passage) → MayPass S k v s lent lent_names c
    → MayRemake S k tickets v (passing tickets lent lent_names c s v)

abbrev pub TellsAreMarks : Showing → Type 0
TellsAreMarks S = (k : Start) (tickets : ℕ) (v : View) (s : StorePart) (files : List (ℕ × FilePart)) → MayTell v s files → MayRemake S k tickets v (told_files tickets files v)

abbrev pub CommitsAreMarks : Showing → Type 0
CommitsAreMarks S = (k : Start) (tickets : ℕ) (v : View) (g : ℕ) (x : FilePart) (s : StorePart) (through : List Cells) (state : Cells) → MayCommitFile S k tickets v g x s through state
    → MayRemake S k tickets v (committing tickets g x through state s v)

abbrev pub NameCommitsAreMarks : Showing → Type 0
NameCommitsAreMarks S = (k : Start) (tickets : ℕ) (v : View) (p : NamesPart) (s : StorePart) (c : NamesCommit) → MayCommitNames S k tickets v p s c → MayRemake S k tickets v (naming tickets p c s v)

abbrev pub FailedCommitsAreMarks : Showing → Type 0
FailedCommitsAreMarks S = (k : Start) (tickets : ℕ) (v : View) (s : StorePart) (f : Failure) → MayFail S k v s f → MayRemake S k tickets v (failing tickets f s v)

abbrev pub CheckpointsAreMarks : Showing → Type 0
CheckpointsAreMarks S = (k : Start) (tickets : ℕ) (v : View) (p : NamesPart) (s : StorePart) (c : Checkpoint) → MayCheckpoint S k v p s c → MayRemake S k tickets v (checkpointing tickets p c s v)

abbrev pub AnswersAreMarks : Showing → Type 0
AnswersAreMarks S = (k : Start) (tickets : ℕ) (v : View) (s : StorePart) (faults : List ℕ) (shortages : List Shortage) → MayAnswer v s faults → MayRemake S k tickets v (answering tickets faults shortages s v)

-- ---- what a hand knows

abbrev pub HandsKnow : Showing → Type 0
HandsKnow S = (k : Start) (word : Word) (views : List View) (i : ℕ) (v : View) → IsSound S k word views → get_elem? views i ≡ some v → Knows S k word v
