-- What a session starts from, and what its last hand knows.
use Rattle.std.specs.Prelude.{ℕ, ◌/◌, ◌%◌, ◌≤◌, ◌<◌, ◌≡◌, ◌≢◌, ◌⊎◌, eqb, false, [], ◌∷◌}
use Rattle.std.specs.FinMap as fin
use Rattle.atomic_table.specs.Seated.{TableId}
use Rattle.ufs_model.specs.PosixTree.{root_alone}
use Rattle.ufs_model.specs.declared.data.Actor.TheVariants.{Primary}
use Rattle.ufs_model.specs.declared.data.Lease.{Lease}
use Rattle.ufs_model.specs.declared.data.Op.{Op}
use Rattle.ufs_model.specs.declared.data.Op.TheVariants.{Sync}
use Rattle.ufs_model.specs.declared.data.PartName.{PartName}
use Rattle.ufs_model.specs.declared.data.PartName.TheVariants as part
use Rattle.ufs_model.specs.declared.data.Reply.TheVariants.{Done}
use Rattle.ufs_hand_laws.specs.declared.fresh.Fresh.{Fresh}
use Rattle.ufs_hand_laws.specs.ByImages.{by_images}
use Rattle.ufs_hand_laws.specs.Clock.{looked}
use Rattle.ufs_hand_laws.specs.Draws.{Leaves, drawn}
use Rattle.ufs_hand.specs.declared.hand.Drawn.{Drawn}
use Rattle.ufs_hand.specs.declared.hand.Drawn.TheVariants as drew
use Rattle.ufs_hand_laws.specs.Rule.{clock_step, word_at, IsSeenBy}
use Rattle.ufs_hand_laws.specs.Durable.{IsDurable}
use Rattle.ufs_hand_laws.specs.Parts.{NamesPart, StorePart, Start, View, Word, spent}
use Rattle.ufs_hand_laws.specs.Leasing.{MayGrant, granting, MayGiveBack, giving_back}
use Rattle.ufs_hand_laws.specs.Marks.{MayAsk, asking, MayRemake}
use Rattle.ufs_hand_laws.specs.Owned.{count}
use Rattle.ufs_hand_laws.specs.Visible.{IsDiskVisible}
use Rattle.ufs_hand_laws.specs.Whole.{CanOpen, IsWhole}

-- which table a session has, and what it started from
pub record Session : Type 0 where
  pub table : TableId
  pub start : Start

-- the first hand has every part
abbrev pub first_view : Start → View
first_view k = k.view

-- The first hand has every part of a tree in which nothing is open, on a disk that shows it.
pub record CanBegin (k : Start) : Type 0 where
  pub names : NamesPart
  pub store : StorePart
  pub can : CanOpen by_images k names store

-- The hand has the pool of this name. A pool's part is named like a file's.
abbrev pub HoldsPool : PartName → View → Type 0
HoldsPool (part.File pool) v = 1 ≤ count eqb pool v.pools
HoldsPool _ v = ⊥

abbrev pub word_of : ℕ → ℕ → Word
word_of tickets clock = record { tickets = tickets; clock = clock }

-- The hand with every part knows one whole history; and every image that the disk can have left since the opening is
-- explained by it, where the disk is visible and was proper then.
pub record KnowsAll (k : Start) (tickets clock : ℕ) (v : View) : Type 0 where
  pub store : StorePart
  pub has_store : v.store ≡ (tt, store) ∷ []
  pub whole : IsWhole by_images k (word_of tickets clock) v store
  pub durable : IsDiskVisible k → IsDurable k (word_of tickets clock) v store

-- ---- a draw under a lease

-- The word had become this one after that one was read.
pub record IsPassedBy (found read : ℕ) : Type 0 where
  pub other : found ≢ read
  pub tickets : read % clock_step ≤ found % clock_step
  pub clock : read / clock_step ≤ found / clock_step

-- What a draw leaves that rests on a lease until that clock. The hand reads the word: where the lease lives at its clock, the
-- entry is drawn as long as the word is still that one. Else the word that is found has more tickets or a later clock, and
-- fewer or an earlier one in neither.
abbrev pub DrewLocal : ℕ → Fresh → Leaves → View → Drawn → View → Type 0
DrewLocal until f l v (drew.Ticket ticket) w = (clock : ℕ) × (clock < until) × (v.clock ≤ clock) × (v.seen ≤ ticket) × (w ≡ drawn ticket f l (looked (word_of ticket clock) v))
DrewLocal until f l v (drew.Expired now) w = (tickets : ℕ) × (until ≤ now) × (v.clock ≤ now) × (v.seen ≤ tickets) × (w ≡ looked (word_of tickets now) v)
DrewLocal until f l v (drew.Lost found) w = (read : ℕ) × IsPassedBy found read × (read / clock_step < until) × IsSeenBy read v × (w ≡ looked (word_at read) v)

-- ---- what a mark may leave

-- A client that the hand has with what it last asked asks a request.
pub record AsksRequest (v : View) (leaves : ℕ → View) : Type 0 where
  pub client : ℕ
  pub request : Op
  pub may : MayAsk client v
  pub is : leaves ≡ (λ tickets. asking tickets client request may.copies may.self v)

-- A lease is granted to a client that the hand has, on a file or the names that it has.
pub record GrantsLease (v : View) (leaves : ℕ → View) : Type 0 where
  pub lease : Lease
  pub may : MayGrant lease v
  pub is : leaves ≡ (λ tickets. granting tickets lease v)

-- The leases of a client that the hand has, on a file or the names that it has, are given back.
pub record GivesLeasesBack (v : View) (leaves : ℕ → View) : Type 0 where
  pub part : PartName
  pub client : ℕ
  pub may : MayGiveBack part client v
  pub is : leaves ≡ (λ tickets. giving_back tickets part client v)

-- An event without an entry: a client asks, leases are granted or given back, or the hand's parts go on as whatever the
-- tickets are allows.
abbrev pub IsEvent : Start → View → (ℕ → View) → Type 0
IsEvent k v leaves = AsksRequest v leaves ⊎ (GrantsLease v leaves ⊎ GivesLeasesBack v leaves) ⊎ ((tickets : ℕ) → MayRemake by_images k tickets v (leaves tickets))

-- ---- what stands where nobody picked anything

abbrev pub no_table : TableId
no_table = record { words = 0; slots = 0; views_name = 0; atom = 0; block = 0; offset = 0; slot_names = [] }

abbrev pub no_start : Start
no_start = record { tree = root_alone; view = spent; is_visible = false }

abbrev pub leaves_nothing : Leaves
leaves_nothing = record { fds = fin.empty; files = []; names = [] }

abbrev pub no_entry : Fresh
no_entry = record { client = 0; seq = 0; by = Primary; op = Sync; reply = Done }
