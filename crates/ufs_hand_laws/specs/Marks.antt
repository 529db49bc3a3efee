-- An event without an entry, on the parts that a hand has.
use Rattle.std.specs.Prelude.{ℕ, ◌+◌, ◌≤◌, ◌<◌, ◌≡◌, ◌⊎◌, eqb, if◌then◌else◌, true, false, List, ◌∷◌, length, take, Some, None, unwrap_or, slice_get, slice_index_or}
use Rattle.std.specs.FinMap as fin
use Rattle.ufs_model.specs.History.{IsLegal, entries_of}
use Rattle.ufs_model.specs.declared.data.Op.{Op}
use Rattle.ufs_model.specs.declared.data.Entry.{Entry}
use Rattle.ufs_model.specs.declared.data.Lease.{Lease}
use Rattle.ufs_hand_laws.specs.Owned.{Has, count, each, times, find}
use Rattle.ufs_crash_laws.specs.Changes.{changes_of, name_changes}
use Rattle.ufs_hand_laws.specs.Parts.{ClientPart, AskedPart, FilePart, NamesPart, StorePart, Cells, Shortage, View, Start, only_one, uses, committed}
use Rattle.ufs_hand_laws.specs.DiskBytes.{block_on, block_in, is_loaded}
use Rattle.ufs_hand_laws.specs.Explained.{Showing}
use Rattle.ufs_hand_laws.specs.Visible.{IsDiskVisible}

-- ---- a client asks a request

abbrev pub asking_client : ℕ → Op → List Lease → ℕ → ClientPart → ClientPart
asking_client c r copies n p = if eqb n c then record p { copies = copies; asked = Some r } else p

abbrev pub asked_by : ℕ → Op → List Lease → ClientPart → AskedPart
asked_by tickets r copies p = record { entries = p.entries; fds = p.fds; copies = copies; asked = Some r; tickets = tickets }

abbrev pub asking_asked : ℕ → AskedPart → ℕ → AskedPart → AskedPart
asking_asked c a n old = if eqb n c then a else old

pub record MayAsk (c : ℕ) (v : View) : Type 0 where
  pub self : ClientPart
  pub client : Has (c, self) v.clients
  pub before : AskedPart
  pub asked : Has (c, before) v.asked
  pub idle : self.asked ≡ None
  pub room : length self.entries < 65536
  -- the copies of leases that it keeps: it may drop others
  pub copies : List Lease
  pub kept : (l : Lease) → Has l copies → Has l self.copies

abbrev pub asking : ℕ → ℕ → Op → List Lease → ClientPart → View → View
asking tickets c r copies self v = record v {
  clients = each (asking_client c r copies) v.clients;
  asked = each (asking_asked c (asked_by tickets r copies self)) v.asked;
  seen = tickets;
}

-- ---- files, pools, names and the store are remade, all but what the history says of them

-- the value of a part that is always there, by a hand that has it or not
abbrev pub value_after : {D : Type 0} → List (Unit {0} × D) → D → D
value_after ps d = unwrap_or (find only_one tt ps) d

-- The store's part before and after: the hand's, where it has it.
abbrev pub StoreGoes : View → View → StorePart → StorePart → Type 0
StoreGoes v w s t = (s ≡ value_after v.store s) × (t ≡ value_after w.store s)

abbrev pub NamesGo : View → View → NamesPart → NamesPart → Type 0
NamesGo v w p q = (p ≡ value_after v.names p) × (q ≡ value_after w.names p)

-- each name stands once at most
pub record IsSingle (v : View) : Type 0 where
  pub files : (g : ℕ) → count eqb g v.files ≤ 1
  pub names : count only_one tt v.names ≤ 1
  pub store : count only_one tt v.store ≤ 1

-- the file's committed blocks are kept
abbrev pub IsKept : StorePart → ℕ → FilePart → Type 0
IsKept s g x = (bs : List ℕ) (b : ℕ) → fin.get s.extents g ≡ Some bs → Has b bs → Has b x.blocks ⊎ Has b x.quarantine

abbrev pub IsDroppedKept : StorePart → ℕ → NamesPart → Type 0
IsDroppedKept s g p = (bs : List ℕ) (b : ℕ) → fin.get s.extents g ≡ Some bs → Has b bs → (x : List ℕ) × Has (g, x) p.dropped × Has b x

-- the file was made before the first k changes of names, or by one of them
abbrev pub IsMadeBy : NamesPart → ℕ → ℕ → Type 0
IsMadeBy p k g = g < (slice_index_or (p.opening ∷ p.changes) k p.opening).next

-- The history has the changes of the parts that were lent to the store since its last mark.
pub record HadChanges (k : Start) (v : View) (s : StorePart) (p : NamesPart) (h : List Entry) : Type 0 where
  pub files : (g : ℕ) (x : FilePart) → Has (g, x) v.files → Has (g, length x.changes) s.lent → changes_of g k.tree h ≡ x.changes
  pub names : s.lent_names ≡ length p.changes → name_changes k.tree h ≡ p.changes

-- The history has the changes of the hand's parts.
pub record HasChanges (k : Start) (v : View) (p : NamesPart) (h : List Entry) : Type 0 where
  pub files : (g : ℕ) (x : FilePart) → Has (g, x) v.files → changes_of g k.tree h ≡ x.changes
  pub names : name_changes k.tree h ≡ p.changes

-- These are the first entries, so many or more, of a legal history with as many entries as there are tickets. The hand's
-- clients have theirs of it.
pub record IsBeginningKnown (k : Start) (v : View) (from tickets : ℕ) (h : List Entry) : Type 0 where
  pub history : List Entry
  pub legal : IsLegal k.tree history
  pub all : length history ≡ tickets
  pub low : (e : Entry) → Has e history → e.client < 16
  pub entries : (c : ℕ) (p : ClientPart) → Has (c, p) v.clients → p.entries ≡ entries_of c history
  pub count : ℕ
  pub least : from ≤ count
  pub is : h ≡ take count history

-- no device call, and nothing was committed
pub record IsQuiet (s t : StorePart) : Type 0 where
  pub mark : t.mark ≡ s.mark
  pub past : t.past ≡ s.past
  pub lent : t.lent ≡ s.lent
  pub lent_names : t.lent_names ≡ s.lent_names
  pub state : t.state ≡ s.state
  pub paths : t.paths ≡ s.paths
  pub names : t.names ≡ s.names
  pub files : (g : ℕ) → committed t g ≡ committed s g

-- The disk passed some states, and then so much is committed. With no state passed this begins a turn.
pub record IsTurn (S : Showing) (k : Start) (tickets : ℕ) (v : View) (s t : StorePart) (p : NamesPart) : Type 0 where
  pub through : List Cells
  -- the last of them is the state now
  pub last : (t.state ≡ s.state) ⊎ Has t.state through
  pub mark : t.mark ≡ tickets
  pub past : t.past ≡ record { states = s.state ∷ through; from = s.mark; to = tickets } ∷ s.past
  pub lent : (g n : ℕ) → Has (g, n) t.lent → (x : FilePart) × Has (g, x) v.files × (n ≤ length x.changes)
  pub lent_names : t.lent_names ≤ length p.changes
  -- each state on the way shows what the one before shows, by each history since the last mark
  pub inside : IsDiskVisible k → (h : List Entry) → IsBeginningKnown k v s.mark tickets h → HadChanges k v s p h → S.Shows k.tree h (committed s) s.names s.paths s.state → (x : Cells) → Has x through → S.Shows k.tree h (committed s) s.names None x
  -- the last one shows what is committed then, by the history with each ticket
  pub end : IsDiskVisible k → (h : List Entry) → IsBeginningKnown k v tickets tickets h → HasChanges k v p h → S.Shows k.tree h (committed s) s.names s.paths s.state → S.Shows k.tree h (committed t) t.names t.paths t.state

-- Committed blocks are kept.
pub record AreBlocksKept (v w : View) (s t : StorePart) (p q : NamesPart) : Type 0 where
  pub live : (g : ℕ) (x y : FilePart) → Has (g, x) v.files → Has (g, y) w.files → IsKept s g x → IsKept t g y
  pub away : (g : ℕ) (bs : List ℕ) → count eqb g v.files ≡ 0 → fin.get t.extents g ≡ Some bs → fin.get s.extents g ≡ Some bs
  pub dropped : (g : ℕ) → count eqb g v.files ≡ 0 → IsDroppedKept s g p → IsDroppedKept t g q
  pub dirs : ((b : ℕ) → Has b s.dirs → Has b p.blocks) → (b : ℕ) → Has b t.dirs → Has b q.blocks

-- Committed numbers rise, and no further than the changes; and what a part knows rises, and no further than they.
pub record DoNumbersRise (v w : View) (s t : StorePart) (p q : NamesPart) : Type 0 where
  pub others : (g : ℕ) → count eqb g v.files ≡ 0 → committed t g ≡ committed s g
  pub made : (g : ℕ) (x : FilePart) → Has (g, x) v.files → committed s g ≤ length x.changes → (committed s g ≤ committed t g) × (committed t g ≤ length x.changes)
  pub only_born : (g : ℕ) (x : FilePart) → Has (g, x) v.files → (committed t g ≡ committed s g) ⊎ (x.born ≡ true)
  pub names_made : s.names ≤ length p.changes → (s.names ≤ t.names) × (t.names ≤ length p.changes)
  pub known : (g : ℕ) (x y : FilePart) → Has (g, x) v.files → Has (g, y) w.files → x.known ≤ committed s g → committed s g ≤ length x.changes → (x.known ≤ y.known) × (y.known ≤ committed t g)
  pub born : (g : ℕ) (x y : FilePart) → Has (g, x) v.files → Has (g, y) w.files → y.born ≡ true → (x.born ≡ true) ⊎ Has g p.born
  pub names_known : p.known ≤ s.names → s.names ≤ length p.changes → (p.known ≤ q.known) × (q.known ≤ t.names)
  pub names_born : (g : ℕ) → Has g q.born → Has g p.born ⊎ IsMadeBy p t.names g

-- Blocks of others stay on the disk as they are, and a block that isn't in memory has its bytes there.
pub record IsDiskKept (k : Start) (v w : View) (s t : StorePart) : Type 0 where
  pub disk : (b : ℕ) → uses b v ≡ 0 → 1 ≤ uses b k.view → block_on t.state b ≡ block_on s.state b
  pub loaded : (g : ℕ) (x y : FilePart) → Has (g, x) v.files → Has (g, y) w.files → (place b : ℕ) → slice_get y.blocks place ≡ Some b → is_loaded y place ≡ false
      → (block_on t.state b ≡ block_in x.bytes place) ⊎ ((slice_get x.blocks place ≡ Some b) × (is_loaded x place ≡ false) × (block_on t.state b ≡ block_on s.state b))

-- What the store answered is the hand's, and each fault once.
pub record AreAnswers (v w : View) (s t : StorePart) : Type 0 where
  pub single : ((n : ℕ) → times n s.faults ≤ 1) → (n : ℕ) → times n t.faults ≤ 1
  pub faults : (n : ℕ) → times n w.faults + times n s.faults ≤ times n v.faults + times n t.faults
  pub stopped : (n : ℕ) → s.stop ≡ Some n → t.stop ≡ Some n
  pub stops : (n : ℕ) → w.stop ≡ Some n → (v.stop ≡ Some n) ⊎ (t.stop ≡ Some n)
  pub short : (x : Shortage) → Has x s.shortages → Has x t.shortages
  pub shortages : (x : Shortage) → Has x w.shortages → Has x v.shortages ⊎ Has x t.shortages

-- What is asked of an event, by whatever parts of the names and the store go with it.
pub record RemakesOn (S : Showing) (k : Start) (tickets : ℕ) (v w : View) (s t : StorePart) (p q : NamesPart) : Type 0 where
  pub kept : AreBlocksKept v w s t p q
  pub rise : DoNumbersRise v w s t p q
  pub disk : IsDiskVisible k → IsDiskKept k v w s t
  pub shown : IsQuiet s t ⊎ IsTurn S k tickets v s t p
  pub answers : AreAnswers v w s t

pub record MayRemake (S : Showing) (k : Start) (tickets : ℕ) (v w : View) : Type 0 where
  pub clients : w.clients ≡ v.clients
  pub asked : w.asked ≡ v.asked
  pub clock : w.clock ≡ v.clock
  pub seen : w.seen ≡ tickets
  pub file_names : (g : ℕ) → count eqb g w.files ≡ count eqb g v.files
  pub pool_names : (g : ℕ) → count eqb g w.pools ≡ count eqb g v.pools
  pub has_names : (u : Unit {0}) → count only_one u w.names ≡ count only_one u v.names
  pub has_store : (u : Unit {0}) → count only_one u w.store ≡ count only_one u v.store
  pub uses_stay : (b : ℕ) → uses b w ≡ uses b v
  pub files : (g : ℕ) (y : FilePart) → Has (g, y) w.files
      → (x : FilePart) × Has (g, x) v.files × (y ≡ record x { blocks = y.blocks; quarantine = y.quarantine; spare = y.spare; loaded = y.loaded; born = y.born; known = y.known })
  pub names : (u : Unit {0}) (q : NamesPart) → Has (u, q) w.names
      → (p : NamesPart) × Has (u, p) v.names × (q ≡ record p { born = q.born; blocks = q.blocks; dropped = q.dropped; spare = q.spare; known = q.known })
  pub on : IsSingle v → (s t : StorePart) (p q : NamesPart) → StoreGoes v w s t → NamesGo v w p q → RemakesOn S k tickets v w s t p q
