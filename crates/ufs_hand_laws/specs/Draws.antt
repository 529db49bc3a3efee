-- An entry is drawn on the parts that a hand has.
use Rattle.std.specs.Prelude.{ℕ, suc, ◌+◌, ◌≤◌, ◌<◌, ◌≡◌, ◌≢◌, ◌⊎◌, eqb, if◌then◌else◌, true, false, List, [], ◌∷◌, ◌++◌, length, Some, None, is_some, slice_get}
use Rattle.std.specs.FinMap as fin
use Rattle.ufs_model.specs.PosixTree.{PosixTree, IsTree, desc_at}
use Rattle.ufs_model.specs.History.{IsReplyTo, goes_on, is_excused}
use Rattle.ufs_model.specs.Touched.{holds, touched_parts, IsPartOf}
use Rattle.ufs_model.specs.Asks.{fd_told}
use Rattle.ufs_model.specs.declared.data.Entry.{Entry}
use Rattle.ufs_model.specs.declared.data.Reply.{Reply}
use Rattle.ufs_model.specs.declared.data.Reply.TheVariants as reply
use Rattle.ufs_model.specs.declared.data.Excuse.TheVariants as excuse
use Rattle.ufs_model.specs.declared.data.PartName.{PartName}
use Rattle.ufs_model.specs.declared.data.PartName.TheVariants as part
use Rattle.ufs_hand_laws.specs.declared.fresh.Fresh.{Fresh}
use Rattle.ufs_hand_laws.specs.Owned.{one, Has, count, each, times, less}
use Rattle.ufs_crash_laws.specs.Changes.{change_of, names_by}
use Rattle.ufs_hand_laws.specs.Covers.{step_in, SyncsFile, SyncsNames, SyncsBirth}
use Rattle.ufs_hand_laws.specs.Parts.{OwnFds, ClientPart, FilePart, NamesPart, Shortage, View, only_one, uses, is_holder, HoldsPart}
use Rattle.ufs_hand_laws.specs.DiskBytes.{block_in, is_loaded}
use Rattle.ufs_hand_laws.specs.LeasesTrue.{IsTrueOf, IsLeaseHeld, IsListedIn, leased_file}
use Rattle.ufs_model.specs.Touched.{IsSamePart}
use Rattle.ufs_model.specs.declared.data.Lease.{Lease}

-- ---- the view afterwards

-- What the draw leaves: the client's descriptors, and the files and names that the hand has then. Its caller picks it.
pub record Leaves : Type 0 where
  pub fds : OwnFds
  pub files : List (ℕ × FilePart)
  pub names : List (Unit {0} × NamesPart)

abbrev pub entry_of : ℕ → Fresh → Entry
entry_of n f = record { ticket = n; client = f.client; seq = f.seq; by = f.by; op = f.op; reply = f.reply }

abbrev pub client_after : Entry → OwnFds → ℕ → ClientPart → ClientPart
client_after e fds c p = if eqb e.client c then record p { entries = p.entries ++ e ∷ []; fds = fds; asked = None } else p

-- a fault that excuses an entry is used
abbrev pub left_faults : Reply → List ℕ → List ℕ
left_faults (reply.Excused (excuse.Device n)) faults = less n faults
left_faults _ faults = faults

abbrev pub drawn : ℕ → Fresh → Leaves → View → View
drawn n f l v = record v {
  clients = each (client_after (entry_of n f) l.fds) v.clients;
  files = l.files;
  names = l.names;
  seen = suc n;
  faults = left_faults f.reply v.faults;
  shortages = [];
}

-- ---- the trees that a hand's parts are of

-- The tree has what the hand's parts have.
pub record IsIn (v : View) (t : PosixTree) : Type 0 where
  pub clients : (c : ℕ) (p : ClientPart) → Has (c, p) v.clients → (fd : ℕ) → fin.get p.fds fd ≡ desc_at t c fd
  pub files : (f : ℕ) (p : FilePart) → Has (f, p) v.files → fin.get t.bytes f ≡ Some p.bytes
  pub paths : (u : Unit {0}) (n : NamesPart) → Has (u, n) v.names → n.paths ≡ t.paths
  pub next : (u : Unit {0}) (n : NamesPart) → Has (u, n) v.names → n.next ≡ t.next
  pub holds : (u : Unit {0}) (n : NamesPart) → Has (u, n) v.names → (c f : ℕ) → is_holder n.holds c f ≡ holds t.fds c f

-- a file that isn't there has no part
abbrev pub IsAbsent : PartName → PosixTree → Type 0
IsAbsent (part.File f) t = fin.get t.bytes f ≡ None
IsAbsent _ t = ⊥

abbrev pub new_file : FilePart
new_file = record { opening = None; changes = []; bytes = []; leases = []; blocks = []; quarantine = []; spare = []; loaded = []; born = false; known = 0 }

-- a file goes on by an entry, or is made by it
abbrev pub IsFileAfter : PosixTree → Entry → View → ℕ → FilePart → Type 0
IsFileAfter t e v g q =
    ((p : FilePart) × Has (g, p) v.files
    × (q ≡ record p { bytes = q.bytes; changes = p.changes ++ change_of g (step_in t e); blocks = q.blocks; quarantine = q.quarantine; spare = q.spare; loaded = q.loaded }))
    ⊎ ((g ≡ t.next) × (q ≡ new_file))

-- the names go on by an entry
abbrev pub IsNamesAfter : PosixTree → Entry → View → Unit {0} → NamesPart → Type 0
IsNamesAfter t e v u q =
    (p : NamesPart) × Has (u, p) v.names
    × (q ≡ record p { paths = q.paths; next = q.next; holds = q.holds; blocks = q.blocks; dropped = q.dropped; spare = q.spare; changes = p.changes ++ names_by (step_in t e) })
    × ((g : ℕ) (bs : List ℕ) → Has (g, bs) p.dropped → Has (g, bs) q.dropped)
    × ((b : ℕ) → Has b p.blocks → Has b q.blocks)

-- An entry doesn't change a part: not as it stands in the tree, and not by a change that its part would keep.
abbrev pub IsUnchanged : PartName → PosixTree → Entry → Type 0
IsUnchanged (part.File g) t e = (fin.get t.bytes g ≡ fin.get (goes_on t e).bytes g) × (change_of g (step_in t e) ≡ [])
IsUnchanged part.Names t e = IsSamePart part.Names t (goes_on t e) × (names_by (step_in t e) ≡ [])
IsUnchanged p t e = ⊥

-- What is asked of a draw in a tree that has the hand's parts.
pub record DrawsOn (f : Fresh) (self : ClientPart) (v : View) (l : Leaves) (t : PosixTree) : Type 0 where
  -- the reply is POSIX's, or excused
  pub replied : IsReplyTo t (entry_of 0 f)
  -- the hand has each part that the request touches, but for those that aren't there and those that it leaves as they are
  pub touched : is_excused f.reply ≡ false → (p : PartName) → IsPartOf (touched_parts t f.client f.op) p → HoldsPart p v ⊎ (IsAbsent p t ⊎ IsUnchanged p t (entry_of 0 f))
  -- what it leaves is in the next tree
  pub fds : (fd : ℕ) → fin.get l.fds fd ≡ desc_at (goes_on t (entry_of 0 f)) f.client fd
  pub bytes : (g : ℕ) (q : FilePart) → Has (g, q) l.files → fin.get (goes_on t (entry_of 0 f)).bytes g ≡ Some q.bytes
  pub files : (g : ℕ) (q : FilePart) → Has (g, q) l.files → IsFileAfter t (entry_of 0 f) v g q
  pub paths : (u : Unit {0}) (q : NamesPart) → Has (u, q) l.names → q.paths ≡ (goes_on t (entry_of 0 f)).paths
  pub next : (u : Unit {0}) (q : NamesPart) → Has (u, q) l.names → q.next ≡ (goes_on t (entry_of 0 f)).next
  pub holds : (u : Unit {0}) (q : NamesPart) → Has (u, q) l.names → (c g : ℕ) → is_holder q.holds c g ≡ holds (goes_on t (entry_of 0 f)).fds c g
  pub names : (u : Unit {0}) (q : NamesPart) → Has (u, q) l.names → IsNamesAfter t (entry_of 0 f) v u q
  -- of the files that it had or that weren't there it has those that are there then, and no other
  pub own : (g : ℕ) → (1 ≤ count eqb g v.files) ⊎ (fin.get t.bytes g ≡ None) → count eqb g l.files ≡ one (is_some (fin.get (goes_on t (entry_of 0 f)).bytes g))
  pub other : (g : ℕ) → count eqb g v.files ≡ 0 → is_some (fin.get t.bytes g) ≡ true → count eqb g l.files ≡ 0
  pub single : (g : ℕ) → count eqb g l.files ≤ 1
  -- live leases stay true, at a clock that the hand has seen, and those of the client itself stay held
  pub leases : (x : Lease) → IsListedIn v x x.part → v.clock < x.until → IsTrueOf t x.part x.fact → IsTrueOf (goes_on t (entry_of 0 f)) x.part x.fact
  pub own_leases : (x : Lease) → Has x self.copies → v.clock < x.until → IsLeaseHeld t.fds f.client (leased_file x.part x.fact) → IsLeaseHeld (goes_on t (entry_of 0 f)).fds f.client (leased_file x.part x.fact)
  -- what is acknowledged is known as committed
  pub synced : f.reply ≡ reply.Done → (g : ℕ) → SyncsFile t f.client f.op g → (p : FilePart) × Has (g, p) v.files × (length p.changes ≤ p.known)
  pub synced_names : f.reply ≡ reply.Done → SyncsNames t f.client f.op → (n : NamesPart) × Has (tt, n) v.names × (length n.changes ≤ n.known)
  pub synced_birth : f.reply ≡ reply.Done → (g : ℕ) → SyncsBirth t f.client f.op g → (p : FilePart) × Has (g, p) v.files × (p.born ≡ true)

-- What is asked of a draw by its own hand. Of the trees that have its parts only those matter in which the facts of some
-- of its client's leases are true: leases that are known to be live, or none.
pub record MayDraw (f : Fresh) (v : View) (l : Leaves) (known : List Lease) : Type 0 where
  pub self : ClientPart
  pub client : Has (f.client, self) v.clients
  pub low : f.client < 16
  pub seq : f.seq ≡ length self.entries
  pub asked : self.asked ≡ Some f.op
  -- in each tree that has the hand's parts
  pub on : (t : PosixTree) → IsTree t → IsIn v t → ((x : Lease) → Has x known → IsTrueOf t x.part x.fact) → DrawsOn f self v l t
  pub copies : (x : Lease) → Has x known → Has x self.copies
  pub names : (u : Unit {0}) → count only_one u l.names ≡ count only_one u v.names
  -- the client's other descriptors stay
  pub others : (n : ℕ) → fd_told f.op f.reply ≢ Some n → fin.get l.fds n ≡ fin.get self.fds n
  -- no block comes or goes, and those of a file that is dropped go to the names
  pub blocks : (b : ℕ) → uses b (drawn 0 f l v) ≡ uses b v
  pub dropped : (g : ℕ) (p : FilePart) → Has (g, p) v.files → count eqb g l.files ≡ 0
      → (n : NamesPart) × Has (tt, n) l.names × (bs : List ℕ) × Has (g, bs) n.dropped × ((b : ℕ) → Has b p.blocks ⊎ Has b p.quarantine → Has b bs)
  -- a file keeps its blocks, but for spare ones
  pub kept : (g : ℕ) (p q : FilePart) → Has (g, p) v.files → Has (g, q) l.files → (b : ℕ) → Has b p.blocks ⊎ Has b p.quarantine → Has b q.blocks ⊎ Has b q.quarantine
  -- bytes change only in blocks that are in memory
  pub loaded : (g : ℕ) (p q : FilePart) → Has (g, p) v.files → Has (g, q) l.files → (place b : ℕ) → slice_get q.blocks place ≡ Some b → is_loaded q place ≡ false
      → (slice_get p.blocks place ≡ Some b) × (is_loaded p place ≡ false) × (block_in q.bytes place ≡ block_in p.bytes place)
  -- an excuse has its cause
  pub device : (n : ℕ) → f.reply ≡ reply.Excused (excuse.Device n) → 1 ≤ times n v.faults
  pub stopped : (n : ℕ) → f.reply ≡ reply.Excused (excuse.Stopped n) → v.stop ≡ Some n
  pub short : (need had : ℕ) → f.reply ≡ reply.Excused (excuse.Blocks need had) → (x : Shortage) × Has x v.shortages × (had ≡ x.had + x.pool)
