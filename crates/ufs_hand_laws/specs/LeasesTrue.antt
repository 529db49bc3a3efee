-- What leases promise.
use Rattle.std.specs.Prelude.{ℕ, ◌*◌, ◌<◌, ◌≡◌, true, length, Option, Some, None, ⊤}
use Rattle.ufs_model.specs.PosixTree.{PosixTree, Fds}
use Rattle.ufs_model.specs.Walk.{node_at}
use Rattle.ufs_model.specs.FileBytes.{bytes_of, part, block_size}
use Rattle.ufs_model.specs.Touched.{holds}
use Rattle.ufs_model.specs.declared.data.Node.TheVariants.{File}
use Rattle.ufs_model.specs.declared.data.Fact.{Fact}
use Rattle.ufs_model.specs.declared.data.Fact.TheVariants as fact
use Rattle.ufs_model.specs.declared.data.Lease.{Lease}
use Rattle.ufs_model.specs.declared.data.PartName.{PartName}
use Rattle.ufs_model.specs.declared.data.PartName.TheVariants as name
use Rattle.ufs_hand_laws.specs.Owned.{Has}
use Rattle.ufs_hand_laws.specs.Parts.{ClientPart, FilePart, NamesPart, View}

-- the fact is true of that part of the tree
abbrev pub IsTrueOf : PosixTree → PartName → Fact → Type 0
IsTrueOf t (name.File g) (fact.Holds first size bytes) = (length (bytes_of t.bytes g) ≡ size) × (part (bytes_of t.bytes g) (first * block_size) (length bytes) ≡ bytes)
IsTrueOf t name.Names (fact.Resolves path file) = node_at t.paths path ≡ Some (File file)
IsTrueOf t _ _ = ⊤

-- the file of a lease
abbrev pub leased_file : PartName → Fact → Option ℕ
leased_file (name.File g) f = Some g
leased_file name.Names (fact.Resolves path file) = Some file
leased_file _ _ = None

-- the client holds the file of the lease
abbrev pub IsLeaseHeld : Fds → ℕ → Option ℕ → Type 0
IsLeaseHeld fds c None = ⊤
IsLeaseHeld fds c (Some g) = holds fds c g ≡ true

-- the part of a file or of the names has the lease in its list
abbrev pub IsListed : (ℕ → Option FilePart) → NamesPart → Lease → PartName → Type 0
IsListed files names l (name.File g) = (q : FilePart) × (files g ≡ Some q) × Has l q.leases
IsListed files names l name.Names = Has l names.leases
IsListed files names l _ = ⊤

-- a part that the hand has
abbrev pub IsListedIn : View → Lease → PartName → Type 0
IsListedIn v l (name.File g) = (q : FilePart) × Has (g, q) v.files × Has l q.leases
IsListedIn v l name.Names = (q : NamesPart) × Has (tt, q) v.names × Has l q.leases
IsListedIn v l _ = ⊥

-- Each copy that is live, at a clock, is in the list of its part; its fact is true; and its client holds the file. A copy is
-- its client's, and ends before the clock does.
pub record AreLeasesTrue (clock : ℕ) (t : PosixTree) (clients : ℕ → Option ClientPart) (files : ℕ → Option FilePart) (names : NamesPart) : Type 0 where
  pub listed : (c : ℕ) (p : ClientPart) (l : Lease) → clients c ≡ Some p → Has l p.copies → clock < l.until → IsListed files names l l.part
  pub true' : (c : ℕ) (p : ClientPart) (l : Lease) → clients c ≡ Some p → Has l p.copies → clock < l.until → IsTrueOf t l.part l.fact
  pub held : (c : ℕ) (p : ClientPart) (l : Lease) → clients c ≡ Some p → Has l p.copies → clock < l.until → IsLeaseHeld t.fds c (leased_file l.part l.fact)
  pub own : (c : ℕ) (p : ClientPart) (l : Lease) → clients c ≡ Some p → Has l p.copies → l.client ≡ c
  pub ends : (c : ℕ) (p : ClientPart) (l : Lease) → clients c ≡ Some p → Has l p.copies → l.until < 16777216
