-- A lease is granted, and given back, by a hand that has its client and the part that it is on.
use Rattle.std.specs.Prelude.{ℕ, ◌*◌, ◌<◌, ◌≡◌, ◌≢◌, ◌==◌, eqb, if◌then◌else◌, not, filter, List, [], ◌∷◌, ◌++◌, length, Some}
use Rattle.std.specs.FinMap as fin
use Rattle.ufs_model.specs.Walk.{node_at}
use Rattle.ufs_model.specs.FileBytes.{part, block_size}
use Rattle.ufs_model.specs.declared.data.Desc.{Desc}
use Rattle.ufs_model.specs.declared.data.Node.TheVariants.{File}
use Rattle.ufs_model.specs.declared.data.Fact.{Fact}
use Rattle.ufs_model.specs.declared.data.Fact.TheVariants as fact
use Rattle.ufs_model.specs.declared.data.Lease.{Lease}
use Rattle.ufs_model.specs.declared.data.PartName.{PartName}
use Rattle.ufs_model.specs.declared.data.PartName.TheVariants as name
use Rattle.ufs_hand_laws.specs.LeasesTrue.{leased_file}
use Rattle.ufs_hand_laws.specs.Owned.{Has, each}
use Rattle.ufs_hand_laws.specs.Parts.{OwnFds, ClientPart, FilePart, NamesPart, View, HoldsPart, is_file, is_names}

-- ---- the leases of one part go on

abbrev pub file_leased : PartName → (List Lease → List Lease) → ℕ → FilePart → FilePart
file_leased p go g x = if is_file p g then record x { leases = go x.leases } else x

abbrev pub names_leased : PartName → (List Lease → List Lease) → Unit {0} → NamesPart → NamesPart
names_leased p go u x = if is_names p u then record x { leases = go x.leases } else x

-- ---- a lease is granted

-- The hand has the part, and the fact is true of it: a file's lease says what it holds, one of the names what a path is.
abbrev pub IsTrueIn : View → PartName → Fact → Type 0
IsTrueIn v (name.File g) (fact.Holds first size bytes) = (x : FilePart) × Has (g, x) v.files × (length x.bytes ≡ size) × (part x.bytes (first * block_size) (length bytes) ≡ bytes)
IsTrueIn v name.Names (fact.Resolves path file) = (x : NamesPart) × Has (tt, x) v.names × (node_at x.paths path ≡ Some (File file))
IsTrueIn v _ _ = ⊥

-- one of the descriptors is of the file
abbrev pub HasOpen : OwnFds → ℕ → Type 0
HasOpen fds g = (fd : ℕ) × (d : Desc) × (fin.get fds fd ≡ Some d) × (d.file ≡ Some g)

-- The hand has the client and the part. The client has the file open, and the lease ends before the clock does.
pub record MayGrant (l : Lease) (v : View) : Type 0 where
  pub self : ClientPart
  pub client : Has (l.client, self) v.clients
  pub open' : (g : ℕ) → leased_file l.part l.fact ≡ Some g → HasOpen self.fds g
  pub fact : IsTrueIn v l.part l.fact
  pub ends : l.until < 16777216

abbrev pub copying : Lease → ℕ → ClientPart → ClientPart
copying l n p = if eqb l.client n then record p { copies = p.copies ++ l ∷ [] } else p

abbrev pub granting : ℕ → Lease → View → View
granting tickets l v = record v {
  clients = each (copying l) v.clients;
  files = each (file_leased l.part (λ ls. ls ++ l ∷ [])) v.files;
  names = each (names_leased l.part (λ ls. ls ++ l ∷ [])) v.names;
  seen = tickets;
}

-- ---- leases are given back

-- The hand has the client and the part, and the client has no copy of a lease on it any more.
pub record MayGiveBack (p : PartName) (c : ℕ) (v : View) : Type 0 where
  pub self : ClientPart
  pub client : Has (c, self) v.clients
  pub part : HoldsPart p v
  pub dropped : (l : Lease) → Has l self.copies → l.part ≢ p

-- the leases of other clients
abbrev pub of_others : ℕ → List Lease → List Lease
of_others c ls = filter (λ l. not (l.client == c)) ls

abbrev pub giving_back : ℕ → PartName → ℕ → View → View
giving_back tickets p c v = record v {
  files = each (file_leased p (of_others c)) v.files;
  names = each (names_leased p (of_others c)) v.names;
  seen = tickets;
}
