-- The part of the names, and the trees that it is a part of.
use Rattle.std.specs.Prelude.{ℕ, ◌≡◌, ◌||◌, Bool, true, false, List, Some, IsSome, is_some, unwrap_or, slice_index_or, slice_set, if◌then◌else◌, replicate, refl}
use Rattle.std.specs.List.{list_any}
use Rattle.std.specs.Ordering.{nat_cmp}
use Rattle.std.specs.FinMap as map
use Rattle.std.specs.Coded.{Coded, code_by, coded×, coded_ℕ}
use Rattle.ufs_model.specs.PosixTree.{PosixTree, Paths, IsTree, is_node_of}
use Rattle.ufs_model.specs.Touched.{holds}
use Rattle.ufs_model.specs.declared.data.Node.TheVariants as node
use Rattle.ufs_name_tree.specs.NameTable.{NameTable, file_at, node_at, name_table_code}
use Rattle.ufs_names.specs.Stands.{Stands}
use Rattle.ufs_names.specs.declared.holding.Holding.{Holding}
use Rattle.ufs_names.specs.contracts.holding.Holding as holding

-- ---- who holds a file

-- what is known of each live file
abbrev pub Holdings : Type 0
Holdings = map.FinMap nat_cmp Holding

-- no path names it, and no client holds it
abbrev pub unheld : Holding
unheld = record { inode = 0; linked = false; clients = replicate 16 false }

abbrev pub holding_of : Holdings → ℕ → Holding
holding_of held file = unwrap_or (map.get held file) unheld

-- a path names the file
abbrev pub is_linked : Holdings → ℕ → Bool
is_linked held file = (holding_of held file).linked

-- the client holds the file
abbrev pub is_holder : Holdings → ℕ → ℕ → Bool
is_holder held file client = slice_index_or (holding_of held file).clients client false

abbrev pub with_holder : Holding → ℕ → Holding
with_holder h client = record h { clients = slice_set h.clients client true }

abbrev pub without_holder : Holding → ℕ → Holding
without_holder h client = record h { clients = slice_set h.clients client false }

abbrev pub without_name : Holding → Holding
without_name h = record h { linked = false }

-- a path names the file, or a client holds it
abbrev pub is_kept : Holding → Bool
is_kept h = h.linked || list_any (λ b. b) h.clients

-- what is known of the files, where this is known of one now: one that nothing keeps any more goes
abbrev pub settled : Holdings → ℕ → Holding → Holdings
settled held file h = if is_kept h then map.insert held file h else map.remove held file

-- ---- the part

pub record NamesPart : Type 0 where
  -- the directories by their inodes, and which file each other inode is
  pub tree : NameTable
  pub held : Holdings
  -- the next file number
  pub next : ℕ

abbrev pub part_code : Coded NamesPart
part_code = code_by (NameTable × (Holdings × ℕ))
    (coded× name_table_code (coded× (map.code coded_ℕ holding.the_row.coded) coded_ℕ))
    (λ n. (n.tree, (n.held, n.next))) (λ p. record { tree = p.0; held = p.1.0; next = p.1.1 }) (λ _. refl)

-- ---- the trees that it is a part of

-- a file has one name at most
abbrev pub IsNamedOnce : Paths → Type 0
IsNamedOnce paths = (p q : List ℕ) (f : ℕ) → map.get paths p ≡ Some (node.File f) → map.get paths q ≡ Some (node.File f) → p ≡ q

-- The live files are those that have an inode, and each is told with its own.
pub record AreInodesOf (tree : NameTable) (held : Holdings) : Type 0 where
  pub inode : (f : ℕ) (h : Holding) → map.get held f ≡ Some h → file_at tree h.inode ≡ Some f
  pub live : (i f : ℕ) → file_at tree i ≡ Some f → IsSome (map.get held f)
  -- and no other inode is the file's
  pub own : (i f : ℕ) → file_at tree i ≡ Some f → (holding_of held f).inode ≡ i

-- The part is that of the tree: joined with the descriptors of the clients and the bytes of the files it is the tree.
pub record IsNamesPart (n : NamesPart) (t : PosixTree) : Type 0 where
  pub tree : IsTree t
  pub paths : Stands (node_at n.tree) t.paths
  pub once : IsNamedOnce t.paths
  pub next : n.next ≡ t.next
  pub linked : (f : ℕ) → is_linked n.held f ≡ list_any (is_node_of f) (map.values t.paths)
  pub held : (f client : ℕ) → is_holder n.held f client ≡ holds t.fds client f
  -- and exactly the files that have bytes are told of
  pub told : (f : ℕ) → is_some (map.get n.held f) ≡ is_some (map.get t.bytes f)
  pub inodes : AreInodesOf n.tree n.held
