-- Sessions that are worked by hand: entries, each with the tree after it; and what such a session shows.
use Rattle.std.proofs.Common.{◌≡◌, ℕ, Bool, true, false, cond, List, [], ◌∷◌, length, get_or, map, Option, Some, None, ap, sym, refl, ◌∙◌, subst, arith}
use Rattle.std.specs.Prelude.{codes}
use Rattle.std.specs.FinMap as fin
use Rattle.std.specs.FinMap.{get-insert, get-empty}
use Rattle.std.specs.Ordering.{eq_by_cmp}
use Rattle.ufs_model.specs.Order.{path_cmp}
use Rattle.ufs_model.specs.PosixTree.{PosixTree, Paths}
use Rattle.ufs_model.specs.FileBytes.{bytes_of}
use Rattle.ufs_model.specs.Start.{PathNodes}
use Rattle.ufs_model.specs.History.{goes_on}
use Rattle.ufs_model.proofs.Facts.Orders.{path_total}
use Rattle.ufs_model.specs.declared.data.Actor.TheVariants as actor
use Rattle.ufs_model.specs.declared.data.Desc.{Desc}
use Rattle.ufs_model.specs.declared.data.Entry.{Entry}
use Rattle.ufs_model.specs.declared.data.Node.{Node}
use Rattle.ufs_model.specs.declared.data.Op.{Op}
use Rattle.ufs_model.specs.declared.data.PathNode.{PathNode}
use Rattle.ufs_model.specs.declared.data.PathNode.TheVariants as path_node
use Rattle.ufs_model.specs.declared.data.Reply.{Reply}
use Rattle.ufs_crash_laws.specs.FileChanges.{all_changed, IsShown}
use Rattle.ufs_crash_laws.specs.Steps.{Step, steps}
use Rattle.ufs_crash_laws.proofs.Facts.Shows.{shown_now, shown_exactly}
use Rattle.ufs_crash_laws.specs.Changes.{NameState, names_of, changes_of, name_changes, names_after, file_synced}
use Rattle.ufs_crash_laws.specs.Explained.{IsNodeWith, IsTreeWith, ShowsSynced}
use Rattle.ufs_crash_laws.specs.declared.data.FileChange.{FileChange}

-- client 0's entry with that number
abbrev pub entry : ℕ → Op → Reply → Entry
entry n request told = record { ticket = n; client = 0; seq = n; by = actor.Primary; op = request; reply = told }

-- a descriptor of a file, for reading and writing
abbrev pub desc : ℕ → ℕ → Desc
desc file at = record { file = Some file; at = at; read = true; write = true; append = false }

-- ---- entries with the trees after them

abbrev pub Worked : Type 0
Worked = List (Entry × PosixTree)

abbrev pub history_of : Worked → List Entry
history_of es = map (λ e. e.0) es

abbrev pub IsWorked : PosixTree → Worked → Type 0
IsWorked t [] = Unit {0}
IsWorked t (e ∷ es) = (goes_on t e.0 ≡ e.1) × IsWorked e.1 es

abbrev pub walked : PosixTree → Worked → List Step
walked t [] = []
walked t (e ∷ es) = record { before = t; entry = e.0 } ∷ walked e.1 es

pub steps_walked : (t : PosixTree) (es : Worked) → IsWorked t es → steps t (map (λ e. e.0) es) ≡ walked t es
steps_walked t [] worked = refl
steps_walked t (e ∷ es) worked =
    ap (λ u. record { before = t; entry = e.0 } ∷ steps u (map (λ e. e.0) es)) worked.0
    ∙ ap (λ ss. record { before = t; entry = e.0 } ∷ ss) (steps_walked e.1 es worked.1)

-- ---- trees of paths

-- what stands at one more path
pub both_inserted : (Has : ℕ → List ℕ → Type 0) (paths : Paths) (tree : PathNodes) (whole : List ℕ) (n : Node) (p : PathNode) → IsNodeWith Has (Some n) (Some p) → IsTreeWith Has paths tree
    → IsTreeWith Has (fin.insert paths whole n) (fin.insert tree whole p)
both_inserted Has paths tree whole n p here rest path =
    subst (λ (x : Option Node × Option PathNode). IsNodeWith Has x.0 x.1) (λ i. (sym (get-insert path_total paths whole n path) i, sym (get-insert path_total tree whole p path) i))
    (by (eq_by_cmp path_cmp path whole) (rest path))
  where
    by : (b : Bool) → IsNodeWith Has (fin.get paths path) (fin.get tree path) → IsNodeWith Has (cond b (Some n) (fin.get paths path)) (cond b (Some p) (fin.get tree path))
    by true rest = here
    by false rest = rest

pub both_empty : (Has : ℕ → List ℕ → Type 0) → IsTreeWith Has fin.empty fin.empty
both_empty Has path = subst (λ (x : Option Node × Option PathNode). IsNodeWith Has x.0 x.1) (λ i. (sym (get-empty {X = Node} path_cmp path) i, sym (get-empty {X = PathNode} path_cmp path) i)) tt

-- the root, and a file beside it
abbrev pub with_file : List ℕ → List ℕ → PathNodes
with_file path bytes = fin.insert (fin.insert fin.empty (codes "/") path_node.Dir) path (path_node.File bytes)

abbrev pub HasFile : PathNodes → List ℕ → List ℕ → Type 0
HasFile tree path bytes = fin.get tree path ≡ Some (path_node.File bytes)

abbrev pub HasNone : PathNodes → List ℕ → Type 0
HasNone tree path = fin.get tree path ≡ None

-- a path has one file's bytes
pub same_bytes : (tree : PathNodes) (path bytes other : List ℕ) → HasFile tree path bytes → HasFile tree path other → bytes ≡ other
same_bytes tree path bytes other is also = let same = sym is ∙ also in cc

-- ---- what a session shows

-- a file's opening bytes, its changes, and how many of them are synced
pub record IsFileRow (start : PosixTree) (history : List Entry) (file : ℕ) (opening : List ℕ) (changes : List FileChange) (synced : ℕ) : Type 0 where
  pub opened : bytes_of start.bytes file ≡ opening
  pub changed : changes_of file start history ≡ changes
  pub counted : file_synced file start history ≡ synced

module _ (start : PosixTree) (history : List Entry) where
  abbrev pub Shows : ℕ → List ℕ → Type 0
  Shows file bytes = ShowsSynced (bytes_of start.bytes file) (changes_of file start history) (file_synced file start history) bytes

  module _ (file : ℕ) (opening : List ℕ) (changes : List FileChange) (synced : ℕ) (row : IsFileRow start history file opening changes synced) (bytes : List ℕ) where
    pub row_shows : ShowsSynced (bytes_of start.bytes file) (changes_of file start history) (file_synced file start history) bytes → ShowsSynced opening changes synced bytes
    row_shows = subst (λ (x : List ℕ × List FileChange × ℕ). ShowsSynced x.0 x.1 x.2 bytes) (λ i. (row.opened i, row.changed i, row.counted i))

    pub shows_row : ShowsSynced opening changes synced bytes → ShowsSynced (bytes_of start.bytes file) (changes_of file start history) (file_synced file start history) bytes
    shows_row = subst (λ (x : List ℕ × List FileChange × ℕ). ShowsSynced x.0 x.1 x.2 bytes) (λ i. (sym row.opened i, sym row.changed i, sym row.counted i))

  -- the names after so many of the listed changes
  pub names_at : (ns : List NameState) → name_changes start history ≡ ns → (count : ℕ) → names_after start history count ≡ get_or (names_of start ∷ ns) count (names_of start)
  names_at ns are count = ap (λ l. get_or (names_of start ∷ l) count (names_of start)) are

-- where all changes are synced nothing else is shown
pub all_synced : (opening : List ℕ) (changes : List FileChange) (bytes : List ℕ) → ShowsSynced opening changes (length changes) bytes → bytes ≡ all_changed opening changes
all_synced opening changes bytes shows =
    let all : shows.count ≡ length changes = omega (arith, shows.covers, shows.shown.made) in shown_exactly opening changes bytes (subst (λ count. IsShown opening changes count bytes) all shows.shown)

pub all_shown : (opening : List ℕ) (changes : List FileChange) → ShowsSynced opening changes (length changes) (all_changed opening changes)
all_shown opening changes = record { count = length changes; covers = omega arith; shown = shown_now opening changes }
