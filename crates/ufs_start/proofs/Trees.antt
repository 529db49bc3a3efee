-- Trees of images with the same walks.
use Rattle.std.proofs.Common.{◌≡◌, ℕ, ◌+◌, ◌≤◌, List, [], ◌∷◌, ◌&&◌, Bool, true, false, Option, Some, None, map, ap, sym, refl, ◌∙◌, subst, arith}
use Rattle.std.specs.Prelude.{Result, Ok, Err, if◌then◌else◌}
use Rattle.std.specs.Option.{option_map}
use Rattle.std.specs.Ordering.{is_lt}
use Rattle.std.specs.FinMap as fin
use Rattle.std.specs.FinMap.{from_entries, is_sorted, same_map}
use Rattle.std.specs.FinMap.Entries.{below_all}
use Rattle.ufs_base.specs.Images.{Image}
use Rattle.ufs_metadata.specs.Faults.{IsWhyNot}
use Rattle.ufs_metadata.specs.declared.fault.RecoverFault.{RecoverFault}
use Rattle.ufs_metadata.specs.declared.fault.RecoverFault.TheVariants.{NoSuperblock, BadVersion, BadGeometry, BadRecord, BadTree, Device, Lack}
use Rattle.ufs_image.specs.Catalog.{Catalog}
use Rattle.ufs_image.specs.Opens.{ImageTree, NodeBytes, path_cmp, walked}
use Rattle.ufs_image.specs.Standing.{IsVolumeOf}
use Rattle.ufs_image.specs.Volume.{Refusal, Volume}
use Rattle.ufs_image.specs.Walks.{ArePieces, inode_of, node_of, path_text}
use Rattle.ufs_image.proofs.Opening.{has_geometry}
use Rattle.ufs_image.proofs.Paths.{stands, standing}
use Rattle.ufs_ledger.specs.Kept.{path_node_of, paths_of}
use Rattle.ufs_model.specs.Start.{next_from, paths_from, start_of}
use Rattle.ufs_model.specs.declared.data.Node.{Node}
use Rattle.ufs_model.specs.declared.data.Node.TheVariants as node
use Rattle.ufs_model.specs.declared.data.PathNode.{PathNode}
use Rattle.ufs_model.specs.declared.data.PathNode.TheVariants as path_node
use Rattle.ufs_model.proofs.Facts.Orders.{path_total, path_same}
use Rattle.ufs_model.proofs.Facts.Rising.{entries-rise, entries-rising}
use Rattle.ufs_crash_laws.specs.Mapped.{mapped}
use Rattle.ufs_crash_laws.proofs.Facts.Mapped.{get-mapped}
use Rattle.ufs_start.specs.Copies.{AreAlike, AreOpenedAlike, is_file}

-- ---- the same walks

pub file_or_dir : (b : Bool) (bytes other : List ℕ) → is_file (if b then None else Some bytes) ≡ is_file (if b then None else Some other)
file_or_dir true bytes other = refl
file_or_dir false bytes other = refl

-- Where all walks are the same, and the kinds of what they meet are, the trees are alike.
pub alike_walks : (sectors copied : ℕ) (image other : Image) (v w : Volume) (c d : Catalog) → IsVolumeOf copied image v c → IsVolumeOf sectors other w d → ((names : List (List ℕ)) → inode_of d names ≡ inode_of c names)
    → ((names : List (List ℕ)) (i : ℕ) → inode_of c names ≡ Some i → is_file (node_of v.image c i) ≡ is_file (node_of w.image d i)) → AreAlike (from_entries (walked v)) (from_entries (walked w))
alike_walks sectors copied image other v w c d a b walks nodes path = by (fin.get {R = path_cmp} (from_entries (walked v)) path) refl (fin.get {R = path_cmp} (from_entries (walked w)) path) refl
  where
    some_v : 1 ≤ v.geometry.inodes
    some_v = let least = (has_geometry copied image v a.taken).0.least_inodes in omega (arith, least)

    some_w : 1 ≤ w.geometry.inodes
    some_w = let least = (has_geometry sectors other w b.taken).0.least_inodes in omega (arith, least)

    kind_at : Volume → Option Bool
    kind_at u = option_map is_file (fin.get {R = path_cmp} (from_entries (walked u)) path)

    alike : (names : List (List ℕ)) (i : ℕ) → path ≡ path_text names → ArePieces names → inode_of c names ≡ Some i → kind_at v ≡ kind_at w
    alike names i text pieces met =
        ap (λ p. option_map is_file (fin.get {R = path_cmp} (from_entries (walked v)) p)) text
        ∙ ap (option_map is_file) (stands v.geometry v.image c a.catalog a.sound some_v names pieces ∙ ap (option_map (node_of v.image c)) met)
        ∙ ap {B = Option Bool} Some (nodes names i met)
        ∙ sym (ap (option_map is_file) (stands w.geometry w.image d b.catalog b.sound some_w names pieces ∙ ap (option_map (node_of w.image d)) (walks names ∙ met)))
        ∙ sym (ap (λ p. option_map is_file (fin.get {R = path_cmp} (from_entries (walked w)) p)) text)

    by : (m : Option NodeBytes) → fin.get {R = path_cmp} (from_entries (walked v)) path ≡ m → (n : Option NodeBytes) → fin.get {R = path_cmp} (from_entries (walked w)) path ≡ n → kind_at v ≡ kind_at w
    by None e None h = ap (option_map is_file) (e ∙ sym h)
    by (Some x) e n h = let is = standing v.geometry v.image c a.catalog a.sound some_v path x e in alike is.names is.at is.text is.pieces is.met
    by None e (Some y) h = let is = standing w.geometry w.image d b.catalog b.sound some_w path y h in alike is.names is.at is.text is.pieces (sym (walks is.names) ∙ is.met)

-- ---- what a session begins with

-- a node without a file's bytes
abbrev bare : Bool → PathNode
bare true = path_node.File []
bare false = path_node.Dir

abbrev Nodes : Type 0 → Type 0
Nodes X = List (List ℕ × X)

abbrev named : {X Y : Type 0} → (X → Y) → Nodes X → Nodes Y
named f es = map (λ e. (e.0, f e.1)) es

below_named : {X Y : Type 0} (f : X → Y) (k : List ℕ) (es : Nodes X) → below_all path_cmp k (named f es) ≡ below_all path_cmp k es
below_named f k [] = refl
below_named f k (e ∷ es) = ap (λ b. is_lt (path_cmp k e.0) && b) (below_named f k es)

sorted_named : {X Y : Type 0} (f : X → Y) (es : Nodes X) → is_sorted path_cmp (named f es) ≡ is_sorted path_cmp es
sorted_named f [] = refl
sorted_named f (e ∷ es) = let here = below_named f e.0 es in let rest = sorted_named f es in λ i. here i && rest i

entries_mapped : {X Y : Type 0} (f : X → Y) (m : fin.FinMap path_cmp X) → fin.entries (mapped f m) ≡ named f (fin.entries m)
entries_mapped f m = entries-rising path_cmp path_total path_same (named f (fin.entries m)) (sorted_named f (fin.entries m) ∙ entries-rise m)

-- numbers go by kinds
paths_by : (es : Nodes NodeBytes) (n : ℕ) → paths_from n (named path_node_of es) ≡ paths_from n (named bare (named is_file es))
paths_by [] n = refl
paths_by ((path, None) ∷ es) n = ap (λ (rest : Nodes Node). (path, node.Dir) ∷ rest) (paths_by es n)
paths_by ((path, Some bytes) ∷ es) n = ap (λ (rest : Nodes Node). (path, node.File n) ∷ rest) (paths_by es (n + 1))

next_by : (es : Nodes NodeBytes) (n : ℕ) → next_from n (named path_node_of es) ≡ next_from n (named bare (named is_file es))
next_by [] n = refl
next_by ((path, None) ∷ es) n = next_by es n
next_by ((path, Some bytes) ∷ es) n = next_by es (n + 1)

abbrev kinds : ImageTree → fin.FinMap path_cmp Bool
kinds t = mapped is_file t

module _ (t u : ImageTree) (alike : AreAlike t u) where
  kinds_same : kinds t ≡ kinds u
  kinds_same = same_map path_total path_same (kinds t) (kinds u) (λ path. get-mapped path_total is_file t path ∙ alike path ∙ sym (get-mapped path_total is_file u path))

  by_kinds : {X : Type 0} (f : Nodes PathNode → X) → ((es : Nodes NodeBytes) → f (named path_node_of es) ≡ f (named bare (named is_file es))) → f (fin.entries (paths_of t)) ≡ f (fin.entries (paths_of u))
  by_kinds f same =
      let one = ap f (entries_mapped path_node_of t) ∙ same (fin.entries t) ∙ sym (ap (λ es. f (named bare es)) (entries_mapped is_file t)) in
      let other = ap f (entries_mapped path_node_of u) ∙ same (fin.entries u) ∙ sym (ap (λ es. f (named bare es)) (entries_mapped is_file u)) in
      one ∙ ap (λ (m : fin.FinMap path_cmp Bool). f (named bare (fin.entries m))) kinds_same ∙ sym other

  pub paths_alike : (start_of (paths_of t)).paths ≡ (start_of (paths_of u)).paths
  paths_alike = by_kinds (λ es. from_entries (paths_from 0 es)) (λ es. ap from_entries (paths_by es 0))

  pub next_alike : (start_of (paths_of t)).next ≡ (start_of (paths_of u)).next
  next_alike = by_kinds (next_from 0) (λ es. next_by es 0)

-- ---- why there is no tree

pub refused_alike : (refusal : Refusal) (r s : Result ImageTree Refusal) → r ≡ Err refusal → s ≡ Err refusal → AreOpenedAlike r s
refused_alike refusal r s one two = subst (λ (x : Result ImageTree Refusal). AreOpenedAlike x s) (sym one) (subst (AreOpenedAlike (Err refusal)) (sym two) refl)

pub why_alike : (r s : Result ImageTree Refusal) (fault : RecoverFault) → AreOpenedAlike r s → IsWhyNot r fault → IsWhyNot s fault
why_alike (Err refusal) (Err other) fault alike told = subst (λ (o : Refusal). IsWhyNot {X = ImageTree} (Err o) fault) alike told
why_alike (Err refusal) (Ok u) fault alike told = absurd alike
why_alike (Ok t) (Err other) fault alike told = absurd alike
why_alike (Ok t) (Ok u) NoSuperblock alike told = let no = told in cc
why_alike (Ok t) (Ok u) (BadVersion version) alike told = let no = told in cc
why_alike (Ok t) (Ok u) (BadGeometry number) alike told = let no = told in cc
why_alike (Ok t) (Ok u) (BadRecord sector) alike told = let no = told in cc
why_alike (Ok t) (Ok u) (BadTree inode) alike told = let no = told in cc
why_alike (Ok t) (Ok u) (Device fault) alike told = tt
why_alike (Ok t) (Ok u) (Lack why) alike told = told
