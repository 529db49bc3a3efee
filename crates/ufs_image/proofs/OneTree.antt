-- Images with one catalog and the same blocks of files stand for one tree.
use Rattle.std.proofs.Common.{◌≡◌, ℕ, ◌≤◌, List, Option, Some, None, ap, sym, refl, ◌∙◌, arith}
use Rattle.std.specs.Prelude.{Ok, ◌==◌, if◌then◌else◌}
use Rattle.std.specs.Option.{option_map}
use Rattle.std.specs.Cmp.Lexicographic.{nat_list_cmp_total}
use Rattle.std.specs.FinMap as fin
use Rattle.std.specs.FinMap.{same_map, from_entries, nat_cmp-IsAntisymmetric, slice_cmp-IsAntisymmetric}
use Rattle.ufs_base.specs.Images.{Image}
use Rattle.ufs_image.specs.Volume.{Volume}
use Rattle.ufs_image.specs.Opens.{NodeBytes, path_cmp, walked, opens}
use Rattle.ufs_image.specs.Catalog.{Catalog, IsInode}
use Rattle.ufs_image.specs.Agree.{AgreeOn, IsOfForm}
use Rattle.ufs_image.specs.Walks.{inode_of, path_text, ArePieces, node_of}
use Rattle.ufs_image.specs.Standing.{IsVolumeOf}
use Rattle.ufs_image.proofs.Found.{reached}
use Rattle.ufs_image.proofs.Depth.{root_in_range}
use Rattle.ufs_image.proofs.Paths.{stands, standing}
use Rattle.ufs_image.proofs.Blocks.{file_same}
use Rattle.ufs_image.proofs.Opening.{opens_to, has_geometry}

pub node_same : (image other : Image) (c : Catalog) (i : ℕ) → AgreeOn (IsOfForm (c.forms i)) image other → node_of image c i ≡ node_of other c i
node_same image other c i agree = ap (λ bytes. if (c.forms i).kind == 2 then None else Some bytes) (file_same image other (c.forms i) agree)

-- Where all walks are the same, and what they meet is, the trees are one.
pub alike_tree : (sectors : ℕ) (image other : Image) (v w : Volume) (c d : Catalog) → IsVolumeOf sectors image v c → IsVolumeOf sectors other w d → ((names : List (List ℕ)) → inode_of d names ≡ inode_of c names)
    → ((names : List (List ℕ)) (i : ℕ) → inode_of c names ≡ Some i → node_of v.image c i ≡ node_of w.image d i) → opens sectors other ≡ opens sectors image
alike_tree sectors image other v w c d a b walks nodes =
    opens_to sectors other w d b ∙ ap Ok (sym (same_map nat_list_cmp_total (slice_cmp-IsAntisymmetric nat_cmp-IsAntisymmetric) (from_entries (walked v)) (from_entries (walked w)) get_same)) ∙ sym (opens_to sectors image v c a)
  where
    some_v : 1 ≤ v.geometry.inodes
    some_v = let least = (has_geometry sectors image v a.taken).0.least_inodes in omega (arith, least)

    some_w : 1 ≤ w.geometry.inodes
    some_w = let least = (has_geometry sectors other w b.taken).0.least_inodes in omega (arith, least)

    at_v : (names : List (List ℕ)) → ArePieces names → fin.get {R = path_cmp} (from_entries (walked v)) (path_text names) ≡ option_map (node_of v.image c) (inode_of c names)
    at_v names pieces = stands v.geometry v.image c a.catalog a.sound some_v names pieces

    at_w : (names : List (List ℕ)) → ArePieces names → fin.get {R = path_cmp} (from_entries (walked w)) (path_text names) ≡ option_map (node_of w.image d) (inode_of d names)
    at_w names pieces = stands w.geometry w.image d b.catalog b.sound some_w names pieces

    -- where one of the trees has something
    alike : (path : List ℕ) (names : List (List ℕ)) (i : ℕ) → path ≡ path_text names → ArePieces names → inode_of c names ≡ Some i
        → fin.get {R = path_cmp} (from_entries (walked v)) path ≡ fin.get {R = path_cmp} (from_entries (walked w)) path
    alike path names i text pieces met =
        ap (fin.get {R = path_cmp} (from_entries (walked v))) text ∙ at_v names pieces ∙ ap (option_map (node_of v.image c)) met ∙ ap Some (nodes names i met)
        ∙ sym (ap (option_map (node_of w.image d)) (walks names ∙ met)) ∙ sym (at_w names pieces) ∙ sym (ap (fin.get {R = path_cmp} (from_entries (walked w))) text)

    get_same : (path : List ℕ) → fin.get {R = path_cmp} (from_entries (walked v)) path ≡ fin.get {R = path_cmp} (from_entries (walked w)) path
    get_same path = by (fin.get {R = path_cmp} (from_entries (walked v)) path) refl (fin.get {R = path_cmp} (from_entries (walked w)) path) refl
      where
        by : (m : Option NodeBytes) → fin.get {R = path_cmp} (from_entries (walked v)) path ≡ m → (n : Option NodeBytes) → fin.get {R = path_cmp} (from_entries (walked w)) path ≡ n
            → fin.get {R = path_cmp} (from_entries (walked v)) path ≡ fin.get {R = path_cmp} (from_entries (walked w)) path
        by None e None h = e ∙ sym h
        by (Some x) e n h = let is = standing v.geometry v.image c a.catalog a.sound some_v path x e in alike path is.names is.at is.text is.pieces is.met
        by None e (Some y) h = let is = standing w.geometry w.image d b.catalog b.sound some_w path y h in alike path is.names is.at is.text is.pieces (sym (walks is.names) ∙ is.met)

pub one_tree : (sectors : ℕ) (image other : Image) (v w : Volume) (c : Catalog) → IsVolumeOf sectors image v c → IsVolumeOf sectors other w c → w.geometry ≡ v.geometry
    → ((inode : ℕ) → IsInode v.geometry inode → AgreeOn (IsOfForm (c.forms inode)) v.image w.image) → opens sectors other ≡ opens sectors image
one_tree sectors image other v w c a b same agree = alike_tree sectors image other v w c c a b (λ names. refl) nodes
  where
    some_v : 1 ≤ v.geometry.inodes
    some_v = let least = (has_geometry sectors image v a.taken).0.least_inodes in omega (arith, least)

    nodes : (names : List (List ℕ)) (i : ℕ) → inode_of c names ≡ Some i → node_of v.image c i ≡ node_of w.image c i
    nodes names i met = node_same v.image w.image c i (agree i (reached v.geometry c a.sound 1 names i (root_in_range v.geometry c a.sound some_v) met).0)
