-- The tree of the places of an image.
use Rattle.std.proofs.Common.{◌≡◌, ℕ, zero, suc, ◌<◌, List, [], ◌∷◌, None, Some, Ok, Bool, true, false, length, get_or, refl, ap, sym, ◌∙◌, subst, arith}
use Rattle.std.specs.Prelude.{map, IsTrue, Option, Result, ◌&&◌}
use Rattle.std.specs.List.{AllByRecursion}
use Rattle.std.specs.Ordering.{is_lt}
use Rattle.std.specs.FinMap as fin
use Rattle.std.specs.FinMap.{from_entries, get-entries, get-from_entries, is_sorted, same_map}
use Rattle.std.specs.FinMap.Entries.{below_all}
use Rattle.ufs_base.specs.Images.{Image}
use Rattle.ufs_layout.specs.declared.geometry.Geometry.{Geometry}
use Rattle.ufs_image.specs.Images.{form_at}
use Rattle.ufs_image.specs.Catalog.{IsInode}
use Rattle.ufs_image.specs.Damage.{bad_tree}
use Rattle.ufs_image.specs.Volume.{Refusal, Volume, volume}
use Rattle.ufs_image.specs.Opens.{opens, entries_of, by_damage, tree_from, node_bytes, walked, NodeBytes}
use Rattle.ufs_image.specs.Opens as image
use Rattle.ufs_model.specs.Order.{path_cmp}
use Rattle.ufs_model.specs.PathEntries as entries
use Rattle.ufs_model.specs.Start.{PathNodes}
use Rattle.ufs_model.specs.declared.data.PathEntry.{PathEntry}
use Rattle.ufs_model.specs.declared.data.PathNode.{PathNode}
use Rattle.ufs_model.proofs.Facts.Orders.{path_total, path_same}
use Rattle.ufs_model.proofs.Facts.Rising.{entries-rising}
use Rattle.ufs_walk.specs.Walked.{Place, pairs_of, places, entry_of}
use Rattle.ufs_walk.specs.declared.places.PathAt.{PathAt}
use Rattle.ufs_walk.proofs.Maps.{mapped_same}
use Rattle.ufs_walk.proofs.Told.{walked_places}
use Rattle.ufs_opening.specs.Heads.{HasHeads, heads_of, path_head, whole_entry}
use Rattle.ufs_opening.specs.Heads as heads
use Rattle.ufs_opening.specs.Shown.{bytes_of_node, image_tree, shown, shown_entry}
use Rattle.ufs_opening.specs.declared.head.PathHead.{PathHead}

-- ---- lists with the same paths rise alike

abbrev keys : {X : Type 0} → List (List ℕ × X) → List (List ℕ)
keys {X} es = map (λ (e : List ℕ × X). e.0) es

heads_same : (x y : List ℕ) (xs ys : List (List ℕ)) → x ∷ xs ≡ y ∷ ys → x ≡ y
heads_same x y xs ys is = cc

tails_same : (x y : List ℕ) (xs ys : List (List ℕ)) → x ∷ xs ≡ y ∷ ys → xs ≡ ys
tails_same x y xs ys is = cc

module _ {X Y : Type 0} where
  below_same : (k : List ℕ) (xs : List (List ℕ × X)) (ys : List (List ℕ × Y)) → keys xs ≡ keys ys → below_all path_cmp k xs ≡ below_all path_cmp k ys
  below_same k [] [] same = refl
  below_same k [] (y ∷ ys) same = let no = same in cc
  below_same k (x ∷ xs) [] same = let no = same in cc
  below_same k (x ∷ xs) (y ∷ ys) same =
      let head = heads_same x.0 y.0 (keys xs) (keys ys) same in
      let rest = below_same k xs ys (tails_same x.0 y.0 (keys xs) (keys ys) same) in
      λ i. is_lt (path_cmp k (head i)) && rest i

  pub rising_same : (xs : List (List ℕ × X)) (ys : List (List ℕ × Y)) → keys xs ≡ keys ys → is_sorted path_cmp xs ≡ is_sorted path_cmp ys
  rising_same [] [] same = refl
  rising_same [] (y ∷ ys) same = let no = same in cc
  rising_same (x ∷ xs) [] same = let no = same in cc
  rising_same (x ∷ xs) (y ∷ ys) same =
      let head = heads_same x.0 y.0 (keys xs) (keys ys) same in
      let tail = tails_same x.0 y.0 (keys xs) (keys ys) same in
      let rest = rising_same xs ys tail in
      let below = ap (λ k. below_all path_cmp k xs) head ∙ below_same y.0 xs ys tail in
      λ i. below i && rest i

pub head_keys : (hs : List PathHead) → keys (heads.pairs_of hs) ≡ heads.paths_of hs
head_keys [] = refl
head_keys (h ∷ hs) = ap (λ l. h.path ∷ l) (head_keys hs)

pub place_keys : (ps : List PathAt) → keys (pairs_of ps) ≡ map (λ (p : PathAt). p.path.items) ps
place_keys [] = refl
place_keys (p ∷ ps) = ap (λ l. p.path.items ∷ l) (place_keys ps)

entry_keys : (g : Geometry) (disk : Image) (ps : List Place) → keys (map (entry_of g disk) ps) ≡ keys ps
entry_keys g disk [] = refl
entry_keys g disk (p ∷ ps) = ap (λ l. p.0 ∷ l) (entry_keys g disk ps)

-- ---- the tree at all places

module _ (sectors : ℕ) (disk : Image) (v : Volume) (ps : List PathAt) (taken : volume sectors disk ≡ Ok v) (whole : bad_tree v.geometry v.image ≡ None) (root : (form_at v.geometry v.image 1).kind ≡ 2)
    (at : from_entries {R = path_cmp} (pairs_of ps) ≡ from_entries (places v.geometry v.image)) where
  opens_at : opens sectors disk ≡ Ok (from_entries (map (entry_of v.geometry v.image) (pairs_of ps)))
  opens_at =
      ap (λ (w : Result Volume Refusal). tree_from (entries_of w)) taken ∙ ap (λ o. tree_from (by_damage v o)) whole
      ∙ ap (λ (l : List image.PathEntry). Ok (from_entries l)) (walked_places v root)
      ∙ ap {B = Result image.ImageTree Refusal} Ok (sym (mapped_same {X = NodeBytes} (λ inode. node_bytes v.image (form_at v.geometry v.image inode)) (pairs_of ps) (places v.geometry v.image) at))

  -- what was read at each place is what stands there
  pub has_heads : (most : Option ℕ) (hs : List PathHead) → is_sorted path_cmp (pairs_of ps) ≡ true → hs ≡ heads_of most (map (entry_of v.geometry v.image) (pairs_of ps)) → HasHeads true sectors disk most hs
  has_heads most hs rising are =
      let es : List image.PathEntry = map (entry_of v.geometry v.image) (pairs_of ps) in
      record {
        tree = from_entries es;
        opened = λ seen. opens_at;
        same = are ∙ ap (heads_of most) (sym (entries-rising path_cmp path_total path_same es (rising_same es (pairs_of ps) (entry_keys v.geometry v.image (pairs_of ps)) ∙ rising)));
      }

head_entry_keys : (most : Option ℕ) (es : List image.PathEntry) → keys (heads.pairs_of (heads_of most es)) ≡ keys es
head_entry_keys most [] = refl
head_entry_keys most (e ∷ es) = ap (λ l. e.0 ∷ l) (head_entry_keys most es)

-- heads of a disk that isn't visible are those of some tree
pub unseen_heads : (sectors : ℕ) (disk : Image) (most : Option ℕ) (hs : List PathHead) → is_sorted path_cmp (heads.pairs_of hs) ≡ true → heads.AreHeads most hs → HasHeads false sectors disk most hs
unseen_heads sectors disk most hs rising are =
    let es : List image.PathEntry = are.0 in
    let rise : is_sorted path_cmp es ≡ true = sym (ap (λ l. is_sorted path_cmp (heads.pairs_of l)) are.1 ∙ rising_same (heads.pairs_of (heads_of most es)) es (head_entry_keys most es)) ∙ rising in
    record { tree = from_entries es; opened = λ seen. absurd (let no = seen in cc); same = are.1 ∙ ap (heads_of most) (sym (entries-rising path_cmp path_total path_same es rise)) }

-- either kind of disk
pub heads_by : (visible : Bool) (sectors : ℕ) (disk : Image) (most : Option ℕ) (hs : List PathHead) → (visible ≡ true → HasHeads true sectors disk most hs) → HasHeads false sectors disk most hs → HasHeads visible sectors disk most hs
heads_by true sectors disk most hs seen unseen = seen refl
heads_by false sectors disk most hs seen unseen = unseen

shown_pairs : (es : List PathEntry) → map {B = image.PathEntry} (λ (e : List ℕ × PathNode). (e.0, bytes_of_node e.1)) (entries.pairs_of es) ≡ shown es
shown_pairs [] = refl
shown_pairs (e ∷ es) = ap (λ l. (e.path, bytes_of_node e.node) ∷ l) (shown_pairs es)

again : (tree : image.ImageTree) → from_entries (fin.entries tree) ≡ tree
again tree = same_map path_total path_same (from_entries (fin.entries tree)) tree (λ q. get-from_entries path_total (fin.entries tree) q ∙ sym (get-entries tree q))

whole_shown : (of : List image.PathEntry) → shown (map whole_entry (heads_of None of)) ≡ of
whole_shown [] = refl
whole_shown (e ∷ of) = λ i. one e.1 i ∷ whole_shown of i
  where
    one : (bytes : NodeBytes) → shown_entry (whole_entry (path_head None (e.0, bytes))) ≡ (e.0, bytes)
    one None = refl
    one (Some bytes) = refl

whole_keys : (hs : List PathHead) → keys (entries.pairs_of (map whole_entry hs)) ≡ keys (heads.pairs_of hs)
whole_keys [] = refl
whole_keys (h ∷ hs) = ap (λ l. h.path ∷ l) (whole_keys hs)

pub whole_rising : (hs : List PathHead) (es : List PathEntry) → es ≡ map whole_entry hs → is_sorted path_cmp (heads.pairs_of hs) ≡ true → entries.are_rising es ≡ true
whole_rising hs es are rising = ap entries.are_rising are ∙ rising_same (entries.pairs_of (map whole_entry hs)) (heads.pairs_of hs) (whole_keys hs) ∙ rising

-- The tree of the entries of whole files is the one that the image stands for.
pub is_tree : (sectors : ℕ) (disk : Image) (hs : List PathHead) (es : List PathEntry) (nodes : PathNodes) (visible : Bool) → IsTrue visible → HasHeads visible sectors disk None hs → es ≡ map whole_entry hs
    → fin.entries nodes ≡ entries.pairs_of es → opens sectors disk ≡ Ok (image_tree nodes)
is_tree sectors disk hs es nodes visible seen is are has =
    let read : shown es ≡ fin.entries is.tree = ap shown (are ∙ ap (map whole_entry) is.same) ∙ whole_shown (fin.entries is.tree) in
    is.opened seen ∙ ap {B = Result image.ImageTree Refusal} Ok
    (sym (again is.tree) ∙ ap (λ (l : List image.PathEntry). from_entries l) (sym read ∙ sym (shown_pairs es) ∙ ap (map {B = image.PathEntry} (λ (e : List ℕ × PathNode). (e.0, bytes_of_node e.1))) (sym has)))

-- an inode among others
pub inode_there : (g : Geometry) (ps : List PathAt) (k : ℕ) (p : PathAt) → k < length ps → p ≡ get_or ps k p → AllByRecursion (λ (q : Place). IsInode g q.1) (pairs_of ps) → IsInode g p.inode
inode_there g [] k p less is all = absurd (omega (arith, less))
inode_there g (q ∷ ps) zero p less is all = subst (λ (x : PathAt). IsInode g x.inode) (sym is) all.0
inode_there g (q ∷ ps) (suc k) p less is all = inode_there g ps k p (omega (arith, less)) is all.1
