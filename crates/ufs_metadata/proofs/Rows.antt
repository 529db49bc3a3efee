-- Lists of what is read, one after the other.
use Rattle.std.proofs.Common.{◌≡◌, ℕ, zero, suc, ◌+◌, ◌*◌, ◌<◌, ◌≤◌, List, [], ◌∷◌, ◌++◌, Bool, true, false, ◌&&◌, Option, Some, None, length, take, drop, get_or, refl, ap, sym, ◌∙◌, arith, append_assoc}
use Rattle.std.specs.Prelude.{map, flat_map, if◌then◌else◌, ◌==◌, ◌||◌, not, nat_le}
use Rattle.std.specs.Option.{option_to_list}
use Rattle.std.specs.List.{range_with_len, list_any, filter, filter_map, cons_option, enumerate_from}
use Rattle.std.proofs.lemmas.List.{append-nil, length-append, length-map, map-append, drop-drop}
use Rattle.std.proofs.lemmas.List.Elements.{filter_map-append, filter-append}
use Rattle.std.proofs.lemmas.List.FromFn.{map-range_with_len_more}
use Rattle.std.proofs.lemmas.Bool.{and_parts, leb-true}
use Rattle.ufs_base.specs.Choices.{some_if}
use Rattle.ufs_base.specs.Images.{Image}
use Rattle.ufs_layout.specs.Words.{pieces}
use Rattle.ufs_layout.specs.Areas.{first_of_data, sector_of_inode}
use Rattle.ufs_layout.specs.InodeForm.{InodeForm, is_used, inode_of}
use Rattle.ufs_layout.specs.DentryForm.{DentryForm, dentry_of}
use Rattle.ufs_layout.specs.declared.geometry.Geometry.{Geometry}
use Rattle.ufs_layout.specs.declared.inode.Extent.{Extent}
use Rattle.ufs_image.specs.Images.{inode_at}
use Rattle.ufs_image.specs.Nodes.{Node, Dir, sound_node, dirs_of, slots_of, read_block, blocks_of, leaves_data, is_bad_form}
use Rattle.ufs_image.proofs.SlotBytes.{length-pieces}
use Rattle.ufs_damage.specs.Told.{is_sound_form, form_of}
use Rattle.ufs_metadata.specs.Told.{slots_in, forms_in, piece}
use Rattle.ufs_metadata.specs.Reading.{AreSectors}

pub pieces_more : (n size : ℕ) (xs : List ℕ) → pieces (n + 1) size xs ≡ pieces n size xs ++ take size (drop (size * n) xs) ∷ []
pieces_more zero size xs = let none : 0 ≡ size * 0 = omega arith in ap (λ k. take size (drop k xs) ∷ []) none
pieces_more (suc n) size xs =
    let one : suc n + 1 ≡ suc (n + 1) = omega arith in
    let two : size + size * n ≡ size * suc n = grind arith in
    ap (λ k. pieces k size xs) one ∙ ap (λ (l : List (List ℕ)). take size xs ∷ l) (pieces_more n size (drop size xs))
    ∙ ap (λ (l : List ℕ). take size xs ∷ (pieces n size (drop size xs) ++ take size l ∷ [])) (drop-drop (size * n) size xs ∙ ap (λ k. drop k xs) two)

pub slots_more : (n : ℕ) (xs : List ℕ) → slots_in (n + 1) xs ≡ slots_in n xs ++ dentry_of (take 64 (drop (64 * n) xs)) ∷ []
slots_more n xs = ap (map dentry_of) (pieces_more n 64 xs) ∙ map-append dentry_of (pieces n 64 xs) (take 64 (drop (64 * n) xs) ∷ [])

length-slots : (n : ℕ) (xs : List ℕ) → length (slots_in n xs) ≡ n
length-slots n xs = length-map (pieces n 64 xs) dentry_of ∙ length-pieces n 64 xs

-- what a block's slots are put behind
pub few_slots : (old new : List (Option DentryForm)) (xs : List ℕ) → new ≡ old ++ slots_in 64 xs → length new ≤ length old + 64
few_slots old new xs is =
    let longer = ap (λ (l : List (Option DentryForm)). length l) is in
    let both = length-append old (slots_in 64 xs) in
    let one = length-slots 64 xs in
    omega (arith, longer, both, one)

-- a range and the number behind it
pub flat_append : {X Y : Type 0} (f : X → List Y) (xs ys : List X) → flat_map f (xs ++ ys) ≡ flat_map f xs ++ flat_map f ys
flat_append f [] ys = refl
flat_append f (x ∷ xs) ys = ap (λ l. f x ++ l) (flat_append f xs ys) ∙ sym (append_assoc (f x) (flat_map f xs) (flat_map f ys))

pub flat_more : {X : Type 0} (f : ℕ → List X) (a n : ℕ) → flat_map f (range_with_len a (n + 1)) ≡ flat_map f (range_with_len a n) ++ f (a + n)
flat_more f a zero = let at : a ≡ a + 0 = omega arith in append-nil (f a) ∙ ap f at
flat_more f a (suc n) =
    let one : suc n + 1 ≡ suc (n + 1) = omega arith in
    let at : a + 1 + n ≡ a + suc n = omega arith in
    ap (λ k. flat_map f (range_with_len a k)) one
    ∙ ap (λ l. f a ++ l) (flat_more f (a + 1) n ∙ ap (λ k. flat_map f (range_with_len (a + 1) n) ++ f k) at)
    ∙ sym (append_assoc (f a) (flat_map f (range_with_len (a + 1) n)) (f (a + suc n)))

-- ---- directories

no_or : (a b : Bool) → (a || b) ≡ false → (a ≡ false) × (b ≡ false)
no_or true b is = absurd (grind (arith, is))
no_or false b is = (refl, is)

-- none of them does
pub each_not : {X : Type 0} (p : X → Bool) (xs : List X) (k : ℕ) (d : X) → k < length xs → list_any p xs ≡ false → p (get_or xs k d) ≡ false
each_not p [] k d less none = absurd (omega (arith, less))
each_not p (x ∷ xs) zero d less none = (no_or (p x) (list_any p xs) none).0
each_not p (x ∷ xs) (suc k) d less none = each_not p xs k d (omega (arith, less)) (no_or (p x) (list_any p xs) none).1

yes_not : (b : Bool) → not b ≡ false → b ≡ true
yes_not true is = refl
yes_not false is = sym is

pub ends_inside : (g : Geometry) (e : Extent) → leaves_data g e ≡ false → e.start + e.length ≤ g.blocks
ends_inside g e is = leb-true (e.start + e.length) g.blocks (and_parts (nat_le (first_of_data g) e.start) (nat_le (e.start + e.length) g.blocks) (yes_not _ is)).1

-- a sound inode's extents lie in the data area
pub sound_inside : (g : Geometry) (inode : ℕ) (form : InodeForm) → is_sound_form g inode (Some form) ≡ true → list_any (leaves_data g) form.extents ≡ false
sound_inside g inode form is = by (is_bad_form inode (Some form)) (list_any (leaves_data g) form.extents) (is_used form) is
  where
    by : (bad leaves used : Bool) → (not bad && (not (not bad && leaves) && used)) ≡ true → leaves ≡ false
    by true leaves used is = absurd (grind (arith, is))
    by false true used is = absurd (grind (arith, is))
    by false false used is = refl

module _ (g : Geometry) (image : Image) (inode : ℕ) (o : Option InodeForm) (at : inode_at g image inode ≡ o) where
  node_by : sound_node g image inode ≡ some_if (is_sound_form g inode o) (inode, form_of o)
  node_by = ap (λ (q : Option InodeForm). some_if (is_sound_form g inode q) (inode, form_of q)) at

  pub without_unsound : is_sound_form g inode o ≡ false → (dirs : List Dir) → dirs ≡ dirs ++ dirs_of image (option_to_list (sound_node g image inode))
  without_unsound is dirs =
      sym (append-nil dirs) ∙ sym (ap (λ (n : Option Node). dirs ++ dirs_of image (option_to_list n)) (node_by ∙ ap (λ b. some_if {X = Node} b (inode, form_of o)) is))

  pub without_file : ((form_of o).kind == 2) ≡ false → (dirs : List Dir) → dirs ≡ dirs ++ dirs_of image (option_to_list (sound_node g image inode))
  without_file is dirs =
      sym (append-nil dirs) ∙ ap (λ l. dirs ++ l) (by (is_sound_form g inode o)) ∙ sym (ap (λ (n : Option Node). dirs ++ dirs_of image (option_to_list n)) node_by)
    where
      by : (b : Bool) → [] ≡ dirs_of image (option_to_list (some_if {X = Node} b (inode, form_of o)))
      by false = refl
      by true = sym (ap (λ (t : Bool). map {B = Dir} (λ (n : Node). record { inode = n.0; slots = slots_of image n.1 }) (if t then (inode, form_of o) ∷ [] else [])) is)

  pub with_dir : is_sound_form g inode o ≡ true → ((form_of o).kind == 2) ≡ true → (dirs : List Dir) (slots : List (Option DentryForm)) → slots ≡ flat_map (read_block image) (blocks_of (form_of o))
      → dirs ++ record { inode = inode; slots = enumerate_from 0 slots } ∷ [] ≡ dirs ++ dirs_of image (option_to_list (sound_node g image inode))
  with_dir sound dir dirs slots are =
      ap (λ (l : List (Option DentryForm)). dirs ++ record { inode = inode; slots = enumerate_from 0 l } ∷ []) are
      ∙ sym (ap (λ (t : Bool). dirs ++ map {B = Dir} (λ (n : Node). record { inode = n.0; slots = slots_of image n.1 }) (if t then (inode, form_of o) ∷ [] else [])) dir)
      ∙ sym (ap (λ (n : Option Node). dirs ++ dirs_of image (option_to_list n)) (node_by ∙ ap (λ b. some_if {X = Node} b (inode, form_of o)) sound))

map_same : (l : List ℕ) → map (λ k. k) l ≡ l
map_same [] = refl
map_same (x ∷ xs) = ap (λ l. x ∷ l) (map_same xs)

range_more : (a n j : ℕ) → a + n ≡ j → range_with_len a (n + 1) ≡ range_with_len a n ++ j ∷ []
range_more a n j is = sym (map_same (range_with_len a (n + 1))) ∙ map-range_with_len_more (λ k. k) a n j is ∙ ap (λ l. l ++ j ∷ []) (map_same (range_with_len a n))

-- one inode more
pub nodes_more : (g : Geometry) (image : Image) (n : ℕ) → dirs_of image (filter_map (sound_node g image) (range_with_len 1 (n + 1)))
    ≡ dirs_of image (filter_map (sound_node g image) (range_with_len 1 n)) ++ dirs_of image (option_to_list (sound_node g image (n + 1)))
nodes_more g image n =
    ap (λ l. dirs_of image (filter_map (sound_node g image) l)) (range_more 1 n (n + 1) (omega arith))
    ∙ ap (dirs_of image) (filter_map-append (sound_node g image) (range_with_len 1 n) ((n + 1) ∷ []) ∙ ap (λ l. filter_map (sound_node g image) (range_with_len 1 n) ++ l) (single (sound_node g image (n + 1))))
    ∙ dirs_append (filter_map (sound_node g image) (range_with_len 1 n)) (option_to_list (sound_node g image (n + 1)))
  where
    single : (o : Option Node) → cons_option o [] ≡ option_to_list o
    single None = refl
    single (Some n) = refl

    dirs_append : (xs ys : List Node) → dirs_of image (xs ++ ys) ≡ dirs_of image xs ++ dirs_of image ys
    dirs_append xs ys = ap (map {B = Dir} (λ (n : Node). record { inode = n.0; slots = slots_of image n.1 })) (filter-append (λ (n : Node). n.1.kind == 2) xs ys)
        ∙ map-append {B = Dir} (λ (n : Node). record { inode = n.0; slots = slots_of image n.1 }) (filter (λ (n : Node). n.1.kind == 2) xs) (filter (λ (n : Node). n.1.kind == 2) ys)

-- ---- inodes

-- the forms of a block of the table
pub forms_are : (g : Geometry) (image : Image) (bytes : List ℕ) (first from n : ℕ) → n ≤ 8 → AreSectors image first bytes → ((i : ℕ) → first + i ≡ sector_of_inode g (from + i)) → forms_in n bytes ≡ map (inode_at g image) (range_with_len from n)
forms_are g image bytes first from zero few are at = refl
forms_are g image bytes first from (suc n) few are at =
    let one : suc n ≡ n + 1 = omega arith in
    let here : inode_of (piece bytes n) ≡ inode_at g image (from + n) = ap inode_of (are n (omega (arith, few)) ∙ ap image (at n)) in
    ap (λ k. forms_in k bytes) one
    ∙ map-range_with_len_more (λ k. inode_of (piece bytes k)) 0 n n (omega arith)
    ∙ (λ k. forms_are g image bytes first from n (omega (arith, few)) are at k ++ here k ∷ [])
    ∙ sym (ap (λ k. map (inode_at g image) (range_with_len from k)) one ∙ map-range_with_len_more (inode_at g image) from n (from + n) refl)

pub map_append : {X : Type 0} (f : ℕ → X) (a m n : ℕ) → map f (range_with_len a m) ++ map f (range_with_len (a + m) n) ≡ map f (range_with_len a (m + n))
map_append f a m zero = let none : m ≡ m + 0 = omega arith in append-nil (map f (range_with_len a m)) ∙ ap (λ k. map f (range_with_len a k)) none
map_append f a m (suc n) =
    let one : suc n ≡ n + 1 = omega arith in
    let two : m + n + 1 ≡ m + suc n = omega arith in
    ap (λ k. map f (range_with_len a m) ++ map f (range_with_len (a + m) k)) one
    ∙ ap (λ l. map f (range_with_len a m) ++ l) (map-range_with_len_more f (a + m) n (a + m + n) refl)
    ∙ sym (append_assoc (map f (range_with_len a m)) (map f (range_with_len (a + m) n)) (f (a + m + n) ∷ []))
    ∙ ap (λ l. l ++ f (a + m + n) ∷ []) (map_append f a m n)
    ∙ sym (ap (λ k. map f (range_with_len a k)) (sym two) ∙ map-range_with_len_more f a (m + n) (a + m + n) (omega arith))

-- ---- how many slots a directory has: at most 56 extents of at most 65,536 blocks

pub few_after : (k before blocks now : ℕ) → before ≤ 64 * (k * 65536) → blocks ≤ 65536 → now ≤ before + 64 * blocks → now ≤ 64 * ((k + 1) * 65536)
few_after k before blocks now few most more = omega (arith, few, most, more)

pub few_in_all : (k count now : ℕ) → k ≤ count → count ≤ 56 → now ≤ 64 * (k * 65536) → now ≤ 64 * (56 * 65536)
few_in_all k count now within most few = omega (arith, within, most, few)
