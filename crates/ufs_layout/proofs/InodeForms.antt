-- Inodes: read back, and compared with their bytes.
use Rattle.std.proofs.Common.{ℕ, ◌≡◌, ◌+◌, ◌-◌, ◌*◌, ◌<◌, ◌≤◌, ◌^◌, List, ◌∷◌, ◌++◌, length, take, drop, replicate, Bool, true, false, Option, None, ◌&&◌, ◌||◌, refl, sym, ap, ◌∙◌, arith}
use Rattle.std.specs.Prelude.{◌==◌, nat_le, not, if◌then◌else◌}
use Rattle.std.specs.List.{list_all, flat_map, AllByRecursion}
use Rattle.std.specs.Str.{bytes_eq}
use Rattle.std.proofs.lemmas.Bool.Decides.{nat_tests}
use Rattle.std.proofs.lemmas.List.{drop-drop, drop_at, take_at, drop-replicate, append_assoc, length-drop}
use Rattle.byteorder.specs.Endian.{little_bytes}
use Rattle.ufs_base.specs.Choices.{some_if}
use Rattle.ufs_base.specs.Images.{IsBytes}
use Rattle.ufs_layout.specs.Words.{number_at, byte_at, padded, filled_to, is_zeros}
use Rattle.ufs_layout.specs.InodeForm.{InodeForm, inode_bytes, inode_fields, inode_of, is_inode, links_of_kind, extent_bytes, extents_at, is_extent, no_extent, FitsExtent}
use Rattle.ufs_layout.specs.declared.inode.Extent.{Extent}
use Rattle.ufs_layout.proofs.Compared.{IsBytes-drop, number-back, number-there, number-compared, byte-there, zero_run-compared}
use Rattle.ufs_layout.proofs.Extents.{length-extents, length-extents_at, extents-back, extents-compared, take-padded}

-- what the types of the fields give
pub record FitsInode (n : InodeForm) : Type 0 where
  pub size : n.size < 2 ^ 64
  pub number : n.number < 2 ^ 64
  pub extents : AllByRecursion FitsExtent n.extents

pub inode-back : (n : InodeForm) → FitsInode n → inode_fields (inode_bytes n) ≡ n
inode-back n fits i = record {
  kind = n.kind;
  extents = extents-back n.extents (replicate (448 - length (flat_map extent_bytes n.extents)) 0) fits.extents i;
  size = number-back 8 n.size fits.size i;
  number = number-back 8 n.number fits.number i;
}

-- The head and then the extents are put into zeros.
pub inode-laid : (head zeros out : List ℕ) (es : List Extent) → length head ≡ 64 → zeros ≡ replicate 512 0
    → out ≡ take 64 (head ++ drop 64 zeros) ++ flat_map extent_bytes es ++ drop (64 + 8 * length es) (head ++ drop 64 zeros)
    → out ≡ head ++ filled_to 448 (flat_map extent_bytes es)
inode-laid head zeros out es is_64 are_zeros is_out =
    is_out ∙ (λ i. front i ++ flat_map extent_bytes es ++ rest i) ∙ append_assoc head (flat_map extent_bytes es) (replicate (448 - length (flat_map extent_bytes es)) 0)
  where
    whole : head ++ drop 64 zeros ≡ head ++ replicate 448 0
    whole = ap (λ z. head ++ drop 64 z) are_zeros

    front : take 64 (head ++ drop 64 zeros) ≡ head
    front = take_at head (drop 64 zeros) 64 is_64

    rest : drop (64 + 8 * length es) (head ++ drop 64 zeros) ≡ replicate (448 - length (flat_map extent_bytes es)) 0
    rest =
        sym (drop-drop (8 * length es) 64 (head ++ drop 64 zeros)) ∙ ap (drop (8 * length es)) (ap (drop 64) whole ∙ drop_at head (replicate 448 0) 64 is_64)
        ∙ drop-replicate (8 * length es) 448 0 ∙ ap (λ n. replicate (448 - n) 0) (sym (length-extents es))

-- ---- what is read

abbrev pub extents_in : List ℕ → List Extent
extents_in bs = extents_at (byte_at 1 bs) (drop 64 bs)

abbrev pub is_numbers : ℕ → ℕ → ℕ → Bool
is_numbers kind count size = nat_le kind 2 && (not (kind == 0) || count == 0 && size == 0)

abbrev pub has_rest : List ℕ → ℕ → ℕ → Bool
has_rest bs kind count =
    (links_of_kind kind == number_at 2 2 bs && is_zeros (take 4 (drop 4 bs))) && (is_zeros (take 40 (drop 24 bs)) && is_zeros (drop (64 + 8 * count) bs))

links-small : (kind : ℕ) → links_of_kind kind < 256 ^ 2
links-small kind = by_test (kind == 0)
  where
    by_test : (b : Bool) → (if b then 0 else 1) < 256 ^ 2
    by_test true = omega arith
    by_test false = omega arith

inode-compared : (bs : List ℕ) → length bs ≡ 512 → IsBytes bs → byte_at 1 bs ≤ 56 → bytes_eq (inode_bytes (inode_fields bs)) bs ≡ has_rest bs (byte_at 0 bs) (byte_at 1 bs)
inode-compared bs sized is few =
    byte-there 0 bs (length es ∷ from_links) (omega arith)
    ∙ ap (λ n. bytes_eq (n ∷ from_links) (drop 1 bs)) (length-extents_at (byte_at 1 bs) (drop 64 bs))
    ∙ byte-there 1 bs from_links (omega arith)
    ∙ number-compared 2 (links_of_kind (byte_at 0 bs)) 2 bs from_gap (links-small (byte_at 0 bs)) (omega arith) is
    ∙ ap (λ t. links_of_kind (byte_at 0 bs) == number_at 2 2 bs && t) (zero_run-compared 4 4 bs from_size (omega arith)
    ∙ ap (λ t. is_zeros (take 4 (drop 4 bs)) && t) (number-there 8 8 bs from_number (omega arith) is
    ∙ number-there 8 16 bs from_zeros (omega arith) is
    ∙ zero_run-compared 40 24 bs from_extents (omega arith)
    ∙ ap (λ t. is_zeros (take 40 (drop 24 bs)) && t) (extents-compared (byte_at 1 bs) 448 (drop 64 bs) (omega (arith, length-drop 64 bs)) (omega arith) (IsBytes-drop 64 bs is)
    ∙ ap is_zeros (drop-drop (8 * byte_at 1 bs) 64 bs))))
    ∙ and_assoc (links_of_kind (byte_at 0 bs) == number_at 2 2 bs) (is_zeros (take 4 (drop 4 bs))) (is_zeros (take 40 (drop 24 bs)) && is_zeros (drop (64 + 8 * byte_at 1 bs) bs))
  where
    es : List Extent
    es = extents_in bs

    from_extents : List ℕ
    from_extents = filled_to 448 (flat_map extent_bytes (extents_in bs))

    from_zeros : List ℕ
    from_zeros = replicate 40 0 ++ from_extents

    from_number : List ℕ
    from_number = little_bytes 8 (number_at 8 16 bs) ++ from_zeros

    from_size : List ℕ
    from_size = little_bytes 8 (number_at 8 8 bs) ++ from_number

    from_gap : List ℕ
    from_gap = replicate 4 0 ++ from_size

    from_links : List ℕ
    from_links = little_bytes 2 (links_of_kind (byte_at 0 bs)) ++ from_gap

    and_assoc : (a b c : Bool) → (a && (b && c)) ≡ (a && b && c)
    and_assoc true b c = refl
    and_assoc false b c = refl

-- More extents than there are places.
pub inode-many : (bs : List ℕ) → 56 < byte_at 1 bs → None ≡ inode_of bs
inode-many bs many = sym (none (is_inode (inode_fields bs)) (bytes_eq (inode_bytes (inode_fields bs)) bs) is_off)
  where
    none : (a b : Bool) → a ≡ false → some_if (a && b) (inode_fields bs) ≡ None
    none a b off = rw off refl

    off : (a b c : Bool) → b ≡ false → (a && (b && c)) ≡ false
    off true b c is_b = rw is_b refl
    off false b c is_b = refl

    too_many : nat_le (length (extents_in bs)) 56 ≡ false
    too_many = let n = length-extents_at (byte_at 1 bs) (drop 64 bs) in grind (arith, nat_tests, n)

    is_off : is_inode (inode_fields bs) ≡ false
    is_off = off (nat_le (byte_at 0 bs) 2) (nat_le (length (extents_in bs)) 56) _ too_many

-- A used extent with no block.
pub inode-no_block : (bs : List ℕ) → list_all is_extent (extents_in bs) ≡ false → None ≡ inode_of bs
inode-no_block bs without = sym (none (is_inode (inode_fields bs)) (bytes_eq (inode_bytes (inode_fields bs)) bs) is_off)
  where
    none : (a b : Bool) → a ≡ false → some_if (a && b) (inode_fields bs) ≡ None
    none a b off = rw off refl

    off : (a b c d : Bool) → c ≡ false → (a && (b && (c && d))) ≡ false
    off true true c d is_c = rw is_c refl
    off true false c d is_c = refl
    off false b c d is_c = refl

    is_off : is_inode (inode_fields bs) ≡ false
    is_off = off (nat_le (byte_at 0 bs) 2) (nat_le (length (extents_in bs)) 56) (list_all is_extent (extents_in bs)) _ without

-- All else.
pub inode-decoded : (bs : List ℕ) (extents : List Extent) (form rest : Bool) (out : Option InodeForm)
    → length bs ≡ 512 → IsBytes bs → byte_at 1 bs ≤ 56 → list_all is_extent (extents_in bs) ≡ true → extents ≡ padded no_extent 56 (extents_in bs)
    → form ≡ is_numbers (byte_at 0 bs) (byte_at 1 bs) (number_at 8 8 bs) → rest ≡ has_rest bs (byte_at 0 bs) (byte_at 1 bs)
    → out ≡ some_if (form && rest) (record { kind = byte_at 0 bs; extents = take (byte_at 1 bs) extents; size = number_at 8 8 bs; number = number_at 8 16 bs })
    → out ≡ inode_of bs
inode-decoded bs extents form rest out sized is few blocks are_extents is_form is_rest is_out =
    is_out ∙ (λ i. some_if ((is_form ∙ sym numbers) i && (is_rest ∙ sym (inode-compared bs sized is few)) i) (record {
      kind = byte_at 0 bs;
      extents = taken i;
      size = number_at 8 8 bs;
      number = number_at 8 16 bs;
    }))
  where
    taken : take (byte_at 1 bs) extents ≡ extents_in bs
    taken = ap (take (byte_at 1 bs)) are_extents ∙ take-padded no_extent 56 (byte_at 1 bs) (extents_in bs) (length-extents_at (byte_at 1 bs) (drop 64 bs))

    few_enough : nat_le (length (extents_in bs)) 56 ≡ true
    few_enough = let n = length-extents_at (byte_at 1 bs) (drop 64 bs) in grind (arith, nat_tests, n)

    with_tests : (b c : Bool) (count : ℕ) → b ≡ true → c ≡ true → count ≡ byte_at 1 bs
        → (nat_le (byte_at 0 bs) 2 && (b && (c && (not (byte_at 0 bs == 0) || count == 0 && number_at 8 8 bs == 0)))) ≡ is_numbers (byte_at 0 bs) (byte_at 1 bs) (number_at 8 8 bs)
    with_tests b c count is_b is_c is_count = rw (is_b, is_c, is_count) refl

    numbers : is_inode (inode_fields bs) ≡ is_numbers (byte_at 0 bs) (byte_at 1 bs) (number_at 8 8 bs)
    numbers = with_tests (nat_le (length (extents_in bs)) 56) (list_all is_extent (extents_in bs)) (length (extents_in bs)) few_enough blocks (length-extents_at (byte_at 1 bs) (drop 64 bs))
