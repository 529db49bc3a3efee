-- Dentries: read back, and compared with their bytes.
use Rattle.std.proofs.Common.{ℕ, ◌≡◌, ◌+◌, ◌-◌, ◌<◌, ◌≤◌, ◌^◌, List, [], ◌∷◌, ◌++◌, length, take, drop, replicate, Bool, true, false, Option, None, ◌&&◌, ◌||◌, refl, sym, ap, ◌∙◌, arith}
use Rattle.std.specs.Prelude.{◌==◌, nat_le, nat_lt}
use Rattle.std.specs.Str.{bytes_eq}
use Rattle.std.proofs.Math.Seq.{take-append_seam}
use Rattle.std.proofs.lemmas.Bool.Decides.{nat_tests}
use Rattle.std.proofs.lemmas.List.{append-nil, drop-drop, drop_all, length-drop, length-take-le, take_all}
use Rattle.byteorder.specs.Endian.{little_bytes}
use Rattle.ufs_base.specs.Choices.{some_if}
use Rattle.ufs_base.specs.Images.{IsBytes}
use Rattle.ufs_layout.specs.Words.{number_at, byte_at, padded, filled_to, is_zeros}
use Rattle.ufs_layout.specs.DentryForm.{DentryForm, dentry_bytes, dentry_fields, dentry_of, is_dentry}
use Rattle.ufs_layout.proofs.Compared.{number-back, number-there, byte-there, byte-compared, filled-compared}
use Rattle.ufs_layout.proofs.Extents.{take-padded}

pub dentry-back : (d : DentryForm) → d.inode < 2 ^ 32 → dentry_fields (dentry_bytes d) ≡ d
dentry-back d fits i = record { inode = number-back 4 d.inode fits i; kind = d.kind; name = take-append_seam d.name (replicate (58 - length d.name) 0) i }

-- The inode, the kind with the length, and the name's field are put one after the other.
pub dentry-laid : (inode kind count : ℕ) (slot one two three name : List ℕ) → length slot ≡ 64 → length name ≡ 58
    → one ≡ little_bytes 4 inode ++ drop 4 slot → two ≡ take 4 one ++ (kind ∷ count ∷ []) ++ drop 6 one → three ≡ take 6 two ++ name ++ drop (6 + length name) two
    → three ≡ little_bytes 4 inode ++ kind ∷ count ∷ name
dentry-laid inode kind count slot one two three name sized is_58 is_one is_two is_three =
    is_three ∙ (λ i. take 6 (two_is i) ++ name ++ drop (6 + is_58 i) (two_is i)) ∙ ap (λ xs. little_bytes 4 inode ++ kind ∷ count ∷ name ++ xs) none_left
    ∙ append-nil (little_bytes 4 inode ++ kind ∷ count ∷ name)
  where
    two_is : two ≡ little_bytes 4 inode ++ kind ∷ count ∷ drop 2 (drop 4 slot)
    two_is = is_two ∙ ap (λ xs. take 4 xs ++ (kind ∷ count ∷ []) ++ drop 6 xs) is_one

    none_left : drop 58 (drop 2 (drop 4 slot)) ≡ []
    none_left = ap (drop 58) (drop-drop 2 4 slot) ∙ drop-drop 58 6 slot ∙ drop_all 64 slot (omega arith)

-- the name's place
abbrev pub name_in : List ℕ → List ℕ
name_in bs = take (byte_at 5 bs) (drop 6 bs)

name-length : (bs : List ℕ) → length bs ≡ 64 → byte_at 5 bs ≤ 58 → length (name_in bs) ≡ byte_at 5 bs
name-length bs sized few = length-take-le (byte_at 5 bs) (drop 6 bs) (omega (arith, length-drop 6 bs))

-- The length's byte, and what stands behind it.
length-compared : (bs : List ℕ) → length bs ≡ 64 → IsBytes bs
    → bytes_eq (dentry_bytes (dentry_fields bs)) bs ≡ (length (name_in bs) == byte_at 5 bs && bytes_eq (filled_to 58 (name_in bs)) (drop 6 bs))
length-compared bs sized is =
    number-there 4 0 bs (byte_at 4 bs ∷ length (name_in bs) ∷ filled_to 58 (name_in bs)) (omega arith) is
    ∙ byte-there 4 bs (length (name_in bs) ∷ filled_to 58 (name_in bs)) (omega arith)
    ∙ byte-compared (length (name_in bs)) 5 bs (filled_to 58 (name_in bs)) (omega arith)

dentry-compared : (bs : List ℕ) → length bs ≡ 64 → IsBytes bs → byte_at 5 bs ≤ 58 → bytes_eq (dentry_bytes (dentry_fields bs)) bs ≡ is_zeros (drop (6 + byte_at 5 bs) bs)
dentry-compared bs sized is few =
    length-compared bs sized is
    ∙ (λ i. same i && filled-compared (byte_at 5 bs) 58 (drop 6 bs) (omega (arith, length-drop 6 bs)) few i)
    ∙ ap is_zeros (drop-drop (byte_at 5 bs) 6 bs)
  where
    same : (length (name_in bs) == byte_at 5 bs) ≡ true
    same = let n = name-length bs sized few in grind (arith, nat_tests, n)

-- A length past the field is no name's.
pub dentry-long : (bs : List ℕ) → length bs ≡ 64 → IsBytes bs → 58 < byte_at 5 bs → None ≡ dentry_of bs
dentry-long bs sized is long = sym (none (is_dentry (dentry_fields bs)) (bytes_eq (dentry_bytes (dentry_fields bs)) bs) (length-compared bs sized is ∙ ap (λ t. t && bytes_eq (filled_to 58 (name_in bs)) (drop 6 bs)) other))
  where
    none : (a b : Bool) → b ≡ false → some_if (a && b) (dentry_fields bs) ≡ None
    none true b off = rw off refl
    none false b off = refl

    shorter : length (name_in bs) ≡ 58
    shorter = ap length (take_all (byte_at 5 bs) (drop 6 bs) (omega (arith, length-drop 6 bs))) ∙ omega (arith, length-drop 6 bs)

    other : (length (name_in bs) == byte_at 5 bs) ≡ false
    other = let n = shorter in grind (arith, nat_tests, n)

abbrev pub is_whole : ℕ → ℕ → ℕ → Bool
is_whole inode kind count = nat_lt 0 count || inode == 0 && kind == 0

pub dentry-decoded : (bs name : List ℕ) (form rest : Bool) (out : Option DentryForm)
    → length bs ≡ 64 → IsBytes bs → byte_at 5 bs ≤ 58 → name ≡ padded 0 58 (name_in bs)
    → form ≡ is_whole (number_at 4 0 bs) (byte_at 4 bs) (byte_at 5 bs) → rest ≡ is_zeros (drop (6 + byte_at 5 bs) bs)
    → out ≡ some_if (form && rest) (record { inode = number_at 4 0 bs; kind = byte_at 4 bs; name = take (byte_at 5 bs) name })
    → out ≡ dentry_of bs
dentry-decoded bs name form rest out sized is few are_name is_form is_rest is_out =
    is_out ∙ (λ i. some_if ((is_form ∙ sym whole) i && (is_rest ∙ sym (dentry-compared bs sized is few)) i) (record { inode = number_at 4 0 bs; kind = byte_at 4 bs; name = taken i }))
  where
    taken : take (byte_at 5 bs) name ≡ name_in bs
    taken = ap (take (byte_at 5 bs)) are_name ∙ take-padded 0 58 (byte_at 5 bs) (name_in bs) (name-length bs sized few)

    with_count : (n : ℕ) → n ≡ byte_at 5 bs → (nat_le n 58 && is_whole (number_at 4 0 bs) (byte_at 4 bs) n) ≡ is_whole (number_at 4 0 bs) (byte_at 4 bs) (byte_at 5 bs)
    with_count n is_n = (λ i. nat_le (is_n i) 58 && is_whole (number_at 4 0 bs) (byte_at 4 bs) (is_n i)) ∙ ap (λ t. t && is_whole (number_at 4 0 bs) (byte_at 4 bs) (byte_at 5 bs)) enough
      where
        enough : nat_le (byte_at 5 bs) 58 ≡ true
        enough = grind (arith, nat_tests, few)

    whole : is_dentry (dentry_fields bs) ≡ is_whole (number_at 4 0 bs) (byte_at 4 bs) (byte_at 5 bs)
    whole = with_count (length (name_in bs)) (name-length bs sized few)
