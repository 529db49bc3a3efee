-- The record that begins a content: what the bytes of each kind have to be.
use Rattle.std.proofs.Common.{ℕ, zero, suc, ◌≡◌, ◌≢◌, ◌+◌, ◌*◌, ◌<◌, ◌≤◌, List, ◌∷◌, ◌++◌, length, take, drop, Bool, true, false, Some, None, ◌&&◌, refl, sym, ap, ◌∙◌, arith}
use Rattle.std.specs.Prelude.{◌==◌, nat_lt, nat_le, flat_map, option_map}
use Rattle.std.specs.List.{list_all}
use Rattle.std.specs.Str.{bytes_eq}
use Rattle.std.proofs.lemmas.Bool.Decides.{nat_tests}
use Rattle.std.proofs.lemmas.Slice.Eq.{bytes_eq-Decides}
use Rattle.std.proofs.lemmas.List.{drop-drop, length-append, length-drop, length-take, length-take-le, take-append-drop}
use Rattle.byteorder.specs.Endian.{little_bytes}
use Rattle.ufs_base.specs.Choices.{some_if}
use Rattle.ufs_base.specs.Images.{IsBytes}
use Rattle.ufs_layout.specs.Words.{number_at, byte_at}
use Rattle.ufs_layout.specs.InodeForm.{extent_bytes, extents_at, is_extent}
use Rattle.ufs_layout.specs.DentryForm.{DentryForm, dentry_bytes, dentry_fields, dentry_of, is_dentry}
use Rattle.ufs_layout.specs.Records.{record_bytes, record_by_tag, spelled_in, leading_record, is_record}
use Rattle.ufs_layout.specs.declared.inode.Extent.{Extent}
use Rattle.ufs_layout.specs.declared.records.LogRecord.{LogRecord}
use Rattle.ufs_layout.specs.declared.records.LogRecord.TheVariants.{Delta, Place, Free}
use Rattle.ufs_layout.proofs.Compared.{IsBytes-drop, number-there, byte-there, byte-compared, bytes_eq-front}
use Rattle.ufs_layout.proofs.Extents.{length-extents_at, extents-spelled}
use Rattle.ufs_layout.proofs.RecordForms.{length-delta, length-dentry, length-place}

same_bytes : (bs : List ℕ) → bytes_eq bs bs ≡ true
same_bytes bs = (bytes_eq-Decides bs bs).1 refl

-- Lists of different lengths differ.
pub other_length : (xs ys : List ℕ) → length xs ≢ length ys → bytes_eq xs ys ≡ false
other_length xs ys differ = by_test (bytes_eq xs ys) (bytes_eq-Decides xs ys).0
  where
    by_test : (b : Bool) → (b ≡ true → xs ≡ ys) → b ≡ false
    by_test true same = absurd (differ (ap length (same refl)))
    by_test false same = refl

-- Bytes that begin with a tag lead to the record of that tag.
tagged : (bs : List ℕ) (tag : ℕ) → byte_at 0 bs ≡ tag → leading_record bs ≡ spelled_in bs (record_by_tag bs tag)
tagged bs tag is = ap (λ t. spelled_in bs (record_by_tag bs t)) is

none_if : {X : Type 0} (a b : Bool) (x : X) → b ≡ false → some_if (a && b) x ≡ None
none_if true b x off = rw off refl
none_if false b x off = refl

some_where : {X : Type 0} (a b : Bool) (x : X) → b ≡ true → some_if (a && b) x ≡ some_if a x
some_where true b x on = rw on refl
some_where false b x on = refl

-- ---- a freed inode

pub free-short : (bs : List ℕ) → byte_at 0 bs ≡ 3 → length bs < 5 → None ≡ leading_record bs
free-short bs tag short = sym (tagged bs 3 tag ∙ none_if true (bytes_eq (record_bytes (Free (number_at 4 1 bs)) ++ drop 5 bs) bs) (Free (number_at 4 1 bs)) (other_length (record_bytes (Free (number_at 4 1 bs)) ++ drop 5 bs) bs (λ e. absurd (omega (arith, e)))))

pub free-long : (bs : List ℕ) → IsBytes bs → byte_at 0 bs ≡ 3 → 5 ≤ length bs → Some (Free (number_at 4 1 bs)) ≡ leading_record bs
free-long bs is tag long = sym (tagged bs 3 tag ∙ some_where true (bytes_eq (record_bytes (Free (number_at 4 1 bs)) ++ drop 5 bs) bs) (Free (number_at 4 1 bs)) spelled)
  where
    spelled : bytes_eq (record_bytes (Free (number_at 4 1 bs)) ++ drop 5 bs) bs ≡ true
    spelled = byte-compared 3 0 bs (little_bytes 4 (number_at 4 1 bs) ++ drop 5 bs) (omega arith)
        ∙ ap (λ t. 3 == t && bytes_eq (little_bytes 4 (number_at 4 1 bs) ++ drop 5 bs) (drop 1 bs)) tag
        ∙ number-there 4 1 bs (drop 5 bs) (omega arith) is ∙ same_bytes (drop 5 bs)

-- ---- a dentry set

-- the dentry that stands in it
abbrev pub dentry_in : List ℕ → DentryForm
dentry_in bs = dentry_fields (take 64 (drop 6 bs))

abbrev pub place_in : List ℕ → LogRecord
place_in bs = Place (number_at 4 1 bs) (byte_at 5 bs) (dentry_in bs)

pub short_name : (bs : List ℕ) → length (dentry_in bs).name ≤ 58
short_name bs = omega (arith, length-take (byte_at 5 (take 64 (drop 6 bs))) (drop 6 (take 64 (drop 6 bs))), length-drop 6 (take 64 (drop 6 bs)), length-take 64 (drop 6 bs))

pub place-short : (bs : List ℕ) → byte_at 0 bs ≡ 2 → length bs < 70 → None ≡ leading_record bs
place-short bs tag short =
    let long = length-place (number_at 4 1 bs) (byte_at 5 bs) (dentry_in bs) (short_name bs) in
    sym (tagged bs 2 tag ∙ none_if (is_record (place_in bs)) (bytes_eq (record_bytes (place_in bs) ++ drop 70 bs) bs) (place_in bs)
    (other_length (record_bytes (place_in bs) ++ drop 70 bs) bs (λ e. absurd (omega (arith, e, long, length-append (record_bytes (place_in bs)) (drop 70 bs))))))

off_first : {X : Type 0} (a b c : Bool) (x : X) → a ≡ false → some_if ((a && b) && c) x ≡ None
off_first a b c x off = rw off refl

pub place-slot : (bs : List ℕ) → byte_at 0 bs ≡ 2 → 7 < byte_at 5 bs → None ≡ leading_record bs
place-slot bs tag high =
    let off : nat_lt (byte_at 5 bs) 8 ≡ false = grind (arith, nat_tests, high) in
    sym (tagged bs 2 tag ∙ off_first (nat_lt (byte_at 5 bs) 8) (is_dentry (dentry_in bs)) (bytes_eq (record_bytes (place_in bs) ++ drop 70 bs) bs) (place_in bs) off)

pub place-read : (bs : List ℕ) → IsBytes bs → byte_at 0 bs ≡ 2 → 70 ≤ length bs → byte_at 5 bs ≤ 7
    → leading_record bs ≡ option_map (λ d. Place (number_at 4 1 bs) (byte_at 5 bs) d) (dentry_of (take 64 (drop 6 bs)))
place-read bs is tag long low = tagged bs 2 tag ∙ tests (nat_lt (byte_at 5 bs) 8) (is_dentry (dentry_in bs)) (bytes_eq (dentry_bytes (dentry_in bs)) (take 64 (drop 6 bs))) (bytes_eq (record_bytes (place_in bs) ++ drop 70 bs) bs) enough spelled
  where
    enough : nat_lt (byte_at 5 bs) 8 ≡ true
    enough = grind (arith, nat_tests, low)

    lengths : length (dentry_bytes (dentry_in bs)) ≡ length (take 64 (drop 6 bs))
    lengths = length-dentry (dentry_in bs) (short_name bs) ∙ sym (length-take-le 64 (drop 6 bs) (omega (arith, length-drop 6 bs)))

    and_true : (b : Bool) → (b && true) ≡ b
    and_true true = refl
    and_true false = refl

    spelled : bytes_eq (record_bytes (place_in bs) ++ drop 70 bs) bs ≡ bytes_eq (dentry_bytes (dentry_in bs)) (take 64 (drop 6 bs))
    spelled = byte-compared 2 0 bs (little_bytes 4 (number_at 4 1 bs) ++ byte_at 5 bs ∷ dentry_bytes (dentry_in bs) ++ drop 70 bs) (omega arith)
        ∙ ap (λ t. 2 == t && bytes_eq (little_bytes 4 (number_at 4 1 bs) ++ byte_at 5 bs ∷ dentry_bytes (dentry_in bs) ++ drop 70 bs) (drop 1 bs)) tag
        ∙ number-there 4 1 bs (byte_at 5 bs ∷ dentry_bytes (dentry_in bs) ++ drop 70 bs) (omega arith) is
        ∙ byte-there 5 bs (dentry_bytes (dentry_in bs) ++ drop 70 bs) (omega arith)
        ∙ ap (bytes_eq (dentry_bytes (dentry_in bs) ++ drop 70 bs)) (sym (take-append-drop 64 (drop 6 bs)) ∙ ap (λ xs. take 64 (drop 6 bs) ++ xs) (drop-drop 64 6 bs))
        ∙ bytes_eq-front (dentry_bytes (dentry_in bs)) (take 64 (drop 6 bs)) (drop 70 bs) (drop 70 bs) lengths
        ∙ ap (λ t. bytes_eq (dentry_bytes (dentry_in bs)) (take 64 (drop 6 bs)) && t) (same_bytes (drop 70 bs))
        ∙ and_true (bytes_eq (dentry_bytes (dentry_in bs)) (take 64 (drop 6 bs)))

    tests : (a b c e : Bool) → a ≡ true → e ≡ c → some_if ((a && b) && e) (place_in bs) ≡ option_map (λ d. Place (number_at 4 1 bs) (byte_at 5 bs) d) (some_if (b && c) (dentry_in bs))
    tests a true true e on same = rw (on, same) refl
    tests a true false e on same = rw (on, same) refl
    tests a false c e on same = rw on refl

-- ---- an inode's delta

abbrev pub extents_of : List ℕ → List Extent
extents_of bs = extents_at (byte_at 15 bs) (drop 16 bs)

abbrev pub delta_in : List ℕ → LogRecord
delta_in bs = Delta (number_at 4 1 bs) (byte_at 5 bs) (number_at 8 6 bs) (byte_at 14 bs) (extents_of bs)

abbrev pub is_delta : List ℕ → Bool
is_delta bs = (nat_le 1 (byte_at 5 bs) && nat_le (byte_at 5 bs) 2) && nat_le (byte_at 14 bs + byte_at 15 bs) 56

-- what is compared
abbrev delta_test : List ℕ → Bool
delta_test bs = bytes_eq (record_bytes (delta_in bs) ++ drop (16 + 8 * byte_at 15 bs) bs) bs

delta_record : (bs : List ℕ) → is_record (delta_in bs) ≡ (is_delta bs && list_all is_extent (extents_of bs))
delta_record bs =
    ap (λ n. (nat_le 1 (byte_at 5 bs) && nat_le (byte_at 5 bs) 2) && (nat_le (byte_at 14 bs + n) 56 && list_all is_extent (extents_of bs))) (length-extents_at (byte_at 15 bs) (drop 16 bs))
    ∙ and_assoc (nat_le 1 (byte_at 5 bs) && nat_le (byte_at 5 bs) 2) (nat_le (byte_at 14 bs + byte_at 15 bs) 56) (list_all is_extent (extents_of bs))
  where
    and_assoc : (a b c : Bool) → (a && (b && c)) ≡ (a && b && c)
    and_assoc true b c = refl
    and_assoc false b c = refl

pub delta-short : (bs : List ℕ) → byte_at 0 bs ≡ 1 → length bs < 16 + 8 * byte_at 15 bs → None ≡ leading_record bs
delta-short bs tag short =
    let long = length-delta (number_at 4 1 bs) (byte_at 5 bs) (number_at 8 6 bs) (byte_at 14 bs) (extents_of bs) in
    let count = length-extents_at (byte_at 15 bs) (drop 16 bs) in
    sym (tagged bs 1 tag ∙ none_if (is_record (delta_in bs)) (delta_test bs) (delta_in bs)
    (other_length (record_bytes (delta_in bs) ++ drop (16 + 8 * byte_at 15 bs) bs) bs (λ e. absurd (omega (arith, e, long, count, length-append (record_bytes (delta_in bs)) (drop (16 + 8 * byte_at 15 bs) bs))))))

pub delta-off : (bs : List ℕ) → byte_at 0 bs ≡ 1 → is_delta bs ≡ false → None ≡ leading_record bs
delta-off bs tag off = sym (tagged bs 1 tag ∙ ap (λ t. some_if (t && delta_test bs) (delta_in bs)) (delta_record bs) ∙ off_first (is_delta bs) (list_all is_extent (extents_of bs)) (delta_test bs) (delta_in bs) off)

pub delta-no_block : (bs : List ℕ) → byte_at 0 bs ≡ 1 → list_all is_extent (extents_of bs) ≡ false → None ≡ leading_record bs
delta-no_block bs tag off = sym (tagged bs 1 tag ∙ ap (λ t. some_if (t && delta_test bs) (delta_in bs)) (delta_record bs) ∙ off_second (is_delta bs) (list_all is_extent (extents_of bs)) off)
  where
    off_second : (a b : Bool) → b ≡ false → some_if ((a && b) && delta_test bs) (delta_in bs) ≡ None
    off_second true b is_b = rw is_b refl
    off_second false b is_b = refl

pub delta-long : (bs : List ℕ) → IsBytes bs → byte_at 0 bs ≡ 1 → 16 + 8 * byte_at 15 bs ≤ length bs → is_delta bs ≡ true → list_all is_extent (extents_of bs) ≡ true → Some (delta_in bs) ≡ leading_record bs
delta-long bs is tag long form blocks = sym (tagged bs 1 tag ∙ ap (λ t. some_if (t && delta_test bs) (delta_in bs)) (delta_record bs) ∙ (λ i. some_if ((form i && blocks i) && spelled i) (delta_in bs)))
  where
    behind : List ℕ
    behind = flat_map extent_bytes (extents_of bs) ++ drop (16 + 8 * byte_at 15 bs) bs

    from_keep : List ℕ
    from_keep = byte_at 14 bs ∷ length (extents_of bs) ∷ behind

    from_size : List ℕ
    from_size = little_bytes 8 (number_at 8 6 bs) ++ from_keep

    from_inode : List ℕ
    from_inode = little_bytes 4 (number_at 4 1 bs) ++ byte_at 5 bs ∷ from_size

    whole : behind ≡ drop 16 bs
    whole =
        (λ i. extents-spelled (byte_at 15 bs) (drop 16 bs) (omega (arith, length-drop 16 bs)) (IsBytes-drop 16 bs is) i ++ sym (drop-drop (8 * byte_at 15 bs) 16 bs) i)
        ∙ take-append-drop (8 * byte_at 15 bs) (drop 16 bs)

    spelled : delta_test bs ≡ true
    spelled = byte-compared 1 0 bs from_inode (omega arith)
        ∙ ap (λ t. 1 == t && bytes_eq from_inode (drop 1 bs)) tag
        ∙ number-there 4 1 bs (byte_at 5 bs ∷ from_size) (omega arith) is
        ∙ byte-there 5 bs from_size (omega arith)
        ∙ number-there 8 6 bs from_keep (omega arith) is
        ∙ byte-there 14 bs (length (extents_of bs) ∷ behind) (omega arith)
        ∙ ap (λ n. bytes_eq (n ∷ behind) (drop 15 bs)) (length-extents_at (byte_at 15 bs) (drop 16 bs))
        ∙ byte-there 15 bs behind (omega arith)
        ∙ ap (λ xs. bytes_eq xs (drop 16 bs)) whole ∙ same_bytes (drop 16 bs)

-- ---- no tag

pub no_tag : (bs : List ℕ) (tag : ℕ) → byte_at 0 bs ≡ tag → tag ≢ 1 → tag ≢ 2 → tag ≢ 3 → None ≡ leading_record bs
no_tag bs zero is a b c = sym (tagged bs zero is)
no_tag bs (suc zero) is a b c = absurd (a refl)
no_tag bs (suc (suc zero)) is a b c = absurd (b refl)
no_tag bs (suc (suc (suc zero))) is a b c = absurd (c refl)
no_tag bs (suc (suc (suc (suc n)))) is a b c = sym (tagged bs (suc (suc (suc (suc n)))) is)
