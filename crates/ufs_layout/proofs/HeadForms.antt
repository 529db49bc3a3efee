-- The head of a journal sector and the superblock: read back, and compared with their bytes.
use Rattle.std.proofs.Common.{ℕ, ◌≡◌, ◌<◌, ◌^◌, List, ◌∷◌, ◌++◌, length, take, drop, replicate, Bool, true, false, ◌&&◌, refl, ap, sym, ◌∙◌, arith}
use Rattle.std.specs.Prelude.{◌==◌, nat_le}
use Rattle.std.specs.Bool.{Decides}
use Rattle.std.specs.Str.{bytes_eq}
use Rattle.std.proofs.lemmas.Bool.Decides.{Decides-eqb, nat_tests}
use Rattle.std.proofs.lemmas.List.{length-drop, length-take-le, take-append-drop}
use Rattle.byteorder.specs.Endian.{little_bytes}
use Rattle.ufs_base.specs.Images.{IsBytes}
use Rattle.ufs_layout.specs.Words.{number_at, byte_at, is_zeros}
use Rattle.ufs_layout.specs.JournalHead.{header_bytes, header_fields}
use Rattle.ufs_layout.specs.Superblock.{magic, clean_byte, super_bytes, super_fields}
use Rattle.ufs_layout.specs.declared.header.Header.{Header}
use Rattle.ufs_layout.specs.declared.superblock.Super.{Super}
use Rattle.ufs_layout.proofs.Compared.{bytes_eq-front, number-back, number-there, byte-there, byte-compared, zero-compared, zeros-compared}

-- what the types of the fields give
pub record FitsHeader (h : Header) : Type 0 where
  pub epoch : h.epoch < 2 ^ 64
  pub txn : h.txn < 2 ^ 32
  pub index : h.index < 2 ^ 16
  pub used : h.used < 2 ^ 16

pub header-back : (h : Header) → FitsHeader h → header_fields (header_bytes h) ≡ h
header-back h fits i = record {
  epoch = number-back 8 h.epoch fits.epoch i;
  txn = number-back 4 h.txn fits.txn i;
  index = number-back 2 h.index fits.index i;
  kind = h.kind;
  used = number-back 2 h.used fits.used i;
}

pub header-compared : (bs : List ℕ) → length bs ≡ 24 → IsBytes bs → bytes_eq (header_bytes (header_fields bs)) bs ≡ (byte_at 15 bs == 0 && is_zeros (drop 18 bs))
header-compared bs sized is =
    number-there 8 0 bs (little_bytes 4 (number_at 4 8 bs) ++ from_index) (omega arith) is
    ∙ number-there 4 8 bs from_index (omega arith) is
    ∙ number-there 2 12 bs from_kind (omega arith) is
    ∙ byte-there 14 bs (0 ∷ from_used) (omega arith)
    ∙ zero-compared 15 bs from_used (omega arith)
    ∙ ap (λ t. byte_at 15 bs == 0 && t) (number-there 2 16 bs (replicate 6 0) (omega arith) is ∙ zeros-compared 6 (drop 18 bs) (omega (arith, length-drop 18 bs)))
  where
    from_used : List ℕ
    from_used = little_bytes 2 (number_at 2 16 bs) ++ replicate 6 0

    from_kind : List ℕ
    from_kind = byte_at 14 bs ∷ 0 ∷ from_used

    from_index : List ℕ
    from_index = little_bytes 2 (number_at 2 12 bs) ++ from_kind

-- what the types of the fields give
pub record FitsSuper (s : Super) : Type 0 where
  pub version : s.version < 2 ^ 32
  pub blocks : s.blocks < 2 ^ 32
  pub inodes : s.inodes < 2 ^ 32
  pub journal : s.journal < 2 ^ 32
  pub epoch : s.epoch < 2 ^ 64
  pub next : s.next < 2 ^ 64

flag-back : (clean : Bool) → (clean_byte clean == 1) ≡ clean
flag-back true = refl
flag-back false = refl

pub super-back : (s : Super) → FitsSuper s → super_fields (super_bytes s) ≡ s
super-back s fits i = record {
  version = number-back 4 s.version fits.version i;
  blocks = number-back 4 s.blocks fits.blocks i;
  inodes = number-back 4 s.inodes fits.inodes i;
  journal = number-back 4 s.journal fits.journal i;
  epoch = number-back 8 s.epoch fits.epoch i;
  next = number-back 8 s.next fits.next i;
  clean = flag-back s.clean i;
}

-- A byte is the mark of being 1 where it is at most 1.
flag-compared : (b : ℕ) → (clean_byte (b == 1) == b) ≡ nat_le b 1
flag-compared b = at_flag b (b == 1) (Decides-eqb b 1)
  where
    at_flag : (b : ℕ) (flag : Bool) → Decides flag (b ≡ 1) → (clean_byte flag == b) ≡ nat_le b 1
    at_flag b true is = let one = is.0 refl in grind (arith, nat_tests)
    at_flag b false is = grind (arith, nat_tests, is)

pub super-compared : (bs : List ℕ) → length bs ≡ 512 → IsBytes bs → bytes_eq (super_bytes (super_fields bs)) bs ≡ (bytes_eq magic (take 8 bs) && (nat_le (byte_at 40 bs) 1 && is_zeros (drop 41 bs)))
super-compared bs sized is =
    ap (bytes_eq (magic ++ from_version)) (sym (take-append-drop 8 bs))
    ∙ bytes_eq-front magic (take 8 bs) from_version (drop 8 bs) (sym (length-take-le 8 bs (omega arith)))
    ∙ ap (λ t. bytes_eq magic (take 8 bs) && t) (
    number-there 4 8 bs from_blocks (omega arith) is
    ∙ number-there 4 12 bs from_inodes (omega arith) is
    ∙ number-there 4 16 bs from_journal (omega arith) is
    ∙ number-there 4 20 bs from_epoch (omega arith) is
    ∙ number-there 8 24 bs from_next (omega arith) is
    ∙ number-there 8 32 bs from_clean (omega arith) is
    ∙ byte-compared (clean_byte (byte_at 40 bs == 1)) 40 bs (replicate 471 0) (omega arith)
    ∙ (λ i. flag-compared (byte_at 40 bs) i && zeros-compared 471 (drop 41 bs) (omega (arith, length-drop 41 bs)) i))
  where
    from_clean : List ℕ
    from_clean = clean_byte (byte_at 40 bs == 1) ∷ replicate 471 0

    from_next : List ℕ
    from_next = little_bytes 8 (number_at 8 32 bs) ++ from_clean

    from_epoch : List ℕ
    from_epoch = little_bytes 8 (number_at 8 24 bs) ++ from_next

    from_journal : List ℕ
    from_journal = little_bytes 4 (number_at 4 20 bs) ++ from_epoch

    from_inodes : List ℕ
    from_inodes = little_bytes 4 (number_at 4 16 bs) ++ from_journal

    from_blocks : List ℕ
    from_blocks = little_bytes 4 (number_at 4 12 bs) ++ from_inodes

    from_version : List ℕ
    from_version = little_bytes 4 (number_at 4 8 bs) ++ from_blocks
