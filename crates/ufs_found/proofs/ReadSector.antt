-- A journal sector is read by its head, its content and the zeros behind it.
use Rattle.std.proofs.Common.{◌≡◌, ℕ, ◌+◌, ◌-◌, ◌^◌, ◌<◌, ◌≤◌, List, [], ◌++◌, Bool, true, false, ◌&&◌, Option, Some, None, length, take, drop, replicate, refl, ap, sym, ◌∙◌, append_assoc, arith}
use Rattle.std.specs.Prelude.{if◌then◌else◌, ◌==◌, nat_le}
use Rattle.std.specs.List.{list_all}
use Rattle.std.specs.Option.{option_map}
use Rattle.std.proofs.lemmas.Bool.{and_parts, leb-true, eqb-true}
use Rattle.std.proofs.lemmas.List.{take_all, take-append-drop, length-append, length-drop, length-take-le, drop-drop}
use Rattle.std.proofs.lemmas.Slice.Eq.{bytes_eq-Decides}
use Rattle.std.proofs.lemmas.Bool.Decides.{nat_tests}
use Rattle.ufs_disk.specs.Whole.{take_small}
use Rattle.byteorder.specs.Endian.{little_bytes}
use Rattle.ufs_base.specs.Images.{IsBytes}
use Rattle.ufs_layout.specs.Words.{number_at, is_zeros, filled_to}
use Rattle.ufs_layout.specs.Records.{records_bytes, records_of, record_fields, is_record}
use Rattle.ufs_layout.specs.JournalHead.{header_bytes, header_fields, header_of, is_header}
use Rattle.ufs_layout.specs.JournalSector.{HasRecords, HasCommit, JournalSector, head_in, journal_bytes, journal_fields, journal_of, is_journal_sector}
use Rattle.ufs_image.specs.Journal.{FoundSector}
use Rattle.ufs_layout.specs.declared.header.Header.{Header}
use Rattle.ufs_layout.specs.declared.records.LogRecord.{LogRecord}
use Rattle.ufs_layout.proofs.Compared.{zeros-compared, little_bytes-little_number, IsBytes-drop}
use Rattle.ufs_layout.proofs.Spelled.{spelled-some, spelled-at, some_if-some}
use Rattle.ufs_found.proofs.ReadThere.{by_head, journal_read, small_2, small_4, small_8, spelled_is_read}
use Rattle.ufs_found.specs.Parts.{commit_read, content_read, with_head}
use Rattle.ufs_journal.proofs.Spelling.{commit_back, records_back, commit_form, records_form}

-- ---- to the spelling

-- a head, so many bytes, and zeros
whole : (bytes head content : List ℕ) (u : ℕ) → length bytes ≡ 512 → u ≤ 488 → take 24 bytes ≡ head → take u (drop 24 bytes) ≡ content → is_zeros (drop (24 + u) bytes) ≡ true → bytes ≡ filled_to 512 (head ++ content)
whole bytes head content u sized few front inside zeros =
    let left : length (drop (24 + u) bytes) ≡ 512 - length (head ++ content) = omega (arith, length-append head content, ap length front, ap length inside, length-take-le 24 bytes (omega arith), length-take-le u (drop 24 bytes) (omega (arith, length-drop 24 bytes)), length-drop 24 bytes, length-drop (24 + u) bytes) in
    let rest : drop (24 + u) bytes ≡ replicate (512 - length (head ++ content)) 0 =
    sym ((bytes_eq-Decides (replicate (512 - length (head ++ content)) 0) (drop (24 + u) bytes)).0 (zeros-compared (512 - length (head ++ content)) (drop (24 + u) bytes) left ∙ zeros)) in
    sym (take-append-drop 24 bytes)
    ∙ ap (λ (b : List ℕ). take 24 bytes ++ b) (sym (take-append-drop u (drop 24 bytes)))
    ∙ (λ i. front i ++ (inside i ++ drop-drop u 24 bytes i))
    ∙ ap (λ (b : List ℕ). head ++ (content ++ b)) rest
    ∙ sym (append_assoc head content (replicate (512 - length (head ++ content)) 0))

is_one : (k : ℕ) → nat_le 1 k ≡ true → nat_le k 2 ≡ true → (k == 2) ≡ false → k ≡ 1
is_one k low high not_two = grind (arith, nat_tests)

module _ (bytes : List ℕ) (sized : length bytes ≡ 512) (are : IsBytes bytes) (h : Header) (head : header_of (take 24 bytes) ≡ Some h) (zeros : is_zeros (drop (24 + h.used) bytes) ≡ true) where
  same : (take 24 bytes ≡ header_bytes h) × (is_header h ≡ true)
  same = spelled-some header_fields header_bytes is_header (take 24 bytes) h head

  again : header_fields (header_bytes h) ≡ h
  again = sym (ap header_fields same.0) ∙ (some_if-some _ (header_fields (take 24 bytes)) h head).1

  kinds : (nat_le 1 h.kind ≡ true) × (nat_le h.kind 2 ≡ true)
  kinds = and_parts (nat_le 1 h.kind) (nat_le h.kind 2) (and_parts (nat_le 1 h.kind && nat_le h.kind 2) (nat_le h.used 488) (and_parts (nat_le 1 h.txn) _ same.1).1).0

  some : 1 ≤ h.txn
  some = leb-true 1 h.txn (and_parts (nat_le 1 h.txn) _ same.1).0

  few : h.used ≤ 488
  few = leb-true h.used 488 (and_parts (nat_le 1 h.kind && nat_le h.kind 2) (nat_le h.used 488) (and_parts (nat_le 1 h.txn) _ same.1).1).1

  fits_epoch : h.epoch < 2 ^ 64
  fits_epoch = small_8 h.epoch _ [] refl (ap (λ (q : Header). q.epoch) again)

  fits_txn : h.txn < 2 ^ 32
  fits_txn = small_4 h.txn _ [] refl (ap (λ (q : Header). q.txn) again)

  fits_index : h.index < 2 ^ 16
  fits_index = small_2 h.index _ [] refl (ap (λ (q : Header). q.index) again)

  long : length (take h.used (drop 24 bytes)) ≡ h.used
  long = length-take-le h.used (drop 24 bytes) (omega (arith, length-drop 24 bytes, few))

  records_are : (h.kind == 2) ≡ false → (rs : List LogRecord) → records_of (take h.used (drop 24 bytes)) ≡ Some rs → journal_of bytes ≡ Some (with_head h (HasRecords rs))
  records_are kind rs is =
      let j : JournalSector = with_head h (HasRecords rs) in
      let content = spelled-some (record_fields (length (take h.used (drop 24 bytes)))) records_bytes (list_all is_record) (take h.used (drop 24 bytes)) rs is in
      let used : length (records_bytes rs) ≡ h.used = sym (ap length content.0) ∙ long in
      let headed : head_in j ≡ h = λ i. record { epoch = h.epoch; txn = h.txn; index = h.index; kind = sym (is_one h.kind kinds.0 kinds.1 kind) i; used = used i } in
      spelled-at journal_fields journal_bytes is_journal_sector j bytes
      (whole bytes (header_bytes h) (records_bytes rs) h.used sized few same.0 content.0 zeros ∙ ap (λ (q : Header). filled_to 512 (header_bytes q ++ records_bytes rs)) (sym headed))
      (records_back h.epoch h.txn h.index rs fits_epoch fits_txn fits_index (omega (arith, used, few)) (ap records_of (sym content.0) ∙ is))
      (records_form h.epoch h.txn h.index rs some (omega (arith, used, few)) content.1)

  commit_content : (m : ℕ) → commit_read h.index (take h.used (drop 24 bytes)) ≡ Some m → take h.used (drop 24 bytes) ≡ little_bytes 4 h.index ++ little_bytes 8 m
  commit_content m is =
      let content : List ℕ = take h.used (drop 24 bytes) in
      let both = some_if-some (length (take h.used (drop 24 bytes)) == 12 && number_at 4 0 (take h.used (drop 24 bytes)) == h.index) (number_at 8 4 (take h.used (drop 24 bytes))) m is in
      let tests = and_parts (length (take h.used (drop 24 bytes)) == 12) (number_at 4 0 (take h.used (drop 24 bytes)) == h.index) both.0 in
      let twelve : length (take h.used (drop 24 bytes)) ≡ 12 = eqb-true (length (take h.used (drop 24 bytes))) 12 tests.0 in
      let bytes_are : IsBytes (take h.used (drop 24 bytes)) = take_small h.used (drop 24 bytes) (IsBytes-drop 24 bytes are) in
      let counted : little_bytes 4 h.index ≡ take 4 (take h.used (drop 24 bytes)) = ap (little_bytes 4) (sym (eqb-true (number_at 4 0 (take h.used (drop 24 bytes))) h.index tests.1)) ∙ little_bytes-little_number 4 (take h.used (drop 24 bytes)) (omega (arith, twelve)) bytes_are in
      let numbered : little_bytes 8 m ≡ take 8 (drop 4 (take h.used (drop 24 bytes))) = ap (little_bytes 8) (sym both.1) ∙ little_bytes-little_number 8 (drop 4 (take h.used (drop 24 bytes))) (omega (arith, twelve, length-drop 4 (take h.used (drop 24 bytes)))) (IsBytes-drop 4 (take h.used (drop 24 bytes)) bytes_are) in
      sym (take-append-drop 4 (take h.used (drop 24 bytes)))
      ∙ (λ i. sym counted i ++ sym (take_all 8 (drop 4 (take h.used (drop 24 bytes))) (omega (arith, twelve, length-drop 4 (take h.used (drop 24 bytes))))) i)
      ∙ ap (λ (b : List ℕ). little_bytes 4 h.index ++ b) (sym numbered)

  commit_is : (h.kind == 2) ≡ true → (m : ℕ) → commit_read h.index (take h.used (drop 24 bytes)) ≡ Some m → journal_of bytes ≡ Some (with_head h (HasCommit m))
  commit_is kind m is =
      let j : JournalSector = with_head h (HasCommit m) in
      let content = commit_content m is in
      let used : 12 ≡ h.used = sym (ap length content) ∙ long in
      let headed : head_in j ≡ h = λ i. record { epoch = h.epoch; txn = h.txn; index = h.index; kind = sym (eqb-true h.kind 2 kind) i; used = used i } in
      let number : number_at 8 4 (take h.used (drop 24 bytes)) ≡ m = (some_if-some _ (number_at 8 4 (take h.used (drop 24 bytes))) m is).1 in
      spelled-at journal_fields journal_bytes is_journal_sector j bytes
      (whole bytes (header_bytes h) (little_bytes 4 h.index ++ little_bytes 8 m) h.used sized few same.0 content zeros ∙ ap (λ (q : Header). filled_to 512 (header_bytes q ++ (little_bytes 4 h.index ++ little_bytes 8 m))) (sym headed))
      (commit_back h.epoch h.txn h.index m fits_epoch fits_txn fits_index (small_8 m _ [] refl (ap (λ (b : List ℕ). number_at 8 4 b) (sym content) ∙ number)))
      (commit_form h.epoch h.txn h.index m some)

-- ---- both ways

same_option : {X : Type 0} (a b : Option X) → ((x : X) → a ≡ Some x → b ≡ Some x) → ((x : X) → b ≡ Some x → a ≡ Some x) → a ≡ b
same_option None None one two = refl
same_option None (Some x) one two = two x refl
same_option (Some x) b one two = sym (one x refl)

of_map : {X Y : Type 0} (f : X → Y) (o : Option X) (y : Y) → option_map f o ≡ Some y → (x : X) × (o ≡ Some x) × (f x ≡ y)
of_map f None y is = grind (arith, is)
of_map f (Some x) y is = (x, refl, grind (arith, is))

module _ (bytes : List ℕ) (sized : length bytes ≡ 512) (are : IsBytes bytes) where
  read_is_spelled : (j : JournalSector) → journal_read bytes ≡ Some j → journal_of bytes ≡ Some j
  read_is_spelled j = by_o (header_of (take 24 bytes)) refl
    where
      by_c : (h : Header) → header_of (take 24 bytes) ≡ Some h → is_zeros (drop (24 + h.used) bytes) ≡ true → (two : Bool) → (h.kind == 2) ≡ two
          → option_map (with_head h) (if two then option_map HasCommit (commit_read h.index (take h.used (drop 24 bytes))) else option_map HasRecords (records_of (take h.used (drop 24 bytes)))) ≡ Some j → journal_of bytes ≡ Some j
      by_c h head zeros true kind is =
          let outer = of_map (with_head h) (option_map HasCommit (commit_read h.index (take h.used (drop 24 bytes)))) j is in
          let inner = of_map HasCommit (commit_read h.index (take h.used (drop 24 bytes))) outer.0 outer.1 in
          commit_is bytes sized are h head zeros kind inner.0 inner.1 ∙ ap (λ c. Some (with_head h c)) inner.2 ∙ ap Some outer.2
      by_c h head zeros false kind is =
          let outer = of_map (with_head h) (option_map HasRecords (records_of (take h.used (drop 24 bytes)))) j is in
          let inner = of_map HasRecords (records_of (take h.used (drop 24 bytes))) outer.0 outer.1 in
          records_are bytes sized are h head zeros kind inner.0 inner.1 ∙ ap (λ c. Some (with_head h c)) inner.2 ∙ ap Some outer.2

      by_z : (h : Header) → header_of (take 24 bytes) ≡ Some h → (z : Bool) → is_zeros (drop (24 + h.used) bytes) ≡ z
          → (if z then option_map (with_head h) (content_read h (take h.used (drop 24 bytes))) else None) ≡ Some j → journal_of bytes ≡ Some j
      by_z h head true zeros is = by_c h head zeros (h.kind == 2) refl is
      by_z h head false zeros is = grind (arith, is)

      by_o : (o : Option Header) → header_of (take 24 bytes) ≡ o → by_head bytes o ≡ Some j → journal_of bytes ≡ Some j
      by_o None head is = grind (arith, is)
      by_o (Some h) head is = by_z h head (is_zeros (drop (24 + h.used) bytes)) refl is

  -- So the two agree.
  pub read_agrees : journal_of bytes ≡ journal_read bytes
  read_agrees = same_option (journal_of bytes) (journal_read bytes) (λ j is. spelled_is_read j bytes is) read_is_spelled

-- ---- what a reader answers

pub zeros_no : (bytes : List ℕ) (h : Header) → is_zeros (drop (24 + h.used) bytes) ≡ false → by_head bytes (Some h) ≡ None
zeros_no bytes h none = ap (λ z. if z then option_map (with_head h) (content_read h (take h.used (drop 24 bytes))) else None) none

map_map : {X Y Z : Type 0} (f : Y → Z) (g : X → Y) (o : Option X) → option_map f (option_map g o) ≡ option_map (λ x. f (g x)) o
map_map f g None = refl
map_map f g (Some x) = refl

pub on_content : (sector : ℕ) (bytes : List ℕ) (h : Header) → is_zeros (drop (24 + h.used) bytes) ≡ true
    → option_map {U = FoundSector} (λ (j : JournalSector). (sector, j)) (by_head bytes (Some h)) ≡ option_map {U = FoundSector} (λ c. (sector, with_head h c)) (content_read h (take h.used (drop 24 bytes)))
on_content sector bytes h every =
    ap (λ z. option_map {U = FoundSector} (λ (j : JournalSector). (sector, j)) (if z then option_map (with_head h) (content_read h (take h.used (drop 24 bytes))) else None)) every
    ∙ map_map (λ (j : JournalSector). (sector, j)) (with_head h) (content_read h (take h.used (drop 24 bytes)))
