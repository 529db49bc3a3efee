-- What a sector is the spelling of is read by its head, its content and the zeros behind it.
use Rattle.std.proofs.Common.{◌≡◌, ℕ, zero, suc, ◌+◌, ◌-◌, ◌^◌, ◌<◌, ◌≤◌, List, [], ◌++◌, true, Option, Some, None, length, take, drop, replicate, refl, ap, sym, ◌∙◌, arith}
use Rattle.std.specs.Prelude.{if◌then◌else◌, nat_le}
use Rattle.std.specs.List.{list_all}
use Rattle.std.specs.Option.{option_map}
use Rattle.std.proofs.lemmas.Bool.{and_parts, leb-true, eq-eqb}
use Rattle.std.proofs.lemmas.List.{take_at, drop_at, length-append}
use Rattle.byteorder.specs.Endian.{little_bytes}
use Rattle.byteorder.specs.Numbers.{little_from-bytes, little_number-reads_back}
use Rattle.ufs_base.specs.Choices.{some_if}
use Rattle.ufs_layout.specs.Words.{number_at, is_zeros}
use Rattle.ufs_layout.specs.Records.{records_bytes, records_of, record_fields, is_record}
use Rattle.ufs_layout.specs.JournalHead.{header_bytes, header_fields, header_of, is_header}
use Rattle.ufs_layout.specs.JournalSector.{SectorContent, HasRecords, HasCommit, JournalSector, head_in, journal_bytes, journal_fields, journal_of, is_journal_sector}
use Rattle.ufs_layout.specs.declared.header.Header.{Header}
use Rattle.ufs_layout.specs.declared.records.LogRecord.{LogRecord}
use Rattle.ufs_layout.proofs.Compared.{number-back}
use Rattle.ufs_layout.proofs.Spelled.{spelled-some, spelled-spelling, some_if-some}
use Rattle.ufs_found.specs.Parts.{commit_read, content_read, with_head}

abbrev pub behind_head : List ℕ → Header → Option JournalSector
behind_head bytes h = if is_zeros (drop (24 + h.used) bytes) then option_map (with_head h) (content_read h (take h.used (drop 24 bytes))) else None

abbrev pub by_head : List ℕ → Option Header → Option JournalSector
by_head bytes None = None
by_head bytes (Some h) = behind_head bytes h

abbrev pub journal_read : List ℕ → Option JournalSector
journal_read bytes = by_head bytes (header_of (take 24 bytes))

-- ---- from the spelling

zeros_are : (n : ℕ) → is_zeros (replicate n 0) ≡ true
zeros_are zero = refl
zeros_are (suc n) = zeros_are n

-- a number that is read back fits
pub small_2 : (x y : ℕ) (rest : List ℕ) → number_at 2 0 (little_bytes 2 x ++ rest) ≡ y → y ≡ x → x < 2 ^ 16
small_2 x y rest is same = let e = little_from-bytes 2 0 x rest in omega (arith, e, is, same)

pub small_4 : (x y : ℕ) (rest : List ℕ) → number_at 4 0 (little_bytes 4 x ++ rest) ≡ y → y ≡ x → x < 2 ^ 32
small_4 x y rest is same = let e = little_from-bytes 4 0 x rest in omega (arith, e, is, same)

pub small_8 : (x y : ℕ) (rest : List ℕ) → number_at 8 0 (little_bytes 8 x ++ rest) ≡ y → y ≡ x → x < 2 ^ 64
small_8 x y rest is same = let e = little_from-bytes 8 0 x rest in omega (arith, e, is, same)

abbrev content_records : SectorContent → List LogRecord
content_records (HasRecords rs) = rs
content_records (HasCommit m) = []

abbrev content_number : SectorContent → ℕ
content_number (HasRecords rs) = 0
content_number (HasCommit m) = m

back : (j : JournalSector) (bytes : List ℕ) → journal_of bytes ≡ Some j → journal_fields (journal_bytes j) ≡ j
back j bytes is = sym (ap journal_fields (spelled-some journal_fields journal_bytes is_journal_sector bytes j is).0) ∙ (some_if-some _ (journal_fields bytes) j is).1

commit_there : (e t k m : ℕ) (bytes : List ℕ) → journal_of bytes ≡ Some (record { epoch = e; txn = t; index = k; content = HasCommit m }) → journal_read bytes ≡ Some (record { epoch = e; txn = t; index = k; content = HasCommit m })
commit_there e t k m bytes is =
    let j : JournalSector = record { epoch = e; txn = t; index = k; content = HasCommit m } in
    let same = spelled-some journal_fields journal_bytes is_journal_sector bytes j is in
    let again : journal_fields (journal_bytes j) ≡ j = back j bytes is in
    let front : take 24 bytes ≡ header_bytes (head_in j) = ap (take 24) same.0 in
    let fields : header_fields (header_bytes (head_in j)) ≡ head_in j = λ i. record { epoch = (again i).epoch; txn = (again i).txn; index = (again i).index; kind = 2; used = 12 } in
    let form = (and_parts (is_header (head_in j)) true same.1).0 in
    let head : header_of (take 24 bytes) ≡ Some (head_in j) = ap header_of front ∙ spelled-spelling header_fields header_bytes is_header (head_in j) fields form in
    let zeros : is_zeros (drop 36 bytes) ≡ true = ap (λ b. is_zeros (drop 36 b)) same.0 ∙ zeros_are 476 in
    let content : take 12 (drop 24 bytes) ≡ little_bytes 4 k ++ little_bytes 8 m = ap (λ b. take 12 (drop 24 b)) same.0 in
    let less : k < 2 ^ 16 = small_2 k _ [] refl (ap (λ (q : JournalSector). q.index) again) in
    let counted : number_at 4 0 (little_bytes 4 k ++ little_bytes 8 m) ≡ k = little_number-reads_back 4 k (little_bytes 8 m) (omega (arith, less)) in
    let number : number_at 8 4 (little_bytes 4 k ++ little_bytes 8 m) ≡ m = ap (λ (q : JournalSector). content_number q.content) again in
    ap (by_head bytes) head
    ∙ (λ i. if zeros i then option_map (with_head (head_in j)) (option_map HasCommit (commit_read k (content i))) else None)
    ∙ (λ i. option_map (with_head (head_in j)) (option_map HasCommit (some_if (eq-eqb _ k counted i) (number i))))

records_there : (e t k : ℕ) (rs : List LogRecord) (bytes : List ℕ) → journal_of bytes ≡ Some (record { epoch = e; txn = t; index = k; content = HasRecords rs }) → journal_read bytes ≡ Some (record { epoch = e; txn = t; index = k; content = HasRecords rs })
records_there e t k rs bytes is =
    let j : JournalSector = record { epoch = e; txn = t; index = k; content = HasRecords rs } in
    let u : ℕ = length (records_bytes rs) in
    let same = spelled-some journal_fields journal_bytes is_journal_sector bytes j is in
    let again : journal_fields (journal_bytes j) ≡ j = back j bytes is in
    let parts = and_parts (is_header (head_in j)) (list_all is_record rs) same.1 in
    let few : length (records_bytes rs) ≤ 488 = leb-true (length (records_bytes rs)) 488 (and_parts (nat_le 1 t) (nat_le (length (records_bytes rs)) 488) parts.0).1 in
    let used : number_at 2 0 (little_bytes 2 (length (records_bytes rs))) ≡ length (records_bytes rs) = number-back 2 (length (records_bytes rs)) (omega arith) in
    let front : take 24 bytes ≡ header_bytes (head_in j) = ap (take 24) same.0 in
    let fields : header_fields (header_bytes (head_in j)) ≡ head_in j = λ i. record { epoch = (again i).epoch; txn = (again i).txn; index = (again i).index; kind = 1; used = used i } in
    let head : header_of (take 24 bytes) ≡ Some (head_in j) = ap header_of front ∙ spelled-spelling header_fields header_bytes is_header (head_in j) fields parts.0 in
    let rest : List ℕ = replicate (512 - length (header_bytes (head_in j) ++ records_bytes rs)) 0 in
    let zeros : is_zeros (drop (24 + length (records_bytes rs)) bytes) ≡ true = ap (λ b. is_zeros (drop (24 + length (records_bytes rs)) b)) same.0
    ∙ ap is_zeros (drop_at (header_bytes (head_in j) ++ records_bytes rs) rest (24 + length (records_bytes rs)) (omega (arith, length-append (header_bytes (head_in j)) (records_bytes rs)))) ∙ zeros_are (512 - length (header_bytes (head_in j) ++ records_bytes rs)) in
    let content : take (length (records_bytes rs)) (drop 24 bytes) ≡ records_bytes rs = ap (λ b. take (length (records_bytes rs)) (drop 24 b)) same.0 ∙ take_at (records_bytes rs) rest (length (records_bytes rs)) refl in
    let inside : take (number_at 2 16 (journal_bytes j)) (drop 24 (journal_bytes j)) ≡ records_bytes rs = ap (λ n. take n (drop 24 (journal_bytes j))) used ∙ take_at (records_bytes rs) rest (length (records_bytes rs)) refl in
    let read : record_fields (length (records_bytes rs)) (records_bytes rs) ≡ rs = sym (ap (λ c. record_fields (length c) c) inside) ∙ ap (λ (q : JournalSector). content_records q.content) again in
    ap (by_head bytes) head
    ∙ (λ i. if zeros i then option_map (with_head (head_in j)) (option_map HasRecords (records_of (content i))) else None)
    ∙ ap (λ o. option_map (with_head (head_in j)) (option_map HasRecords o)) (spelled-spelling (record_fields (length (records_bytes rs))) records_bytes (list_all is_record) rs read parts.1)

pub spelled_is_read : (j : JournalSector) (bytes : List ℕ) → journal_of bytes ≡ Some j → journal_read bytes ≡ Some j
spelled_is_read j bytes is = by j.content is
  where
    by : (c : SectorContent) → journal_of bytes ≡ Some (record { epoch = j.epoch; txn = j.txn; index = j.index; content = c }) → journal_read bytes ≡ Some (record { epoch = j.epoch; txn = j.txn; index = j.index; content = c })
    by (HasRecords rs) is = records_there j.epoch j.txn j.index rs bytes is
    by (HasCommit m) is = commit_there j.epoch j.txn j.index m bytes is
