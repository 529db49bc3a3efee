-- The own bytes of a list's blocks, and of those of a file.
use Rattle.std.proofs.Common.{◌≡◌, ℕ, suc, ◌+◌, ◌-◌, ◌*◌, ◌/◌, ◌≤◌, ◌<◌, true, Some, List, [], drop, length, min, take, get_or, ap, sym, ◌∙◌, arith}
use Rattle.std.specs.Prelude.{slice_get}
use Rattle.std.proofs.lemmas.List.{drop-drop, ext_get_or, get_or-drop, get_or-take, length-drop, length-take, nil_from_length}
use Rattle.ufs_file.specs.Content.{Content, IsContentOf, block_bytes, own_bytes}
use Rattle.ufs_file.proofs.ByteLemmas.{agrees_in_block, block_agrees, part_agrees}

-- how many
pub length-own : (xs : List ℕ) (place : ℕ) → length (own_bytes xs place) ≡ min 4096 (length xs - 4096 * place)
length-own xs place = length-take 4096 (drop (4096 * place) xs) ∙ ap (min 4096) (length-drop (4096 * place) xs)

-- those of one block after another
pub own_next : (xs : List ℕ) (place : ℕ) → own_bytes (drop 4096 xs) place ≡ own_bytes xs (suc place)
own_next xs place =
    let e : 4096 + 4096 * place ≡ 4096 * suc place = omega arith in
    ap (take 4096) (drop-drop (4096 * place) 4096 xs ∙ ap (λ j. drop j xs) e)

-- behind the end none
pub own_past : (xs : List ℕ) (place : ℕ) → length xs ≤ 4096 * place → own_bytes xs place ≡ []
own_past xs place past = nil_from_length (own_bytes xs place) (omega (arith, past, length-own xs place))

own_byte : (xs : List ℕ) (place k : ℕ) → 4096 * place ≤ k → k < 4096 * place + 4096 → get_or (own_bytes xs place) (k - 4096 * place) 0 ≡ get_or xs k 0
own_byte xs place k low high =
    let e : 4096 * place + (k - 4096 * place) ≡ k = omega (arith, low) in
    get_or-take 4096 (drop (4096 * place) xs) (k - 4096 * place) 0 (omega (arith, low, high)) ∙ get_or-drop (4096 * place) xs (k - 4096 * place) 0 ∙ ap (λ j. get_or xs j 0) e

own_agrees : (xs ys : List ℕ) (place k : ℕ) → own_bytes xs place ≡ own_bytes ys place → 4096 * place ≤ k → k < 4096 * place + 4096 → get_or xs k 0 ≡ get_or ys k 0
own_agrees xs ys place k same low high = sym (own_byte xs place k low high) ∙ ap (λ l. get_or l (k - 4096 * place) 0) same ∙ own_byte ys place k low high

-- Lists of one length with the same own bytes in each block are one.
pub own_determine : (xs ys : List ℕ) → length xs ≡ length ys → ((place : ℕ) → own_bytes xs place ≡ own_bytes ys place) → xs ≡ ys
own_determine xs ys long same = ext_get_or 0 xs ys long (λ k less. own_agrees xs ys (k / 4096) k (same (k / 4096)) (omega arith) (omega arith))

-- ---- whole blocks, with zeros behind the end

pub block_of_own : (xs ys : List ℕ) (place : ℕ) → own_bytes xs place ≡ own_bytes ys place → block_bytes xs place ≡ block_bytes ys place
block_of_own xs ys place same = block_agrees xs ys place (λ k low high. own_agrees xs ys place k same low high)

pub own_of_block : (xs ys : List ℕ) (place : ℕ) → length xs ≡ length ys → block_bytes xs place ≡ block_bytes ys place → own_bytes xs place ≡ own_bytes ys place
own_of_block xs ys place long same = part_agrees xs ys (4096 * place) 4096 long (λ k low high inside. agrees_in_block xs ys place k same low high)

-- These may be a file's bytes where there are as many, and the own bytes of each block that is in memory are the same.
pub content_of_own : (c : Content) (bytes : List ℕ) → length bytes ≡ length c.bytes → ((place : ℕ) → slice_get c.there place ≡ Some true → own_bytes bytes place ≡ own_bytes c.bytes place) → IsContentOf c bytes
content_of_own c bytes long same = record { long = long; same = λ place there. block_of_own bytes c.bytes place (same place there) }

pub own_of_content : (c : Content) (bytes : List ℕ) → IsContentOf c bytes → (place : ℕ) → slice_get c.there place ≡ Some true → own_bytes bytes place ≡ own_bytes c.bytes place
own_of_content c bytes may place there = own_of_block bytes c.bytes place may.long (may.same place there)
