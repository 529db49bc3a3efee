-- What a request leaves of a file's bytes and marks: a block that isn't marked afterwards wasn't before, and has the bytes that
-- the file had there, as many.
use Rattle.std.proofs.Common.{◌≡◌, ℕ, zero, suc, ◌+◌, ◌-◌, ◌<◌, ◌≤◌, ◌⊎◌, inl, inr, List, [], ◌∷◌, ◌++◌, Bool, true, false, Option, Some, None, length, min, take, replicate, get_or, ap, sym, refl, ◌∙◌, arith, append_assoc, length-append}
use Rattle.std.specs.Prelude.{◌==◌, ◌*◌, ◌/◌, ◌%◌, drop, nat_lt, if◌then◌else◌}
use Rattle.std.proofs.lemmas.Bool.{cases_lt}
use Rattle.std.proofs.lemmas.List.{get_or-append_right, get_or-drop, get_or-replicate, get_or-take, get_or_append_left, length-drop, length-replicate, length-take, length-take-le, take_all}
use Rattle.ufs_file.specs.Content.{Content, block_bytes, block_count, grown, own_bytes, shortened, written_over}
use Rattle.ufs_file.specs.Hand.{content_after, content_by, content_put, content_sized, lengthened}
use Rattle.ufs_file.specs.Lists.{over}
use Rattle.ufs_file.proofs.ByteLemmas.{own_agrees}
use Rattle.ufs_file.proofs.HandLemmas.{length-lengthened}
use Rattle.ufs_file.proofs.OverLemmas.{length-over}
use Rattle.ufs_model.specs.FileBytes.{place_of}
use Rattle.ufs_model.specs.declared.data.Desc.{Desc}
use Rattle.ufs_model.specs.declared.data.Errno.{Errno}
use Rattle.ufs_model.specs.declared.data.Op.{Op}
use Rattle.ufs_model.specs.declared.data.Op.TheVariants as op

-- ---- places, with what stands past the end

past_end : {X : Type 0} (xs : List X) (i : ℕ) (d : X) → length xs ≤ i → get_or xs i d ≡ d
past_end [] i d le = refl
past_end (x ∷ xs) zero d le = absurd (omega (arith, le))
past_end (x ∷ xs) (suc i) d le = past_end xs i d (omega (arith, le))

-- more of what stands past the end changes nothing
padded : {X : Type 0} (xs : List X) (n i : ℕ) (d : X) → get_or (xs ++ replicate n d) i d ≡ get_or xs i d
padded {X} xs n i d = by (cases_lt i (length xs))
  where
    behind : (k : ℕ) → get_or (replicate n d) k d ≡ d
    behind k = at (cases_lt k n)
      where
        at : (k < n) ⊎ (n ≤ k) → get_or (replicate n d) k d ≡ d
        at (inl less) = get_or-replicate n k d d less
        at (inr le) = past_end (replicate n d) k d (omega (arith, le, length-replicate {A = X} n d))

    by : (i < length xs) ⊎ (length xs ≤ i) → get_or (xs ++ replicate n d) i d ≡ get_or xs i d
    by (inl less) = get_or_append_left xs (replicate n d) d i less
    by (inr le) = get_or-append_right xs (replicate n d) (length xs) i d refl le ∙ behind (i - length xs) ∙ sym (past_end xs i d le)

clash : {P : Type 0} (b : Bool) → b ≡ true → b ≡ false → P
clash b on off = let wrong : true ≡ false = sym on ∙ off in absurd cc

-- ---- lists that are written over

front_taken : {X : Type 0} (xs : List X) (n : ℕ) → (length (take n xs) ≤ n) × (length (take n xs) ≤ length xs) × ((length (take n xs) ≡ n) ⊎ (length (take n xs) ≡ length xs))
front_taken xs n = by (cases_lt n (length xs))
  where
    by : (n < length xs) ⊎ (length xs ≤ n) → (length (take n xs) ≤ n) × (length (take n xs) ≤ length xs) × ((length (take n xs) ≡ n) ⊎ (length (take n xs) ≡ length xs))
    by (inl less) = let e = length-take-le n xs (omega (arith, less)) in (omega (arith, e), omega (arith, e, less), inl e)
    by (inr le) = let e = ap length (take_all n xs le) in (omega (arith, e, le), omega (arith, e), inr e)

-- a mark that isn't set was written by no one
unmarked : (old : List Bool) (a m p : ℕ) → get_or (over old a (replicate m true)) p true ≡ false → (get_or old p true ≡ false) × ((p < a) ⊎ (a + m ≤ p))
unmarked old a m p off = by (cases_lt p (length (take a old)))
  where
    n : ℕ
    n = length (take a old)

    rest : List Bool
    rest = replicate m true ++ drop (a + length (replicate m true)) old

    split : get_or (over old a (replicate m true)) p true ≡ get_or (take a old ++ rest) p true
    split = ap (λ (l : List Bool). get_or l p true) (append_assoc (take a old) (replicate m true) (drop (a + length (replicate m true)) old))

    size : length (replicate m true) ≡ m
    size = length-replicate m true

    inside : m ≤ p - n → n ≤ p → (get_or old p true ≡ false) × ((p < a) ⊎ (a + m ≤ p))
    inside more le =
        let there : get_or (over old a (replicate m true)) p true ≡ get_or old (a + length (replicate m true) + (p - n - m)) true =
        split ∙ get_or-append_right (take a old) rest n p true refl le ∙ get_or-append_right (replicate m true) (drop (a + length (replicate m true)) old) m (p - n) true size more
        ∙ get_or-drop (a + length (replicate m true)) old (p - n - m) true in
        at there (front_taken old a).2
      where
        at : get_or (over old a (replicate m true)) p true ≡ get_or old (a + length (replicate m true) + (p - n - m)) true → (n ≡ a) ⊎ (n ≡ length old) → (get_or old p true ≡ false) × ((p < a) ⊎ (a + m ≤ p))
        at there (inl whole) =
            let same : a + length (replicate m true) + (p - n - m) ≡ p = omega (arith, size, whole, more, le) in
            (ap (λ (k : ℕ). get_or old k true) (sym same) ∙ sym there ∙ off, inr (omega (arith, whole, more, le)))
        at there (inr short) =
            let low = (front_taken old a).0 in
            clash (get_or (over old a (replicate m true)) p true) (there ∙ past_end old (a + length (replicate m true) + (p - n - m)) true (omega (arith, short, low))) off

    by : (p < n) ⊎ (n ≤ p) → (get_or old p true ≡ false) × ((p < a) ⊎ (a + m ≤ p))
    by (inl less) =
        let low : p < a = (let most = (front_taken old a).0 in omega (arith, less, most)) in
        (sym (split ∙ get_or_append_left (take a old) rest true p less ∙ get_or-take a old p true low) ∙ off, inl low)
    by (inr le) = middle (cases_lt (p - n) m)
      where
        middle : (p - n < m) ⊎ (m ≤ p - n) → (get_or old p true ≡ false) × ((p < a) ⊎ (a + m ≤ p))
        middle (inl less) = clash (get_or (over old a (replicate m true)) p true)
            (split ∙ get_or-append_right (take a old) rest n p true refl le ∙ get_or_append_left (replicate m true) (drop (a + length (replicate m true)) old) true (p - n) (omega (arith, less, size))
            ∙ get_or-replicate m (p - n) true true less) off
        middle (inr more) = inside more le

-- bytes before and behind those that are written
aside : (old : List ℕ) (a : ℕ) (new : List ℕ) (k : ℕ) → a + length new ≤ length old → (k < a) ⊎ (a + length new ≤ k) → get_or (over old a new) k 0 ≡ get_or old k 0
aside old a new k fits (inl less) =
    let size = length-take-le a old (omega (arith, fits)) in
    ap (λ (l : List ℕ). get_or l k 0) (append_assoc (take a old) new (drop (a + length new) old)) ∙ get_or_append_left (take a old) (new ++ drop (a + length new) old) 0 k (omega (arith, size, less)) ∙ get_or-take a old k 0 less
aside old a new k fits (inr more) =
    let size = length-take-le a old (omega (arith, fits)) in
    let same : a + length new + (k - a - length new) ≡ k = omega (arith, more) in
    ap (λ (l : List ℕ). get_or l k 0) (append_assoc (take a old) new (drop (a + length new) old)) ∙ get_or-append_right (take a old) (new ++ drop (a + length new) old) a k 0 size (omega (arith, more)) ∙ get_or-append_right new (drop (a + length new) old) (length new) (k - a) 0 refl (omega (arith, more))
    ∙ get_or-drop (a + length new) old (k - a - length new) 0 ∙ ap (λ (j : ℕ). get_or old j 0) same

-- what isn't set of the first marks is one of them
of_first : (marks : List Bool) (k place : ℕ) → get_or (take k marks) place true ≡ false → (place < k) × (get_or marks place true ≡ false)
of_first marks k place is = at (cases_lt place k)
  where
    at : (place < k) ⊎ (k ≤ place) → (place < k) × (get_or marks place true ≡ false)
    at (inl less) = (less, sym (get_or-take k marks place true less) ∙ is)
    at (inr le) = clash (get_or (take k marks) place true) (past_end (take k marks) place true (let most = (front_taken marks k).0 in omega (arith, most, le))) is

-- ---- content

-- The block at the place isn't marked, and the file has there the bytes that it has in another content.
pub record IsStill (c new : Content) (place : ℕ) : Type 0 where
  pub mark : get_or c.dirty place true ≡ false
  pub own : own_bytes new.bytes place ≡ own_bytes c.bytes place

still_same : (c : Content) (place : ℕ) → get_or c.dirty place true ≡ false → IsStill c c place
still_same c place off = record { mark = off; own = refl }

-- The block in which it ended is marked: so one that isn't is whole.
still_lengthened : (c : Content) (size place : ℕ) → get_or (lengthened c size).dirty place true ≡ false → IsStill c (lengthened c size) place
still_lengthened c size place = by (nat_lt (length c.bytes) size)
  where
    k : ℕ
    k = length c.bytes / 4096

    more : List ℕ
    more = replicate (size - length c.bytes) 0

    by : (b : Bool) → get_or (if b then grown c size else c).dirty place true ≡ false → IsStill c (if b then grown c size else c) place
    by true off =
        let was = of_first c.dirty k place (sym (padded (take k c.dirty) (block_count size - k) place true) ∙ off) in
        let whole = was.0 in
        record {
          mark = was.1;
          own = own_agrees (c.bytes ++ more) c.bytes place (omega (arith, whole, length-append c.bytes more)) (λ i _ _. padded c.bytes (size - length c.bytes) i 0);
        }
    by false off = still_same c place off

still_put : (c : Content) (at : ℕ) (fresh : List ℕ) (place : ℕ) → get_or (content_put c at fresh).dirty place true ≡ false → IsStill c (content_put c at fresh) place
still_put c at fresh place = by (length fresh == 0)
  where
    long : Content
    long = lengthened c (at + length fresh)

    fits : at + length fresh ≤ length long.bytes
    fits = omega (arith, length-lengthened c (at + length fresh))

    by : (b : Bool) → get_or (if b then c else written_over long at fresh).dirty place true ≡ false → IsStill c (if b then c else written_over long at fresh) place
    by true off = still_same c place off
    by false off =
        let mark = unmarked long.dirty (at / 4096) (block_count (at + length fresh) - at / 4096) place off in
        let before = still_lengthened c (at + length fresh) place mark.0 in
        record {
          mark = before.mark;
          own = own_agrees (over long.bytes at fresh) long.bytes place (ap (λ (n : ℕ). min n (4096 * place + 4096)) (length-over long.bytes at fresh fits)) (λ i from under. aside long.bytes at fresh i fits (off_place i from under mark.1))
              ∙ before.own;
        }
      where
        off_place : (i : ℕ) → 4096 * place ≤ i → i < 4096 * place + 4096 → (place < at / 4096) ⊎ (at / 4096 + (block_count (at + length fresh) - at / 4096) ≤ place) → (i < at) ⊎ (at + length fresh ≤ i)
        off_place i from under (inl low) = inl (omega (arith, low, under))
        off_place i from under (inr high) = inr (omega (arith, high, from))

still_cut : (c : Content) (size place : ℕ) → get_or (shortened c size).dirty place true ≡ false → IsStill c (shortened c size) place
still_cut c size place off = by (size % 4096 == 0) off
  where
    k : ℕ
    k = size / 4096

    kept : get_or (take k c.dirty) place true ≡ false → IsStill c (shortened c size) place
    kept is =
        let was = of_first c.dirty k place is in
        let whole = was.0 in
        record { mark = was.1; own = own_agrees (take size c.bytes) c.bytes place (omega (arith, whole, length-take size c.bytes)) (λ i from under. get_or-take size c.bytes i 0 (omega (arith, whole, under))) }

    by : (b : Bool) → get_or (if b then take k c.dirty else take k c.dirty ++ true ∷ []) place true ≡ false → IsStill c (shortened c size) place
    by true is = kept is
    by false is = kept (sym (padded (take k c.dirty) 1 place true) ∙ is)

still_sized : (c : Content) (size place : ℕ) → get_or (content_sized c size).dirty place true ≡ false → IsStill c (content_sized c size) place
still_sized c size place = by (nat_lt size (length c.bytes))
  where
    by : (b : Bool) → get_or (if b then shortened c size else lengthened c size).dirty place true ≡ false → IsStill c (if b then shortened c size else lengthened c size) place
    by true off = still_cut c size place off
    by false off = still_lengthened c size place off

still_after : (c : Content) (d : Desc) (request : Op) (place : ℕ) → get_or (content_after c d request).dirty place true ≡ false → IsStill c (content_after c d request) place
still_after c d (op.Write fd fresh) place off = still_put c (place_of d c.bytes) fresh place off
still_after c d (op.Pwrite fd fresh at) place off = still_put c at fresh place off
still_after c d (op.Trunc fd size) place off = still_sized c size place off
still_after c d (op.OpenFile path read write creat excl trunc append) place off = still_same c place off
still_after c d (op.Close fd) place off = still_same c place off
still_after c d (op.Read fd n) place off = still_same c place off
still_after c d (op.Pread fd n at) place off = still_same c place off
still_after c d (op.Seek fd from by) place off = still_same c place off
still_after c d (op.Fsync fd) place off = still_same c place off
still_after c d op.Sync place off = still_same c place off
still_after c d (op.Mkdir path) place off = still_same c place off
still_after c d (op.Rmdir path) place off = still_same c place off
still_after c d (op.Unlink path) place off = still_same c place off
still_after c d (op.Rename from to) place off = still_same c place off
still_after c d (op.Stat path) place off = still_same c place off
still_after c d (op.List path) place off = still_same c place off

pub still_by : (c : Content) (d : Desc) (request : Op) (o : Option Errno) (place : ℕ) → get_or (content_by c d request o).dirty place true ≡ false → IsStill c (content_by c d request o) place
still_by c d request (Some e) place off = still_same c place off
still_by c d request None place off = still_after c d request place off

-- ---- the bytes of a block, one by one

pub byte_of_block : (bytes : List ℕ) (place i : ℕ) → i < 4096 → get_or (block_bytes bytes place) i 0 ≡ get_or bytes (4096 * place + i) 0
byte_of_block bytes place i less =
    let xs = drop (4096 * place) bytes in
    get_or-take 4096 (xs ++ replicate (4096 - length xs) 0) i 0 less ∙ padded xs (4096 - length xs) i 0 ∙ get_or-drop (4096 * place) bytes i 0

-- The file has as many of them as it has behind the block's start, at most a block.
pub own_inside : (bytes : List ℕ) (place i : ℕ) → i < length (own_bytes bytes place) → (i < 4096) × (4096 * place + i < length bytes)
own_inside bytes place i less =
    let most = length-take 4096 (drop (4096 * place) bytes) in
    let rest = length-drop (4096 * place) bytes in (
      omega (arith, less, most),
      omega (arith, less, most, rest),
    )

pub inside_own : (bytes : List ℕ) (place i : ℕ) → i < 4096 → 4096 * place + i < length bytes → i < length (own_bytes bytes place)
inside_own bytes place i less under = omega (arith, less, under, length-take 4096 (drop (4096 * place) bytes), length-drop (4096 * place) bytes)

pub byte_of_own : (bytes : List ℕ) (place i : ℕ) → i < 4096 → get_or (own_bytes bytes place) i 0 ≡ get_or bytes (4096 * place + i) 0
byte_of_own bytes place i less = get_or-take 4096 (drop (4096 * place) bytes) i 0 less ∙ get_or-drop (4096 * place) bytes i 0

-- The whole block begins with them.
pub own_in_block : (bytes : List ℕ) (place i : ℕ) → i < length (own_bytes bytes place) → get_or (block_bytes bytes place) i 0 ≡ get_or (own_bytes bytes place) i 0
own_in_block bytes place i less = let low = (own_inside bytes place i less).0 in byte_of_block bytes place i low ∙ sym (byte_of_own bytes place i low)
