-- A block that isn't in memory behind a request wasn't before, and has the bytes that it had.
use Rattle.std.proofs.Common.{◌≡◌, ℕ, ◌+◌, ◌-◌, ◌*◌, ◌/◌, ◌≤◌, ◌<◌, ◌⊎◌, inl, inr, eqb, ltb, Bool, true, false, cond, Option, Some, None, List, ◌++◌, length, max, min, replicate, take, get_or, ap, sym, refl, ◌∙◌, arith, subst}
use Rattle.std.specs.Prelude.{slice_get}
use Rattle.std.proofs.lemmas.Bool.{cases_lt, eqb-false, ltb-true, ltb-false}
use Rattle.std.proofs.lemmas.List.{get_or-append_right, get_or-replicate, get_or-take, get_or_append_left, length-replicate, length-take}
use Rattle.std.proofs.lemmas.Option.{get_or_from_slice_get, slice_get_within, slice_get-get_or}
use Rattle.std.proofs.Common.{length-append}
use Rattle.ufs_model.specs.FileBytes.{place_of, put_at, resized}
use Rattle.ufs_model.specs.FileCalls.{bytes_after, file_refusal, file_step, step_by}
use Rattle.ufs_model.specs.declared.data.Desc.{Desc}
use Rattle.ufs_model.specs.declared.data.Errno.{Errno}
use Rattle.ufs_model.specs.declared.data.Op.{Op}
use Rattle.ufs_model.specs.declared.data.Op.TheVariants as op
use Rattle.ufs_file.specs.Lists.{over}
use Rattle.ufs_file.specs.Content.{AreThere, Content, block_count, own_bytes, grown, shortened, written_over}
use Rattle.ufs_file.specs.Hand.{HasForWrite, HasNeeded, content_after, content_by, content_put, content_sized, lengthened}
use Rattle.ufs_file.proofs.ByteLemmas.{own_agrees, byte_padded, byte_resized, length-resized}
use Rattle.ufs_file.proofs.FilledLemmas.{same_refusal}
use Rattle.ufs_file.proofs.HandLemmas.{length-lengthened, long_bytes, put_bytes}
use Rattle.ufs_file.proofs.CoverLemmas.{length-marked, marked_out, marked_there}
use Rattle.ufs_file.proofs.NeededLemmas.{cut_there, long_there}
use Rattle.ufs_file.proofs.OverLemmas.{length-over}
use Rattle.ufs_file.proofs.SpanLemmas.{over-before, over-past}

-- a mark that says no
no_mark : (ms : List Bool) (place : ℕ) → place < length ms → get_or ms place true ≡ false → slice_get ms place ≡ Some false
no_mark ms place less is = slice_get-get_or ms place true less ∙ ap (λ (b : Bool). Some b) is

not_there : (ms : List Bool) (place : ℕ) → slice_get ms place ≡ Some true → slice_get ms place ≡ Some false → ⊥
not_there ms place is off = let both : Some true ≡ Some false = sym is ∙ off in absurd cc

module _ (c : Content) (size place : ℕ) where
  grown_away : slice_get (c.there ++ replicate (block_count size - length c.there) true) place ≡ Some false → slice_get c.there place ≡ Some false
  grown_away e = at (cases_lt place (length c.there))
    where
      here : get_or (c.there ++ replicate (block_count size - length c.there) true) place true ≡ false
      here = get_or_from_slice_get (c.there ++ replicate (block_count size - length c.there) true) place false true e

      at : (place < length c.there) ⊎ (length c.there ≤ place) → slice_get c.there place ≡ Some false
      at (inl less) = no_mark c.there place less (sym (get_or_append_left c.there (replicate (block_count size - length c.there) true) true place less) ∙ here)
      at (inr past) =
          let n : ℕ = block_count size - length c.there in
          let under : place < length c.there + n =
          omega (arith, slice_get_within (c.there ++ replicate n true) place false e, length-append c.there (replicate n true), length-replicate {A = Bool} n true) in
          let both : true ≡ false = sym (get_or-append_right c.there (replicate n true) (length c.there) place true refl past ∙ get_or-replicate n (place - length c.there) true true (omega (arith, under, past))) ∙ here in
          absurd cc

  away_long : slice_get (lengthened c size).there place ≡ Some false → slice_get c.there place ≡ Some false
  away_long is = by (ltb (length c.bytes) size) is
    where
      by : (b : Bool) → slice_get (cond {A = Content} b (grown c size) c).there place ≡ Some false → slice_get c.there place ≡ Some false
      by true e = grown_away e
      by false e = e

-- the block wasn't in memory either, and has the same bytes
abbrev pub WasAway : Content → List ℕ → List ℕ → ℕ → Type 0
WasAway c bytes after place = (slice_get c.there place ≡ Some false) × (own_bytes after place ≡ own_bytes bytes place)

module _ (c : Content) (bytes : List ℕ) (long : length bytes ≡ length c.bytes) (count : length c.there ≡ block_count (length c.bytes)) (place : ℕ) where
  abbrev other : Content
  other = record c { bytes = bytes }

  long_same : (size k : ℕ) → get_or (lengthened other size).bytes k 0 ≡ get_or bytes k 0
  long_same size k = ap (λ (l : List ℕ). get_or l k 0) (long_bytes other size) ∙ byte_padded bytes (size - length bytes) k

  -- A block that isn't in memory lies before that in which the file ends, where this one is.
  whole_block : AreThere c.there (length c.bytes / 4096) (block_count (length c.bytes)) → slice_get c.there place ≡ Some false → 4096 * place + 4096 ≤ length c.bytes
  whole_block ending was = by (cases_lt place (length c.bytes / 4096))
    where
      by : (place < length c.bytes / 4096) ⊎ (length c.bytes / 4096 ≤ place) → 4096 * place + 4096 ≤ length c.bytes
      by (inl less) = omega (arith, less)
      by (inr from) = absurd (not_there c.there place (ending place from (omega (arith, count, slice_get_within c.there place false was))) was)

  module _ (at : ℕ) (fresh : List ℕ) where
    fits : at + length fresh ≤ length (lengthened other (at + length fresh)).bytes
    fits = omega (arith, length-lengthened other (at + length fresh))

    length-put : length (over (lengthened other (at + length fresh)).bytes at fresh) ≡ max (length bytes) (at + length fresh)
    length-put = length-over (lengthened other (at + length fresh)).bytes at fresh fits ∙ length-lengthened other (at + length fresh)

    -- a block that isn't in memory ends where it did
    put_ends : 0 < length fresh → HasForWrite c at (length fresh) → slice_get c.there place ≡ Some false → (place < at / 4096) ⊎ (block_count (at + length fresh) ≤ place)
        → min (length (over (lengthened other (at + length fresh)).bytes at fresh)) (4096 * place + 4096) ≡ min (length bytes) (4096 * place + 4096)
    put_ends some needed was side = by (cases_lt (length c.bytes) (at + length fresh))
      where
        under : place < block_count (length c.bytes)
        under = omega (arith, count, slice_get_within c.there place false was)

        -- the block in which the file ends is cut, if it lies before those that are written
        whole : length c.bytes < at + length fresh → (place < at / 4096) ⊎ (block_count (at + length fresh) ≤ place) → (place < length c.bytes / 4096) ⊎ (length c.bytes / 4096 ≤ place)
            → 4096 * place + 4096 ≤ length c.bytes
        whole longer _ (inl less) = omega (arith, less)
        whole longer (inl below) (inr from) =
            absurd (not_there c.there place (cut_there c at (length fresh) some needed place (omega (arith, from)) (omega (arith, under, longer)) (inl (omega (arith, below, under)))) was)
        whole longer (inr past) (inr from) = absurd (omega (arith, past, under, longer))

        by : (length c.bytes < at + length fresh) ⊎ (at + length fresh ≤ length c.bytes)
            → min (length (over (lengthened other (at + length fresh)).bytes at fresh)) (4096 * place + 4096) ≡ min (length bytes) (4096 * place + 4096)
        by (inl longer) =
            let inside = whole longer side (cases_lt place (length c.bytes / 4096)) in
            omega (arith, length-put, long, inside)
        by (inr within) = omega (arith, length-put, long, within)

    -- a block beside those that are written
    beside : min (length (over (lengthened other (at + length fresh)).bytes at fresh)) (4096 * place + 4096) ≡ min (length bytes) (4096 * place + 4096)
        → (place < at / 4096) ⊎ (block_count (at + length fresh) ≤ place) → own_bytes (put_at bytes at fresh) place ≡ own_bytes bytes place
    beside ends side =
        ap (λ (l : List ℕ). own_bytes l place) (sym (put_bytes other at fresh)) ∙ own_agrees (over (lengthened other (at + length fresh)).bytes at fresh) bytes place ends (λ k low high. each k low high side)
      where
        each : (k : ℕ) → 4096 * place ≤ k → k < 4096 * place + 4096 → (place < at / 4096) ⊎ (block_count (at + length fresh) ≤ place)
            → get_or (over (lengthened other (at + length fresh)).bytes at fresh) k 0 ≡ get_or bytes k 0
        each k low high (inl less) =
            over-before (lengthened other (at + length fresh)).bytes fresh at k 0 fits (omega (arith, high, less)) ∙ long_same (at + length fresh) k
        each k low high (inr past) =
            over-past (lengthened other (at + length fresh)).bytes fresh at k 0 fits (omega (arith, low, past)) ∙ long_same (at + length fresh) k

    put_away : HasForWrite c at (length fresh) → slice_get (content_put c at fresh).there place ≡ Some false
        → WasAway c bytes (cond (eqb (length fresh) 0) bytes (put_at bytes at fresh)) place
    put_away needed = by (eqb (length fresh) 0) refl
      where
        by : (b : Bool) → eqb (length fresh) 0 ≡ b → slice_get (cond {A = Content} b c (written_over (lengthened c (at + length fresh)) at fresh)).there place ≡ Some false
            → WasAway c bytes (cond b bytes (put_at bytes at fresh)) place
        by true e is = (is, refl)
        by false e is =
            (let some : length fresh ≡ 0 → ⊥ = eqb-false (length fresh) 0 e in
            let out = side is (cases_lt place (at / 4096)) (cases_lt place (block_count (at + length fresh))) in
            let was = away_long c (at + length fresh) place (old is out) in
            (was, beside (put_ends (omega (arith, some)) needed was out) out))
          where
            ms : List Bool
            ms = (lengthened c (at + length fresh)).there

            from : ℕ
            from = at / 4096

            to : ℕ
            to = block_count (at + length fresh)

            room : block_count (at + length fresh) ≤ length (lengthened c (at + length fresh)).there
            room = long_there c (at + length fresh) count

            side : slice_get (over ms from (replicate (to - from) true)) place ≡ Some false → (place < at / 4096) ⊎ (at / 4096 ≤ place)
                → (place < block_count (at + length fresh)) ⊎ (block_count (at + length fresh) ≤ place) → (place < at / 4096) ⊎ (block_count (at + length fresh) ≤ place)
            side is (inl less) _ = inl less
            side is (inr low) (inl less) = absurd (not_there (over ms from (replicate (to - from) true)) place (marked_there ms from to room place low less) is)
            side is (inr low) (inr past) = inr past

            old : slice_get (over ms from (replicate (to - from) true)) place ≡ Some false → (place < at / 4096) ⊎ (block_count (at + length fresh) ≤ place) → slice_get ms place ≡ Some false
            old is out = no_mark ms place
                (omega (arith, slice_get_within (over ms from (replicate (to - from) true)) place false is, length-marked ms from to room))
                (sym (marked_out ms from to room place true out) ∙ get_or_from_slice_get (over ms from (replicate (to - from) true)) place false true is)

  module _ (size : ℕ) where
    cut_away : size < length c.bytes → AreThere c.there (min size (length c.bytes) / 4096) (block_count (min size (length c.bytes))) → slice_get (take (block_count size) c.there) place ≡ Some false
        → WasAway c bytes (resized bytes size) place
    cut_away shorter needed is =
        (let below = under (cases_lt place (size / 4096)) in
        (was, own_agrees (resized bytes size) bytes place (omega (arith, below, length-resized bytes size, long, shorter)) (λ k low high. byte_resized bytes size k (omega (arith, below, high)))))
      where
        less : place < block_count size
        less = omega (arith, slice_get_within (take (block_count size) c.there) place false is, length-take (block_count size) c.there)

        was : slice_get c.there place ≡ Some false
        was = no_mark c.there place (omega (arith, slice_get_within (take (block_count size) c.there) place false is, length-take (block_count size) c.there))
            (sym (get_or-take (block_count size) c.there place true less) ∙ get_or_from_slice_get (take (block_count size) c.there) place false true is)

        under : (place < size / 4096) ⊎ (size / 4096 ≤ place) → place < size / 4096
        under (inl less) = less
        under (inr from) = absurd (not_there c.there place (needed place (omega (arith, from, shorter)) (omega (arith, less, shorter))) was)

    longer_away : length c.bytes ≤ size → AreThere c.there (min size (length c.bytes) / 4096) (block_count (min size (length c.bytes))) → slice_get (lengthened c size).there place ≡ Some false
        → WasAway c bytes (resized bytes size) place
    longer_away longer needed is =
        (let was = away_long c size place is in
        let same : min size (length c.bytes) ≡ length c.bytes = omega (arith, longer) in
        let inside = whole_block (subst (λ (n : ℕ). AreThere c.there (n / 4096) (block_count n)) same needed) was in
        (was, own_agrees (resized bytes size) bytes place (omega (arith, inside, length-resized bytes size, long, longer)) (λ k low high. byte_resized bytes size k (omega (arith, high, inside, longer)))))

    sized_away : AreThere c.there (min size (length c.bytes) / 4096) (block_count (min size (length c.bytes))) → slice_get (content_sized c size).there place ≡ Some false → WasAway c bytes (resized bytes size) place
    sized_away needed = by (ltb size (length c.bytes)) refl
      where
        by : (b : Bool) → ltb size (length c.bytes) ≡ b → slice_get (cond b (shortened c size) (lengthened c size)).there place ≡ Some false → WasAway c bytes (resized bytes size) place
        by true e is = cut_away (ltb-true size (length c.bytes) e) needed is
        by false e is = longer_away (ltb-false size (length c.bytes) e) needed is

  after_away : (d : Desc) (request : Op) → HasNeeded c d request → slice_get (content_after c d request).there place ≡ Some false → WasAway c bytes (bytes_after bytes d request) place
  after_away d (op.Write fd fresh) needed is =
      subst (λ (n : ℕ). WasAway c bytes (cond (eqb (length fresh) 0) bytes (put_at bytes (cond d.append n d.at) fresh)) place) (sym long) (put_away (place_of d c.bytes) fresh (λ p low less cut. needed p (record { from = low; below = less; used = cut })) is)
  after_away d (op.Pwrite fd fresh at) needed is = put_away at fresh (λ p low less cut. needed p (record { from = low; below = less; used = cut })) is
  after_away d (op.Trunc fd size) needed is = sized_away size (λ p low less. needed p (record { from = low; below = less; used = tt })) is
  after_away d (op.Read fd n) needed is = (is, refl)
  after_away d (op.Pread fd n at) needed is = (is, refl)
  after_away d (op.Seek fd from by) needed is = (is, refl)
  after_away d (op.OpenFile path read write creat excl trunc append) needed is = (is, refl)
  after_away d (op.Close fd) needed is = (is, refl)
  after_away d (op.Fsync fd) needed is = (is, refl)
  after_away d op.Sync needed is = (is, refl)
  after_away d (op.Mkdir path) needed is = (is, refl)
  after_away d (op.Rmdir path) needed is = (is, refl)
  after_away d (op.Unlink path) needed is = (is, refl)
  after_away d (op.Rename from to) needed is = (is, refl)
  after_away d (op.Stat path) needed is = (is, refl)
  after_away d (op.List path) needed is = (is, refl)

  by_away : (d : Desc) (request : Op) (o : Option Errno) → (o ≡ None → HasNeeded c d request) → slice_get (content_by c d request o).there place ≡ Some false → WasAway c bytes (step_by bytes d request o).bytes place
  by_away d request (Some e) needed is = (is, refl)
  by_away d request None needed is = after_away d request (needed refl) is

  pub step_away : (d : Desc) (request : Op) → (file_refusal c.bytes d request ≡ None → HasNeeded c d request) → slice_get (content_by c d request (file_refusal c.bytes d request)).there place ≡ Some false
      → WasAway c bytes (file_step bytes d request).bytes place
  step_away d request needed is =
      subst (λ (o : Option Errno). WasAway c bytes (step_by bytes d request o).bytes place) (sym (same_refusal bytes c.bytes d request long))
      (by_away d request (file_refusal c.bytes d request) needed is)
