-- A request that has the blocks that it needs is served alike whatever bytes the others have.
use Rattle.std.proofs.Common.{◌≡◌, ℕ, ◌+◌, ◌-◌, ◌*◌, ◌/◌, ◌≤◌, ◌<◌, ◌⊎◌, inl, inr, eqb, ltb, Bool, true, false, cond, not, Option, Some, None, List, ◌++◌, length, take, replicate, get_or, max, ap, sym, refl, ◌∙◌, arith, subst}
use Rattle.std.specs.Prelude.{slice_get, unwrap_or}
use Rattle.std.proofs.lemmas.Bool.{cases_lt, eqb-false, ltb-true, ltb-false}
use Rattle.std.proofs.lemmas.List.{get_or-take, get_or_append_left, length-take, length-take-le}
use Rattle.std.proofs.lemmas.Option.{get_or_from_slice_get, slice_get_within}
use Rattle.ufs_model.specs.FileBytes.{is_past, part, place_of, put_at, resized, size_after}
use Rattle.ufs_model.specs.FileCalls.{Step, bytes_after, desc_after, file_answer, file_refusal, file_step, place_refusal, step_by, desc_refusal}
use Rattle.ufs_model.specs.Descriptors.{is_offset, seek_to, with_offset}
use Rattle.ufs_base.specs.Choices.{first_of, refused_if}
use Rattle.ufs_model.specs.declared.data.Desc.{Desc}
use Rattle.ufs_model.specs.declared.data.Errno.{Errno}
use Rattle.ufs_model.specs.declared.data.Errno.TheVariants.{Efbig, Einval}
use Rattle.ufs_model.specs.declared.data.Excuse.{Excuse}
use Rattle.ufs_model.specs.declared.data.Op.{Op}
use Rattle.ufs_model.specs.declared.data.Op.TheVariants as op
use Rattle.ufs_model.specs.declared.data.Reply.{Reply}
use Rattle.ufs_model.specs.declared.data.Reply.TheVariants.{Got, At}
use Rattle.ufs_bitmap.specs.Blocks.{BlockSet}
use Rattle.ufs_extent.specs.Runs.{blocks_of}
use Rattle.ufs_file.specs.Lists.{over}
use Rattle.ufs_file.specs.Content.{AreThere, Content, IsContentOf, block_count, grown, shortened, written_over}
use Rattle.ufs_file.specs.Hand.{FileState, HasBlocks, HasForWrite, HasNeeded, IsCause, IsCutBy, IsExcusedFor, IsServedByFile, content_after, content_by, content_put, content_sized, end_within, lengthened, read_from, whole_as}
use Rattle.ufs_file.proofs.ByteLemmas.{agrees_in_block, block_agrees, byte_padded, byte_resized, length-part, length-resized, part_agrees, past_end}
use Rattle.ufs_file.proofs.HandLemmas.{content_bytes, length-lengthened, long_bytes, put_bytes}
use Rattle.ufs_file.proofs.OverLemmas.{length-over}
use Rattle.ufs_file.proofs.AllThere.{after_all}
use Rattle.ufs_file.proofs.CoverLemmas.{marked_out}
use Rattle.ufs_file.proofs.ExcuseLemmas.{size_put, size_sized}
use Rattle.ufs_file.proofs.NeededLemmas.{cut_there, long_there}
use Rattle.ufs_file.proofs.SpanLemmas.{mark_there, over-before, over-inside, over-past}

-- ---- by the size alone

same_place_refusal : (xs ys : List ℕ) (d : Desc) (request : Op) → length xs ≡ length ys → place_refusal xs d request ≡ place_refusal ys d request
same_place_refusal xs ys d (op.Write fd fresh) e = ap (λ (n : ℕ). refused_if (is_past (cond d.append n d.at) fresh) Efbig) e
same_place_refusal xs ys d (op.Pwrite fd fresh at) e = refl
same_place_refusal xs ys d (op.Seek fd from by) e = ap (λ (n : ℕ). refused_if (not (is_offset (seek_to from by d n))) Einval) e
same_place_refusal xs ys d (op.Trunc fd size) e = refl
same_place_refusal xs ys d (op.OpenFile path read write creat excl trunc append) e = refl
same_place_refusal xs ys d (op.Close fd) e = refl
same_place_refusal xs ys d (op.Read fd n) e = refl
same_place_refusal xs ys d (op.Pread fd n at) e = refl
same_place_refusal xs ys d (op.Fsync fd) e = refl
same_place_refusal xs ys d op.Sync e = refl
same_place_refusal xs ys d (op.Mkdir path) e = refl
same_place_refusal xs ys d (op.Rmdir path) e = refl
same_place_refusal xs ys d (op.Unlink path) e = refl
same_place_refusal xs ys d (op.Rename from to) e = refl
same_place_refusal xs ys d (op.Stat path) e = refl
same_place_refusal xs ys d (op.List path) e = refl

pub same_refusal : (xs ys : List ℕ) (d : Desc) (request : Op) → length xs ≡ length ys → file_refusal xs d request ≡ file_refusal ys d request
same_refusal xs ys d request e = ap (first_of (desc_refusal (Some d) request)) (same_place_refusal xs ys d request e)

-- ---- the bytes of blocks that are in memory

pub byte_there : (c : Content) (bytes : List ℕ) → IsContentOf c bytes → (k : ℕ) → slice_get c.there (k / 4096) ≡ Some true → get_or bytes k 0 ≡ get_or c.bytes k 0
byte_there c bytes h k there = agrees_in_block bytes c.bytes (k / 4096) k (h.same (k / 4096) there) (omega arith) (omega arith)

part_there : (c : Content) (bytes : List ℕ) → IsContentOf c bytes → (at n : ℕ) → AreThere c.there (read_from (length c.bytes) at) (end_within (length c.bytes) at n) → part bytes at n ≡ part c.bytes at n
part_there c bytes h at n there =
    part_agrees bytes c.bytes at n h.long (λ k from less inside.
    byte_there c bytes h k (there (k / 4096) (omega (arith, from)) (omega (arith, less, inside))))

-- ---- what a request answers

same_answer : (c : Content) (bytes : List ℕ) → IsContentOf c bytes → (d : Desc) (request : Op) → HasNeeded c d request → file_answer bytes d request ≡ file_answer c.bytes d request
same_answer c bytes h d (op.Read fd n) there = ap Got (part_there c bytes h d.at n (λ place low less. there place (record { from = low; below = less; used = tt })))
same_answer c bytes h d (op.Pread fd n at) there = ap Got (part_there c bytes h at n (λ place low less. there place (record { from = low; below = less; used = tt })))
same_answer c bytes h d (op.Seek fd from by) there = ap (λ (n : ℕ). At (unwrap_or (seek_to from by d n) 0)) h.long
same_answer c bytes h d (op.Write fd fresh) there = refl
same_answer c bytes h d (op.Pwrite fd fresh at) there = refl
same_answer c bytes h d (op.Trunc fd size) there = refl
same_answer c bytes h d (op.OpenFile path read write creat excl trunc append) there = refl
same_answer c bytes h d (op.Close fd) there = refl
same_answer c bytes h d (op.Fsync fd) there = refl
same_answer c bytes h d op.Sync there = refl
same_answer c bytes h d (op.Mkdir path) there = refl
same_answer c bytes h d (op.Rmdir path) there = refl
same_answer c bytes h d (op.Unlink path) there = refl
same_answer c bytes h d (op.Rename from to) there = refl
same_answer c bytes h d (op.Stat path) there = refl
same_answer c bytes h d (op.List path) there = refl

same_desc : (xs ys : List ℕ) (d : Desc) (request : Op) → length xs ≡ length ys → desc_after xs d request ≡ desc_after ys d request
same_desc xs ys d (op.Read fd n) e = ap (λ (k : ℕ). with_offset d (d.at + k)) (length-part xs ys d.at n e)
same_desc xs ys d (op.Write fd fresh) e = ap (λ (n : ℕ). cond (eqb (length fresh) 0) d (with_offset d (cond d.append n d.at + length fresh))) e
same_desc xs ys d (op.Seek fd from by) e = ap (λ (n : ℕ). with_offset d (unwrap_or (seek_to from by d n) 0)) e
same_desc xs ys d (op.Pread fd n at) e = refl
same_desc xs ys d (op.Pwrite fd fresh at) e = refl
same_desc xs ys d (op.Trunc fd size) e = refl
same_desc xs ys d (op.OpenFile path read write creat excl trunc append) e = refl
same_desc xs ys d (op.Close fd) e = refl
same_desc xs ys d (op.Fsync fd) e = refl
same_desc xs ys d op.Sync e = refl
same_desc xs ys d (op.Mkdir path) e = refl
same_desc xs ys d (op.Rmdir path) e = refl
same_desc xs ys d (op.Unlink path) e = refl
same_desc xs ys d (op.Rename from to) e = refl
same_desc xs ys d (op.Stat path) e = refl
same_desc xs ys d (op.List path) e = refl

same_by : (c : Content) (bytes : List ℕ) → IsContentOf c bytes → (d : Desc) (request : Op) → (o : Option Errno) → (o ≡ None → HasNeeded c d request)
    → ((step_by bytes d request o).reply ≡ (step_by c.bytes d request o).reply) × ((step_by bytes d request o).desc ≡ (step_by c.bytes d request o).desc)
same_by c bytes h d request (Some e) there = (refl, refl)
same_by c bytes h d request None there = (same_answer c bytes h d request (there refl), same_desc bytes c.bytes d request h.long)

-- ---- a file with other bytes, all of them in memory

abbrev with_bytes : Content → List ℕ → Content
with_bytes c bytes = record c { bytes = bytes }

-- with these bytes, all in memory
abbrev pub all_in : Content → List ℕ → Content
all_in c bytes = record { bytes = bytes; dirty = c.dirty; there = replicate (length c.dirty) true }

module _ (c : Content) (bytes : List ℕ) (e : length bytes ≡ length c.bytes) where
  abbrev c' : Content
  c' = all_in c bytes

  marks_long : (size : ℕ) → (lengthened c' size).dirty ≡ (lengthened c size).dirty
  marks_long size = ap (λ (n : ℕ). (cond (ltb n size) (grown c' size) c').dirty) e ∙ by (ltb (length c.bytes) size)
    where
      by : (b : Bool) → (cond b (grown c' size) c').dirty ≡ (cond b (grown c size) c).dirty
      by true = ap (λ (n : ℕ). take (n / 4096) c.dirty ++ replicate (block_count size - n / 4096) true) e
      by false = refl

  marks_put : (at : ℕ) (fresh : List ℕ) → (content_put c' at fresh).dirty ≡ (content_put c at fresh).dirty
  marks_put at fresh = by (eqb (length fresh) 0)
    where
      by : (b : Bool) → (cond b c' (written_over (lengthened c' (at + length fresh)) at fresh)).dirty ≡ (cond b c (written_over (lengthened c (at + length fresh)) at fresh)).dirty
      by true = refl
      by false = ap (λ (ms : List Bool). over ms (at / 4096) (replicate (block_count (at + length fresh) - at / 4096) true)) (marks_long (at + length fresh))

  marks_sized : (size : ℕ) → (content_sized c' size).dirty ≡ (content_sized c size).dirty
  marks_sized size = ap (λ (n : ℕ). (cond (ltb size n) (shortened c' size) (lengthened c' size)).dirty) e ∙ by (ltb size (length c.bytes))
    where
      by : (b : Bool) → (cond b (shortened c' size) (lengthened c' size)).dirty ≡ (cond b (shortened c size) (lengthened c size)).dirty
      by true = refl
      by false = marks_long size

  marks_after : (d : Desc) (request : Op) → (content_after c' d request).dirty ≡ (content_after c d request).dirty
  marks_after d (op.Write fd fresh) =
      ap (λ (n : ℕ). (content_put c' (cond d.append n d.at) fresh).dirty) e ∙ marks_put (place_of d c.bytes) fresh
  marks_after d (op.Pwrite fd fresh at) = marks_put at fresh
  marks_after d (op.Trunc fd size) = marks_sized size
  marks_after d (op.Read fd n) = refl
  marks_after d (op.Pread fd n at) = refl
  marks_after d (op.Seek fd from by) = refl
  marks_after d (op.OpenFile path read write creat excl trunc append) = refl
  marks_after d (op.Close fd) = refl
  marks_after d (op.Fsync fd) = refl
  marks_after d op.Sync = refl
  marks_after d (op.Mkdir path) = refl
  marks_after d (op.Rmdir path) = refl
  marks_after d (op.Unlink path) = refl
  marks_after d (op.Rename from to) = refl
  marks_after d (op.Stat path) = refl
  marks_after d (op.List path) = refl

  -- the content that a request leaves, with other bytes
  content_with : length c.dirty ≡ block_count (length c.bytes) → (d : Desc) (request : Op) (o : Option Errno) → all_in (content_by c d request o) (step_by bytes d request o).bytes ≡ content_by c' d request o
  content_with marked d request (Some x) = refl
  content_with marked d request None =
      let marks = marks_after d request in
      let all = after_all c' (marked ∙ ap block_count (sym e)) refl d request in
      let its = content_bytes c' d request in
      λ i. record { bytes = sym its i; dirty = sym marks i; there = (ap (λ (ms : List Bool). replicate (length ms) true) (sym marks) ∙ sym all) i }

-- ---- how the content goes on

-- a block that is in memory behind a growth was there, or lies behind the end
was_there : (c : Content) (size k : ℕ) → length c.there ≡ block_count (length c.bytes) → slice_get (lengthened c size).there (k / 4096) ≡ Some true → k < length c.bytes → slice_get c.there (k / 4096) ≡ Some true
was_there c size k count is inside = by (ltb (length c.bytes) size) is
  where
    by : (b : Bool) → slice_get (cond {A = Content} b (grown c size) c).there (k / 4096) ≡ Some true → slice_get c.there (k / 4096) ≡ Some true
    by true here =
        let place = k / 4096 in
        let less : place < length c.there = omega (arith, count, inside) in
        let more : List Bool = replicate (block_count size - length c.there) true in
        mark_there c.there place (sym (get_or_append_left c.there more false place less) ∙ get_or_from_slice_get (c.there ++ more) place true false here)
    by false here = here

module _ (c : Content) (bytes : List ℕ) (h : IsContentOf c bytes) (count : length c.there ≡ block_count (length c.bytes)) where
  abbrev other : Content
  other = with_bytes c bytes

  same_or_end : (k : ℕ) → (k < length c.bytes → slice_get c.there (k / 4096) ≡ Some true) → get_or bytes k 0 ≡ get_or c.bytes k 0
  same_or_end k there = by (cases_lt k (length c.bytes))
    where
      by : (k < length c.bytes) ⊎ (length c.bytes ≤ k) → get_or bytes k 0 ≡ get_or c.bytes k 0
      by (inl less) = byte_there c bytes h k (there less)
      by (inr past) = past_end bytes k 0 (omega (arith, past, h.long)) ∙ sym (past_end c.bytes k 0 past)

  in_place : (ms : List Bool) (place k : ℕ) → slice_get ms place ≡ Some true → 4096 * place ≤ k → k < 4096 * place + 4096 → slice_get ms (k / 4096) ≡ Some true
  in_place ms place k is low high = (let e : place ≡ k / 4096 = omega (arith, low, high) in ap (slice_get ms) (sym e) ∙ is)

  padded_agrees : (size k : ℕ) → (k < length c.bytes → slice_get c.there (k / 4096) ≡ Some true) → get_or (lengthened other size).bytes k 0 ≡ get_or (lengthened c size).bytes k 0
  padded_agrees size k there =
      ap (λ (l : List ℕ). get_or l k 0) (long_bytes other size) ∙ byte_padded bytes (size - length bytes) k ∙ same_or_end k there
      ∙ sym (ap (λ (l : List ℕ). get_or l k 0) (long_bytes c size) ∙ byte_padded c.bytes (size - length c.bytes) k)

  long_agrees : (size place k : ℕ) → slice_get (lengthened c size).there place ≡ Some true → 4096 * place ≤ k → k < 4096 * place + 4096 → get_or (lengthened other size).bytes k 0 ≡ get_or (lengthened c size).bytes k 0
  long_agrees size place k is low high =
      padded_agrees size k (was_there c size k count (in_place (lengthened c size).there place k is low high))

  module _ (at : ℕ) (fresh : List ℕ) where
    end : ℕ
    end = at + length fresh

    long' : length (lengthened other (at + length fresh)).bytes ≡ max (length bytes) (at + length fresh)
    long' = length-lengthened other (at + length fresh)

    long : length (lengthened c (at + length fresh)).bytes ≡ max (length c.bytes) (at + length fresh)
    long = length-lengthened c (at + length fresh)

    -- a byte beside what is written, in a block in which some is: the write needs it
    beside_there : 0 < length fresh → HasForWrite c at (length fresh) → (place k : ℕ) → at / 4096 ≤ place → place < block_count (at + length fresh) → 4096 * place ≤ k → k < 4096 * place + 4096
        → (k < at) ⊎ (at + length fresh ≤ k) → k < length c.bytes → slice_get c.there (k / 4096) ≡ Some true
    beside_there some needed place k from to low high side inside =
        in_place c.there place k (cut_there c at (length fresh) some needed place (omega (arith, from)) (omega (arith, to, low, inside)) (cut side)) low high
      where
        cut : (k < at) ⊎ (at + length fresh ≤ k) → IsCutBy (length c.bytes) at (length fresh) place
        cut (inl less) = inl (omega (arith, less, low, inside))
        cut (inr past) = inr (omega (arith, past, high, inside))

    -- a byte beside what is written, in a block that is in memory behind the write
    beside_agrees : 0 < length fresh → HasForWrite c at (length fresh) → (place k : ℕ) → slice_get (written_over (lengthened c (at + length fresh)) at fresh).there place ≡ Some true
        → 4096 * place ≤ k → k < 4096 * place + 4096 → (k < at) ⊎ (at + length fresh ≤ k) → get_or (lengthened other (at + length fresh)).bytes k 0 ≡ get_or (lengthened c (at + length fresh)).bytes k 0
    beside_agrees some needed place k is low high side = by (cases_lt place (at / 4096)) (cases_lt place (block_count (at + length fresh)))
      where
        ms : List Bool
        ms = (lengthened c (at + length fresh)).there

        old : (place < at / 4096) ⊎ (block_count (at + length fresh) ≤ place) → slice_get (lengthened c (at + length fresh)).there place ≡ Some true
        old out =
            mark_there ms place
            (sym (marked_out ms (at / 4096) (block_count (at + length fresh)) (long_there c (at + length fresh) count) place false out)
            ∙ get_or_from_slice_get (over ms (at / 4096) (replicate (block_count (at + length fresh) - at / 4096) true)) place true false is)

        by : (place < at / 4096) ⊎ (at / 4096 ≤ place) → (place < block_count (at + length fresh)) ⊎ (block_count (at + length fresh) ≤ place)
            → get_or (lengthened other (at + length fresh)).bytes k 0 ≡ get_or (lengthened c (at + length fresh)).bytes k 0
        by (inl less) _ = long_agrees (at + length fresh) place k (old (inl less)) low high
        by (inr from) (inl to) = padded_agrees (at + length fresh) k (beside_there some needed place k from to low high side)
        by (inr from) (inr past) = long_agrees (at + length fresh) place k (old (inr past)) low high

    written_same : 0 < length fresh → HasForWrite c at (length fresh) → IsContentOf (written_over (lengthened c (at + length fresh)) at fresh) (put_at bytes at fresh)
    written_same some needed = subst (IsContentOf (written_over (lengthened c (at + length fresh)) at fresh)) (put_bytes other at fresh) (record {
      long = length-over xs at fresh fits ∙ long' ∙ ap (λ (n : ℕ). max n (at + length fresh)) h.long ∙ sym (length-over ys at fresh fits' ∙ long);
      same = λ place is. block_agrees (over xs at fresh) (over ys at fresh) place (λ k low high. each place is k low high (cases_lt k at) (cases_lt k (at + length fresh)));
    })
      where
        xs : List ℕ
        xs = (lengthened other (at + length fresh)).bytes

        ys : List ℕ
        ys = (lengthened c (at + length fresh)).bytes

        fits : at + length fresh ≤ length (lengthened other (at + length fresh)).bytes
        fits = omega (arith, long')

        fits' : at + length fresh ≤ length (lengthened c (at + length fresh)).bytes
        fits' = omega (arith, long)

        each : (place : ℕ) → slice_get (written_over (lengthened c (at + length fresh)) at fresh).there place ≡ Some true → (k : ℕ) → 4096 * place ≤ k → k < 4096 * place + 4096
            → (k < at) ⊎ (at ≤ k) → (k < at + length fresh) ⊎ (at + length fresh ≤ k)
            → get_or (over (lengthened other (at + length fresh)).bytes at fresh) k 0 ≡ get_or (over (lengthened c (at + length fresh)).bytes at fresh) k 0
        each place is k low high (inl less) _ =
            over-before (lengthened other (at + length fresh)).bytes fresh at k 0 fits less ∙ beside_agrees some needed place k is low high (inl less)
            ∙ sym (over-before (lengthened c (at + length fresh)).bytes fresh at k 0 fits' less)
        each place is k low high (inr from) (inl less) =
            over-inside (lengthened other (at + length fresh)).bytes fresh at k 0 fits from less ∙ sym (over-inside (lengthened c (at + length fresh)).bytes fresh at k 0 fits' from less)
        each place is k low high (inr from) (inr past) =
            over-past (lengthened other (at + length fresh)).bytes fresh at k 0 fits past ∙ beside_agrees some needed place k is low high (inr past)
            ∙ sym (over-past (lengthened c (at + length fresh)).bytes fresh at k 0 fits' past)

    put_same : HasForWrite c at (length fresh) → IsContentOf (content_put c at fresh) (cond (eqb (length fresh) 0) bytes (put_at bytes at fresh))
    put_same needed = by (eqb (length fresh) 0) refl
      where
        by : (b : Bool) → eqb (length fresh) 0 ≡ b → IsContentOf (cond b c (written_over (lengthened c (at + length fresh)) at fresh)) (cond b bytes (put_at bytes at fresh))
        by true e = h
        by false e = (let some : length fresh ≡ 0 → ⊥ = eqb-false (length fresh) 0 e in written_same (omega (arith, some)) needed)

  module _ (size : ℕ) where
    sized_agrees : (k : ℕ) → (k < length c.bytes → slice_get c.there (k / 4096) ≡ Some true) → k < size → get_or (resized bytes size) k 0 ≡ get_or c.bytes k 0
    sized_agrees k there less = byte_resized bytes size k less ∙ same_or_end k there

    cut_same : size < length c.bytes → IsContentOf (shortened c size) (resized bytes size)
    cut_same shorter =
        let long : length (take size c.bytes) ≡ size = length-take-le size c.bytes (omega (arith, shorter)) in
        record {
          long = length-resized bytes size ∙ sym long;
          same = λ place is. block_agrees (resized bytes size) (take size c.bytes) place (λ k low high. each place is k low high long (cases_lt k size));
        }
      where
        kept : (place : ℕ) → slice_get (take (block_count size) c.there) place ≡ Some true → slice_get c.there place ≡ Some true
        kept place is =
            let n : ℕ = block_count size in
            let ms : List Bool = take n c.there in
            let less : place < n = omega (arith, slice_get_within ms place true is, length-take n c.there) in
            mark_there c.there place (sym (get_or-take n c.there place false less) ∙ get_or_from_slice_get ms place true false is)

        each : (place : ℕ) → slice_get (take (block_count size) c.there) place ≡ Some true → (k : ℕ) → 4096 * place ≤ k → k < 4096 * place + 4096 → length (take size c.bytes) ≡ size
            → (k < size) ⊎ (size ≤ k) → get_or (resized bytes size) k 0 ≡ get_or (take size c.bytes) k 0
        each place is k low high long (inl less) =
            sized_agrees k (λ inside. in_place c.there place k (kept place is) low high) less ∙ sym (get_or-take size c.bytes k 0 less)
        each place is k low high long (inr past) =
            past_end (resized bytes size) k 0 (omega (arith, past, length-resized bytes size)) ∙ sym (past_end (take size c.bytes) k 0 (omega (arith, past, long)))

    longer_same : length c.bytes ≤ size → IsContentOf (lengthened c size) (resized bytes size)
    longer_same longer = record {
      long = length-resized bytes size ∙ sym whole;
      same = λ place is. block_agrees (resized bytes size) (lengthened c size).bytes place (λ k low high. each place is k low high (cases_lt k size));
    }
      where
        whole : length (lengthened c size).bytes ≡ size
        whole = omega (arith, longer, length-lengthened c size)

        each : (place : ℕ) → slice_get (lengthened c size).there place ≡ Some true → (k : ℕ) → 4096 * place ≤ k → k < 4096 * place + 4096
            → (k < size) ⊎ (size ≤ k) → get_or (resized bytes size) k 0 ≡ get_or (lengthened c size).bytes k 0
        each place is k low high (inl less) =
            sized_agrees k (was_there c size k count (in_place (lengthened c size).there place k is low high)) less
            ∙ sym (ap (λ (l : List ℕ). get_or l k 0) (long_bytes c size) ∙ byte_padded c.bytes (size - length c.bytes) k)
        each place is k low high (inr past) =
            past_end (resized bytes size) k 0 (omega (arith, past, length-resized bytes size)) ∙ sym (past_end (lengthened c size).bytes k 0 (omega (arith, past, whole)))

    sized_same : IsContentOf (content_sized c size) (resized bytes size)
    sized_same = by (ltb size (length c.bytes)) refl
      where
        by : (b : Bool) → ltb size (length c.bytes) ≡ b → IsContentOf (cond b (shortened c size) (lengthened c size)) (resized bytes size)
        by true e = cut_same (ltb-true size (length c.bytes) e)
        by false e = longer_same (ltb-false size (length c.bytes) e)

  pub after_same : (d : Desc) (request : Op) → HasNeeded c d request → IsContentOf (content_after c d request) (bytes_after bytes d request)
  after_same d (op.Write fd fresh) needed =
      subst (λ (n : ℕ). IsContentOf (content_put c (place_of d c.bytes) fresh) (cond (eqb (length fresh) 0) bytes (put_at bytes (cond d.append n d.at) fresh))) (sym h.long)
      (put_same (place_of d c.bytes) fresh (λ place low less cut. needed place (record { from = low; below = less; used = cut })))
  after_same d (op.Pwrite fd fresh at) needed = put_same at fresh (λ place low less cut. needed place (record { from = low; below = less; used = cut }))
  after_same d (op.Trunc fd size) needed = sized_same size
  after_same d (op.Read fd n) needed = h
  after_same d (op.Pread fd n at) needed = h
  after_same d (op.Seek fd from by) needed = h
  after_same d (op.OpenFile path read write creat excl trunc append) needed = h
  after_same d (op.Close fd) needed = h
  after_same d (op.Fsync fd) needed = h
  after_same d op.Sync needed = h
  after_same d (op.Mkdir path) needed = h
  after_same d (op.Rmdir path) needed = h
  after_same d (op.Unlink path) needed = h
  after_same d (op.Rename from to) needed = h
  after_same d (op.Stat path) needed = h
  after_same d (op.List path) needed = h

  by_same : (d : Desc) (request : Op) (o : Option Errno) → (o ≡ None → HasNeeded c d request) → IsContentOf (content_by c d request o) (step_by bytes d request o).bytes
  by_same d request (Some e) needed = h
  by_same d request None needed = after_same d request (needed refl)

  pub step_same : (d : Desc) (request : Op) → (file_refusal c.bytes d request ≡ None → HasNeeded c d request) → IsContentOf (content_by c d request (file_refusal c.bytes d request)) (file_step bytes d request).bytes
  step_same d request needed =
      subst (λ (o : Option Errno). IsContentOf (content_by c d request o) (file_step bytes d request).bytes) (same_refusal bytes c.bytes d request h.long)
      (by_same d request (file_refusal bytes d request) (λ e. needed (sym (same_refusal bytes c.bytes d request h.long) ∙ e)))

-- ---- a request, whatever the bytes

module _ (old new : FileState) (before after : BlockSet) (d : Desc) (request : Op) (reply : Reply) (desc : Option Desc) (served : IsServedByFile old new before after d request reply desc)
    (count : length old.content.there ≡ block_count (length old.content.bytes)) (bytes : List ℕ) (h : IsContentOf old.content bytes)
    (there : file_refusal old.content.bytes d request ≡ None → HasNeeded old.content d request) where
  pub goes_on_any : IsContentOf new.content (file_step bytes d request).bytes
  goes_on_any = subst (λ (v : Content). IsContentOf v (file_step bytes d request).bytes) (sym served.memory) (step_same old.content bytes h count d request there)

  pub served_any : length old.content.dirty ≡ block_count (length old.content.bytes)
      → IsServedByFile (whole_as bytes old) (whole_as (file_step bytes d request).bytes new) before after d request reply desc
  served_any marked =
      let refusal = same_refusal bytes old.content.bytes d request h.long in
      let o : Option Errno = file_refusal bytes d request in
      let same = same_by old.content bytes h d request o (λ e. there (sym refusal ∙ e)) in
      let step : file_step old.content.bytes d request ≡ step_by old.content.bytes d request o = ap (step_by old.content.bytes d request) (sym refusal) in
      let left : new.content ≡ content_by old.content d request o = served.memory ∙ ap (content_by old.content d request) (sym refusal) in
      record {
        replied = served.replied ∙ ap (λ (s : Step). s.reply) step ∙ sym same.0;
        told = served.told ∙ ap (λ (s : Step). Some s.desc) step ∙ ap (λ (e : Desc). Some e) (sym same.1);
        bytes = refl;
        memory = ap (λ (v : Content). all_in v (file_step bytes d request).bytes) left ∙ content_with old.content bytes h.long marked d request o;
        same_file = served.same_file;
        same_inode = served.same_inode;
        blocks = subst (λ (n : ℕ). HasBlocks old.extents new.extents before after (block_count n)) (sym goes_on_any.long) served.blocks;
      }

-- the size that a request leaves is by the size before it
same_size : (c v : Content) (d : Desc) (request : Op) → length c.bytes ≡ length v.bytes → length (content_after c d request).bytes ≡ length (content_after v d request).bytes
same_size c v d (op.Write fd fresh) e =
    sym (size_put c (place_of d c.bytes) fresh) ∙ ap (λ (n : ℕ). size_after n (cond d.append n d.at) (length fresh)) e ∙ size_put v (place_of d v.bytes) fresh
same_size c v d (op.Pwrite fd fresh at) e = sym (size_put c at fresh) ∙ ap (λ (n : ℕ). size_after n at (length fresh)) e ∙ size_put v at fresh
same_size c v d (op.Trunc fd size) e = sym (size_sized c size) ∙ size_sized v size
same_size c v d (op.Read fd n) e = e
same_size c v d (op.Pread fd n at) e = e
same_size c v d (op.Seek fd from by) e = e
same_size c v d (op.OpenFile path read write creat excl trunc append) e = e
same_size c v d (op.Close fd) e = e
same_size c v d (op.Fsync fd) e = e
same_size c v d op.Sync e = e
same_size c v d (op.Mkdir path) e = e
same_size c v d (op.Rmdir path) e = e
same_size c v d (op.Unlink path) e = e
same_size c v d (op.Rename from to) e = e
same_size c v d (op.Stat path) e = e
same_size c v d (op.List path) e = e

pub excused_any : (old : FileState) (d : Desc) (request : Op) (pool : BlockSet) (x : Excuse) → IsExcusedFor old d request pool x → length old.content.there ≡ block_count (length old.content.bytes)
    → (bytes : List ℕ) → IsContentOf old.content bytes → IsExcusedFor (whole_as bytes old) d request pool x
excused_any old d request pool x h count bytes is =
    let size : length (content_after old.content d request).bytes ≡ length (content_after (all_in old.content bytes) d request).bytes =
    same_size old.content (all_in old.content bytes) d request (sym is.long) in
    record {
      allowed = same_refusal bytes old.content.bytes d request is.long ∙ h.allowed;
      cause = subst (λ (n : ℕ). IsCause old.extents (block_count n - length (blocks_of old.extents)) pool x) size h.cause;
    }
