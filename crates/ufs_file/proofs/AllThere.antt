-- A file that is wholly in memory, behind a request.
use Rattle.std.proofs.Common.{◌≡◌, ℕ, ◌+◌, ◌-◌, ◌/◌, ◌≤◌, eqb, ltb, Bool, true, false, cond, List, ◌++◌, length, take, replicate, refl, sym, ap, ◌∙◌, arith}
use Rattle.std.proofs.lemmas.Bool.{ltb-true, ltb-false}
use Rattle.std.proofs.lemmas.List.{ext_get_or, get_or-replicate, length-replicate, replicate-append-replicate, take-replicate}
use Rattle.std.proofs.lemmas.Option.{get_or_from_slice_get}
use Rattle.ufs_model.specs.FileBytes.{place_of}
use Rattle.ufs_model.specs.declared.data.Desc.{Desc}
use Rattle.ufs_model.specs.declared.data.Op.{Op}
use Rattle.ufs_model.specs.declared.data.Op.TheVariants as op
use Rattle.ufs_file.specs.Content.{AreThere, Content, block_count, grown, shortened, written_over}
use Rattle.ufs_file.specs.Hand.{FileState, content_after, content_put, content_sized, lengthened, whole_as}
use Rattle.ufs_file.specs.Lists.{over}
use Rattle.ufs_file.proofs.CoverLemmas.{marked_same}
use Rattle.ufs_file.proofs.ThereLemmas.{all_there}
use Rattle.ufs_file.proofs.HandLemmas.{dirty-grown, length-marks_cut}
use Rattle.ufs_file.proofs.OverLemmas.{length-over}

-- each block is in memory
abbrev pub IsAllThere : Content → Type 0
IsAllThere c = c.there ≡ replicate (length c.dirty) true

-- so it is where each place is
pub all_marked : (ms : List Bool) → AreThere ms 0 (length ms) → ms ≡ replicate (length ms) true
all_marked ms there = ext_get_or false ms (replicate (length ms) true) (sym (length-replicate (length ms) true)) (λ k less.
    get_or_from_slice_get ms k true false (there k (omega arith) less) ∙ sym (get_or-replicate (length ms) k true false less))

-- A file that is wholly in memory stays itself with its own bytes.
pub whole_itself : (f : FileState) → IsAllThere f.content → whole_as f.content.bytes f ≡ f
whole_itself f all = λ i. record f { content = record (f.content) { there = sym all i } }

all_grown : (c : Content) (size : ℕ) → length c.dirty ≡ block_count (length c.bytes) → length c.bytes ≤ size → IsAllThere c → IsAllThere (grown c size)
all_grown c size counted longer all =
    let n : ℕ = block_count size in
    let same : length c.there ≡ length c.dirty = ap length all ∙ length-replicate (length c.dirty) true in
    let sum : length c.dirty + (n - length c.dirty) ≡ n = omega (arith, counted, longer) in
    (λ i. all i ++ replicate (n - same i) true)
    ∙ replicate-append-replicate (length c.dirty) (n - length c.dirty) true
    ∙ ap (λ (k : ℕ). replicate k true) (sum ∙ sym (dirty-grown c size counted longer))

module _ (c : Content) (marked : length c.dirty ≡ block_count (length c.bytes)) (all : IsAllThere c) where
  all_long : (size : ℕ) → IsAllThere (lengthened c size)
  all_long size = by (ltb (length c.bytes) size) refl
    where
      by : (b : Bool) → ltb (length c.bytes) size ≡ b → IsAllThere (cond b (grown c size) c)
      by true e = (let less = ltb-true (length c.bytes) size e in all_grown c size marked (omega (arith, less)) all)
      by false e = all

  room_long : (size : ℕ) → block_count size ≤ length (lengthened c size).dirty
  room_long size = by (ltb (length c.bytes) size) refl
    where
      by : (b : Bool) → ltb (length c.bytes) size ≡ b → block_count size ≤ length (cond {A = Content} b (grown c size) c).dirty
      by true e = (let less = ltb-true (length c.bytes) size e in omega (arith, dirty-grown c size marked (omega (arith, less))))
      by false e = (let le = ltb-false (length c.bytes) size e in omega (arith, le, marked))

  all_put : (at : ℕ) (fresh : List ℕ) → IsAllThere (content_put c at fresh)
  all_put at fresh = by (eqb (length fresh) 0)
    where
      room : block_count (at + length fresh) ≤ length (lengthened c (at + length fresh)).dirty
      room = room_long (at + length fresh)

      fresh_marks : List Bool
      fresh_marks = replicate (block_count (at + length fresh) - at / 4096) true

      long : length (replicate {A = Bool} (block_count (at + length fresh) - at / 4096) true) ≡ block_count (at + length fresh) - at / 4096
      long = length-replicate (block_count (at + length fresh) - at / 4096) true

      by : (b : Bool) → IsAllThere (cond b c (written_over (lengthened c (at + length fresh)) at fresh))
      by true = all
      by false =
          ap (λ (l : List Bool). over l (at / 4096) (replicate (block_count (at + length fresh) - at / 4096) true)) (all_long (at + length fresh))
          ∙ marked_same (replicate (length (lengthened c (at + length fresh)).dirty) true) (at / 4096) (block_count (at + length fresh)) (omega (arith, room, length-replicate {A = Bool} (length (lengthened c (at + length fresh)).dirty) true))
          (all_there (length (lengthened c (at + length fresh)).dirty) (at / 4096) (block_count (at + length fresh)) room)
          ∙ ap (λ (k : ℕ). replicate k true)
          (sym (length-over (lengthened c (at + length fresh)).dirty (at / 4096) (replicate (block_count (at + length fresh) - at / 4096) true) (omega (arith, room, long))))

  all_sized : (size : ℕ) → IsAllThere (content_sized c size)
  all_sized size = by (ltb size (length c.bytes)) refl
    where
      by : (b : Bool) → ltb size (length c.bytes) ≡ b → IsAllThere (cond b (shortened c size) (lengthened c size))
      by true e =
          (let less = ltb-true size (length c.bytes) e in
          let fits : block_count size ≤ length c.dirty = omega (arith, less, marked) in
          ap (take (block_count size)) all ∙ take-replicate (block_count size) (length c.dirty) true fits
          ∙ ap (λ (k : ℕ). replicate k true) (sym (length-marks_cut c.dirty size fits)))
      by false e = all_long size

  pub after_all : (d : Desc) (request : Op) → IsAllThere (content_after c d request)
  after_all d (op.Write fd fresh) = all_put (place_of d c.bytes) fresh
  after_all d (op.Pwrite fd fresh at) = all_put at fresh
  after_all d (op.Trunc fd size) = all_sized size
  after_all d (op.Read fd n) = all
  after_all d (op.Pread fd n at) = all
  after_all d (op.Seek fd from by) = all
  after_all d (op.OpenFile path read write creat excl trunc append) = all
  after_all d (op.Close fd) = all
  after_all d (op.Fsync fd) = all
  after_all d op.Sync = all
  after_all d (op.Mkdir path) = all
  after_all d (op.Rmdir path) = all
  after_all d (op.Unlink path) = all
  after_all d (op.Rename from to) = all
  after_all d (op.Stat path) = all
  after_all d (op.List path) = all
