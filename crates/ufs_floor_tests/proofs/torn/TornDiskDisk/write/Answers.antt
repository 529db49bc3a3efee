use Rattle.std.proofs.Common.{◌≡◌, ◌/◌, ◌%◌, ◌≤◌, inl, inr, ℕ, List, take, length, sym, ◌∙◌, ap, arith}
use Rattle.std.proofs.lemmas.Bool.{cases_eq}
use Rattle.std.proofs.lemmas.List.{length-take-le}
use Rattle.ufs_base.specs.Images.{Image}
use Rattle.ufs_disk.specs.Disk.{Mixes, put, overwritten, sectors_of}
use Rattle.ufs_disk.proofs.Images.{put_all_within, put_one, put_same, put_other}
use Rattle.ufs_disk.proofs.Flat.{length-pieces, pieces_at}
use Rattle.ufs_disk.proofs.Runs.{weaker}
use Rattle.ufs_floor_tests.proofs.torn.TornDiskDisk.write.Goals as goal

-- the first sector of a write, or none, is some of its sectors
torn : (s : ℕ) (bytes : List ℕ) (d image : Image) → 512 ≤ length bytes → Mixes d (overwritten s (take 512 bytes) d) image → Mixes d (overwritten s bytes d) image
torn s bytes d image long mixed k = elim (mixed k) [
  | inl is ↦ inl is
  | inr is ↦ elim (cases_eq k s) [
    | inl here ↦ inr (is ∙ ap (λ (e : Image). e k) one ∙ ap (put s (take 512 bytes) d) here ∙ first ∙ sym (ap (overwritten s bytes d) here ∙ whole))
    | inr ne ↦ inl (is ∙ ap (λ (e : Image). e k) one ∙ put_other s k (take 512 bytes) d ne)
  ]
]
  where
    one : overwritten s (take 512 bytes) d ≡ put s (take 512 bytes) d
    one = put_one s (take 512 bytes) d (length-take-le 512 bytes long)

    first : put s (take 512 bytes) d s ≡ take 512 bytes
    first = put_same s (take 512 bytes) d

    whole : overwritten s bytes d s ≡ take 512 bytes
    whole =
        let n = length bytes / 512 in
        ap (overwritten s bytes d) (omega arith) ∙ put_all_within (sectors_of bytes) s 0 d (omega (arith, length-pieces n bytes)) ∙ pieces_at n 0 bytes (omega arith)

pub slice_bounds-write-end : goal.slice_bounds-write-end
slice_bounds-write-end c = sym (length-take-le 512 c.args.bytes.now (omega (arith, c.requires.some, c.requires.whole)))

pub write-requires : goal.write-requires
write-requires c =
    let long : 512 ≤ length c.args.bytes.now = omega (arith, c.requires.some, c.requires.whole) in
    let size : length (take 512 c.args.bytes.now) ≡ 512 = length-take-le 512 c.args.bytes.now long in
    record {
      some = omega (arith, size);
      whole = ap (λ n. n % 512) size;
      most = omega (arith, size);
      inside = omega (arith, size, c.requires.inside);
    }

pub returns-clause-content : goal.returns-clause-content
returns-clause-content c visible = torn c.args.sector c.args.bytes.now _ _ (omega (arith, c.requires.some, c.requires.whole)) (c.write.ensures.content visible)

pub returns-clause-crash : goal.returns-clause-crash
returns-clause-crash c visible =
    let long : 512 ≤ length c.args.bytes.now = omega (arith, c.requires.some, c.requires.whole) in
    weaker _ _ _ (λ image from. record {
      before = from.before;
      left = from.left;
      mixed = torn c.args.sector c.args.bytes.now from.before image long from.mixed;
    }) _ _ (c.write.ensures.crash visible)
