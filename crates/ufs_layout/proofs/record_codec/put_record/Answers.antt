use Rattle.std.proofs.Common.{◌≡◌, ◌+◌, ◌*◌, length, sym, ap, ◌∙◌, arith}
use Rattle.ufs_layout.specs.Records.{record_bytes}
use Rattle.ufs_layout.proofs.RecordForms.{length-delta, stands-delta, stands-place, stands-free}
use Rattle.ufs_layout.proofs.record_codec.put_record.Goals as goal
use Rattle.ufs_layout.proofs.record_codec.put_record.Goals.{in-Delta, in-Place, in-Free}

pub put_delta-requires-clause-room : goal.put_delta-requires-clause-room
put_delta-requires-clause-room c =
    let sized : length (record_bytes c.args.value.now) ≡ 16 + 8 * length c.as_slice.result.now =
    ap (λ r. length (record_bytes r)) c.in-Delta.is ∙ length-delta c.in-Delta.inode c.in-Delta.kind c.in-Delta.size c.in-Delta.keep c.in-Delta.extents ∙ ap (λ es. 16 + 8 * length es) (sym c.as_slice.ensures) in
    omega (arith, sized)

pub returns-clause-spelling : goal.returns-clause-spelling
returns-clause-spelling c = elim c.match-value.branch [
  | in-Delta w ↦ stands-delta c.args.at w.in-Delta.inode w.in-Delta.kind w.in-Delta.size w.in-Delta.keep c.args.content.now c.match-value.content c.args.value.now w.in-Delta.extents w.as_slice.result.now
      w.in-Delta.is w.as_slice.ensures (w.content-is ∙ w.put_delta.ensures.spelling)
  | in-Place w ↦ stands-place c.args.at w.in-Place.sector w.in-Place.slot c.args.content.now c.match-value.content c.args.value.now w.in-Place.dentry w.in-Place.is w.put_place.ensures.in_range.1 (w.content-is ∙ w.put_place.ensures.spelling)
  | in-Free w ↦ stands-free c.args.at w.in-Free.inode c.args.content.now c.match-value.content c.args.value.now w.in-Free.is (w.content-is ∙ w.put_free.ensures)
]
