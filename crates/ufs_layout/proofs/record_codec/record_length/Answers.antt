use Rattle.std.proofs.Common.{◌+◌, ◌*◌, length, sym, ap, ◌∙◌}
use Rattle.ufs_layout.specs.Records.{record_bytes}
use Rattle.ufs_layout.proofs.RecordForms.{length-delta}
use Rattle.ufs_layout.proofs.record_codec.record_length.Goals as goal

pub returns-in-Delta : goal.returns-in-Delta
returns-in-Delta c =
    ap (λ es. 16 + 8 * length es) c.as_slice.ensures ∙ sym (length-delta c.in-Delta.inode c.in-Delta.kind c.in-Delta.size c.in-Delta.keep c.in-Delta.extents)
    ∙ ap (λ r. length (record_bytes r)) (sym c.in-Delta.is)
