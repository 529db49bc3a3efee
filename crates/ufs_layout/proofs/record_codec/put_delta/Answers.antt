use Rattle.std.proofs.Common.{◌+◌, ◌*◌, ◌++◌, length, take, drop, flat_map, ap, ◌∙◌}
use Rattle.ufs_layout.specs.InodeForm.{extent_bytes}
use Rattle.ufs_layout.proofs.RecordForms.{two-pieces}
use Rattle.ufs_layout.proofs.record_codec.put_delta.Goals as goal

pub returns-clause-spelling : goal.returns-clause-spelling
returns-clause-spelling c =
    two-pieces c.args.at 16 (8 * length c.args.extents.now) c.args.content.now c.put.new.bytes c.put_extents.new.sector c.put_delta_head.new.head (flat_map extent_bytes c.args.extents.now)
    c.requires.room (ap length c.put_delta_head.ensures) c.put.ensures c.put_extents.ensures.spelling
    ∙ ap (λ h. take c.args.at c.args.content.now ++ (h ++ flat_map extent_bytes c.args.extents.now) ++ drop (c.args.at + (16 + 8 * length c.args.extents.now)) c.args.content.now) c.put_delta_head.ensures
