use Rattle.std.proofs.Common.{◌≡◌, ◌+◌, ◌++◌, length, take, drop, ap, ◌∙◌, arith}
use Rattle.ufs_layout.proofs.RecordForms.{two-pieces}
use Rattle.ufs_layout.proofs.record_codec.put_place.Goals as goal

pub returns-clause-spelling : goal.returns-clause-spelling
returns-clause-spelling c =
    let sixty_four : length c.put_dentry.new.slot ≡ 64 = omega arith in
    two-pieces c.args.at 6 64 c.args.content.now c.put.new.bytes c.put-2.new.bytes c.put_place_head.new.head c.put_dentry.new.slot
    c.requires.room (ap length c.put_place_head.ensures) c.put.ensures (c.put-2.ensures ∙ ap (λ n. take (c.args.at + 6) c.put.new.bytes ++ c.put_dentry.new.slot ++ drop (c.args.at + 6 + n) c.put.new.bytes) sixty_four)
    ∙ (λ i. take c.args.at c.args.content.now ++ (c.put_place_head.ensures i ++ c.put_dentry.ensures.spelling i) ++ drop (c.args.at + 70) c.args.content.now)
