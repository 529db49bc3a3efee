use Rattle.std.proofs.Common.{◌∙◌}
use Rattle.ufs_file.proofs.ContentLemmas.{ceil_is, unread_is}
use Rattle.ufs_file.proofs.content.Blocks.unread.Goals as goal

pub returns : goal.returns
returns c =
    let table = c.in_ok-absent_blocks in
    unread_is c.args.size table.field-0.items c.div_ceil.result (c.div_ceil.ensures ∙ ceil_is c.args.size) table.ensures.bytes table.ensures.marks table.ensures.there
