use Rattle.std.proofs.Common.{rules}
use Rattle.ufs_calls.proofs.ByteLemmas.{put_over_is}
use Rattle.ufs_calls.proofs.file_map.put_over.Goals as goal

pub returns-clause-ok : goal.returns-clause-ok
returns-clause-ok c =
    put_over_is c.args.bytes.now.items c.lengthen.new.bytes.items c.overwrite.new.bytes c.args.fresh.now c.args.at c.lengthen.new.bytes.len
    (search rules) (search rules) (search rules)
