use Rattle.std.proofs.Common.{rules, Some, ap, ◌∙◌, arith}
use Rattle.ufs_layout.specs.declared.records.LogRecord.TheVariants.{Free}
use Rattle.ufs_layout.proofs.Leading.{free-short, free-long}
use Rattle.ufs_layout.proofs.record_decode.read_free.Goals as goal

pub returns-then-rest-lt5 : goal.returns-then-rest-lt5
returns-then-rest-lt5 c = free-short c.args.rest.now c.requires (omega arith)

pub returns : goal.returns
returns c = ap (λ n. Some (Free n)) c.u32_at.ensures ∙ free-long c.args.rest.now (search rules) c.requires (omega arith)
