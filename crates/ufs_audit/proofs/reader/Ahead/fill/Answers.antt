use Rattle.std.proofs.Common.{◌≡◌, ℕ, List, refl}
use Rattle.ufs_audit.proofs.ReadLemmas.{filled_none, filled_read}
use Rattle.ufs_lines.proofs.Results.{if_ok}
use Rattle.ufs_audit.proofs.reader.Ahead.fill.Goals as goal

pub returns-then-not-is_empty-clause-filled : goal.returns-then-not-is_empty-clause-filled
returns-then-not-is_empty-clause-filled g c = filled_none (g.S.Source.left c.args.source.now) c.args.self.now (c.if-not-is_empty.ensures.no refl)

pub returns-clause-filled : goal.returns-clause-filled
returns-clause-filled g c =
    if_ok c.refill.result
    (λ some read. filled_read (g.S.Source.left c.args.source.now) (g.S.Source.left c.refill.new.source) c.args.self.now c.refill.new.self some (c.if-not-is_empty.ensures.yes refl) read) c.refill.ensures.piece
