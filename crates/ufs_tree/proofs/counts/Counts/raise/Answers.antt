use Rattle.std.proofs.Common.{List, ℕ, Bool, ap}
use Rattle.std.specs.Prelude.{unwrap_or}
use Rattle.std.specs.BTreeMap.{is_at}
use Rattle.std.specs.Map.{lookup}
use Rattle.std.specs.Ordering.{eq_by_cmp}
use Rattle.ufs_calls.proofs.Facts.Maps.{on_err}
use Rattle.ufs_tree.proofs.HolderLemmas.{others_keep}
use Rattle.ufs_tree.proofs.counts.Counts.raise.Goals as goal

pub returns-clause-others : goal.returns-clause-others
returns-clause-others g c =
    others_keep (eq_by_cmp g.K.Ord.cmp) (is_at (g.K.Ord.cmp c.args.key)) c.args.self.now (record { entries = c.insert.new.self }) c.in_ok-insert.ensures.updates.3

pub returns-in_err-insert-clause-err : goal.returns-in_err-insert-clause-err
returns-in_err-insert-clause-err g c = on_err c.from_residual.result (λ (test : g.row.K.Denot → Bool). ap (λ (es : List (g.row.K.Denot × ℕ)). unwrap_or (lookup test es) 0) c.in_err-insert.ensures.err)
