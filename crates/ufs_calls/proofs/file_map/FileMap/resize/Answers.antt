use Rattle.std.proofs.Common.{ap, ◌∙◌, List, ℕ}
use Rattle.std.specs.FinMap as map
use Rattle.ufs_model.specs.FileBytes.{resized}
use Rattle.std.proofs.lemmas.Result.{on_ok_weaker, on_err_weaker}
use Rattle.ufs_calls.proofs.FileLemmas.{still_there, changed, unchanged}
use Rattle.ufs_calls.proofs.file_map.FileMap.resize.Goals as goal

pub unreachable-requires : goal.unreachable-requires
unreachable-requires c = still_there c.args.self.now c.take.new.self c.args.file c.in-Some.ensures.some c.in-Err.ensures.absent

pub returns-in-Ok-clause-ok : goal.returns-in-Ok-clause-ok
returns-in-Ok-clause-ok c =
    on_ok_weaker c.set_size-outcome.result
    (changed c.args.self.now c.take.new.self c.insert-in-Some.new.self c.args.file c.in-Some.held.items c.set_size-outcome.new.bytes.items
    c.in-Some.ensures.value c.in-Some.ensures.some (c.in-Ok.ensures.ok ∙ ap (map.insert c.take.new.self c.args.file) c.from_vec-in-Some.ensures) (λ (h : List ℕ). resized h c.args.size))
    c.set_size-outcome.ensures.ok

pub returns-in-Ok-clause-err : goal.returns-in-Ok-clause-err
returns-in-Ok-clause-err c =
    on_err_weaker c.set_size-outcome.result
    (unchanged c.args.self.now c.take.new.self c.insert-in-Some.new.self c.args.file c.in-Some.held.items c.set_size-outcome.new.bytes.items
    c.in-Some.ensures.value c.in-Some.ensures.some (c.in-Ok.ensures.ok ∙ ap (map.insert c.take.new.self c.args.file) c.from_vec-in-Some.ensures))
    c.set_size-outcome.ensures.err
