use Rattle.ufs_primary.proofs.Waits.{taken_up, wait_all}
use Rattle.ufs_primary.proofs.waiting.take_waiting.Goals as goal

pub returns-in_err-one-clause-taken : goal.returns-in_err-one-clause-taken
returns-in_err-one-clause-taken g c =
    wait_all c.args.stock.now c.args.waiting.now.items c.take_oldest.new.waiting.items c.from_residual.result c.from_residual.ensures c.in_err-one.ensures.oldest

pub returns-clause-taken : goal.returns-clause-taken
returns-clause-taken g c =
    taken_up c.args.stock.now c.unwait.new.self c.args.waiting.now.items c.take_oldest.new.waiting.items c.in_ok-one.one c.into_request-request.result c.file-file.result c.client.result c.into_request-request.ensures c.file-file.ensures c.client.ensures.is
    c.in_ok-one.ensures.oldest c.unwait.ensures
