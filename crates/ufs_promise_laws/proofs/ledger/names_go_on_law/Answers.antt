use Rattle.ufs_promise_laws.proofs.NamesGoing.{may_go_on}
use Rattle.ufs_promise_laws.proofs.ledger.names_go_on_law.Goals as goal

pub returns : goal.returns
returns c s d xs number start history names more old n t has older may sound behind tree later each =
    may_go_on c.args.geometry.now c.change_law.ensures.told c.files_law.ensures.paths s d xs number start history names more old n t has older may sound behind tree later each
