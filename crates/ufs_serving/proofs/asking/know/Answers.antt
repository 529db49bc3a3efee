use Rattle.ufs_serving.proofs.Asked.{hint_on_file}
use Rattle.ufs_serving.proofs.asking.know.Goals as goal

pub know_on_file-requires-clause-on_file : goal.know_on_file-requires-clause-on_file
know_on_file-requires-clause-on_file g c = hint_on_file c.args.ask.now.op (let h = c.requires.hinted in h.kind)
