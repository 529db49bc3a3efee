use Rattle.ufs_names.proofs.ClosePartLemmas.{served_close}
use Rattle.ufs_names.proofs.names.Names.close.Goals as goal

pub returns-clause-ok : goal.returns-clause-ok
returns-clause-ok c t asked own =
    served_close c.args.self.now t c.args.ask.now c.args.files.now asked c.requires.close.0 c.requires.close.1 own
    c.a_request_keeps_the_tree.ensures c.let_go.new.self c.let_go.new.files c.let_go.ensures.nodes c.let_go.ensures.goes
