use Rattle.std.proofs.Common.{sym, ◌∙◌}
use Rattle.ufs_pouring.proofs.Lemmas.{insert_run, insert_there}
use Rattle.ufs_pouring.proofs.pouring.add_block.Goals as goal

pub returns-then-not-contains : goal.returns-then-not-contains
returns-then-not-contains c = c.give.ensures ∙ insert_run c.args.pool.now c.args.block

pub returns-else-not-contains : goal.returns-else-not-contains
returns-else-not-contains c = insert_there c.args.pool.now c.args.block (sym c.contains.ensures ∙ c.if-not-contains.false)
