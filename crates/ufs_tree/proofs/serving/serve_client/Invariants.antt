use Rattle.ufs_tree.proofs.ServeLemmas.{IsServing}
use Rattle.ufs_tree.proofs.serving.serve_client.Given as goal

abbrev pub invariant-loop-op : goal.invariant-loop-op
invariant-loop-op l = IsServing l.fn.client l.fn.requests l.fn.history l.tree l.history l.seq l.yielded l.op-iterator.rest.items
