use Rattle.ufs_tree.proofs.ServeLemmas.{AreServing}
use Rattle.ufs_tree.proofs.serving.serve.Given as goal

abbrev pub invariant-loop-requests : goal.invariant-loop-requests
invariant-loop-requests l = AreServing l.fn.clients l.tree l.history l.client l.yielded l.requests-iterator.rest.items
