use Rattle.std.proofs.Common.{ap, ◌∙◌}
use Rattle.std.proofs.lemmas.List.{append-nil}
use Rattle.ufs_mirror.specs.Labels.{generation}
use Rattle.ufs_mirror.proofs.opening.read_generation.Goals as goal

pub returns-in-Ok-clause-number : goal.returns-in-Ok-clause-number
returns-in-Ok-clause-number g c v = c.generation.ensures ∙ ap generation (c.in-Ok.ensures.bytes v ∙ append-nil _)
