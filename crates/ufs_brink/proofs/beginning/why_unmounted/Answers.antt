use Rattle.ufs_brink.proofs.Lacks.{of_numbers}
use Rattle.ufs_brink.proofs.beginning.why_unmounted.Goals as goal

pub returns-in-Lack-clause-outside : goal.returns-in-Lack-clause-outside
returns-in-Lack-clause-outside c = of_numbers c.in-Lack.lack (c.requires.lack c.in-Lack.lack c.in-Lack.is)
