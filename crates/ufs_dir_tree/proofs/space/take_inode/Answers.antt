use Rattle.std.proofs.Common.{ap}
use Rattle.ufs_bitmap.specs.Space.{Space}
use Rattle.ufs_dir_tree.proofs.SpaceLemmas.{lowest_run}
use Rattle.ufs_dir_tree.proofs.space.take_inode.Goals as goal

pub returns-in-Some-clause-taken : goal.returns-in-Some-clause-taken
returns-in-Some-clause-taken c =
    lowest_run c.args.free.now.free c.take_run.new.self.free c.in-Some.run' c.in-Some.ensures.run c.in-Some.ensures.lowest (ap (λ (s : Space). s.free) c.in-Some.ensures.taken)
