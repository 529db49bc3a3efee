use Rattle.std.proofs.Common.{◌∙◌}
use Rattle.ufs_held_names.specs.HeldNames.{first_names}
use Rattle.ufs_held_names.proofs.Tried.{born_of}
use Rattle.ufs_held_names.proofs.commits.tell_committed.Goals as goal

pub returns-clause-told : goal.returns-clause-told
returns-clause-told g c =
    let was = c.args.file.now in
    let x = c.args.noted.now in
    let born = born_of x.names (first_names x c.args.right.now.names).named was.value.file.file was.born c.requires.all c.tell_lent.ensures.live in
    c.tell_lent.ensures.told ∙ (λ i. record was { born = born i })
