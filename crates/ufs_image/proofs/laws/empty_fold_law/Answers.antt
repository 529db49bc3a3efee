use Rattle.ufs_image.proofs.NewImage.{folded-no_sector}
use Rattle.ufs_image.proofs.laws.empty_fold_law.Goals as goal

pub returns : goal.returns
returns c = λ epoch image none. folded-no_sector c.args.geometry.now epoch image none
