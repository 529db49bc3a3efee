use Rattle.ufs_image.proofs.Mixed.{mixed}
use Rattle.ufs_image.proofs.catalog_laws.home_law.Goals as goal

pub returns : goal.returns
returns c = λ sectors image mix ts room bytes good sector each. mixed c.args.geometry.now sectors image mix ts c.requires room bytes good sector each
