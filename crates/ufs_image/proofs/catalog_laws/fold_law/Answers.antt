use Rattle.ufs_image.proofs.Steps.{folded_step}
use Rattle.ufs_image.proofs.Changed.{folded-more, spells_catalog}
use Rattle.ufs_image.proofs.Commits.{file_committed}
use Rattle.ufs_image.proofs.catalog_laws.fold_law.Goals as goal

pub returns : goal.returns
returns c = record {
  folds = λ whole these image cat ts is good. folded_step c.args.geometry.now whole these ts image cat is good;
  one_more = λ ts t image. folded-more c.args.geometry.now ts t image;
  dirs = λ these image cat is dirs. spells_catalog c.args.geometry.now these image cat is dirs;
  file = λ these image cat number inode size keep extents is dirs sound newer fits may.
      let now = file_committed c.args.geometry.now these image cat number inode size keep extents is dirs sound newer fits may in
      record { spelled = now.0; catalog = now.1; keeps = record { sound = now.2; walks = now.3 } };
}
