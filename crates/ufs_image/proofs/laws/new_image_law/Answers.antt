use Rattle.ufs_image.proofs.NewImage.{opens_new, damage_new, proper_new}
use Rattle.ufs_image.proofs.NewCatalog.{new_sound}
use Rattle.ufs_image.proofs.laws.new_image_law.Goals as goal

pub returns : goal.returns
returns c = record {
  opens = λ sectors image new room. opens_new sectors c.args.geometry.now image c.requires new room;
  whole = λ sectors image new room. damage_new sectors c.args.geometry.now image c.requires new room;
  sound = λ sectors image new room. new_sound sectors c.args.geometry.now image c.requires new room;
  proper = λ sectors image new room. proper_new sectors c.args.geometry.now image c.requires new room;
}
