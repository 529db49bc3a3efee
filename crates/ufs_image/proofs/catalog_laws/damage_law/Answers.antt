use Rattle.ufs_image.proofs.Depth.{has_root}
use Rattle.ufs_image.proofs.Whole.{sound_whole, whole_sound, whole_read, spelled_all}
use Rattle.ufs_image.proofs.Blamed.{undamaged, not_bad}
use Rattle.ufs_image.proofs.Bits.{marks_whole}
use Rattle.ufs_image.proofs.Read.{catalog_there}
use Rattle.ufs_image.proofs.catalog_laws.damage_law.Goals as goal

pub returns : goal.returns
returns c = record {
  whole = λ image cat is sound. let none = sound_whole c.args.geometry.now image cat is sound in (none, not_bad c.args.geometry.now image none);
  sound = λ image cat is good. whole_sound c.args.geometry.now image cat is (has_root c.args.geometry.now c.requires) (undamaged c.args.geometry.now image good);
  marked = λ image cat is sound bits. marks_whole c.args.geometry.now image cat is sound bits.marked bits.taken;
  catalog = λ image good. let none = undamaged c.args.geometry.now image good in catalog_there c.args.geometry.now image (whole_read c.args.geometry.now image none) (spelled_all c.args.geometry.now image none);
}
