use Rattle.std.proofs.Common.{sym, subst}
use Rattle.ufs_layout.specs.Areas.{IsGeometry}
use Rattle.ufs_image.proofs.Depth.{once, short, root_in_range, has_root}
use Rattle.ufs_image.proofs.Found.{reached}
use Rattle.ufs_image.proofs.Apart.{lists_once}
use Rattle.ufs_image.proofs.Paths.{stands, standing, any_depth}
use Rattle.ufs_image.proofs.catalog_laws.walk_law.Goals as goal

pub returns : goal.returns
returns c = record {
  paths = λ v same cat is sound names pieces. stands v.geometry v.image cat is sound (has_root v.geometry (subst IsGeometry (sym same) c.requires)) names pieces;
  alone = λ v same cat is sound path node there. let from = standing v.geometry v.image cat is sound (has_root v.geometry (subst IsGeometry (sym same) c.requires)) path node there in record { names = from.names; inode = from.at; text = from.text; pieces = from.pieces; met = from.met; same = from.node };
  once = λ cat sound names others inode a b. once c.args.geometry.now cat sound (has_root c.args.geometry.now c.requires) names others inode a b;
  short = λ cat sound names inode e. ((reached c.args.geometry.now cat sound 1 names inode (root_in_range c.args.geometry.now cat sound (has_root c.args.geometry.now c.requires)) e).0, short c.args.geometry.now cat sound (has_root c.args.geometry.now c.requires) names inode e);
  distinct = λ v same cat is sound i j a b at there e. lists_once v.geometry v.image cat is sound (has_root v.geometry (subst IsGeometry (sym same) c.requires)) i j a b at there e;
  depth = λ image cat is sound more. any_depth c.args.geometry.now image cat is sound (has_root c.args.geometry.now c.requires) more;
}
