use Rattle.ufs_image.proofs.Proper.{proper}
use Rattle.ufs_image.proofs.Opening.{opens_to, opened, has_geometry}
use Rattle.ufs_image.proofs.catalog_laws.opening_law.Goals as goal

pub returns : goal.returns
returns c = record {
  tree = λ image v cat is. opens_to c.args.sectors image v cat is;
  catalog = λ image tree e. opened c.args.sectors image tree e;
  proper = λ image v cat is none_later closed. proper c.args.sectors image v cat is none_later closed;
  geometry = λ image v e. has_geometry c.args.sectors image v e;
}
