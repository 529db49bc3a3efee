use Rattle.ufs_image.proofs.Written.{written_catalog}
use Rattle.ufs_image.proofs.Glued.{block_bytes, inode_bytes_are}
use Rattle.ufs_image.proofs.Records.{committed_fit}
use Rattle.ufs_image.proofs.Fits.{shows, spells}
use Rattle.ufs_image.proofs.Commits.{free_block}
use Rattle.ufs_image.proofs.catalog_laws.bytes_law.Goals as goal

pub returns : goal.returns
returns c = record {
  written = λ image cat is. written_catalog c.args.geometry.now image cat is;
  inodes = λ image cat is inode in_range. inode_bytes_are c.args.geometry.now image cat is inode in_range;
  dirs = λ image cat is block dir sized. block_bytes image block (cat.slots block) sized (is.slots block dir);
  forms = λ sectors image room bytes. shows c.args.geometry.now sectors image c.requires room bytes;
  spells = λ sectors image cat these room bytes is each. spells c.args.geometry.now sectors image c.requires room bytes cat these is each;
  free = λ image block zeros. free_block image block zeros;
  committed = λ sectors epoch image room bytes. committed_fit c.args.geometry.now sectors epoch image c.requires room bytes;
}
