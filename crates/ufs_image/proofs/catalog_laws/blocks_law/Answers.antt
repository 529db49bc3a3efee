use Rattle.std.specs.Prelude.{IsTrue}
use Rattle.ufs_image.proofs.Blocks.{file_same}
use Rattle.ufs_image.proofs.FilePlaces.{block_bytes_of}
use Rattle.ufs_image.proofs.OneTree.{one_tree}
use Rattle.ufs_image.proofs.Opening.{ignores, sizes}
use Rattle.ufs_image.proofs.catalog_laws.blocks_law.Goals as goal

pub returns : goal.returns
returns c = record {
  paths = λ image other v cat these is has agree. let there = ignores c.args.sectors image other v cat (λ s. IsTrue (these s)) is has.metadata has.dirs agree in record { found = there.0; has = there.1; geometry = there.2; superblock = there.3; agree = there.4 };
  files = λ image other form agree. file_same image other form agree;
  places = λ image g cat inode place block is room sound has. block_bytes_of c.args.sectors image g cat inode place block is room sound has;
  tree = λ image other v w cat a b same agree. one_tree c.args.sectors image other v w cat a b same agree;
  sizes = λ image g cat inode is room sound in_range. sizes c.args.sectors image g cat inode is room sound in_range;
}
