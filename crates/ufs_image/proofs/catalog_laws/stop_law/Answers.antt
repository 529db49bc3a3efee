use Rattle.ufs_image.proofs.Home.{stops_anywhere}
use Rattle.ufs_image.proofs.Freeing.{stops_freeing}
use Rattle.ufs_image.proofs.catalog_laws.stop_law.Goals as goal

pub returns : goal.returns
returns c = record {
  anywhere = λ image mix v cat bytes is at. stops_anywhere c.args.sectors image mix v cat bytes is at.stands.superblock (λ s from below. at.stands.journal s (record { from = from; below = below })) at.home;
  freeing = λ image mix v cat d bytes is at.
      let there = stops_freeing c.args.sectors image mix v cat d bytes is at.stands.superblock (λ s from below. at.stands.journal s (record { from = from; below = below })) at.data_area at.frees at.inodes in
      record { found = there.0; has = there.1; geometry = there.2; tree = there.3 };
}
