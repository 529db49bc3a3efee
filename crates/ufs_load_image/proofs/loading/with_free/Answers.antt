use Rattle.ufs_image.specs.Catalog.{catalog_at}
use Rattle.ufs_load_image.proofs.loading.with_free.Goals as goal

pub returns-in_err-free-clause-sound : goal.returns-in_err-free-clause-sound
returns-in_err-free-clause-sound c image whole =
    c.damage_law.ensures.sound image (catalog_at c.args.opened.volume.superblock.geometry image) (c.damage_law.ensures.catalog image whole) whole

pub returns-clause-sound : goal.returns-clause-sound
returns-clause-sound c image whole =
    c.damage_law.ensures.sound image (catalog_at c.args.opened.volume.superblock.geometry image) (c.damage_law.ensures.catalog image whole) whole
