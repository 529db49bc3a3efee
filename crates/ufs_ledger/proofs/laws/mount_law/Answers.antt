use Rattle.std.proofs.Common.{sym, subst}
use Rattle.ufs_disk.specs.Disk.{seen}
use Rattle.ufs_journal.specs.Kept.{HasEarlier}
use Rattle.ufs_image.specs.CatalogLaws.{HasCatalog, WholeIsSound}
use Rattle.ufs_ledger.proofs.Mounting.{mounted}
use Rattle.ufs_ledger.proofs.laws.mount_law.Goals as goal

pub returns : goal.returns
returns c = λ sectors state v same whole still ok good earlier clean.
    mounted sectors state v whole still ok good (subst (λ g. HasEarlier g v.superblock.epoch (seen state)) (sym same) earlier) clean (subst HasCatalog (sym same) c.damage_law.ensures.catalog) (subst WholeIsSound (sym same) c.damage_law.ensures.sound)
