use Rattle.std.proofs.Common.{inl, inr, Some, ◌≡◌, ℕ, sym, subst}
use Rattle.ufs_base.specs.Images.{Image}
use Rattle.ufs_layout.specs.Superblock.{geometry_of}
use Rattle.ufs_layout.specs.declared.geometry.Geometry.{Geometry}
use Rattle.ufs_image.specs.CatalogLaws.{SpellsDirs}
use Rattle.ufs_image.specs.Proper.{IsProperImage}
use Rattle.ufs_ledger.specs.Ledger.{Ledger, IsLeftBy, Standing}
use Rattle.ufs_ledger.proofs.Proper.{left_proper}
use Rattle.ufs_ledger.proofs.laws.proper_law.Goals as goal

by_ledger : (g : Geometry) → SpellsDirs g → (sectors : ℕ) (l : Ledger) (image : Image) → geometry_of l.superblock ≡ g → ((other : Standing) → l.maybe ≡ Some other → geometry_of other.superblock ≡ g) → IsLeftBy sectors l image → IsProperImage sectors image
by_ledger g dirs sectors l image same others (inl left) = left_proper sectors l.superblock l.blocks l.now image (subst SpellsDirs (sym same) dirs) left
by_ledger g dirs sectors l image same others (inr one) = left_proper sectors one.0.superblock l.blocks one.0.stand image (subst SpellsDirs (sym (others one.0 one.1)) dirs) one.2

pub returns : goal.returns
returns c = by_ledger c.args.geometry.now c.fold_law.ensures.dirs
