-- What each variant of the code's damage is in the definition's words.
use Rattle.ufs_damage.specs.declared.damage.Damage.{Damage}
use Rattle.ufs_damage.specs.declared.damage.Damage.TheVariants.{BadInode, BadExtent, SharedBlock, ShortExtents, BadDentry, FreeInode, NameTwice, TwoNames, BitmapDiffers}
use Rattle.ufs_image.specs.Damage as image

abbrev pub meaning : Damage → image.Damage
meaning (BadInode inode) = image.BadInode inode
meaning (BadExtent inode) = image.BadExtent inode
meaning (SharedBlock block first second) = image.SharedBlock block first second
meaning (ShortExtents inode) = image.ShortExtents inode
meaning (BadDentry dir slot) = image.BadDentry dir slot
meaning (FreeInode dir slot inode) = image.FreeInode dir slot inode
meaning (NameTwice dir slot) = image.NameTwice dir slot
meaning (TwoNames inode) = image.TwoNames inode
meaning (BitmapDiffers block) = image.BitmapDiffers block
