-- Two values of one form never share a spelling.
use Rattle.std.proofs.Common.{◌≡◌, ◌<◌, ◌^◌}
use Rattle.ufs_layout.specs.Superblock.{super_bytes, super_fields}
use Rattle.ufs_layout.specs.JournalHead.{header_bytes, header_fields}
use Rattle.ufs_layout.specs.InodeForm.{InodeForm, inode_bytes, inode_fields}
use Rattle.ufs_layout.specs.DentryForm.{DentryForm, dentry_bytes, dentry_fields}
use Rattle.ufs_layout.specs.declared.superblock.Super.{Super}
use Rattle.ufs_layout.specs.declared.header.Header.{Header}
use Rattle.ufs_layout.proofs.Spelled.{spelled-once}
use Rattle.ufs_layout.proofs.HeadForms.{FitsSuper, super-back, FitsHeader, header-back}
use Rattle.ufs_layout.proofs.InodeForms.{FitsInode, inode-back}
use Rattle.ufs_layout.proofs.DentryForms.{dentry-back}

pub super-once : (v w : Super) → FitsSuper v → FitsSuper w → super_bytes v ≡ super_bytes w → v ≡ w
super-once v w fits_v fits_w = spelled-once super_fields super_bytes v w (super-back v fits_v) (super-back w fits_w)

pub header-once : (v w : Header) → FitsHeader v → FitsHeader w → header_bytes v ≡ header_bytes w → v ≡ w
header-once v w fits_v fits_w = spelled-once header_fields header_bytes v w (header-back v fits_v) (header-back w fits_w)

pub inode-once : (v w : InodeForm) → FitsInode v → FitsInode w → inode_bytes v ≡ inode_bytes w → v ≡ w
inode-once v w fits_v fits_w = spelled-once inode_fields inode_bytes v w (inode-back v fits_v) (inode-back w fits_w)

pub dentry-once : (v w : DentryForm) → v.inode < 2 ^ 32 → w.inode < 2 ^ 32 → dentry_bytes v ≡ dentry_bytes w → v ≡ w
dentry-once v w fits_v fits_w = spelled-once dentry_fields dentry_bytes v w (dentry-back v fits_v) (dentry-back w fits_w)
