-- Which requests commit nothing.
use Rattle.std.proofs.Common.{◌≡◌, false, refl}
use Rattle.ufs_model.specs.FileCalls.{is_on_file}
use Rattle.ufs_model.specs.declared.data.Op.{Op}
use Rattle.ufs_model.specs.declared.data.Op.TheVariants as op
use Rattle.ufs_crash_laws.specs.Changes.{asks_commit}

-- of those that are on no descriptor of a file, all but a `sync`
pub beside_none : (o : Op) → is_on_file o ≡ false → (o ≡ op.Sync → ⊥) → asks_commit o ≡ false
beside_none (op.Read fd n) is other = refl
beside_none (op.Write fd bytes) is other = refl
beside_none (op.Pread fd n at) is other = refl
beside_none (op.Pwrite fd bytes at) is other = refl
beside_none (op.Seek fd from by) is other = refl
beside_none (op.Trunc fd size) is other = refl
beside_none (op.Fsync fd) is other = absurd cc
beside_none (op.OpenFile path read write creat excl trunc append) is other = refl
beside_none (op.Close fd) is other = refl
beside_none op.Sync is other = absurd (other refl)
beside_none (op.Mkdir path) is other = refl
beside_none (op.Rmdir path) is other = refl
beside_none (op.Unlink path) is other = refl
beside_none (op.Rename from to) is other = refl
beside_none (op.Stat path) is other = refl
beside_none (op.List path) is other = refl
