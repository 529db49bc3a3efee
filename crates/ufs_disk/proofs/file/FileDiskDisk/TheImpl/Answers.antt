-- A disk over a file isn't visible.
use Rattle.std.proofs.Common.{refl}
use Rattle.ufs_disk.specs.Props.{untrue}
use Rattle.ufs_disk.proofs.file.FileDiskDisk.TheImpl.Goals as goal

pub read-tells : goal.read-tells
read-tells g c = record {
  bytes = λ visible. absurd (untrue visible);
  content = λ visible. refl;
  crash = λ visible. absurd (untrue visible);
  still = λ visible. absurd (untrue visible);
  size = refl;
  cause = c.ensures.cause;
  number = c.ensures.number;
}

pub write-tells : goal.write-tells
write-tells g c = record {
  ok = λ visible. absurd (untrue visible);
  content = λ visible. absurd (untrue visible);
  crash = λ visible. absurd (untrue visible);
  size = refl;
  cause = c.ensures.cause;
  number = c.ensures.number;
}

pub barrier-tells : goal.barrier-tells
barrier-tells g c = record {
  ok = λ visible. absurd (untrue visible);
  content = λ visible. refl;
  crash = λ visible. absurd (untrue visible);
  size = refl;
  cause = c.ensures.cause;
  number = c.ensures.number;
}
