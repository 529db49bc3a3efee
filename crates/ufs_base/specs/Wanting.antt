-- Want of memory: there is one, whatever allocation was refused.
use Rattle.std.specs.declared.alloc.AllocError.{AllocError}
use Rattle.ufs_base.specs.declared.memory.Memory.{Memory}

abbrev pub wanting : Memory
wanting = record { refused = record {} }
