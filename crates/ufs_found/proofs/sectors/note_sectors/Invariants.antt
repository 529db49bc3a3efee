use Rattle.std.proofs.Common.{◌≡◌, ◌++◌}
use Rattle.ufs_base.specs.Choices.{first_of}
use Rattle.ufs_image.specs.Journal.{well_spelled}
use Rattle.ufs_found.specs.Read.{read_from, pieces_from, misspelled}
use Rattle.ufs_found.proofs.sectors.note_sectors.Given as goal

abbrev pub invariant-loop-i : goal.invariant-loop-i
invariant-loop-i l = record {
  found : l.list.found.items ≡ l.fn.list.found.items ++ well_spelled (read_from l.epoch (pieces_from l.sector l.bytes) l.sector l.i);
  misspelled : l.list.misspelled ≡ first_of l.fn.list.misspelled (misspelled (read_from l.epoch (pieces_from l.sector l.bytes) l.sector l.i));
}
