use Rattle.ufs_start.proofs.Named.{files_apart, files_are, inodes_are}
use Rattle.ufs_start.proofs.laws.start_files_law.Goals as goal

pub returns-clause-parts : goal.returns-clause-parts
returns-clause-parts c g f sectors disk superblock image n files loaded names read = (files_are g f sectors disk superblock image loaded n files names read, inodes_are g f sectors disk superblock image loaded n files names read)

pub returns-clause-apart : goal.returns-clause-apart
returns-clause-apart c g f sectors disk superblock image n files pool loaded names read free = files_apart g f sectors disk superblock image loaded n files names read pool free
