-- Spellings of the image with 256 blocks, 32 inodes and 64 journal sectors, computed.
use Rattle.std.proofs.Common.{◌≡◌, [], ◌∷◌, ◌++◌, Some, None, refl}
use Rattle.std.specs.Prelude.{replicate, codes}
use Rattle.ufs_layout.specs.Areas.{first_of_data, sector_of_inode}
use Rattle.ufs_layout.specs.Superblock.{super_bytes, super_of}
use Rattle.ufs_layout.specs.DentryForm.{dentry_of, free_slot}
use Rattle.ufs_layout.specs.Records.{record_bytes, records_bytes, records_of}
use Rattle.ufs_layout.specs.JournalSector.{JournalSector, HasRecords, journal_of, journal_bytes}
use Rattle.ufs_layout.specs.Superblock.{new_super}
use Rattle.ufs_layout.specs.declared.geometry.Geometry.{Geometry}
use Rattle.ufs_layout.specs.declared.records.LogRecord.{LogRecord}
use Rattle.ufs_layout.specs.declared.records.LogRecord.TheVariants.{Delta, Place}

abbrev small : Geometry
small = record { blocks = 256; inodes = 32; journal = 64 }

data_begins : first_of_data small ≡ 14
data_begins = refl

root_sector : sector_of_inode small 1 ≡ 16
root_sector = refl

super_vector : super_bytes (new_super small) ≡ (117 ∷ 70 ∷ 83 ∷ 73 ∷ 77 ∷ 71 ∷ 48 ∷ 49 ∷ 1 ∷ 0 ∷ 0 ∷ 0 ∷ 0 ∷ 1 ∷ 0 ∷ 0 ∷ 32 ∷ 0 ∷ 0 ∷ 0 ∷ 64 ∷ 0 ∷ 0 ∷ 0
    ∷ 1 ∷ 0 ∷ 0 ∷ 0 ∷ 0 ∷ 0 ∷ 0 ∷ 0 ∷ 1 ∷ 0 ∷ 0 ∷ 0 ∷ 0 ∷ 0 ∷ 0 ∷ 0 ∷ 1 ∷ []) ++ replicate 471 0
super_vector = refl

super_read : super_of 1 (super_bytes (new_super small)) ≡ Some (new_super small)
super_read = refl

-- one byte more is no spelling
longer : super_of 1 (super_bytes (new_super small) ++ 0 ∷ []) ≡ None
longer = refl

-- the birth of `/f`: the root gets block 14, the file has nothing, and the root's first slot names it
abbrev root_delta : LogRecord
root_delta = Delta 1 2 4096 0 (record { start = 14; length = 1 } ∷ [])

abbrev file_delta : LogRecord
file_delta = Delta 2 1 0 0 []

abbrev f_name : LogRecord
f_name = Place 112 0 (record { inode = 2; kind = 1; name = codes "f" })

root_vector : record_bytes root_delta ≡ 1 ∷ 1 ∷ 0 ∷ 0 ∷ 0 ∷ 2 ∷ 0 ∷ 16 ∷ 0 ∷ 0 ∷ 0 ∷ 0 ∷ 0 ∷ 0 ∷ 0 ∷ 1 ∷ 14 ∷ 0 ∷ 0 ∷ 0 ∷ 1 ∷ 0 ∷ 0 ∷ 0 ∷ []
root_vector = refl

file_vector : record_bytes file_delta ≡ 1 ∷ 2 ∷ 0 ∷ 0 ∷ 0 ∷ 1 ∷ 0 ∷ 0 ∷ 0 ∷ 0 ∷ 0 ∷ 0 ∷ 0 ∷ 0 ∷ 0 ∷ 0 ∷ []
file_vector = refl

name_vector : record_bytes f_name ≡ (2 ∷ 112 ∷ 0 ∷ 0 ∷ 0 ∷ 0 ∷ 2 ∷ 0 ∷ 0 ∷ 0 ∷ 1 ∷ 1 ∷ 102 ∷ []) ++ replicate 57 0
name_vector = refl

-- after one byte in block 15
grown_vector : record_bytes (Delta 2 1 1 0 (record { start = 15; length = 1 } ∷ [])) ≡ 1 ∷ 2 ∷ 0 ∷ 0 ∷ 0 ∷ 1 ∷ 1 ∷ 0 ∷ 0 ∷ 0 ∷ 0 ∷ 0 ∷ 0 ∷ 0 ∷ 0 ∷ 1 ∷ 15 ∷ 0 ∷ 0 ∷ 0 ∷ 1 ∷ 0 ∷ 0 ∷ 0 ∷ []
grown_vector = refl

-- a free slot is 64 zeros
free_vector : dentry_of (replicate 64 0) ≡ Some free_slot
free_vector = refl

records_read : records_of (records_bytes (root_delta ∷ file_delta ∷ f_name ∷ [])) ≡ Some (root_delta ∷ file_delta ∷ f_name ∷ [])
records_read = refl

birth : JournalSector
birth = record { epoch = 1; txn = 1; index = 0; content = HasRecords (root_delta ∷ file_delta ∷ f_name ∷ []) }

birth_read : journal_of (journal_bytes birth) ≡ Some birth
unfolding birth
birth_read = refl
