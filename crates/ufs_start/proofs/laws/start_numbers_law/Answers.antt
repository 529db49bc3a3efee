use Rattle.ufs_start.proofs.laws.start_numbers_law.Goals as goal

pub returns : goal.returns
returns c sectors disk g image n numbers start are inode file number = start.names.numbers.each inode file (are.only inode file number)
