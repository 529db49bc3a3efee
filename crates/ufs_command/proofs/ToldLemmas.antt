-- What each command tells.
use Rattle.std.proofs.Common.{ℕ, List, Option, Some, None}
use Rattle.ufs_model.specs.History.{joined}
use Rattle.ufs_model.specs.declared.data.Entry.{Entry}
use Rattle.ufs_engine.specs.Plays.{AreFaultsOf}
use Rattle.ufs_script.specs.Reading.{LongerIsAlike}
use Rattle.ufs_command.specs.declared.words.Command.{Command}
use Rattle.ufs_command.specs.declared.words.Command.TheVariants as command
use Rattle.ufs_command.specs.Seen.{Reading, Writing, Formatting}
use Rattle.ufs_command.specs.Endings.{IsAnswer}
use Rattle.ufs_command.specs.Ends.{EndsCommand}
use Rattle.ufs_command.specs.Told.{Tells}
use Rattle.ufs_bench.specs.Workload.{workload_of}
use Rattle.ufs_command.proofs.AuditLemmas.{audit_told}
use Rattle.ufs_command.proofs.BenchLemmas.{bench_told}
use Rattle.ufs_command.proofs.PlayLemmas.{play_told}
use Rattle.ufs_command.proofs.MkfsLemmas.{mkfs_told}
use Rattle.ufs_command.proofs.TreeLemmas.{tree_told}
use Rattle.ufs_command.proofs.CheckLemmas.{check_told}
use Rattle.ufs_command.proofs.RecoveryLemmas.{recovery_told}

pub tells : LongerIsAlike → (words : Option Command) (r : Reading) (d : Formatting) (told : List (List Entry)) (w : Writing) (status : ℕ) → AreFaultsOf d.before d.now (joined told) → IsAnswer (EndsCommand words r d told) w status → Tells words r d told w status
tells alike None r d told w status faults a = tt
tells alike (Some command.NotBuilt) r d told w status faults a = tt
tells alike (Some (command.Play trace)) r d told w status faults a = play_told trace r d told w status a alike faults
tells alike (Some (command.Mkfs blocks inodes journal)) r d told w status faults a = mkfs_told (record { blocks = blocks; inodes = inodes; journal = journal }) d w status a
tells alike (Some (command.Bench seed)) r d told w status faults a = bench_told (workload_of seed) d told w status a faults
tells alike (Some command.Tree) r d told w status faults a = λ known. tree_told d w status a known
tells alike (Some command.Check) r d told w status faults a = λ known. check_told d w status a known
tells alike (Some command.Audit) r d told w status faults a = audit_told r d w status a
tells alike (Some command.Recover) r d told w status faults a = λ known. recovery_told d w status a known
