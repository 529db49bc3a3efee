-- What any words end with, where the sink doesn't fail.
use Rattle.std.specs.Prelude.{ℕ, ◌≡◌, ◌⊎◌, List, [], Option, Some, None}
use Rattle.ufs_model.specs.declared.data.Entry.{Entry}
use Rattle.ufs_command.specs.declared.ending.Ending.{Ending}
use Rattle.ufs_command.specs.declared.ending.Ending.TheVariants.{Usage, NotBuilt, OutOfMemory}
use Rattle.ufs_command.specs.declared.words.Command.{Command}
use Rattle.ufs_command.specs.declared.words.Command.TheVariants as command
use Rattle.ufs_bench.specs.Workload.{workload_of}
use Rattle.ufs_command.specs.Seen.{Reading, Formatting}
use Rattle.ufs_command.specs.Audits.{EndsAudit}
use Rattle.ufs_command.specs.Bench.{EndsBench}
use Rattle.ufs_command.specs.Endings.{EndsCheck, EndsMkfs, EndsPlay, EndsRecovery, EndsTree, IsFixed}

-- What is seen of the source and of the disk and was told to clients allows a command, or there being none, this ending with
-- this text.
abbrev pub EndsCommand : Option Command → Reading → Formatting → List (List Entry) → Ending → List ℕ → Type 0
EndsCommand None r d told ending text = IsFixed Usage ending text
EndsCommand (Some command.NotBuilt) r d told ending text = IsFixed NotBuilt ending text
EndsCommand (Some (command.Play trace)) r d told ending text = EndsPlay trace r d told ending text
EndsCommand (Some command.Tree) r d told ending text = EndsTree d ending text
EndsCommand (Some command.Check) r d told ending text = EndsCheck d ending text
EndsCommand (Some command.Audit) r d told ending text = EndsAudit r d ending text
EndsCommand (Some command.Recover) r d told ending text = EndsRecovery d ending text
EndsCommand (Some (command.Bench seed)) r d told ending text = EndsBench (workload_of seed) d told ending text
EndsCommand (Some (command.Mkfs blocks inodes journal)) r d told ending text = EndsMkfs (record { blocks = blocks; inodes = inodes; journal = journal }) d ending text

-- An allocation was refused while the words were read, whatever command they are: nothing was read of the source, no call of the
-- disk failed, and nobody was told anything.
abbrev pub LacksWords : Reading → Formatting → List (List Entry) → Ending → List ℕ → Type 0
LacksWords r d told ending text = (told ≡ []) × (r.rest ≡ r.left) × (r.now ≡ r.before) × (d.now ≡ d.before) × IsFixed OutOfMemory ending text

-- The same of words that are this command, or none: it ends as it ends, or there was no memory for the words.
abbrev pub Ends : Option Command → Reading → Formatting → List (List Entry) → Ending → List ℕ → Type 0
Ends words r d told ending text = EndsCommand words r d told ending text ⊎ LacksWords r d told ending text
