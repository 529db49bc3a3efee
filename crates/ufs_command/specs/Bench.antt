-- What `bench` ends with, tells and leaves: it formats the disk, serves a workload over the new image, and prints how it was
-- answered.
use Rattle.std.specs.Prelude.{ℕ, ◌≡◌, ◌<◌, ◌≤◌, ◌⊎◌, List, [], IsTrue}
use Rattle.ufs_base.specs.Faults.{raised}
use Rattle.ufs_bench.specs.Summary.{summary_text}
use Rattle.ufs_bench.specs.Workload.{bench_geometry}
use Rattle.ufs_brink.specs.Begins.{HasNothingOpen}
use Rattle.ufs_layout.specs.Areas.{sector_count}
use Rattle.ufs_model.specs.History.{joined, tree_after}
use Rattle.ufs_model.specs.PosixTree.{PosixTree, root_alone}
use Rattle.ufs_model.specs.declared.data.Entry.{Entry}
use Rattle.ufs_model.specs.declared.data.Op.{Op}
use Rattle.ufs_recover.specs.Stopped.{IsNewDisk}
use Rattle.ufs_script.specs.declared.script.Script.{Script}
use Rattle.ufs_told.specs.Sizes.{total_size}
use Rattle.ufs_command.specs.declared.ending.Ending.{Ending}
use Rattle.ufs_command.specs.declared.ending.Ending.TheVariants.{TooSmall, DeviceFault, OutOfMemory}
use Rattle.ufs_command.specs.Seen.{Formatting}
use Rattle.ufs_command.specs.Served.{IsFromDisk, IsHistoryOf}
use Rattle.ufs_command.specs.Endings.{EndsServed, IsFixed, IsLine}
use Rattle.ufs_command.specs.Texts.{device_line}

-- the script of a workload, for one worker
abbrev pub bench_script : List (List Op) → Script
bench_script clients = record { clients = clients; workers = 1; words = [] }

-- the lines of transcripts, one after another, and of so many bytes
abbrev pub bench_text : List (List Entry) → ℕ → List ℕ
bench_text told bytes = summary_text (joined told) bytes

-- The transcripts, one after another, are a history of the workload, from this tree on, and all files of the tree behind it
-- have together so many bytes.
abbrev pub IsServedFrom : List (List Op) → List (List Entry) → ℕ → PosixTree → Type 0
IsServedFrom clients told bytes start = IsHistoryOf start (bench_script clients) (joined told) × (bytes ≡ total_size (tree_after start (joined told)))

-- So it is from a tree in which nothing is open, of a visible disk from the root alone.
abbrev pub HasServed : List (List Op) → Formatting → List (List Entry) → ℕ → Type 0
HasServed clients d told bytes = (start : PosixTree) × HasNothingOpen start × (IsTrue d.visible → start ≡ root_alone) × IsServedFrom clients told bytes start

-- The second is seen of the disk once it was formatted, of which the first is seen.
pub record IsOnceFormatted (d f : Formatting) : Type 0 where
  pub visible : f.visible ≡ d.visible
  pub sectors : f.sectors ≡ d.sectors
  pub before : f.before ≡ d.before
  pub now : f.now ≡ d.now
  -- a visible disk has a new image, with the root alone, and nothing pending
  pub made : IsTrue d.visible → IsNewDisk bench_geometry d.sectors f.state

-- The disk is too small, and was left.
abbrev pub EndsSmall : Formatting → List (List Entry) → Ending → List ℕ → Type 0
EndsSmall d told ending text = (d.sectors < sector_count bench_geometry) × (told ≡ []) × (d.now ≡ d.before) × IsFixed TooSmall ending text

-- Nothing was served: there was no memory for the workload, or a call of the disk failed while it was formatted.
abbrev pub EndsUnformatted : Formatting → List (List Entry) → Ending → List ℕ → Type 0
EndsUnformatted d told ending text = (told ≡ []) × (((d.now ≡ d.before) × IsFixed OutOfMemory ending text) ⊎ ((d.now ≡ raised d.before) × IsLine DeviceFault (device_line d.now) ending text))

-- The workload was served over the image of a disk, and it is told how large the files are behind a session that is whole.
abbrev pub EndsMeasured : List (List Op) → Formatting → List (List Entry) → Ending → List ℕ → Type 0
EndsMeasured clients d told ending text = (bytes : ℕ) × EndsServed (IsFromDisk d (IsServedFrom clients told bytes)) (bench_text told bytes) d (bench_script clients) told ending text

-- The disk was formatted, and the workload served over the new image.
abbrev pub EndsFormatted : List (List Op) → Formatting → List (List Entry) → Ending → List ℕ → Type 0
EndsFormatted clients d told ending text = (f : Formatting) × IsOnceFormatted d f × EndsMeasured clients f told ending text

-- What is seen of the disk and was told allows `bench` of this workload this ending with this text.
abbrev pub EndsBench : List (List Op) → Formatting → List (List Entry) → Ending → List ℕ → Type 0
EndsBench clients d told ending text = EndsSmall d told ending text
    ⊎ ((sector_count bench_geometry ≤ d.sectors) × (EndsUnformatted d told ending text ⊎ EndsFormatted clients d told ending text))
