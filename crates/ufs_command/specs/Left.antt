-- What a command does to a disk and to a source.
use Rattle.std.specs.Prelude.{ℕ, ◌≡◌, ◌≢◌, ◌<◌, ◌⊎◌, [], List, length, Bool, true, false, Option, Some, None, Err, IsTrue}
use Rattle.ufs_brink.specs.Begins.{BeginsWith}
use Rattle.ufs_bench.specs.Workload.{bench_geometry}
use Rattle.ufs_metadata.specs.Reading.{IsReadOnly}
use Rattle.ufs_disk.specs.Disk.{Leaves}
use Rattle.ufs_disk.specs.Moments.{Moments, LeavesOnly, reads}
use Rattle.ufs_image.specs.Opens.{opens}
use Rattle.ufs_image.specs.Proper.{IsProperImage}
use Rattle.ufs_image.specs.Volume.{Refusal, superblock_of}
use Rattle.ufs_promise_laws.specs.Last.{StandsForTree}
use Rattle.ufs_layout.specs.Areas.{geometry_refusal, sector_count}
use Rattle.ufs_layout.specs.declared.geometry.Geometry.{Geometry}
use Rattle.ufs_ledger.specs.Kept.{OpensExplained}
use Rattle.ufs_model.specs.History.{joined, tree_after}
use Rattle.ufs_model.specs.PosixTree.{PosixTree, root_alone}
use Rattle.ufs_model.specs.declared.data.Entry.{Entry}
use Rattle.ufs_brink.specs.Numbers.{RaisesNumbers}
use Rattle.ufs_engine.specs.Plays.{IsStampedThroughout}
pub use Rattle.ufs_engine.specs.Plays.{MayPlay}
use Rattle.ufs_recover.specs.Stopped.{IsNewDisk, IsStopped}
use Rattle.ufs_recover.specs.Tables.{IsOutside}
use Rattle.ufs_recovery.specs.Home.{KeepsTree}
use Rattle.ufs_recovery.specs.Recovered.{IsCleanDisk, IsProperDisk, IsRecovered}
use Rattle.ufs_told.specs.Throughout.{IsExplainedThroughout}
use Rattle.ufs_told.specs.Told.{IsCountStill, devices_in}
use Rattle.ufs_command.specs.declared.words.Command.{Command}
use Rattle.ufs_command.specs.declared.words.Command.TheVariants as command
use Rattle.ufs_command.specs.Commands.{reads_source, serves}
use Rattle.ufs_command.specs.Seen.{Course, Reading}

-- ---- disks

-- `mkfs` of this geometry
pub record Formats {D : Type 0} (g : Geometry) (status : ℕ) (c : Course D) : Type 0 where
  -- Status 0: the disk has a new image, with the root alone, and nothing pending.
  pub formatted : IsTrue c.visible → status ≡ 0 → IsNewDisk g c.sectors c.to.state
  -- At each moment, whatever the status, a crash leaves what it might have left before, no superblock, or a new image.
  pub crash : IsTrue c.visible → LeavesOnly c.keeps (IsStopped g c.sectors c.from.state) c.from c.to
  -- Whatever the status, what stands in the superblock's block behind the superblock, and in the data area and behind it, reads
  -- as before.
  pub others : IsTrue c.visible → (s : ℕ) → IsOutside g s → reads c.to s ≡ reads c.from s
  -- A geometry that is refused, one that is too large for the disk, and want of memory leave it.
  pub refused : geometry_refusal g ≢ None → c.new ≡ c.old
  pub small : c.sectors < sector_count g → c.new ≡ c.old
  pub starved : status ≡ 5 → c.new ≡ c.old

-- `recover`, of a visible disk
pub record Recovers (keeps : Bool) (sectors status : ℕ) (from to : Moments) : Type 0 where
  -- Status 0: where the disk was proper, it is proper and clean, and nothing is pending;
  pub clean : status ≡ 0 → IsProperDisk sectors from.state → IsCleanDisk sectors to.state
  -- where it was in use, it is in the next epoch, with the commit numbers behind and no inode without a name.
  pub recovered : status ≡ 0 → IsProperDisk sectors from.state → (superblock_of (reads from)).clean ≡ false → IsRecovered (reads from) (reads to)
  -- At each moment, whatever the status, a crash leaves a proper disk as an image of the same tree.
  pub tree : IsProperDisk sectors from.state → KeepsTree keeps sectors from to
  -- An image that is marked clean, and one that stands for no tree, are only read.
  pub quiet : IsTrue (superblock_of (reads from)).clean → IsReadOnly keeps from to
  pub refused : (refusal : Refusal) → opens sectors (reads from) ≡ Err refusal → IsReadOnly keeps from to

-- `play`, of which the transcripts are these, over a disk whose image a session may begin with
pub record Plays {D : Type 0} (told : List (List Entry)) (status : ℕ) (c : Course D) : Type 0 where
  -- Whatever the status, what a crash leaves opens to a tree that the whole history explains: to the first changes of names,
  -- and the first of each file, among them each that an acknowledged `fsync` or `sync` waited for.
  pub crash : MayPlay c.visible c.sectors c.from.state → (start : PosixTree) → BeginsWith c.sectors (reads c.from) start → Leaves (OpensExplained c.sectors start (joined told)) c.to.state
  pub proper : MayPlay c.visible c.sectors c.from.state → Leaves (IsProperImage c.sectors) c.to.state
  -- So it is at each moment before: to each entry belongs some moment, in the history's order, and what a crash leaves opens to
  -- a tree that the entries explain whose moments have passed, and is proper. That an entry's moment is the one in which its
  -- reply was made isn't said.
  pub always : MayPlay c.visible c.sectors c.from.state → (start : PosixTree) → BeginsWith c.sectors (reads c.from) start → IsExplainedThroughout c.keeps c.sectors start [] (joined told) c.from c.to
  -- From some moment to a later one, what a crash leaves in each state of the disk is explained by the first entries, for each
  -- number of them from one stamp of the session's turns to another. As it stands here it follows from `always`.
  pub stamped : IsTrue c.keeps → MayPlay c.visible c.sectors c.from.state → (start : PosixTree) → BeginsWith c.sectors (reads c.from) start → IsStampedThroughout c.keeps c.sectors start (joined told) c.from c.to
  -- Status 0: the disk is proper and clean, nothing is pending, and it stands for the tree behind the history.
  pub clean : MayPlay c.visible c.sectors c.from.state → status ≡ 0 → IsCleanDisk c.sectors c.to.state
  pub last : MayPlay c.visible c.sectors c.from.state → (start : PosixTree) → BeginsWith c.sectors (reads c.from) start → status ≡ 0 → StandsForTree c.sectors (tree_after start (joined told)) (reads c.to)
  -- Status 0: the epoch, and the next commit number with which the image might go on, are raised by no more than so many requests
  -- and one more may raise them.
  pub numbers : MayPlay c.visible c.sectors c.from.state → status ≡ 0 → RaisesNumbers (length (joined told)) (reads c.from) (reads c.to)
  -- Over a visible disk whose image stands for no tree nobody is served, and the status isn't 0.
  pub unserved : IsTrue c.visible → (refusal : Refusal) → opens c.sectors (reads c.from) ≡ Err refusal → told ≡ []
  pub undone : IsTrue c.visible → (refusal : Refusal) → opens c.sectors (reads c.from) ≡ Err refusal → status ≢ 0
  -- Where there is no script, it is as it was.
  pub broken : status ≡ 2 → c.new ≡ c.old
  pub unread : status ≡ 6 → c.new ≡ c.old

-- Nothing was served: the disk was left, or was stopped while it was formatted, as by `mkfs`.
abbrev pub LeavesUnserved : {D : Type 0} → List (List Entry) → ℕ → Course D → Type 0
LeavesUnserved told status c = (told ≡ []) × Formats bench_geometry status c

-- It was formatted, as by `mkfs` with status 0, and then the workload was played on it, as by `play`.
abbrev pub FormatsAndPlays : {D : Type 0} → List (List Entry) → ℕ → Course D → Type 0
FormatsAndPlays {D} told status c = (mid : D) × (between : Moments) × Formats bench_geometry 0 (record c { new = mid; to = between }) × Plays told status (record c { old = mid; from = between })

-- `bench`, of which the transcripts are these
pub record Benches {D : Type 0} (told : List (List Entry)) (status : ℕ) (c : Course D) : Type 0 where
  pub steps : LeavesUnserved told status c ⊎ FormatsAndPlays told status c
  -- A disk that is too small is left.
  pub small : c.sectors < sector_count bench_geometry → c.new ≡ c.old
  -- Status 0: a visible disk is proper and clean, nothing is pending, and it stands for the tree behind the history.
  pub clean : IsTrue c.visible → status ≡ 0 → IsCleanDisk c.sectors c.to.state
  pub last : IsTrue c.visible → status ≡ 0 → StandsForTree c.sectors (tree_after root_alone (joined told)) (reads c.to)

-- What a command does to the content of a disk: `tree`, `check` and `audit` only read it, and what isn't listed leaves it.
abbrev pub ActsOn : {D : Type 0} → Option Command → List (List Entry) → ℕ → Course D → Type 0
ActsOn (Some (command.Mkfs blocks inodes journal)) told status c = Formats (record { blocks = blocks; inodes = inodes; journal = journal }) status c
ActsOn (Some command.Tree) told status c = IsTrue c.visible → IsReadOnly c.keeps c.from c.to
ActsOn (Some command.Check) told status c = IsTrue c.visible → IsReadOnly c.keeps c.from c.to
ActsOn (Some command.Audit) told status c = IsTrue c.visible → IsReadOnly c.keeps c.from c.to
ActsOn (Some command.Recover) told status c = IsTrue c.visible → Recovers c.keeps c.sectors status c.from c.to
ActsOn (Some (command.Play trace)) told status c = Plays told status c
ActsOn (Some (command.Bench seed)) told status c = Benches told status c
ActsOn (Some command.NotBuilt) told status c = c.new ≡ c.old
ActsOn None told status c = c.new ≡ c.old

pub record LeavesDisk {D : Type 0} (words : Option Command) (lists : List (List Entry)) (status : ℕ) (c : Course D) : Type 0 where
  pub acts : ActsOn words lists status c
  -- It has as many sectors.
  pub size : c.sectors_now ≡ c.sectors
  -- Of a command that serves nobody any status but 4 and 7 leaves its count.
  pub told : serves words ≡ false → status ≢ 4 → status ≢ 7 → c.now ≡ c.before
  -- Of `play` and `bench` any status but 4, 5 and 7 does where no reply tells a fault; a count at its type's end tells none.
  pub played : serves words ≡ true → status ≢ 4 → status ≢ 7 → status ≢ 5 → devices_in (joined lists) ≡ [] → IsCountStill c.before c.now

-- ---- sources

pub record LeavesSource (words : Option Command) (status : ℕ) (r : Reading) : Type 0 where
  -- Any status but 6 and 7 leaves its count.
  pub told : status ≢ 6 → status ≢ 7 → r.now ≡ r.before
  -- Only `play` and `audit` read it.
  pub unread : reads_source words ≡ false → (r.rest ≡ r.left) × (r.now ≡ r.before)
