-- What a command's status says, and what the sink got then. Each status with each text stands in `Ends`; this is what
-- it comes to for each command.
use Rattle.std.specs.Prelude.{ℕ, ◌≡◌, ◌≢◌, ◌<◌, ◌≤◌, ◌⊎◌, Bool, List, [], ◌++◌, length, Option, Some, None, ⊤, Ok, Err, IsTrue}
use Rattle.std.specs.Io.KnownBytes.{Appends}
use Rattle.ufs_audit.specs.Sources.{HasVerdict}
use Rattle.ufs_audit.specs.declared.verdict.Verdict.{Verdict}
use Rattle.ufs_audit.specs.declared.verdict.Verdict.TheVariants as verdict
use Rattle.ufs_audit.specs.declared.verdict.Wrong.{Wrong}
use Rattle.ufs_bench.specs.Workload.{bench_geometry, workload_of}
use Rattle.ufs_base.specs.Faults.{raised}
use Rattle.ufs_image.specs.Damage.{Damage}
use Rattle.ufs_image.specs.Opens.{ImageTree, opens, damage_list}
use Rattle.ufs_image.specs.Proper.{IsProperImage}
use Rattle.ufs_image.specs.Volume.{Refusal}
use Rattle.ufs_layout.specs.Areas.{geometry_refusal, sector_count}
use Rattle.ufs_layout.specs.declared.geometry.Geometry.{Geometry}
use Rattle.ufs_model.specs.History.{joined}
use Rattle.ufs_model.specs.PosixTree.{PosixTree}
use Rattle.ufs_model.specs.declared.data.Entry.{Entry}
use Rattle.ufs_model.specs.declared.data.Op.{Op}
use Rattle.ufs_engine.specs.Plays.{AreFaultsOf, MayPlay}
use Rattle.ufs_told.specs.Told.{HasRisen}
use Rattle.ufs_recovery.specs.Recovered.{log_of}
use Rattle.ufs_script.specs.declared.fault.ScriptFault.{ScriptFault}
use Rattle.ufs_script.specs.declared.script.Script.{Script}
use Rattle.ufs_command.specs.declared.words.Command.{Command}
use Rattle.ufs_command.specs.declared.words.Command.TheVariants as command
use Rattle.ufs_command.specs.Audits.{IsAuditStart, TellsBreak, TellsLongText}
use Rattle.ufs_command.specs.Bench.{HasServed, bench_text}
use Rattle.ufs_command.specs.Texts.{too_small_line, made_line, break_line, device_line, illegal_line, legal_line, recovered_line}
use Rattle.ufs_print.specs.TreeLines.{tree_lines, refusal_line}
use Rattle.ufs_print.specs.DamageLines.{clean_line, damage_lines}
use Rattle.ufs_command.specs.Endings.{TellsNoStart}
use Rattle.ufs_command.specs.Served.{EndsSession, IsSessionOf, TellsEnd, session_text}
use Rattle.ufs_command.specs.Seen.{Reading, Writing, Formatting}
use Rattle.ufs_command.specs.Unscheduled.{ReadsUnscheduled, unscheduled_of}

-- No count of the disk and the sink rose.
pub record AreCalm (d : Formatting) (w : Writing) : Type 0 where
  pub disk : d.now ≢ raised d.before
  pub sink : w.now ≢ raised w.before

-- No call of the disk failed, as its count tells, and the count of the sink didn't rise.
pub record AreCalmThroughout (d : Formatting) (w : Writing) : Type 0 where
  pub disk : (fault : ℕ) → HasRisen d.before d.now fault → ⊥
  pub sink : w.now ≢ raised w.before

-- `play`, with a trace or without, of which the transcripts are these
pub record TellsPlay (trace : Bool) (r : Reading) (d : Formatting) (told : List (List Entry)) (w : Writing) (status : ℕ) : Type 0 where
  -- Status 0: the source was read to its end, and its bytes are a script without a schedule. There is one history, in which one POSIX tree,
  -- that begins as the tree of the disk's image, gives every reply or the reply is an excuse that fits, and which holds
  -- each request of the script once in its client's order. The sink got the lines of that history's replies, behind them,
  -- where a trace is asked for, those of that history's entries by their tickets, 0, 1, 2 and so on, and nothing else. Replies
  -- may tell faults of reads, and none tells that the store stopped, nor a fault to a request that asks for a commit; where none
  -- tells a fault, the disk's count of faults is as it was, or stands at its type's end.
  pub done : status ≡ 0 → (script : Script) × ReadsUnscheduled r.left r.rest script × IsSessionOf d script told × EndsSession d told (Ok tt) × Appends w.held w.holds (session_text trace script (joined told))
  -- Status 3: no session begins with the image, and the sink got the line of the cause, and nothing else.
  pub no_start : status ≡ 3 → (told ≡ []) × ((text : List ℕ) × TellsNoStart d text × Appends w.held w.holds text)
  -- The image of a visible disk that is proper is never refused.
  pub proper : MayPlay d.visible d.sectors d.state → status ≢ 3
  -- Status 4: a call of the disk failed as the session began, and the sink got the line of the fault; or each request was
  -- answered, and it got the same lines as with status 0, and behind them that of the fault of the closing, or of the one
  -- at which the store stopped. The fault of the closing is the disk's last, and no reply tells it.
  pub closing : status ≡ 4 → ((told ≡ []) × (d.now ≡ raised d.before) × Appends w.held w.holds (device_line d.now))
      ⊎ ((script : Script) × ReadsUnscheduled r.left r.rest script × IsSessionOf d script told × (fault : ℕ) × TellsEnd d told fault × Appends w.held w.holds (session_text trace script (joined told) ++ device_line fault))
  -- Each fault of the disk that a reply tells is one to which its count rose in this call, and no two replies tell one: along the
  -- history their numbers rise. There may be several, as a read that fails stops nothing. A request is told one only where it may
  -- have a turn of the store. The replies that tell where the store stopped all tell one fault, of this call too, and no read's.
  -- They answer requests that ask for a commit, and from the first one on each such request that isn't refused is told it.
  pub faults : AreFaultsOf d.before d.now (joined told)
  -- Over a visible source, a script without a schedule has status 0 or 5, or 3 and then no session begins with the image, unless a count of faults
  -- rises, or the disk's stands at its type's end.
  pub complete : (text : List ℕ) (script : Script) → r.left ≡ Some text → unscheduled_of text ≡ Ok script → r.now ≢ raised r.before → AreCalmThroughout d w
      → (status ≡ 0) ⊎ ((status ≡ 3) ⊎ (status ≡ 5))
  -- A text that is no script is told with the line and the cause of its first break, and one that has a schedule with its line.
  pub broken : (text : List ℕ) (fault : ScriptFault) → r.left ≡ Some text → unscheduled_of text ≡ Err fault → r.now ≢ raised r.before → w.now ≢ raised w.before
      → ((status ≡ 2) × (told ≡ []) × Appends w.held w.holds (break_line fault)) ⊎ (status ≡ 5)

-- `mkfs` of this geometry
pub record TellsMkfs (g : Geometry) (d : Formatting) (w : Writing) (status : ℕ) : Type 0 where
  -- Status 0: the sink got the line of the three numbers and the data blocks, and nothing else.
  pub made : status ≡ 0 → Appends w.held w.holds (made_line g)
  -- A geometry that is taken is formatted on a disk that is large enough, unless memory runs out or a count of faults
  -- rises.
  pub complete : geometry_refusal g ≡ None → sector_count g ≤ d.sectors → AreCalm d w → (status ≡ 0) ⊎ (status ≡ 5)

-- `tree`, over a visible disk
pub record TellsTree (d : Formatting) (w : Writing) (status : ℕ) : Type 0 where
  -- Status 0: the image stands for one tree, and the sink got the lines of that tree, and nothing else.
  pub printed : status ≡ 0 → (tree : ImageTree) × (opens d.sectors d.image ≡ Ok tree) × Appends w.held w.holds (tree_lines tree)
  -- Status 3: it stands for none, and the sink got the line of the cause, and nothing else.
  pub no_tree : status ≡ 3 → (refusal : Refusal) × (opens d.sectors d.image ≡ Err refusal) × Appends w.held w.holds (refusal_line refusal)
  -- An image that stands for a tree is printed and one that stands for none is refused, unless memory runs out or a
  -- count of faults rises.
  pub complete : (tree : ImageTree) → opens d.sectors d.image ≡ Ok tree → AreCalm d w → (status ≡ 0) ⊎ (status ≡ 5)
  pub refused : (refusal : Refusal) → opens d.sectors d.image ≡ Err refusal → AreCalm d w → (status ≡ 3) ⊎ (status ≡ 5)
  -- A proper image is never refused.
  pub proper : IsProperImage d.sectors d.image → status ≢ 3

-- `check`, over a visible disk
pub record TellsCheck (d : Formatting) (w : Writing) (status : ℕ) : Type 0 where
  -- Status 0: nothing is damaged, and the sink got the line that says so, and nothing else.
  pub clean : status ≡ 0 → (damage_list d.sectors d.image ≡ Ok []) × Appends w.held w.holds clean_line
  -- Status 8: the sink got the lines of all that is damaged, which is something, and nothing else.
  pub damaged : status ≡ 8 → (list : List Damage) × (list ≢ []) × (damage_list d.sectors d.image ≡ Ok list) × Appends w.held w.holds (damage_lines list)
  -- Status 3: the image isn't looked at, and the sink got the line of the cause, and nothing else.
  pub no_list : status ≡ 3 → (refusal : Refusal) × (damage_list d.sectors d.image ≡ Err refusal) × Appends w.held w.holds (refusal_line refusal)
  -- Each image has the status of what it is, unless memory runs out or a count of faults rises.
  pub complete_clean : damage_list d.sectors d.image ≡ Ok [] → AreCalm d w → (status ≡ 0) ⊎ (status ≡ 5)
  pub complete_damaged : (list : List Damage) → list ≢ [] → damage_list d.sectors d.image ≡ Ok list → AreCalm d w → (status ≡ 8) ⊎ (status ≡ 5)
  pub refused : (refusal : Refusal) → damage_list d.sectors d.image ≡ Err refusal → AreCalm d w → (status ≡ 3) ⊎ (status ≡ 5)
  -- A proper image is never refused.
  pub proper : IsProperImage d.sectors d.image → status ≢ 3

-- `recover`, over a visible disk
pub record TellsRecovery (d : Formatting) (w : Writing) (status : ℕ) : Type 0 where
  -- Status 0: the image stood for a tree, and the sink got the line of the number of transactions that were committed
  -- in its journal, and nothing else.
  pub recovered : status ≡ 0 → (tree : ImageTree) × (opens d.sectors d.image ≡ Ok tree) × Appends w.held w.holds (recovered_line (length (log_of d.image)))
  -- Status 3: it stood for none, and the sink got the line of the cause, and nothing else.
  pub no_tree : status ≡ 3 → (refusal : Refusal) × (opens d.sectors d.image ≡ Err refusal) × Appends w.held w.holds (refusal_line refusal)
  -- An image that stands for a tree is recovered and one that stands for none is refused, unless memory runs out or a
  -- count of faults rises.
  pub complete : (tree : ImageTree) → opens d.sectors d.image ≡ Ok tree → AreCalm d w → (status ≡ 0) ⊎ (status ≡ 5)
  pub refused : (refusal : Refusal) → opens d.sectors d.image ≡ Err refusal → AreCalm d w → (status ≡ 3) ⊎ (status ≡ 5)
  -- A proper image is never refused.
  pub proper : IsProperImage d.sectors d.image → status ≢ 3

-- `bench` of this workload, of which the transcripts are these
pub record TellsBench (clients : List (List Op)) (d : Formatting) (told : List (List Entry)) (w : Writing) (status : ℕ) : Type 0 where
  -- Status 0: there is one history, in which one POSIX tree, that begins with the root alone where the disk is visible, gives
  -- every reply or the reply is an excuse that fits, and which holds each request of the workload once in its client's order.
  -- The sink got the lines that count that history's replies by their kinds and tell how large all files of that tree are
  -- together behind it, and nothing else. No reply tells that the store stopped; where none tells a fault, the disk's count of faults is as it was, or
  -- stands at its type's end.
  pub done : status ≡ 0 → (bytes : ℕ) × HasServed clients d told bytes × EndsSession d told (Ok tt) × Appends w.held w.holds (bench_text told bytes)
  -- Status 3, of a visible disk: it is too small, nothing was served, and the sink got the line that says so, and nothing else.
  pub small : IsTrue d.visible → status ≡ 3 → (d.sectors < sector_count bench_geometry) × (told ≡ []) × Appends w.held w.holds too_small_line
  -- Status 4: a call of the disk failed as it was formatted or as the session began, and the sink got the line of the fault; or
  -- each request was answered, and it got the same lines as with status 0, and behind them that of the fault of the closing, or
  -- of the one at which the store stopped.
  pub closing : status ≡ 4 → ((told ≡ []) × (d.now ≡ raised d.before) × Appends w.held w.holds (device_line d.now))
      ⊎ ((bytes : ℕ) × HasServed clients d told bytes × (fault : ℕ) × TellsEnd d told fault × Appends w.held w.holds (bench_text told bytes ++ device_line fault))
  -- Each fault of the disk that a reply tells is one to which its count rose in this call, and no two replies tell one: each is
  -- told for its cause, as of `play`.
  pub faults : AreFaultsOf d.before d.now (joined told)
  -- On a visible disk that is large enough the workload is served, unless memory runs out or a count of faults rises.
  pub complete : IsTrue d.visible → sector_count bench_geometry ≤ d.sectors → AreCalmThroughout d w → (status ≡ 0) ⊎ (status ≡ 5)
  -- A disk that is too small is refused, unless memory runs out or the sink's count of faults rises.
  pub refused : d.sectors < sector_count bench_geometry → w.now ≢ raised w.before → (status ≡ 3) ⊎ (status ≡ 5)

-- The verdict on the text behind the source's script, from the tree that the audit begins with.
abbrev pub IsVerdictOf : Reading → Formatting → Verdict → Type 0
IsVerdictOf r d v = (start : PosixTree) × IsAuditStart d start × HasVerdict start r.left r.rest v

-- `audit`
pub record TellsAudit (r : Reading) (d : Formatting) (w : Writing) (status : ℕ) : Type 0 where
  -- Status 0: the source was read to its end, and it has a script through its line `end` and then the text of one legal history
  -- of its requests, of so many entries, that begins with the tree of the disk's image. The sink got the line of that number, and
  -- nothing else.
  pub legal : status ≡ 0 → (entries : ℕ) × IsVerdictOf r d (verdict.Legal entries) × Appends w.held w.holds (legal_line entries)
  -- Status 9: it was read to its end, and what follows the script is the text of no such history. The sink got the line of the
  -- first ticket at which each text ends that begins like it, and of what is wrong there, and nothing else.
  pub illegal : status ≡ 9 → (ticket : ℕ) × (cause : Wrong) × IsVerdictOf r d (verdict.Illegal ticket cause) × Appends w.held w.holds (illegal_line ticket cause)
  -- Status 2: the script breaks, or the text behind it is too long, and the sink got the line of the break, or that the text is
  -- too long, and nothing else.
  pub broken : status ≡ 2 → (text : List ℕ) × (TellsBreak r text ⊎ TellsLongText r text) × Appends w.held w.holds text
  -- Status 3, of a visible disk: the image stands for no tree, and the sink got the line of the cause, and nothing else. The
  -- source wasn't read.
  pub no_tree : IsTrue d.visible → status ≡ 3 → (refusal : Refusal) × (opens d.sectors d.image ≡ Err refusal) × Appends w.held w.holds (refusal_line refusal)
  pub unopened : (status ≡ 3) ⊎ (status ≡ 4) → (r.rest ≡ r.left) × (r.now ≡ r.before)
  -- A visible image that stands for a tree is audited from it, and one that stands for none is refused, whatever the source has,
  -- unless memory runs out or a count of faults rises.
  pub complete : IsTrue d.visible → (tree : ImageTree) → opens d.sectors d.image ≡ Ok tree → AreCalm d w → r.now ≢ raised r.before
      → ((status ≡ 0) ⊎ (status ≡ 9)) ⊎ ((status ≡ 2) ⊎ (status ≡ 5))
  pub refused : IsTrue d.visible → (refusal : Refusal) → opens d.sectors d.image ≡ Err refusal → AreCalm d w → (status ≡ 3) ⊎ (status ≡ 5)
  -- A proper image is never refused.
  pub proper : IsTrue d.visible → IsProperImage d.sectors d.image → status ≢ 3

-- What a command tells. Of other words `Ends` says all: they have one status and one line.
abbrev pub Tells : Option Command → Reading → Formatting → List (List Entry) → Writing → ℕ → Type 0
Tells None r d told w status = ⊤
Tells (Some command.NotBuilt) r d told w status = ⊤
Tells (Some (command.Play trace)) r d told w status = TellsPlay trace r d told w status
Tells (Some (command.Bench seed)) r d told w status = TellsBench (workload_of seed) d told w status
Tells (Some (command.Mkfs blocks inodes journal)) r d told w status = TellsMkfs (record { blocks = blocks; inodes = inodes; journal = journal }) d w status
Tells (Some command.Tree) r d told w status = IsTrue d.visible → TellsTree d w status
Tells (Some command.Check) r d told w status = IsTrue d.visible → TellsCheck d w status
Tells (Some command.Audit) r d told w status = TellsAudit r d w status
Tells (Some command.Recover) r d told w status = IsTrue d.visible → TellsRecovery d w status
