-- How a command ends where the sink doesn't fail: why, and what it has written.
use Rattle.std.specs.Prelude.{ℕ, ◌≡◌, ◌≢◌, ◌<◌, ◌≤◌, ◌⊎◌, Bool, List, [], ◌++◌, length, Option, Some, None, Result, Ok, Err, IsTrue}
use Rattle.std.specs.Io.KnownBytes.{Appends}
use Rattle.ufs_base.specs.Wanting.{wanting}
use Rattle.ufs_base.specs.declared.lack.Lack.{Lack}
use Rattle.ufs_base.specs.Faults.{raised}
use Rattle.ufs_brink.specs.Begins.{TellsNoSession}
use Rattle.ufs_layout.specs.Areas.{geometry_refusal, sector_count}
use Rattle.ufs_layout.specs.declared.geometry.Geometry.{Geometry}
use Rattle.ufs_layout.specs.declared.geometry.TheConstants.{MAX_JOURNAL}
use Rattle.ufs_model.specs.History.{joined}
use Rattle.ufs_model.specs.declared.data.Entry.{Entry}
use Rattle.ufs_engine.specs.Plays.{MayPlay}
use Rattle.ufs_engine.specs.declared.playing.PlayFault.{PlayFault}
use Rattle.ufs_engine.specs.declared.playing.PlayFault.TheVariants as ended
use Rattle.ufs_start.specs.declared.fault.StartFault.{StartFault}
use Rattle.ufs_start.specs.declared.fault.StartFault.TheVariants as start
use Rattle.ufs_image.specs.Damage.{Damage}
use Rattle.ufs_image.specs.Opens.{ImageTree, opens, damage_list}
use Rattle.ufs_image.specs.Proper.{IsProperImage}
use Rattle.ufs_image.specs.Volume.{Refusal}
use Rattle.ufs_image.specs.Volume as image
use Rattle.ufs_metadata.specs.declared.fault.RecoverFault.{RecoverFault}
use Rattle.ufs_metadata.specs.declared.fault.RecoverFault.TheVariants as recover
use Rattle.ufs_recovery.specs.Recovered.{log_of}
use Rattle.ufs_script.specs.declared.script.Script.{Script}
use Rattle.ufs_script.specs.declared.fault.ScriptFault.{ScriptFault}
use Rattle.ufs_script.specs.declared.fault.ScriptFault.TheVariants as fault
use Rattle.ufs_script.specs.Script.{IsOutside}
use Rattle.ufs_command.specs.declared.ending.Ending.{Ending}
use Rattle.ufs_command.specs.declared.ending.Ending.TheVariants.{Done, Usage, BadGeometry, NotBuilt, BadScript, TooSmall, NoTree, DeviceFault, OutOfMemory, SourceFault, Damaged, Illegal}
use Rattle.ufs_print.specs.Lines.{IsFront, AreFirstLines}
use Rattle.ufs_command.specs.Texts.{usage_line, bad_geometry_line, not_built_line, break_line, too_small_line, device_line, memory_line, source_line, made_line, recovered_line}
use Rattle.ufs_print.specs.DamageLines.{clean_line, damage_lines}
use Rattle.ufs_print.specs.TreeLines.{tree_lines, refusal_line}
use Rattle.ufs_command.specs.Seen.{Reading, Writing, Formatting}
use Rattle.ufs_print.specs.Printed.{session_lines}
use Rattle.ufs_command.specs.Served.{EndsSession, IsCutSessionOf, IsSessionOf, TellsEnd}
use Rattle.ufs_command.specs.Unscheduled.{BreaksUnscheduled, ReadsUnscheduled}

abbrev pub status_of : Ending → ℕ
status_of Done = 0
status_of Usage = 1
status_of (BadGeometry bad) = 1
status_of NotBuilt = 2
status_of BadScript = 2
status_of TooSmall = 3
status_of NoTree = 3
status_of DeviceFault = 4
status_of OutOfMemory = 5
status_of SourceFault = 6
status_of Damaged = 8
status_of Illegal = 9

-- the status of a sink's fault, whatever else happened
abbrev pub sink_status : ℕ
sink_status = 7

-- the line that an ending writes last, where it is always the same
abbrev pub fixed_line_of : Ending → List ℕ
fixed_line_of Done = []
fixed_line_of Usage = usage_line
fixed_line_of (BadGeometry bad) = bad_geometry_line bad
fixed_line_of NotBuilt = not_built_line
fixed_line_of BadScript = []
fixed_line_of TooSmall = too_small_line
fixed_line_of NoTree = []
fixed_line_of DeviceFault = []
fixed_line_of OutOfMemory = memory_line
fixed_line_of SourceFault = source_line
fixed_line_of Damaged = []
fixed_line_of Illegal = []

-- ---- what a script ends with

-- one ending with these bytes
abbrev pub IsLine : Ending → List ℕ → Ending → List ℕ → Type 0
IsLine wanted line ending text = (ending ≡ wanted) × (text ≡ line)

-- an ending with the line that it always has
abbrev pub IsFixed : Ending → Ending → List ℕ → Type 0
IsFixed wanted ending text = IsLine wanted (fixed_line_of wanted) ending text

-- why a script is none, or there is no memory for its line
abbrev pub IsBreakLine : ScriptFault → Ending → List ℕ → Type 0
IsBreakLine f ending text = IsLine BadScript (break_line f) ending text ⊎ IsFixed OutOfMemory ending text

-- why there is no script: want of memory, a fault of the source, or a break
abbrev pub TellsFault : ScriptFault → Ending → List ℕ → Type 0
TellsFault f ending text =
    ((f ≡ fault.Memory wanting) × IsFixed OutOfMemory ending text)
    ⊎ (((f ≡ fault.Source) × IsFixed SourceFault ending text) ⊎ ((¬ IsOutside f) × IsBreakLine f ending text))

-- these lines are written, or memory runs out behind the first of them
abbrev pub EndsPrinting : List ℕ → Ending → List ℕ → Type 0
EndsPrinting lines Done text = text ≡ lines
EndsPrinting lines OutOfMemory text = (front : List ℕ) × AreFirstLines front lines × (text ≡ front ++ memory_line)
EndsPrinting lines _ text = ⊥

-- ---- what formatting ends with

-- What is seen of the disk allows `mkfs` this ending with this text. Memory is wanted only where the geometry is taken
-- and the disk is large enough, and before the disk is touched.
abbrev pub EndsMkfs : Geometry → Formatting → Ending → List ℕ → Type 0
EndsMkfs g d Done text = (geometry_refusal g ≡ None) × (sector_count g ≤ d.sectors) × (d.now ≡ d.before) × (text ≡ made_line g)
EndsMkfs g d (BadGeometry bad) text = (geometry_refusal g ≡ Some bad) × (d.now ≡ d.before) × (text ≡ bad_geometry_line bad)
EndsMkfs g d TooSmall text = (geometry_refusal g ≡ None) × (d.sectors < sector_count g) × (d.now ≡ d.before) × (text ≡ too_small_line)
EndsMkfs g d DeviceFault text = (geometry_refusal g ≡ None) × (sector_count g ≤ d.sectors) × (d.now ≡ raised d.before) × (text ≡ device_line d.now)
EndsMkfs g d OutOfMemory text = (geometry_refusal g ≡ None) × (sector_count g ≤ d.sectors) × (d.now ≡ d.before) × (text ≡ memory_line)
EndsMkfs g d _ text = ⊥

-- ---- what printing a tree ends with

-- how a command ends that can't read the image
abbrev pub ending_of : RecoverFault → Ending
ending_of (recover.Device fault) = DeviceFault
ending_of (recover.Lack _) = OutOfMemory
ending_of _ = NoTree

-- and with which line
abbrev pub line_of : RecoverFault → List ℕ
line_of recover.NoSuperblock = refusal_line image.NoSuperblock
line_of (recover.BadVersion found) = refusal_line (image.BadVersion found)
line_of (recover.BadGeometry number) = refusal_line (image.BadGeometry number)
line_of (recover.BadRecord sector) = refusal_line (image.BadRecord sector)
line_of (recover.BadTree inode) = refusal_line (image.BadTree inode)
line_of (recover.Device fault) = device_line fault
line_of (recover.Lack _) = memory_line

-- and what was lacking, if it isn't read for want of something
abbrev pub lack_of : RecoverFault → Option Lack
lack_of (recover.Lack why) = Some why
lack_of _ = None

-- how `play` ends where no session begins
abbrev pub start_ending : StartFault → Ending
start_ending (start.Image fault) = ending_of fault
start_ending _ = NoTree

-- and with which line: what no server takes is told as a bad tree
abbrev pub start_line : StartFault → List ℕ
start_line (start.Image fault) = line_of fault
start_line (start.Unreached inode) = refusal_line (image.BadTree inode)
start_line (start.Unnamed inode) = refusal_line (image.BadTree inode)
start_line (start.ExtraBlocks inode) = refusal_line (image.BadTree inode)

-- The disk, if it is visible, is an image that stands for this tree.
abbrev pub StandsFor : Formatting → ImageTree → Type 0
StandsFor d tree = IsTrue d.visible → opens d.sectors d.image ≡ Ok tree

-- It stands for none, and the text tells why.
abbrev pub TellsNoTree : Formatting → List ℕ → Type 0
TellsNoTree d text = (refusal : Refusal) × (IsTrue d.visible → opens d.sectors d.image ≡ Err refusal) × (text ≡ refusal_line refusal)

-- What is seen of the disk allows `tree` this ending with this text.
abbrev pub EndsTree : Formatting → Ending → List ℕ → Type 0
EndsTree d Done text = (d.now ≡ d.before) × (tree : ImageTree) × StandsFor d tree × (text ≡ tree_lines tree)
EndsTree d NoTree text = (d.now ≡ d.before) × TellsNoTree d text
EndsTree d DeviceFault text = (d.now ≡ raised d.before) × (text ≡ device_line d.now)
EndsTree d OutOfMemory text = (d.now ≡ d.before) × ((text ≡ memory_line)
    ⊎ ((tree : ImageTree) × (front : List ℕ) × StandsFor d tree × AreFirstLines front (tree_lines tree) × (text ≡ front ++ memory_line)))
EndsTree d _ text = ⊥

-- ---- what a check ends with

-- the lines of a list of damage, or that there is none
abbrev pub EndsListing : List Damage → Ending → List ℕ → Type 0
EndsListing list Done text = (list ≡ []) × (text ≡ clean_line)
EndsListing list Damaged text = (list ≢ []) × (text ≡ damage_lines list)
EndsListing list _ text = ⊥

-- The disk, if it is visible, is an image with this damage.
abbrev pub HasDamage : Formatting → List Damage → Type 0
HasDamage d list = IsTrue d.visible → damage_list d.sectors d.image ≡ Ok list

-- What is seen of the disk allows `check` this ending with this text.
abbrev pub EndsCheck : Formatting → Ending → List ℕ → Type 0
EndsCheck d Done text = (d.now ≡ d.before) × HasDamage d [] × (text ≡ clean_line)
EndsCheck d Damaged text = (d.now ≡ d.before) × (list : List Damage) × (list ≢ []) × HasDamage d list × (text ≡ damage_lines list)
EndsCheck d NoTree text = (d.now ≡ d.before) × (refusal : Refusal) × (IsTrue d.visible → damage_list d.sectors d.image ≡ Err refusal) × (text ≡ refusal_line refusal)
EndsCheck d DeviceFault text = (d.now ≡ raised d.before) × (text ≡ device_line d.now)
EndsCheck d OutOfMemory text = (d.now ≡ d.before) × (text ≡ memory_line)
EndsCheck d _ text = ⊥

-- ---- what a recovery ends with

-- The disk, if it is visible, is an image that stands for some tree, and so many transactions are committed in
-- its journal. Of any disk there are no more of them than a journal has sectors.
pub record HasCommitted (d : Formatting) (count : ℕ) : Type 0 where
  pub few : count ≤ MAX_JOURNAL
  pub opened : IsTrue d.visible → (tree : ImageTree) × (opens d.sectors d.image ≡ Ok tree)
  pub found : IsTrue d.visible → count ≡ length (log_of d.image)

-- The disk, if it is visible, is no proper image.
abbrev pub IsImproper : Formatting → Type 0
IsImproper d = IsTrue d.visible → ¬ IsProperImage d.sectors d.image

-- What is seen of the disk allows `recover` this ending with this text.
abbrev pub EndsRecovery : Formatting → Ending → List ℕ → Type 0
EndsRecovery d Done text = (d.now ≡ d.before) × (count : ℕ) × HasCommitted d count × (text ≡ recovered_line count)
EndsRecovery d NoTree text = (d.now ≡ d.before) × IsImproper d × TellsNoTree d text
EndsRecovery d DeviceFault text = (d.now ≡ raised d.before) × (text ≡ device_line d.now)
EndsRecovery d OutOfMemory text = (d.now ≡ d.before) × (text ≡ memory_line)
EndsRecovery d _ text = ⊥

-- ---- what a session ends with

-- these lines are written and behind them that of a fault of the disk, or memory runs out behind the first of the lines
abbrev pub EndsBehind : List ℕ → ℕ → Ending → List ℕ → Type 0
EndsBehind lines fault DeviceFault text = text ≡ lines ++ device_line fault
EndsBehind lines fault OutOfMemory text = (front : List ℕ) × AreFirstLines front lines × (text ≡ front ++ memory_line)
EndsBehind lines fault _ text = ⊥

-- what is written where a session has ended so, of which these lines are printed
abbrev pub EndsPlayed : Result (Unit {0}) PlayFault → List ℕ → Ending → List ℕ → Type 0
EndsPlayed (Ok x) lines ending text = EndsPrinting lines ending text
EndsPlayed (Err (ended.Image fault)) lines ending text = IsLine (start_ending fault) (start_line fault) ending text
EndsPlayed (Err (ended.Device fault)) lines ending text = EndsBehind lines fault ending text
EndsPlayed (Err (ended.Stopped fault)) lines ending text = EndsBehind lines fault ending text
EndsPlayed (Err (ended.Lack _)) lines ending text = IsFixed OutOfMemory ending text

-- No session begins with the disk, and the text tells why.
pub record TellsNoStart (d : Formatting) (text : List ℕ) : Type 0 where
  pub fault : StartFault
  pub ending_is : start_ending fault ≡ NoTree
  pub text_is : text ≡ start_line fault
  pub why : MayPlay d.visible d.sectors d.state → TellsNoSession d.sectors d.image fault
  -- Of any visible disk that stands for no tree the cause is told.
  pub refused : IsTrue d.visible → (refusal : Refusal) → opens d.sectors d.image ≡ Err refusal → text ≡ refusal_line refusal

-- What is seen of the disk and was told allows the serving of a script, of which these lines are printed, this ending with this
-- text, where so much is known of a session that is whole. Each request is answered, and the image is clean;
abbrev pub EndsServed : Type 0 → List ℕ → Formatting → Script → List (List Entry) → Ending → List ℕ → Type 0
EndsServed Whole printed d script told Done text = Whole × EndsSession d told (Ok tt) × (text ≡ printed)
-- no session begins with the image;
EndsServed Whole printed d script told NoTree text = (told ≡ []) × (d.now ≡ d.before) × TellsNoStart d text
-- a call of the disk failed as the session began, or each request is answered, and the line of a fault is behind the lines;
EndsServed Whole printed d script told DeviceFault text = ((told ≡ []) × (d.now ≡ raised d.before) × (text ≡ device_line d.now))
    ⊎ (Whole × (fault : ℕ) × TellsEnd d told fault × (text ≡ printed ++ device_line fault))
-- memory ran out before the first line, and some requests may have been answered, or behind one.
EndsServed Whole printed d script told OutOfMemory text = (IsCutSessionOf d script told × (text ≡ memory_line))
    ⊎ (Whole × (front : List ℕ) × AreFirstLines front printed × (text ≡ front ++ memory_line))
EndsServed Whole printed d script told _ text = ⊥

-- ..of a script whose reply lines are printed, and its trace where that is asked for
abbrev pub EndsServing : Bool → Formatting → Script → List (List Entry) → Ending → List ℕ → Type 0
EndsServing trace d script told ending text = EndsServed (IsSessionOf d script told) (session_lines trace (joined told)) d script told ending text

-- What is seen of the source allows this ending with this text where there is no script.
abbrev pub EndsUnread : Reading → Ending → List ℕ → Type 0
EndsUnread r BadScript text = (f : ScriptFault) × BreaksUnscheduled r.left r.rest f × (¬ IsOutside f) × (text ≡ break_line f)
EndsUnread r SourceFault text = (r.now ≡ raised r.before) × (text ≡ source_line)
EndsUnread r OutOfMemory text = text ≡ memory_line
EndsUnread r _ text = ⊥

-- What is seen of the source and the disk and was told allows `play` this ending with this text: there is no script and
-- nothing was told, or the source was read to its end, its bytes are a script, and it was served.
abbrev pub EndsPlay : Bool → Reading → Formatting → List (List Entry) → Ending → List ℕ → Type 0
EndsPlay trace r d told ending text = ((told ≡ []) × EndsUnread r ending text) ⊎ ((script : Script) × ReadsUnscheduled r.left r.rest script × EndsServing trace d script told ending text)

-- ---- answers

-- A status, and what the sink got: the whole text of an ending that is allowed, or with one fault of the sink a front
-- of it.
pub record IsAnswer (allowed : Ending → List ℕ → Type 0) (w : Writing) (status : ℕ) : Type 0 where
  pub whole : status ≢ sink_status → (ending : Ending) × (text : List ℕ) × (status ≡ status_of ending) × allowed ending text × Appends w.held w.holds text
  pub told : status ≢ sink_status → w.now ≡ w.before
  pub rose : status ≡ sink_status → w.now ≡ raised w.before
  pub cut : status ≡ sink_status → (ending : Ending) × (text : List ℕ) × (front : List ℕ) × allowed ending text × IsFront front text × Appends w.held w.holds front
