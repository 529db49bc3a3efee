-- What `audit` ends with. The image is opened first, and then the source is read: a script, and the text of a history.
use Rattle.std.specs.Prelude.{ℕ, ◌≡◌, ◌⊎◌, List, IsTrue}
use Rattle.ufs_audit.specs.Sources.{HasBrokenScript, HasLongText, HasVerdict}
use Rattle.ufs_audit.specs.declared.fault.AuditFault.{AuditFault}
use Rattle.ufs_audit.specs.declared.fault.AuditFault.TheVariants as audit_fault
use Rattle.ufs_audit.specs.declared.verdict.Verdict.{Verdict}
use Rattle.ufs_audit.specs.declared.verdict.Verdict.TheVariants as verdict
use Rattle.ufs_audit.specs.declared.verdict.Wrong.{Wrong}
use Rattle.ufs_base.specs.Faults.{raised}
use Rattle.ufs_brink.specs.Begins.{BeginsWith, HasNothingOpen}
use Rattle.ufs_model.specs.PosixTree.{PosixTree}
use Rattle.ufs_script.specs.Script.{IsOutside}
use Rattle.ufs_script.specs.declared.fault.ScriptFault.{ScriptFault}
use Rattle.ufs_command.specs.declared.ending.Ending.{Ending}
use Rattle.ufs_command.specs.declared.ending.Ending.TheVariants.{Done, BadScript, NoTree, DeviceFault, OutOfMemory, SourceFault, Illegal}
use Rattle.ufs_command.specs.Endings.{IsBreakLine, IsFixed, IsLine, TellsNoTree}
use Rattle.ufs_command.specs.Seen.{Reading, Formatting}
use Rattle.ufs_command.specs.Texts.{break_line, device_line, illegal_line, legal_line, long_text_line, memory_line, source_line}

-- The histories that are audited begin with this tree. Nothing is open in it, and of a visible disk it is that of the image.
pub record IsAuditStart (d : Formatting) (start : PosixTree) : Type 0 where
  pub closed : HasNothingOpen start
  pub begun : IsTrue d.visible → BeginsWith d.sectors d.image start

-- a script that breaks, with the line of the break
abbrev pub TellsBreak : Reading → List ℕ → Type 0
TellsBreak r text = (f : ScriptFault) × HasBrokenScript r.left r.rest f × (¬ IsOutside f) × (text ≡ break_line f)

-- a text that is too long behind a script
abbrev pub TellsLongText : Reading → List ℕ → Type 0
TellsLongText r text = HasLongText r.left r.rest × (text ≡ long_text_line)

-- What is seen of the source allows an audit from this tree this ending with this text.
abbrev pub EndsAudited : PosixTree → Reading → Ending → List ℕ → Type 0
EndsAudited start r Done text = (r.now ≡ r.before) × (entries : ℕ) × HasVerdict start r.left r.rest (verdict.Legal entries) × (text ≡ legal_line entries)
EndsAudited start r Illegal text = (r.now ≡ r.before) × (ticket : ℕ) × (cause : Wrong) × HasVerdict start r.left r.rest (verdict.Illegal ticket cause) × (text ≡ illegal_line ticket cause)
EndsAudited start r BadScript text = (r.now ≡ r.before) × (TellsBreak r text ⊎ TellsLongText r text)
EndsAudited start r SourceFault text = (r.now ≡ raised r.before) × (text ≡ source_line)
EndsAudited start r OutOfMemory text = (r.now ≡ r.before) × (text ≡ memory_line)
EndsAudited start r _ text = ⊥

-- There is no tree to begin with.
abbrev pub EndsUnopened : Formatting → Ending → List ℕ → Type 0
EndsUnopened d NoTree text = (d.now ≡ d.before) × TellsNoTree d text
EndsUnopened d DeviceFault text = (d.now ≡ raised d.before) × (text ≡ device_line d.now)
EndsUnopened d OutOfMemory text = (d.now ≡ d.before) × (text ≡ memory_line)
EndsUnopened d _ text = ⊥

-- What is seen of the source and of the disk allows `audit` this ending with this text: the image isn't opened, and the source
-- isn't read, or it is, and the source has what it has.
abbrev pub EndsAudit : Reading → Formatting → Ending → List ℕ → Type 0
EndsAudit r d ending text =
    ((r.rest ≡ r.left) × (r.now ≡ r.before) × EndsUnopened d ending text)
    ⊎ ((d.now ≡ d.before) × (start : PosixTree) × IsAuditStart d start × EndsAudited start r ending text)

-- ---- the steps

abbrev pub verdict_ending : Verdict → Ending
verdict_ending (verdict.Legal entries) = Done
verdict_ending (verdict.Illegal ticket cause) = Illegal

abbrev pub verdict_line : Verdict → List ℕ
verdict_line (verdict.Legal entries) = legal_line entries
verdict_line (verdict.Illegal ticket cause) = illegal_line ticket cause

-- why there is no verdict, or there is no memory for the line of a break
abbrev pub TellsNoVerdict : AuditFault → Ending → List ℕ → Type 0
TellsNoVerdict (audit_fault.Script f) ending text = IsBreakLine f ending text
TellsNoVerdict audit_fault.TextTooLong ending text = IsLine BadScript long_text_line ending text
TellsNoVerdict audit_fault.Source ending text = IsFixed SourceFault ending text
TellsNoVerdict (audit_fault.Lack _) ending text = IsFixed OutOfMemory ending text
