-- The lines that a command writes besides replies.
use Rattle.std.specs.Prelude.{ℕ, List, [], ◌∷◌, ◌++◌, ◌+◌, ◌-◌, codes}
use Rattle.std.specs.Fmt.{decimal}
use Rattle.ufs_audit.specs.declared.verdict.Wrong.{Wrong}
use Rattle.ufs_audit.specs.declared.verdict.Wrong.TheVariants as wrong
use Rattle.ufs_layout.specs.Areas.{first_of_data, refusal_number}
use Rattle.ufs_layout.specs.declared.geometry.Geometry.{Geometry}
use Rattle.ufs_layout.specs.declared.geometry.BadGeometry.{BadGeometry}
use Rattle.ufs_script.specs.declared.fault.ScriptFault.{ScriptFault}
use Rattle.ufs_script.specs.declared.fault.ScriptFault.TheVariants as fault
use Rattle.ufs_print.specs.Lines.{line}

abbrev pub usage_line : List ℕ
usage_line = line (codes "usage: ufs COMMAND [WORDS]")

-- one of four digits, the first of which is 1
abbrev pub bad_geometry_line : BadGeometry → List ℕ
bad_geometry_line bad = line (codes "ufs: bad geometry " ++ (48 + refusal_number bad) ∷ [])

-- a command that isn't built has no line of a script
abbrev pub not_built_line : List ℕ
not_built_line = line (codes "ufs: line 0: NotBuilt")

-- the number of a script's line, and the cause's name
abbrev pub cause_line : ℕ → List ℕ → List ℕ
cause_line number name = line (codes "ufs: line " ++ decimal number ++ codes ": " ++ name)

-- why a script is none; a fault of the source and want of memory are no cause of the script
abbrev pub break_line : ScriptFault → List ℕ
break_line (fault.NoClient number) = cause_line number (codes "NoClient")
break_line (fault.BadWord number) = cause_line number (codes "BadWord")
break_line (fault.BadNumber number) = cause_line number (codes "BadNumber")
break_line (fault.BadData number) = cause_line number (codes "BadData")
break_line (fault.TooMany number) = cause_line number (codes "TooMany")
break_line (fault.TooLong number) = cause_line number (codes "TooLong")
break_line (fault.NoEnd number) = cause_line number (codes "NoEnd")
break_line (fault.AfterEnd number) = cause_line number (codes "AfterEnd")
break_line (fault.NotBuilt number) = cause_line number (codes "NotBuilt")
break_line fault.Source = []
break_line (fault.Memory _) = []

-- a disk that is too small is told as a fifth bad geometry
abbrev pub too_small_line : List ℕ
too_small_line = line (codes "ufs: image: BadGeometry 5")

abbrev pub device_line : ℕ → List ℕ
device_line fault = line (codes "ufs: device fault " ++ decimal fault)

abbrev pub memory_line : List ℕ
memory_line = line (codes "ufs: out of memory")

abbrev pub source_line : List ℕ
source_line = line (codes "ufs: source fault")

-- blocks, inodes, journal sectors and data blocks
abbrev pub made_line : Geometry → List ℕ
made_line g = line (codes "made " ++ decimal g.blocks ++ 32 ∷ decimal g.inodes ++ 32 ∷ decimal g.journal ++ 32 ∷ decimal (g.blocks - first_of_data g))

-- how many transactions were committed
abbrev pub recovered_line : ℕ → List ℕ
recovered_line count = line (codes "recovered " ++ decimal count)

-- how many entries a legal history has
abbrev pub legal_line : ℕ → List ℕ
legal_line entries = line (codes "legal " ++ decimal entries)

abbrev pub wrong_name : Wrong → List ℕ
wrong_name wrong.Text = codes "Text"
wrong_name wrong.Order = codes "Order"
wrong_name wrong.Reply = codes "Reply"
wrong_name wrong.Excuse = codes "Excuse"

-- the first ticket at which a text isn't that of a legal history, and what is wrong there
abbrev pub illegal_line : ℕ → Wrong → List ℕ
illegal_line ticket cause = line (codes "ufs: audit: ticket " ++ decimal ticket ++ codes ": " ++ wrong_name cause)

-- a text that is too long has no line of a script
abbrev pub long_text_line : List ℕ
long_text_line = line (codes "ufs: line 0: TextTooLong")
