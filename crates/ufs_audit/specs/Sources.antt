-- What an audit takes of its source: a script through its line `end`, and then the text.
use Rattle.std.specs.Prelude.{ℕ, ◌≡◌, ◌<◌, ◌≤◌, ◌+◌, ◌⊎◌, List, [], ◌∷◌, ◌++◌, length, codes, Option, Ok, Err}
use Rattle.std.specs.List.{AllByRecursion}
use Rattle.std.specs.Io.KnownBytes.{Consumes, IsAtEnd}
use Rattle.ufs_model.specs.PosixTree.{PosixTree}
use Rattle.ufs_script.specs.Script.{script_of, max_script}
use Rattle.ufs_script.specs.declared.script.Script.{Script}
use Rattle.ufs_script.specs.declared.fault.ScriptFault.{ScriptFault}
use Rattle.ufs_audit.specs.Audit.{IsLine, IsEnded, IsVerdict, text_of}
use Rattle.ufs_audit.specs.declared.verdict.Verdict.{Verdict}

-- the greatest length of a text that is audited, in bytes
abbrev pub max_text : ℕ
max_text = 268435456

-- ---- where the script ends

-- a space or a tab
abbrev pub IsBlank : ℕ → Type 0
IsBlank b = (b ≡ 32) ⊎ (b ≡ 9)

abbrev pub AreBlanks : List ℕ → Type 0
AreBlanks bytes = AllByRecursion IsBlank bytes

-- the only word is `end`
abbrev pub IsEndWord : List ℕ → Type 0
IsEndWord line = (before : List ℕ) × (after : List ℕ) × AreBlanks before × AreBlanks after × (line ≡ before ++ (codes "end" ++ after))

-- without its end, and without the byte 13 that may stand before it
abbrev pub IsEndLine : List ℕ → Type 0
IsEndLine line = (front : List ℕ) × IsEndWord front × ((line ≡ front ++ 10 ∷ []) ⊎ (line ≡ front ++ 13 ∷ 10 ∷ []))

-- a line with its end that isn't the script's last one
abbrev pub IsOther : List ℕ → Type 0
IsOther line = IsEnded line × (IsEndLine line → ⊥)

-- no line with an end has `end` as its only word
abbrev pub IsOpen : List ℕ → Type 0
IsOpen script = (lines : List (List ℕ)) × (tail : List ℕ) × AllByRecursion IsOther lines × IsLine tail × (script ≡ text_of lines ++ tail)

-- the last line, and no other, has
abbrev pub IsClosed : List ℕ → Type 0
IsClosed script = (lines : List (List ℕ)) × (last : List ℕ) × AllByRecursion IsOther lines × IsEndLine last × (script ≡ text_of lines ++ last)

-- The script is what stands through the first line whose only word is `end`, and the text what follows; where there is
-- no such line, all is the script.
abbrev pub IsSplit : List ℕ → List ℕ → Type 0
IsSplit script text = IsClosed script ⊎ (IsOpen script × (text ≡ []))

-- ---- what a source gives

-- it gave this text, of which `ahead` had been read before; `ahead'` was read besides
abbrev pub Gives : Option (List ℕ) → Option (List ℕ) → List ℕ → List ℕ → List ℕ → Type 0
Gives old new ahead ahead' text = (taken : List ℕ) × Consumes old new taken × (ahead ++ taken ≡ text ++ ahead')

-- This script was read of the source, and this text behind it.
pub record HasScript (old new : Option (List ℕ)) (script : Script) (text : List ℕ) : Type 0 where
  pub lines : List ℕ
  pub split : IsSplit lines text
  pub read : script_of lines ≡ Ok script
  pub taken : Consumes old new (lines ++ text)

-- ---- what an audit answers

-- this is the verdict on the text
abbrev pub HasVerdict : PosixTree → Option (List ℕ) → Option (List ℕ) → Verdict → Type 0
HasVerdict start old new verdict = (script : Script) × (text : List ℕ) × HasScript old new script text × IsAtEnd new × (length text ≤ max_text) × IsVerdict start script.clients text verdict

-- the text is too long
abbrev pub HasLongText : Option (List ℕ) → Option (List ℕ) → Type 0
HasLongText old new = (script : Script) × (text : List ℕ) × HasScript old new script text × (max_text < length text)

-- The script breaks so: it was read through its line `end`, or to the source's end, or past its greatest length.
pub record HasBrokenScript (old new : Option (List ℕ)) (fault : ScriptFault) : Type 0 where
  pub lines : List ℕ
  pub more : List ℕ
  pub taken : Consumes old new (lines ++ more)
  pub stops : IsClosed lines ⊎ (IsOpen lines × ((IsAtEnd new × (more ≡ [])) ⊎ (max_script < length lines)))
  pub read : script_of lines ≡ Err fault
