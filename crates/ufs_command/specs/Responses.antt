-- What the program answers to its words, and to there being none.
use Rattle.std.specs.Prelude.{ℕ, List, [], Option, Some, None, Result, Ok, Err, map, string_bytes, unwrap_or, is_some, if◌then◌else◌}
use Rattle.std.specs.declared.string.String.{String}
use Rattle.std.specs.declared.vec.Vec.{Vec}
use Rattle.ufs_model.specs.declared.data.Entry.{Entry}
use Rattle.ufs_command.specs.declared.ending.Ending.{Ending}
use Rattle.ufs_command.specs.declared.ending.Ending.TheVariants.{OutOfMemory, Usage}
use Rattle.ufs_command.specs.declared.words.Command.{Command}
use Rattle.ufs_command.specs.declared.response.WordsFault.{WordsFault}
use Rattle.ufs_command.specs.declared.response.WordsFault.TheVariants.{NotText, Lack}
use Rattle.ufs_words.specs.Values.{image_word}
use Rattle.ufs_command.specs.Commands.{asked}
use Rattle.ufs_command.specs.Seen.{Reading, Formatting}
use Rattle.ufs_command.specs.Endings.{IsFixed}
use Rattle.ufs_command.specs.Ends.{Ends}

-- Words that name no image's file are none, and aren't read; others end by their command.
abbrev pub EndsNamed : Option (List ℕ) → Option Command → Reading → Formatting → List (List Entry) → Ending → List ℕ → Type 0
EndsNamed None command r d told ending text = IsFixed Usage ending text
EndsNamed (Some path) command r d told ending text = Ends command r d told ending text

module _ {Z : Type 0} where
  -- the path of the image's file
  abbrev pub path_of : Result (Vec (String Z) Z) WordsFault → List ℕ
  path_of (Ok words) = unwrap_or (image_word (map string_bytes words.items)) []
  path_of (Err f) = []

  -- the command of a program's words; without an image's file they are none
  abbrev pub command_for : Result (Vec (String Z) Z) WordsFault → Option Command
  command_for (Ok words) = if is_some (image_word (map string_bytes words.items)) then asked words.items else None
  command_for (Err f) = None

  -- What is seen of the source and of the disk and was told to clients allows the program this ending with this text.
  abbrev pub Responds : Result (Vec (String Z) Z) WordsFault → Reading → Formatting → List (List Entry) → Ending → List ℕ → Type 0
  Responds (Ok words) r d told ending text = EndsNamed (image_word (map string_bytes words.items)) (asked words.items) r d told ending text
  Responds (Err NotText) r d told ending text = IsFixed Usage ending text
  Responds (Err (Lack _)) r d told ending text = IsFixed OutOfMemory ending text
