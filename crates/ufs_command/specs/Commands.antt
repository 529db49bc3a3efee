-- What the words of the command line ask of a call that waits for nobody.
use Rattle.std.specs.Prelude.{List, Bool, true, false, Option, Some, None, option_and_then, map, string_bytes}
use Rattle.std.specs.declared.string.String.{String}
use Rattle.ufs_layout.specs.declared.geometry.Geometry.{Geometry}
use Rattle.ufs_words.specs.Commands.{command_of}
use Rattle.ufs_words.specs.declared.command.Command.{Command as Named}
use Rattle.ufs_words.specs.declared.command.Command.TheVariants as named
use Rattle.ufs_command.specs.declared.words.Command.{Command}
use Rattle.ufs_command.specs.declared.words.Command.TheVariants as command

-- What is done for a command. `run` waits for others, so it is none for a call that waits for nobody. Leases aren't built.
abbrev pub built : Named → Option Command
built (named.Mkfs blocks inodes journal) = Some (command.Mkfs blocks inodes journal)
built (named.Play None trace) = Some (command.Play trace)
built (named.Play (Some lease) trace) = Some command.NotBuilt
built (named.Run workers lease trace) = None
built (named.Bench seed None) = Some (command.Bench seed)
built (named.Bench seed (Some lease)) = Some command.NotBuilt
built named.Recover = Some command.Recover
built named.Check = Some command.Check
built named.Tree = Some command.Tree
built named.Audit = Some command.Audit

-- the command that a program's words are
abbrev pub asked : {Z : Type 0} → List (String Z) → Option Command
asked words = option_and_then built (command_of (map string_bytes words))

-- it reads the source
abbrev pub reads_source : Option Command → Bool
reads_source (Some (command.Play trace)) = true
reads_source (Some command.Audit) = true
reads_source _ = false

-- it serves clients
abbrev pub serves : Option Command → Bool
serves (Some (command.Play trace)) = true
serves (Some (command.Bench seed)) = true
serves _ = false

-- formatting with these numbers
abbrev pub mkfs_command : Geometry → Option Command
mkfs_command g = Some (command.Mkfs g.blocks g.inodes g.journal)
