-- The command line as `clap` reads it: a command with one level of subcommands, and no help or version.
use Rattle.std.specs.Prelude.{true, Some, codes, []}
use Rattle.clap.specs.Words.{App, Rule, Text, new_rule, with_rule, with_subcommand}
use Rattle.clap.specs.Simple.{new_shape}
use Rattle.clap.specs.declared.builder.ArgAction.TheVariants.{SetTrue}
use Rattle.clap.specs.declared.builder.value_parser.ValueParser.TheVariants.{NonEmptyString}

-- ---- arguments

-- a word in its place, which has to be there
abbrev pub positional : Text → Rule
positional name = record (new_rule name) { required = true }

-- `--lease L`
abbrev pub lease : Rule
lease = record (new_rule (codes "lease")) { long = Some (codes "lease") }

-- `--trace`
abbrev pub trace : Rule
trace = record (new_rule (codes "trace")) { long = Some (codes "trace"); action = Some SetTrue }

-- the path of a file, as `--image FILE`; it isn't empty
abbrev pub file : Text → Rule
file name = record (new_rule name) { long = Some name; parser = Some NonEmptyString }

-- ---- subcommands

abbrev pub subcommand : Text → App
subcommand name = record { top = record (new_shape name) { disable_help_flag = true }; subs = [] }

-- `--image FILE` and `--mirror FILE`, which every subcommand takes
abbrev pub with_files : App → App
with_files a = with_rule (with_rule a (file (codes "image"))) (file (codes "mirror"))

-- `mkfs BLOCKS INODES JOURNAL`
abbrev pub mkfs : App
mkfs = with_files (with_rule (with_rule (with_rule (subcommand (codes "mkfs")) (positional (codes "blocks"))) (positional (codes "inodes"))) (positional (codes "journal")))

-- `play [--lease L] [--trace]`
abbrev pub play : App
play = with_files (with_rule (with_rule (subcommand (codes "play")) lease) trace)

-- `run WORKERS [--lease L] [--trace]`
abbrev pub run : App
run = with_files (with_rule (with_rule (with_rule (subcommand (codes "run")) (positional (codes "workers"))) lease) trace)

-- `bench SEED [--lease L]`
abbrev pub bench : App
bench = with_files (with_rule (with_rule (subcommand (codes "bench")) (positional (codes "seed"))) lease)

-- `recover`, `check`, `tree` and `audit`, which take files alone
abbrev pub plain : Text → App
plain name = with_files (subcommand name)

-- ---- the command

-- the words are those behind the program's name, and the first is a subcommand
abbrev pub bare : App
bare = record { top = record (new_shape (codes "ufs")) { no_binary_name = true; disable_help_flag = true; disable_help_subcommand = true; subcommand_required = true }; subs = [] }

abbrev pub with_sessions : App → App
with_sessions a = with_subcommand (with_subcommand (with_subcommand (with_subcommand a mkfs.top) play.top) run.top) bench.top

abbrev pub with_images : App → App
with_images a = with_subcommand (with_subcommand (with_subcommand (with_subcommand a (plain (codes "recover")).top) (plain (codes "check")).top) (plain (codes "tree")).top) (plain (codes "audit")).top

abbrev pub ufs : App
ufs = with_images (with_sessions bare)
