-- What a list of words asks for.
use Rattle.std.specs.Prelude.{ℕ, List, [], ◌∷◌, Bool, true, false, nat_le, if◌then◌else◌, Option, Some, None, option_map, option_and_then, codes}
use Rattle.std.specs.Str.{bytes_eq}
use Rattle.std.specs.Option.{option_map_or}
use Rattle.clap.specs.Words.{Row, Text, fault_of, first_of, subcommand_of}
use Rattle.clap.specs.Kinds.{Kinds}
use Rattle.ufs_words.specs.Numbers.{number_up_to}
use Rattle.ufs_words.specs.Grammar.{ufs}
use Rattle.ufs_words.specs.declared.command.Command.{Command}
use Rattle.ufs_words.specs.declared.command.Command.TheVariants as command

-- ---- values

-- the greatest number of 32 bits
abbrev pub most_u32 : ℕ
most_u32 = 4294967295

-- the most workers
abbrev pub most_workers : ℕ
most_workers = 8

-- the greatest lease, in ticks
abbrev pub most_lease : ℕ
most_lease = 1000

-- the number that an argument has, of those that have to be there
abbrev pub number_in : ℕ → Text → List Row → Option ℕ
number_in most name rows = option_and_then (number_up_to most) (first_of name rows)

-- how many workers: 1 to 8
abbrev pub at_least_one : ℕ → Option ℕ
at_least_one n = if nat_le 1 n then Some n else None

abbrev pub workers_in : List Row → Option ℕ
workers_in rows = option_and_then at_least_one (number_in most_workers (codes "workers") rows)

-- no lease, or one that is in its form and range
abbrev pub lease_from : Option Text → Option (Option ℕ)
lease_from None = Some None
lease_from (Some word) = option_map (λ n. Some n) (number_up_to most_lease word)

abbrev pub lease_in : List Row → Option (Option ℕ)
lease_in rows = lease_from (first_of (codes "lease") rows)

-- the flag was given
abbrev pub trace_in : List Row → Bool
trace_in rows = option_map_or (λ word. bytes_eq word (codes "true")) (first_of (codes "trace") rows) false

-- ---- commands

abbrev pub mkfs_with : Option ℕ → Option ℕ → Option ℕ → Option Command
mkfs_with (Some blocks) (Some inodes) (Some journal) = Some (command.Mkfs blocks inodes journal)
mkfs_with _ _ _ = None

abbrev pub mkfs_in : List Row → Option Command
mkfs_in rows = mkfs_with (number_in most_u32 (codes "blocks") rows) (number_in most_u32 (codes "inodes") rows) (number_in most_u32 (codes "journal") rows)

abbrev pub play_in : List Row → Option Command
play_in rows = option_map (λ lease. command.Play lease (trace_in rows)) (lease_in rows)

abbrev pub run_with : Option ℕ → Option (Option ℕ) → Bool → Option Command
run_with (Some workers) (Some lease) trace = Some (command.Run workers lease trace)
run_with _ _ _ = None

abbrev pub run_in : List Row → Option Command
run_in rows = run_with (workers_in rows) (lease_in rows) (trace_in rows)

abbrev pub bench_with : Option ℕ → Option (Option ℕ) → Option Command
bench_with (Some seed) (Some lease) = Some (command.Bench seed lease)
bench_with _ _ = None

abbrev pub bench_in : List Row → Option Command
bench_in rows = bench_with (number_in most_u32 (codes "seed") rows) (lease_in rows)

-- the command with these arguments
abbrev pub command_in : Text → List Row → Option Command
command_in name rows =
    if bytes_eq name (codes "mkfs") then mkfs_in rows
    else (if bytes_eq name (codes "play") then play_in rows
    else (if bytes_eq name (codes "run") then run_in rows
    else (if bytes_eq name (codes "bench") then bench_in rows
    else (if bytes_eq name (codes "recover") then Some command.Recover
    else (if bytes_eq name (codes "check") then Some command.Check
    else (if bytes_eq name (codes "tree") then Some command.Tree
    else (if bytes_eq name (codes "audit") then Some command.Audit else None)))))))

-- a subcommand's name and its arguments
abbrev pub command_at : Option (Text × List Row) → Option Command
command_at found = option_and_then (λ p. command_in p.0 p.1) found

-- The command that the words are: `clap` finds no fault in them, and each number is in its form and range.
abbrev pub command_with : Kinds → Option (Text × List Row) → Option Command
command_with [] found = command_at found
command_with (fault ∷ faults) found = None

abbrev pub command_of : List (List ℕ) → Option Command
command_of words = command_with (fault_of ufs words) (subcommand_of ufs words)
