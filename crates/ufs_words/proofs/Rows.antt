-- What some words are.
use Rattle.std.proofs.Common.{◌≡◌, List, [], ◌∷◌, Some, None, true, false, refl, codes}
use Rattle.clap.proofs.OnLiterals.{clap_on_literals}
use Rattle.ufs_words.specs.Commands.{command_of}
use Rattle.ufs_words.specs.declared.command.Command.TheVariants as command
use Rattle.ufs_words.specs.Values.{image_word}

-- options anywhere behind the subcommand, their values behind `=` or in the next word
made : command_of (codes "mkfs" ∷ codes "--image=a" ∷ codes "256" ∷ codes "032" ∷ codes "64" ∷ []) ≡ Some (command.Mkfs 256 32 64)
unfolding clap_on_literals
made = refl

leased : command_of (codes "run" ∷ codes "--lease" ∷ codes "5" ∷ codes "8" ∷ codes "--trace" ∷ []) ≡ Some (command.Run 8 (Some 5) true)
unfolding clap_on_literals
leased = refl

-- a flag twice, a missing word, a number out of range, an option before the subcommand, an empty path
twice : command_of (codes "play" ∷ codes "--trace" ∷ codes "--trace" ∷ []) ≡ None
unfolding clap_on_literals
twice = refl

missing : command_of (codes "mkfs" ∷ codes "256" ∷ codes "32" ∷ []) ≡ None
unfolding clap_on_literals
missing = refl

large : command_of (codes "bench" ∷ codes "4294967296" ∷ []) ≡ None
unfolding clap_on_literals
large = refl

many : command_of (codes "run" ∷ codes "9" ∷ []) ≡ None
unfolding clap_on_literals
many = refl

before : command_of (codes "--image" ∷ codes "a" ∷ codes "tree" ∷ []) ≡ None
unfolding clap_on_literals
before = refl

empty : command_of (codes "tree" ∷ codes "--image=" ∷ []) ≡ None
unfolding clap_on_literals
empty = refl

-- the value of an option
behind_equals : image_word (codes "tree" ∷ codes "--image=a" ∷ codes "--image" ∷ codes "b" ∷ []) ≡ Some (codes "a")
behind_equals = refl
